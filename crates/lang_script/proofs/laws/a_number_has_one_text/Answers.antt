use Rattle.lang_script.proofs.Numbers.{reads, is_read}
use Rattle.lang_script.proofs.laws.a_number_has_one_text.Goals as goal

pub returns-clause-read : goal.returns-clause-read
returns-clause-read c = reads

pub returns-clause-text : goal.returns-clause-text
returns-clause-text c = λ text number h. (is_read text number h).0

pub returns-clause-small : goal.returns-clause-small
returns-clause-small c = λ text number h. (is_read text number h).1
