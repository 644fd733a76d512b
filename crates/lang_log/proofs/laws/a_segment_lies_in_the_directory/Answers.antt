use Rattle.lang_log.proofs.Making.{directory_there}
use Rattle.lang_log.proofs.laws.a_segment_lies_in_the_directory.Goals as goal

pub returns : goal.returns
returns c = directory_there
