use Rattle.engine_books.proofs.Sound.{payloads_are, fresh_are, laid_lies, freed_clear}
use Rattle.engine_books.proofs.laws.a_commit_has_what_the_roles_say.Goals as goal

pub returns : goal.returns
returns c = record { payloads = payloads_are; fresh = fresh_are; laid = λ v b k is. (laid_lies v b k is, k.lie.laid b is); freed = freed_clear }
