use Rattle.crash_argument.proofs.theorem.Whole.{stands_for_one}
use Rattle.crash_argument.proofs.laws.an_image_stands_for_one_point.Goals as goal

pub returns : goal.returns
returns c = record { stands = stands_for_one c.the_journal_is_lawful.ensures }
