use Rattle.cmd_replay.proofs.telling.Entries.{alike, one_listing}
use Rattle.cmd_replay.proofs.laws.a_listing_says_the_tree.Goals as goal

pub returns-clause-alike : goal.returns-clause-alike
returns-clause-alike c = alike

pub returns-clause-listing : goal.returns-clause-listing
returns-clause-listing c = one_listing
