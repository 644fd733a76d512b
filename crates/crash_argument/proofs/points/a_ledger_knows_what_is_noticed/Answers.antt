use Rattle.crash_argument.proofs.steps.KnownPoints.{known_at_most, known_grows}
use Rattle.crash_argument.proofs.points.a_ledger_knows_what_is_noticed.Goals as goal

pub returns : goal.returns
returns c = record { at_most = known_at_most; grows = known_grows }
