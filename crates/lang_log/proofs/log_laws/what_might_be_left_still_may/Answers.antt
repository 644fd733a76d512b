use Rattle.std.proofs.Common.{refl, inl, inr}
use Rattle.lang_log.proofs.Runs.{synced_now}
use Rattle.lang_log.proofs.log_laws.what_might_be_left_still_may.Goals as goal

pub returns-clause-now : goal.returns-clause-now
returns-clause-now c = λ h. inl refl

pub returns-clause-still : goal.returns-clause-still
returns-clause-still c = λ h l k may. inr may

pub returns-clause-synced : goal.returns-clause-synced
returns-clause-synced c = synced_now
