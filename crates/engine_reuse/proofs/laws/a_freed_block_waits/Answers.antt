use Rattle.std.proofs.Common.{not, ap}
use Rattle.engine_reuse.specs.Calls.{is_given_up}
use Rattle.engine_reuse.proofs.Accounts.{held_apart, waiting_apart, waits_sealed, released_exactly, kept_pair}
use Rattle.engine_reuse.proofs.laws.a_freed_block_waits.Goals as goal

pub returns-clause-held : goal.returns-clause-held
returns-clause-held c = held_apart

pub returns-clause-waits : goal.returns-clause-waits
returns-clause-waits c = waiting_apart

pub returns-clause-sealed : goal.returns-clause-sealed
returns-clause-sealed c = waits_sealed

pub returns-clause-exact : goal.returns-clause-exact
returns-clause-exact c = released_exactly

pub returns-clause-stays : goal.returns-clause-stays
returns-clause-stays c = λ v sure home k p at stays. kept_pair (λ q. not (is_given_up sure home q)) v.waiting k p at (ap not stays)
