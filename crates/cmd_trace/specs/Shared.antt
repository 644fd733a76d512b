-- Lemmas on marks, logs, and lists, that crates above cite too. They add no meaning to the promises.
use Rattle.std.proofs.Common.{ℕ, zero, suc, ◌≤◌, List, [], ◌∷◌, ◌++◌, length, take, drop, arith}
use Rattle.disk_contract.specs.declared.event.Event.{Event}
use Rattle.disk_contract.specs.Lawful.{AreEventsOf}
use Rattle.cmd_trace.specs.Contents.{Each}
use Rattle.cmd_trace.specs.Trace.{Ascend}

-- what holds of each of two lists holds of each of both
pub each_append : {A : Type 0} (P : A → Type 0) (xs ys : List A) → Each P xs → Each P ys → Each P (xs ++ ys)
each_append P [] ys h k = k
each_append P (x ∷ xs) ys h k = (h.0, each_append P xs ys h.1 k)

-- marks that ascend are none past the last event
pub from_le : (from : ℕ) (marks : List ℕ) (events : ℕ) → Ascend from marks events → from ≤ events
from_le from [] events up = omega (arith, up)
from_le from (m ∷ marks) events up = omega (arith, up.0, from_le m marks events up.1)

-- the events of a part of a log are events of the same disk
pub drop_events : (n k : ℕ) (log : List Event) → AreEventsOf n log → AreEventsOf n (drop k log)
drop_events n zero log h = h
drop_events n (suc k) [] h = tt
drop_events n (suc k) (x ∷ log) h = drop_events n k log h.1

pub take_events : (n k : ℕ) (log : List Event) → AreEventsOf n log → AreEventsOf n (take k log)
take_events n (suc k) (x ∷ log) h = (h.0, take_events n k log h.1)
take_events n other log h = tt
