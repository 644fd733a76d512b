-- How a disk behaves, as far as that is known: which of its calls may fail and when, and what its polls answer. It is described in docs/DISK.md.
use Rattle.std.specs.Prelude.{◌≡◌, ◌⊎◌, ℕ, zero, suc, Bool, true, false, IsTrue, List, [], ◌∷◌, ◌++◌, Option, Some, None, Result, Ok, Err}
use Rattle.base_types.specs.Counts.{next_count}
use Rattle.disk_contract.specs.declared.event.Event.{Event}
use Rattle.disk_contract.specs.declared.event.Event.TheVariants.{Wrote, Lost, Noticed}

-- the manner of a disk, a constant of it: whether a read may fail; whether a poll or a wait may; whether a wait brings no notice but that of its ticket; whether behind these events a write may be accepted, may be lost, and may fail with nothing lost; and what the next poll answers behind these events, where the disk was polled so often, or nothing where that isn't known
pub record Manner : Type 0 where
  pub reads_fail : Bool
  pub stalls : Bool
  pub waits_alone : Bool
  pub accepts : List Event → Bool
  pub loses : List Event → Bool
  pub refuses : List Event → Bool
  pub notice : ℕ → List Event → Option (Option ℕ)

-- the manner of a disk of which nothing is known: anything may come
abbrev pub any_manner : Manner
any_manner = record { reads_fail = true; stalls = true; waits_alone = false; accepts = λ log. true; loses = λ log. true; refuses = λ log. true; notice = λ polls log. None }

-- an event that may come behind these by the manner
abbrev pub MayComeBy : Manner → List Event → Event → Type 0
MayComeBy m before (Wrote ticket block bytes) = IsTrue (m.accepts before)
MayComeBy m before (Lost block bytes) = IsTrue (m.loses before)
MayComeBy m before (Noticed ticket) = Unit {0}

-- these events may come one after the other by the manner, behind those
abbrev pub MayAllComeBy : Manner → List Event → List Event → Type 0
MayAllComeBy m before [] = Unit {0}
MayAllComeBy m before (e ∷ es) = MayComeBy m before e × MayAllComeBy m (before ++ e ∷ []) es

-- each write of the log is accepted or lost where the manner lets it be so
abbrev pub GoesBy : Manner → List Event → Type 0
GoesBy m log = MayAllComeBy m [] log

-- the last event is a write that was lost where the manner lets one be lost
pub record LosesLast (m : Manner) (log : List Event) : Type 0 where
  pub before : List Event
  pub block : ℕ
  pub bytes : List ℕ
  pub is : log ≡ before ++ Lost block bytes ∷ []
  pub may : IsTrue (m.loses before)

-- a call other than a read has failed with this log behind it: it was a write that is lost, or one that the manner lets fail here; or a poll or a wait, where the manner lets these fail
abbrev pub HasFailedBy : Manner → List Event → Type 0
HasFailedBy m log = LosesLast m log ⊎ (IsTrue (m.refuses log) ⊎ IsTrue m.stalls)

-- where it is known what the next poll answers, this is its answer
abbrev pub AnswersBy : {E : Type 0} → Option (Option ℕ) → Result (Option ℕ) E → Type 0
AnswersBy None result = Unit {0}
AnswersBy (Some answer) result = result ≡ Ok answer

-- a disk's polls and log
pub record Polled : Type 0 where
  pub polls : ℕ
  pub log : List Event

-- after one poll that answers so, and more of them where it answers a ticket; nothing where its answer isn't known
abbrev pub after_polls_on : ℕ → List Event → (ℕ → List Event → Option Polled) → Option (Option ℕ) → Option Polled
after_polls_on polls log more None = None
after_polls_on polls log more (Some None) = Some (record { polls = next_count polls; log = log })
after_polls_on polls log more (Some (Some t)) = more (next_count polls) (log ++ Noticed t ∷ [])

-- after so many polls at most, which end at the first that answers no ticket; nothing where it isn't known what they answer
abbrev pub after_polls : Manner → ℕ → ℕ → List Event → Option Polled
after_polls m zero polls log = Some (record { polls = polls; log = log })
after_polls m (suc n) polls log = after_polls_on polls log (after_polls m n) (m.notice polls log)
