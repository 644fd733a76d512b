-- What is known of a disk, and what each of its calls does to that. The rules are described in docs/DISK.md.
use Rattle.std.specs.Prelude.{◌≡◌, ◌⊎◌, ℕ, ◌+◌, ◌-◌, ◌^◌, ◌<◌, ◌≤◌, min, List, [], ◌∷◌, ◌++◌, Bool, true, false, Option, Some, None, Result, Ok, Err}
use Rattle.base_types.specs.Counts.{after_call, after_calls}
use Rattle.base_types.specs.Seal.{Blocks}
use Rattle.disk_contract.specs.declared.event.Event.{Event}
use Rattle.disk_contract.specs.declared.event.Event.TheVariants.{Wrote, Lost, Noticed}
use Rattle.disk_contract.specs.Cell.{accepted, is_lost, lost_from, IsOneOf, greatest_ticket, IsAccepted, IsNoticed, notices}
use Rattle.disk_contract.specs.Manner.{Manner, Polled, HasFailedBy, after_polls}

-- a disk: its number of blocks, what they were when it began, the events since, its counts of failed calls but reads, of failed reads, of waits and of polls, and how it behaves; where it doesn't tell, `base`, `log` and `manner` say nothing
pub record State : Type 0 where
  pub blocks : ℕ
  pub base : Blocks
  pub log : List Event
  pub faults : ℕ
  pub read_faults : ℕ
  pub waits : ℕ
  pub polls : ℕ
  pub manner : Manner

-- what a read gives: the last accepted bytes; where writes to the block were lost after that one, those or the bytes of one of the lost
pub record Reads (s : State) (b : ℕ) (x : List ℕ) : Type 0 where
  pub calm : is_lost b s.log ≡ false → x ≡ accepted s.base s.log b
  pub one : ∥ (x ≡ accepted s.base s.log b) ⊎ IsOneOf (lost_from b [] s.log) x ∥₁

-- a write that is accepted adds itself, with a ticket above all earlier ones and never noticed; one that fails adds a lost write or nothing
abbrev pub AddsWrite : {E : Type 0} → ℕ → List ℕ → Result ℕ E → List Event → List Event → Type 0
AddsWrite b x (Ok ticket) old new = (greatest_ticket old < ticket) × (¬ IsNoticed ticket old) × (new ≡ old ++ Wrote ticket b x ∷ [])
AddsWrite b x (Err e) old new = (new ≡ old) ⊎ (new ≡ old ++ Lost b x ∷ [])

-- an open ticket: its write was accepted and has no durability notification yet
abbrev pub IsOpen : ℕ → List Event → Type 0
IsOpen t log = IsAccepted t log × ¬ IsNoticed t log

-- a poll that answers a ticket adds its notification, and the ticket was open; any other poll adds nothing
abbrev pub AddsPoll : {E : Type 0} → Result (Option ℕ) E → List Event → List Event → Type 0
AddsPoll (Ok (Some t)) old new = IsOpen t old × (new ≡ old ++ Noticed t ∷ [])
AddsPoll (Ok None) old new = new ≡ old
AddsPoll (Err e) old new = new ≡ old

-- each of these tickets is open when its turn comes
abbrev pub AreOpen : List ℕ → List Event → Type 0
AreOpen [] log = Unit {0}
AreOpen (t ∷ ts) log = IsOpen t log × AreOpen ts (log ++ Noticed t ∷ [])

-- a wait adds notifications of open tickets, and nothing else
pub record AddsNotices (old new : List Event) : Type 0 where
  pub tickets : List ℕ
  pub open_before : AreOpen tickets old
  pub log : new ≡ old ++ notices tickets

-- a wait brings the notification of its ticket, or none
abbrev pub HearsAlone : ℕ → List Event → List Event → Type 0
HearsAlone t old new = (new ≡ old) ⊎ (new ≡ old ++ Noticed t ∷ [])

-- a call other than a read has failed just now, for a reason that the disk's manner has
abbrev pub HasFailed : State → Type 0
HasFailed s = HasFailedBy s.manner s.log

-- what no call changes: how many blocks there are, what they were when the disk began, and how it behaves
pub record SameDisk (old new : State) : Type 0 where
  pub blocks : new.blocks ≡ old.blocks
  pub base : new.base ≡ old.base
  pub manner : new.manner ≡ old.manner

-- What a call spends that reads nothing, and waits and polls so many times: where it failed, that was counted once, and nothing else is new but the log.
pub record Spends (failed : Bool) (made asked : ℕ) (old new : State) : Type 0 where
  pub same : SameDisk old new
  pub faults : new.faults ≡ after_call failed old.faults
  pub read_faults : new.read_faults ≡ old.read_faults
  pub waits : new.waits ≡ after_calls made old.waits
  pub polls : new.polls ≡ after_calls asked old.polls

-- the call only writes: it waits for nothing, polls nothing and reads nothing
abbrev pub OnlyWrites : Bool → State → State → Type 0
OnlyWrites failed old new = Spends failed 0 0 old new

-- the call polls once, and does nothing else
abbrev pub OnlyPolls : Bool → State → State → Type 0
OnlyPolls failed old new = Spends failed 0 1 old new

-- the call waits once, and does nothing else
abbrev pub OnlyWaits : Bool → State → State → Type 0
OnlyWaits failed old new = Spends failed 1 0 old new

-- of so many calls in a row, which end at the first failure, all were made where none failed, and else some
abbrev pub MadeUpTo : Bool → ℕ → ℕ → ℕ → Type 0
MadeUpTo false count before now = now ≡ after_calls count before
MadeUpTo true count before now = (made : ℕ) × (made ≤ count) × (now ≡ after_calls made before)

-- What several calls in a row spend that end at the first failure: they read nothing and poll nothing, and wait so many times where none fails.
pub record SpendsUpTo (failed : Bool) (most : ℕ) (old new : State) : Type 0 where
  pub same : SameDisk old new
  pub faults : new.faults ≡ after_call failed old.faults
  pub read_faults : new.read_faults ≡ old.read_faults
  pub waits : MadeUpTo failed most old.waits new.waits
  pub polls : new.polls ≡ old.polls

-- The call only reads: where a read failed, that was counted once, and nothing else is new.
pub record OnlyReads (failed : Bool) (old new : State) : Type 0 where
  pub same : SameDisk old new
  pub faults : new.faults ≡ old.faults
  pub read_faults : new.read_faults ≡ after_call failed old.read_faults
  pub waits : new.waits ≡ old.waits
  pub polls : new.polls ≡ old.polls

-- how many of these events are writes, accepted or lost
abbrev pub writes_in : List Event → ℕ
writes_in [] = 0
writes_in (Wrote ticket block bytes ∷ es) = 1 + writes_in es
writes_in (Lost block bytes ∷ es) = 1 + writes_in es
writes_in (Noticed ticket ∷ es) = writes_in es

-- a log that goes on: the old one with more events behind it
pub record Grows (old new : List Event) : Type 0 where
  pub more : List Event
  pub log : new ≡ old ++ more

-- these events are writes, accepted or lost
abbrev pub AreWrites : List Event → Type 0
AreWrites [] = Unit {0}
AreWrites (Wrote ticket block bytes ∷ es) = AreWrites es
AreWrites (Lost block bytes ∷ es) = AreWrites es
AreWrites (Noticed ticket ∷ es) = ⊥

-- a log that goes on by writes alone: no notification comes
pub record GrowsByWrites (old new : List Event) : Type 0 where
  pub more : List Event
  pub log : new ≡ old ++ more
  pub writes : AreWrites more

-- The disk was polled first, so many times at most and up to the first poll without a ticket: where it is known what these polls answer, the polls are counted and their notices stand behind the old log, before anything else.
abbrev pub PollsFirst : Manner → ℕ → ℕ → List Event → ℕ → List Event → Type 0
PollsFirst m most polls log polls_now log_now = (p : Polled) → after_polls m most polls log ≡ Some p → (polls_now ≡ p.polls) × Grows p.log log_now

-- The same, and behind those notices come writes alone.
abbrev pub PollsThenWrites : Manner → ℕ → ℕ → List Event → ℕ → List Event → Type 0
PollsThenWrites m most polls log polls_now log_now = (p : Polled) → after_polls m most polls log ≡ Some p → (polls_now ≡ p.polls) × GrowsByWrites p.log log_now
