-- A mirror of two disks: its log, what holds of it between two calls, and why a call of it fails.
use Rattle.std.specs.Prelude.{◌≡◌, ◌⊎◌, ℕ, ◌+◌, ◌<◌, ◌≤◌, nat_lt, ◌||◌, Bool, true, false, is_some, List, length, take, Some}
use Rattle.base_types.specs.Seal.{Blocks}
use Rattle.disk_contract.specs.declared.event.Event.{Event}
use Rattle.disk_contract.specs.Cell.{greatest_ticket, is_accepted, is_noticed}
use Rattle.disk_contract.specs.Disk.{State, writes_in}
use Rattle.disk_contract.specs.Lawful.{IsLogOf}
use Rattle.disk_contract.specs.Manner.{Manner, any_manner}
use Rattle.disk_mirror.specs.declared.entry.Pair.{Pair}
use Rattle.disk_mirror.specs.declared.entry.Heard.{Heard}
use Rattle.disk_mirror.specs.declared.entry.Side.{Side}
use Rattle.disk_mirror.specs.declared.entry.Side.TheVariants.{First, Second}
use Rattle.disk_mirror.specs.Behind.{LagsBehind}
use Rattle.disk_mirror.specs.Order.{OrderState, log_of, are_found, writes_made}
use Rattle.disk_mirror.specs.Times.{times_on, IsTimed}
use Rattle.disk_mirror.specs.Twin.{ticket_on, heard_of, IsTwin}

-- a mirror's own numbers: of failed calls but reads, of failed reads, of waits and of polls; and how many writes it has room for in all
pub record Counts : Type 0 where
  pub faults : ℕ
  pub read_faults : ℕ
  pub waits : ℕ
  pub polls : ℕ
  pub most : ℕ

abbrev pub counts_of : ℕ → ℕ → ℕ → ℕ → ℕ → Counts
counts_of faults read_faults waits polls most = record { faults = faults; read_faults = read_faults; waits = waits; polls = polls; most = most }

-- whether fewer writes than there is room for were made, accepted or lost
abbrev pub has_room : ℕ → List Event → Bool
has_room most log = nat_lt (writes_in log) most

-- the manner of a mirror with room for so many writes: a write is accepted or lost only where there is room for it; any call may fail, as both disks may; a wait brings no notice but its own
abbrev pub mirror_manner : ℕ → Manner
mirror_manner most = record any_manner { waits_alone = true; accepts = has_room most; loses = has_room most }

-- what is known of a mirror, as of any disk: it begins as its first disk does, and its log follows from its order and from the logs of the two disks
abbrev pub mirror_state : State → State → OrderState → Counts → State
mirror_state a b o c = record { blocks = a.blocks; base = a.base; log = log_of a.log b.log o.events; faults = c.faults; read_faults = c.read_faults; waits = c.waits; polls = c.polls; manner = mirror_manner c.most }

-- one disk of a mirror, which began with the mirror's blocks: while it is live, it has the mirror's writes; where it is down, it lags behind the mirror's log at the moment when it went down
pub record IsOnSide (side : Side) (n : ℕ) (base : Blocks) (log : List Event) (pairs : List Pair) (rows : List Heard) (live : Bool) (end : ℕ) (began : Blocks) (events : List Event) : Type 0 where
  pub alike : (b : ℕ) → b < n → began b ≡ base b
  pub twin : live ≡ true → IsTwin side pairs rows log events
  pub behind : live ≡ false → (end ≤ length log) × LagsBehind n base (take end log) began events

-- what holds of a mirror of n blocks over disks that tell: of the blocks with which they began, of their logs, of which are live, and of what is kept
pub record IsMirrorOf (n : ℕ) (base began : Blocks) (a b : List Event) (first second : Bool) (end_a end_b : ℕ) (o : OrderState) : Type 0 where
  pub log : IsLogOf n (log_of a b o.events)
  pub count : greatest_ticket (log_of a b o.events) ≡ length o.pairs
  pub given : (i : ℕ) → 0 < i → i ≤ length o.pairs → is_accepted i (log_of a b o.events) ≡ true
  pub reported : (i : ℕ) → (heard_of o.heard i).reported ≡ is_noticed i (log_of a b o.events)
  pub found : (first || second) ≡ true → are_found a b o.events ≡ true
  pub on_first : IsOnSide First n base (log_of a b o.events) o.pairs o.heard first end_a base a
  pub on_second : IsOnSide Second n base (log_of a b o.events) o.pairs o.heard second end_b began b
  pub timed_first : IsTimed n base (log_of a b o.events) (times_on First o.times) first end_a base a
  pub timed_second : IsTimed n base (log_of a b o.events) (times_on Second o.times) second end_b began b

abbrev pub IsMirror : State → State → Bool → Bool → ℕ → ℕ → OrderState → Type 0
IsMirror a b first second end_a end_b o = IsMirrorOf a.blocks a.base b.base a.log b.log first second end_a end_b o

-- each write that was accepted while a disk was live has a ticket there
pub record AreGiven (pairs : List Pair) (first second : Bool) : Type 0 where
  pub on_first : first ≡ true → (i : ℕ) → 0 < i → i ≤ length pairs → is_some (ticket_on First pairs (Some i)) ≡ true
  pub on_second : second ≡ true → (i : ℕ) → 0 < i → i ≤ length pairs → is_some (ticket_on Second pairs (Some i)) ≡ true

-- no disk is live
abbrev pub NoneLive : Bool → Bool → Type 0
NoneLive first second = (first ≡ false) × (second ≡ false)

-- of a mirror's failed calls, where its room isn't used up: a read, or another call, failed only where no disk is live
pub record AreCaused (faults read_faults : ℕ) (first second : Bool) (room count : ℕ) : Type 0 where
  pub reads : 0 < read_faults → NoneLive first second
  pub others : 0 < faults → count < room → NoneLive first second

-- why calls of a mirror have failed: a read only where no disk is live; another call also where by its manner and its log no other write is accepted, since the room is used up
pub record HasCauses (s : State) (first second : Bool) : Type 0 where
  pub reads : 0 < s.read_faults → NoneLive first second
  pub others : 0 < s.faults → NoneLive first second ⊎ (s.manner.accepts s.log ≡ false)

-- the writes that were made, and those that there is room for, are all of which there was room at first
abbrev pub KeepsRoom : ℕ → OrderState → Type 0
KeepsRoom most o = writes_made o.events + o.room ≡ most + length o.pairs
