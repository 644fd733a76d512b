-- A disk in memory as a value, and what each call makes of it. The rules are described in docs/DISK.md.
use Rattle.std.specs.Prelude.{◌≡◌, ℕ, zero, suc, ◌+◌, ◌<◌, ◌==◌, ◌&&◌, ◌||◌, ◌/◌, ◌%◌, ◌-◌, ◌^◌, nat_lt, Bool, true, false, not, if◌then◌else◌, List, [], ◌∷◌, ◌++◌, length, slice_index_or, Option, Some, None}
use Rattle.std.specs.List.{slice_get, list_any}
use Rattle.base_types.specs.Seal.{Blocks, blocks_of}
use Rattle.base_types.specs.Draws.{next_state, drawn}
use Rattle.disk_contract.specs.declared.event.Event.{Event}
use Rattle.disk_contract.specs.declared.event.Event.TheVariants.{Wrote, Lost, Noticed}
use Rattle.disk_contract.specs.Cell.{accepted, has_lost, is_accepted, is_noticed}
use Rattle.base_types.specs.Counts.{next_count}
use Rattle.disk_contract.specs.Disk.{State}
use Rattle.disk_contract.specs.Manner.{Manner, any_manner, GoesBy}
use Rattle.disk_memory.specs.declared.calls.DiskCall.{DiskCall}
use Rattle.disk_memory.specs.declared.calls.DiskCall.TheVariants as calls
use Rattle.disk_memory.specs.declared.calls.Fail.{Fail}
use Rattle.disk_memory.specs.declared.rule.Rule.{Rule}
use Rattle.disk_memory.specs.declared.rule.Rule.TheVariants as rules
use Rattle.disk_memory.specs.declared.rule.Notices.{Notices}
use Rattle.disk_memory.specs.declared.rule.Notices.TheVariants as notices
use Rattle.disk_memory.specs.Log.{LogState, tickets, open_tickets, write_count, AreWithin}

-- a disk in memory: the blocks that it began with, the events since, how many writes it has room for, how its polls find notices, which calls fail, the rule of its notices where rule and failing calls were set before the first call, and its counts of failed calls and of all calls but writes
pub record MemDiskState : Type 0 where
  pub base : List (List ℕ)
  pub log : List Event
  pub room : ℕ
  pub notices : Notices
  pub fails : List Fail
  pub known : Option Rule
  pub faults : ℕ
  pub read_faults : ℕ
  pub reads : ℕ
  pub polls : ℕ
  pub waits : ℕ

-- a disk that begins with these blocks: its polls have no notices, and no call is listed to fail
abbrev pub begun : List (List ℕ) → ℕ → MemDiskState
begun image room = record { base = image; log = []; room = room; notices = notices.Silent; fails = []; known = Some rules.Silent; faults = 0; read_faults = 0; reads = 0; polls = 0; waits = 0 }

-- a disk that has these events behind it, and no room for more writes
abbrev pub with_log : List (List ℕ) → List Event → MemDiskState
with_log image log = record (begun image (write_count log)) { log = log; known = None }

-- which call of a kind the next one is, counted from 1; of writes those count that are in the log, since past the room none is accepted or lost
abbrev pub next_call : DiskCall → MemDiskState → ℕ
next_call calls.Read d = next_count d.reads
next_call calls.Write d = write_count d.log + 1
next_call calls.Poll d = next_count d.polls
next_call calls.Wait d = next_count d.waits

-- whether two kinds are one
abbrev pub same_call : DiskCall → DiskCall → Bool
same_call calls.Read calls.Read = true
same_call calls.Read calls.Write = false
same_call calls.Read calls.Poll = false
same_call calls.Read calls.Wait = false
same_call calls.Write calls.Read = false
same_call calls.Write calls.Write = true
same_call calls.Write calls.Poll = false
same_call calls.Write calls.Wait = false
same_call calls.Poll calls.Read = false
same_call calls.Poll calls.Write = false
same_call calls.Poll calls.Poll = true
same_call calls.Poll calls.Wait = false
same_call calls.Wait calls.Read = false
same_call calls.Wait calls.Write = false
same_call calls.Wait calls.Poll = false
same_call calls.Wait calls.Wait = true

-- whether a call of this kind and number is listed to fail
abbrev pub is_listed : DiskCall → ℕ → List Fail → Bool
is_listed call n fails = list_any (λ f. same_call f.kind call && (f.nth == n)) fails

-- whether the next call of this kind is listed to fail
abbrev pub fails_next : DiskCall → MemDiskState → Bool
fails_next call d = is_listed call (next_call call d) d.fails

-- one more call of this kind; writes are counted by the log
abbrev pub counted : DiskCall → MemDiskState → MemDiskState
counted calls.Read d = record d { reads = next_count d.reads }
counted calls.Write d = d
counted calls.Poll d = record d { polls = next_count d.polls }
counted calls.Wait d = record d { waits = next_count d.waits }

-- one more failed call that isn't a read
abbrev pub faulted : MemDiskState → MemDiskState
faulted d = record d { faults = next_count d.faults }

-- the disk after a read: a listed one is a failed read
abbrev pub after_read : MemDiskState → MemDiskState
after_read d = if fails_next calls.Read d then record (counted calls.Read d) { read_faults = next_count d.read_faults } else counted calls.Read d

-- whether one more write has room
abbrev pub has_room : MemDiskState → Bool
has_room d = nat_lt (write_count d.log) d.room

-- the ticket of the next write that is accepted
abbrev pub next_ticket : MemDiskState → ℕ
next_ticket d = length (tickets d.log) + 1

-- the disk with one more event
abbrev pub with_event : Event → MemDiskState → MemDiskState
with_event e d = record d { log = d.log ++ e ∷ [] }

-- the disk after a write: past the room it is a fault alone, a listed one is lost, any other has the next ticket
abbrev pub after_write : MemDiskState → ℕ → List ℕ → MemDiskState
after_write d b x =
    if has_room d then
    (if fails_next calls.Write d then faulted (with_event (Lost b x) d)
    else with_event (Wrote (next_ticket d) b x) d)
    else faulted d

-- the ticket that a draw gives, of those that are open: none where it is a multiple of 4, else the one at the place that the rest of the draw says
abbrev pub drawn_ticket : ℕ → List ℕ → Option ℕ
drawn_ticket v ts = if v % 4 == 0 then None else slice_get ts ((v / 4) % length ts)

-- the ticket of a poll that doesn't fail, of those that are open: by `Fifo` the first, by a seed the one of the next draw
abbrev pub polled : Notices → List ℕ → Option ℕ
polled notices.Silent ts = None
polled notices.Fifo ts = slice_get ts 0
polled (notices.Drawn state) ts = drawn_ticket (drawn (next_state state)) ts

-- how polls find notices after one that didn't fail: a seed makes a draw, also where no ticket is open
abbrev pub turned : Notices → Notices
turned notices.Silent = notices.Silent
turned notices.Fifo = notices.Fifo
turned (notices.Drawn state) = notices.Drawn (next_state state)

-- the notice of a ticket, or nothing
abbrev pub with_polled : Option ℕ → MemDiskState → MemDiskState
with_polled None d = d
with_polled (Some t) d = with_event (Noticed t) d

-- what a poll answers
abbrev pub poll_answer : MemDiskState → Option ℕ
poll_answer d = polled d.notices (open_tickets d.log)

-- the disk after a poll: a listed one is a fault alone and makes no draw
abbrev pub after_poll : MemDiskState → MemDiskState
after_poll d =
    if fails_next calls.Poll d then faulted (counted calls.Poll d)
    else with_polled (poll_answer d) (record (counted calls.Poll d) { notices = turned d.notices })

-- whether a wait is answered Ok: it isn't listed, and the ticket was given
abbrev pub can_wait : MemDiskState → ℕ → Bool
can_wait d t = not (fails_next calls.Wait d) && is_accepted t d.log

-- the disk after a wait: the notice of its ticket alone, unless it has one
abbrev pub after_wait : MemDiskState → ℕ → MemDiskState
after_wait d t =
    if can_wait d t then (if is_noticed t d.log then counted calls.Wait d else with_event (Noticed t) (counted calls.Wait d))
    else faulted (counted calls.Wait d)

-- how polls find notices from now on: a seed has made no draw yet
abbrev pub by_rule : Rule → Notices
by_rule rules.Silent = notices.Silent
by_rule rules.Fifo = notices.Fifo
by_rule (rules.Seed seed) = notices.Drawn seed

-- how polls find notices after so many that didn't fail
abbrev pub turns : ℕ → Notices → Notices
turns zero n = n
turns (suc k) n = turned (turns k n)

-- whether some call of this kind is listed to fail
abbrev pub has_listed : DiskCall → List Fail → Bool
has_listed call fails = list_any (λ f. same_call f.kind call) fails

-- what the next poll answers behind these events, where the disk was polled so often: as the rule has it after so many, where no poll is listed to fail and the count isn't at its last value
abbrev pub ruled : List Fail → Rule → ℕ → List Event → Option (Option ℕ)
ruled fails rule polls log = if has_listed calls.Poll fails then None else (if nat_lt polls (2 ^ 64 - 1) then Some (polled (turns polls (by_rule rule)) (open_tickets log)) else None)

-- the manner of a disk with this room whose failing calls and rule are known: while there is room, exactly the listed writes are lost and the others accepted; past it each write fails with nothing lost; another call may fail only where one of its kind is listed; and a wait brings the notice of its ticket alone
abbrev pub manner_by : ℕ → List Fail → Rule → Manner
manner_by room fails rule = record {
  reads_fail = has_listed calls.Read fails;
  stalls = has_listed calls.Poll fails || has_listed calls.Wait fails;
  waits_alone = true;
  accepts = λ log. nat_lt (write_count log) room && not (is_listed calls.Write (write_count log + 1) fails);
  loses = λ log. nat_lt (write_count log) room && is_listed calls.Write (write_count log + 1) fails;
  refuses = λ log. not (nat_lt (write_count log) room);
  notice = ruled fails rule;
}

-- its manner: that, or anything where rule or failing calls were set amid its calls
abbrev pub manner_known : ℕ → List Fail → Option Rule → Manner
manner_known room fails None = any_manner
manner_known room fails (Some rule) = manner_by room fails rule

abbrev pub manner_of : MemDiskState → Manner
manner_of d = manner_known d.room d.fails d.known

-- what the contract of disks says of it
abbrev pub state_of : MemDiskState → State
state_of d = record { blocks = length d.base; base = blocks_of d.base; log = d.log; faults = d.faults; read_faults = d.read_faults; waits = d.waits; polls = d.polls; manner = manner_of d }

-- no event came, no poll was made, and no read failed
abbrev pub is_untouched : MemDiskState → Bool
is_untouched d = (length d.log == 0) && ((d.polls == 0) && (d.read_faults == 0))

-- the disk has gone by its room, its list and this rule since it began: its writes are accepted and lost by them, no read failed where none is listed, and its notices are at their first turn before the first poll, and where no poll is listed at the one that the count of polls says
pub record GoesByRule (room : ℕ) (log : List Event) (notices : Notices) (fails : List Fail) (read_faults polls : ℕ) (rule : Rule) : Type 0 where
  pub writes : GoesBy (manner_by room fails rule) log
  pub reads : 0 < read_faults → has_listed calls.Read fails ≡ true
  pub first : polls ≡ 0 → notices ≡ by_rule rule
  pub turn : has_listed calls.Poll fails ≡ false → polls < 2 ^ 64 - 1 → notices ≡ turns polls (by_rule rule)

-- the same where the rule is known
abbrev pub GoesAsKnown : ℕ → List Event → Notices → List Fail → ℕ → ℕ → Option Rule → Type 0
GoesAsKnown room log notices fails read_faults polls None = Unit {0}
GoesAsKnown room log notices fails read_faults polls (Some rule) = GoesByRule room log notices fails read_faults polls rule

-- where the rule is known, a write was lost only where a failed call was counted
abbrev pub CountsLost : Option Rule → ℕ → List Event → Type 0
CountsLost None faults log = Unit {0}
CountsLost (Some rule) faults log = faults ≡ 0 → has_lost log ≡ false

-- a block's place is right: 0 where it has its bytes of the base, else one more than the place in the log of its last accepted write
abbrev pub IsLast : Blocks → List Event → ℕ → ℕ → Type 0
IsLast base log b zero = base b ≡ accepted base log b
IsLast base log b (suc place) = (t : ℕ) × (slice_get log place ≡ Some (Wrote t b (accepted base log b)))

-- each block has a place, and it is right
pub record AreLast (base : List (List ℕ)) (log : List Event) (places : List ℕ) : Type 0 where
  pub size : length places ≡ length base
  pub each : (b : ℕ) → b < length base → IsLast (blocks_of base) log b (slice_index_or places b 0)

-- what is always so of a disk in memory: its blocks have their places, its writes are to blocks that it has, and each write that has room has its box
pub record IsDisk (base : List (List ℕ)) (log : LogState) (last : List ℕ) : Type 0 where
  pub places : AreLast base log.events last
  pub within : AreWithin (length base) log.events
  pub ready : write_count log.events + log.ready ≡ log.room
