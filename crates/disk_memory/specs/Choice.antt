-- What a choice says of a log's pending writes, and the blocks that a crash by it leaves.
use Rattle.std.specs.Prelude.{◌≡◌, ℕ, ◌+◌, ◌<◌, ◌≤◌, ◌==◌, ◌&&◌, nat_le, Bool, false, not, IsTrue, if◌then◌else◌, List, [], ◌∷◌, ◌++◌, length, take, drop, Option, Some, None, option_map, Result, Ok, Err}
use Rattle.std.specs.List.{list_any, list_all, find}
use Rattle.base_types.specs.Seal.{Blocks, blocks_of}
use Rattle.disk_contract.specs.declared.event.Event.{Event}
use Rattle.disk_contract.specs.declared.event.Event.TheVariants.{Wrote, Lost, Noticed}
use Rattle.disk_contract.specs.Cell.{cell_of, is_noticed}
use Rattle.disk_memory.specs.declared.choice.WriteName.{WriteName}
use Rattle.disk_memory.specs.declared.choice.WriteName.TheVariants as names
use Rattle.disk_memory.specs.declared.choice.Fate.{Fate}
use Rattle.disk_memory.specs.declared.choice.Fate.TheVariants.{Stands, Torn}
use Rattle.disk_memory.specs.declared.choice.Named.{Named}
use Rattle.disk_memory.specs.declared.choice.ImageRefusal.{ImageRefusal}
use Rattle.disk_memory.specs.declared.choice.ImageRefusal.TheVariants.{PastTheLog, NotPending, NoMemory}

-- a choice: whether every pending accepted write stands, and what is said of single writes, one after the other
pub record ChoiceState : Type 0 where
  pub all : Bool
  pub named : List Named

-- whether two names are one
abbrev pub same_name : WriteName → WriteName → Bool
same_name (names.Accepted t) (names.Accepted u) = t == u
same_name (names.Accepted t) (names.Lost g) = false
same_name (names.Lost f) (names.Accepted u) = false
same_name (names.Lost f) (names.Lost g) = f == g

-- a write of a log: its name, its block and its bytes
pub record NamedWrite : Type 0 where
  pub name : WriteName
  pub block : ℕ
  pub bytes : List ℕ

-- the writes among these events, in their order, where so many were lost before them
abbrev pub writes_named : ℕ → List Event → List NamedWrite
writes_named lost [] = []
writes_named lost (Wrote ticket block bytes ∷ es) = record { name = names.Accepted ticket; block = block; bytes = bytes } ∷ writes_named lost es
writes_named lost (Lost block bytes ∷ es) = record { name = names.Lost (lost + 1); block = block; bytes = bytes } ∷ writes_named (lost + 1) es
writes_named lost (Noticed ticket ∷ es) = writes_named lost es

-- whether the durability of a write was noticed
abbrev pub was_noticed : List Event → WriteName → Bool
was_noticed log (names.Accepted ticket) = is_noticed ticket log
was_noticed log (names.Lost number) = false

-- whether one of these writes is to the block and was noticed
abbrev pub has_noticed : List Event → ℕ → List NamedWrite → Bool
has_noticed log b ws = list_any (λ w. (w.block == b) && was_noticed log w.name) ws

-- those of these writes that are pending: neither the write itself nor a later one to its block was noticed
abbrev pub pending_of : List Event → List NamedWrite → List NamedWrite
pending_of log [] = []
pending_of log (w ∷ ws) = if has_noticed log w.block (w ∷ ws) then pending_of log ws else w ∷ pending_of log ws

-- all pending writes after these events
abbrev pub pending_writes : List Event → List NamedWrite
pending_writes log = pending_of log (writes_named 0 log)

-- a fate that was said, and what is said of the same write later: what is torn stays torn, and the last tear counts
abbrev pub joined : Option Fate → Fate → Option Fate
joined (Some (Torn n)) Stands = Some (Torn n)
joined (Some (Torn n)) (Torn m) = Some (Torn m)
joined (Some Stands) fate = Some fate
joined None fate = Some fate

-- what these names say of a write, of which `before` was said
abbrev pub said_of : List Named → WriteName → Option Fate → Option Fate
said_of [] name before = before
said_of (n ∷ ns) name before = said_of ns name (if same_name n.write name then joined before n.fate else before)

-- what is said of a write before single ones are named
abbrev pub said_at_first : Bool → WriteName → Option Fate
said_at_first all (names.Accepted ticket) = if all then Some Stands else None
said_at_first all (names.Lost number) = None

-- what becomes of a pending write, or nothing where it doesn't come to the medium
abbrev pub fate : ChoiceState → WriteName → Option Fate
fate c name = said_of c.named name (said_at_first c.all name)

-- what a write leaves of its block: nothing of itself, all of its bytes, or its first n bytes and then those that are settled
abbrev pub left_by : Option Fate → List ℕ → List ℕ → List ℕ → List ℕ
left_by None settled bytes before = before
left_by (Some Stands) settled bytes before = bytes
left_by (Some (Torn n)) settled bytes before = take n bytes ++ drop n settled

-- what is in block b after these pending writes, where `before` stood
abbrev pub left_after : ChoiceState → ℕ → List ℕ → List ℕ → List NamedWrite → List ℕ
left_after c b settled before [] = before
left_after c b settled before (w ∷ ws) = left_after c b settled (if w.block == b then left_by (fate c w.name) settled w.bytes before else before) ws

-- the blocks that a crash after these events leaves by a choice
abbrev pub chosen : ChoiceState → Blocks → List Event → Blocks
chosen c base log b = left_after c b (cell_of base log b).settled (cell_of base log b).settled (pending_writes log)

-- whether a write of this name is pending after these events
abbrev pub is_pending : List Event → WriteName → Bool
is_pending log name = list_any (λ w. same_name w.name name) (pending_writes log)

-- whether a choice can be made at a moment: the log has it, and each write that the choice names is pending then
abbrev pub can_choose : ChoiceState → ℕ → List Event → Bool
can_choose c moment log = nat_le moment (length log) && list_all (λ n. is_pending (take moment log) n.write) c.named

-- one more is said of a write
abbrev pub with_fate : ChoiceState → WriteName → Fate → ChoiceState
with_fate c name fate = record c { named = c.named ++ record { write = name; fate = fate } ∷ [] }

-- these are the n blocks
pub record AreBlocksOf (n : ℕ) (blocks : Blocks) (image : List (List ℕ)) : Type 0 where
  pub count : length image ≡ n
  pub each : (b : ℕ) → b < n → blocks_of image b ≡ blocks b

-- the first of these named writes that isn't pending after these events
abbrev pub first_not_pending : List Event → List Named → Option WriteName
first_not_pending log ns = option_map (λ n. n.write) (find (λ n. not (is_pending log n.write)) ns)

-- why no image is made: the moment is past the log, or else a named write isn't pending then, and the first such one is given; out of memory asks for nothing
abbrev pub Refuses : ChoiceState → ℕ → List Event → ImageRefusal → Type 0
Refuses c moment log (PastTheLog asked events) = (length log < moment) × (asked ≡ moment) × (events ≡ length log)
Refuses c moment log (NotPending write) = (moment ≤ length log) × (first_not_pending (take moment log) c.named ≡ Some write)
Refuses c moment log NoMemory = Unit {0}

-- what a call for an image gives: the chosen one exactly where the choice can be made, else why it can't
abbrev pub GivesImage : List (List ℕ) → List Event → ℕ → ChoiceState → Result (List (List ℕ)) ImageRefusal → Type 0
GivesImage base log moment c (Ok image) = IsTrue (can_choose c moment log) × AreBlocksOf (length base) (chosen c (blocks_of base) (take moment log)) image
GivesImage base log moment c (Err why) = Refuses c moment log why
