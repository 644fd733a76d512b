-- What the steps give by which the image of a choice is made.
use Rattle.std.specs.Prelude.{ℕ, nat_le, Bool, true, false, if◌then◌else◌, List, [], slice_index_or, slice_set, Option, Some, None, Result, Ok, Err}
use Rattle.base_types.specs.Seal.{Blocks}
use Rattle.disk_contract.specs.declared.event.Event.{Event}
use Rattle.disk_contract.specs.declared.event.Event.TheVariants.{Wrote, Lost, Noticed}
use Rattle.disk_memory.specs.declared.choice.Fate.{Fate}
use Rattle.disk_memory.specs.declared.choice.Fate.TheVariants.{Stands}
use Rattle.disk_memory.specs.declared.choice.ImageRefusal.{ImageRefusal}
use Rattle.disk_memory.specs.declared.choice.WriteName.{WriteName}
use Rattle.disk_memory.specs.declared.choice.ImageRefusal.TheVariants.{NotPending}
use Rattle.disk_memory.specs.Choice.{left_by}

-- what is said of an event before single writes are named
abbrev pub first_fate : Event → Bool → Option Fate
first_fate (Wrote ticket block bytes) all = if all then Some Stands else None
first_fate (Lost block bytes) all = None
first_fate (Noticed ticket) all = None

-- the answer where the write of this name is pending, and where it isn't
abbrev pub pending_answer : WriteName → Bool → Result (Unit {0}) ImageRefusal
pending_answer name true = Ok tt
pending_answer name false = Err (NotPending name)

-- whether an event is a write whose place p isn't before the settled place of its block
abbrev pub is_past : List ℕ → ℕ → Event → Bool
is_past places p (Wrote ticket block bytes) = nat_le (slice_index_or places block 0) p
is_past places p (Lost block bytes) = nat_le (slice_index_or places block 0) p
is_past places p (Noticed ticket) = false

-- an image after a write with this fate was put into it, with what is settled of each block
abbrev pub put_write : Blocks → ℕ → List ℕ → Fate → List (List ℕ) → List (List ℕ)
put_write settled block bytes fate image = slice_set image block (left_by (Some fate) (settled block) bytes [])

-- an image after the event at place p was put into it, if that is a write that is pending
abbrev pub put_event : Blocks → List ℕ → ℕ → Event → Fate → List (List ℕ) → List (List ℕ)
put_event settled places p (Wrote ticket block bytes) fate image = if nat_le (slice_index_or places block 0) p then put_write settled block bytes fate image else image
put_event settled places p (Lost block bytes) fate image = if nat_le (slice_index_or places block 0) p then put_write settled block bytes fate image else image
put_event settled places p (Noticed ticket) fate image = image
