-- What inodes say of the two paths of a rename, by what was found there. It is described in docs/FILE-SYSTEM.md.
use Rattle.std.specs.Prelude.{◌≡◌, ◌≢◌, ℕ, true, List, Option, None, Some, IfSome}
use Rattle.layout_bytes.specs.declared.slot.Slot.{Slot}
use Rattle.crash_stands.specs.Inodes.{Inodes, ADir}
use Rattle.fs_inodes.specs.Lookups.{has_slots, number_at}
use Rattle.fs_commands.specs.declared.paths.Entry.{Entry}
use Rattle.fs_commands.specs.Looks.{ShowsFacts}

-- nothing is at the path, or a node of this number with these facts
abbrev pub ShowsEntry : Inodes → List (List ℕ) → Option Entry → Type 0
ShowsEntry m path None = number_at m path ≡ None
ShowsEntry m path (Some e) = (number_at m path ≡ Some e.node.number) × ShowsFacts m path e.node.facts

-- the root is a directory
abbrev pub HasRoot : Inodes → Type 0
HasRoot m = (slots : List Slot) × (m 1 ≡ Some (ADir slots))

-- What is under a name isn't the root, and then the root has slots.
abbrev pub IsBelowRoot : Inodes → Option Entry → Type 0
IsBelowRoot m found = IfSome found (λ e. (e.node.number ≢ 1) × (has_slots (m 1) ≡ true))
