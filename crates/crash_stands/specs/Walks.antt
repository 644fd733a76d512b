-- Walks from the root by names, over directories alone. docs/LAYOUT.md describes them.
use Rattle.std.specs.Prelude.{◌≡◌, ℕ, List, [], ◌∷◌, bytes_eq, if◌then◌else◌, Option, None, Some, option_and_then}
use Rattle.layout_bytes.specs.declared.slot.Slot.{Slot}
use Rattle.crash_stands.specs.Inodes.{Inode, Inodes, ADir, AFile}

-- what is under a name in a directory, by the directory's number
abbrev pub Entries : Type 0
Entries = ℕ → List ℕ → Option ℕ

-- the node that the first slot of this name names
abbrev pub node_in : List Slot → List ℕ → Option ℕ
node_in [] name = None
node_in (s ∷ slots) name = if bytes_eq s.name name then Some s.node else node_in slots name

abbrev pub entry_in : Option Inode → List ℕ → Option ℕ
entry_in None name = None
entry_in (Some (ADir slots)) name = node_in slots name
entry_in (Some (AFile links bytes)) name = None

-- what is under a name there; a file has nothing under any name, and so has a number out of use
abbrev pub entries_of : Inodes → Entries
entries_of inodes k name = entry_in (inodes k) name

-- where the names lead to from node k
abbrev pub walk : Entries → ℕ → List (List ℕ) → Option ℕ
walk e k [] = Some k
walk e k (name ∷ path) = option_and_then (λ j. walk e j path) (e k name)

-- the path leads from the root to node k
abbrev pub LeadsTo : Inodes → List (List ℕ) → ℕ → Type 0
LeadsTo m path k = walk (entries_of m) 1 path ≡ Some k

-- no path but p leads to node k
abbrev pub OnlyBy : Inodes → ℕ → List (List ℕ) → Type 0
OnlyBy m k p = (q : List (List ℕ)) → LeadsTo m q k → q ≡ p
