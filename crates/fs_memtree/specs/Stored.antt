-- How the nodes lie in a row, and what each change of a node in its place is.
use Rattle.std.specs.Prelude.{◌≡◌, ℕ, zero, suc, ◌+◌, ◌-◌, Bool, true, false, List, [], ◌∷◌, map, slice_get, length, replicate, Option, None, Some, option_map}
use Rattle.std.specs.Ordering.{nat_cmp}
use Rattle.std.specs.BTreeSet.{BTreeSet, contains}
use Rattle.std.specs.FinMap.{from_entries}
use Rattle.base_types.specs.Counts.{next_count}
use Rattle.lang_tree.specs.Step.{written, resized}
use Rattle.fs_memtree.specs.declared.node.Node.{Node}
use Rattle.fs_memtree.specs.declared.node.Node.TheVariants.{Dir, File}
use Rattle.fs_memtree.specs.declared.node.Growth.{Growth}
use Rattle.fs_memtree.specs.declared.node.Growth.TheVariants.{Write, Fill, Resize, Name}
use Rattle.fs_memtree.specs.declared.node.Settling.{Settling}
use Rattle.fs_memtree.specs.declared.node.Settling.TheVariants.{Renumber, Unname, Link, Unlink}
use Rattle.fs_memtree.specs.Kept.{Kept, KeptDir, KeptFile, KeptNodes, with_bytes, with_links, with_name, without_name, with_number}

-- what a node is to contracts
abbrev pub kept : Node → Kept
kept (Dir names) = KeptDir names
kept (File links bytes) = KeptFile links bytes.items

-- what is at each place of a row
abbrev pub things : List (Option Node) → List (Option Kept)
things row = map (option_map kept) row

-- what is in a row whose first place has number k, each with its number
abbrev pub numbered : ℕ → List (Option Kept) → List (ℕ × Kept)
numbered k [] = []
numbered k (None ∷ xs) = numbered (k + 1) xs
numbered k (Some x ∷ xs) = (k, x) ∷ numbered (k + 1) xs

-- the nodes of a row whose first place has number 1
abbrev pub nodes_of : List (Option Node) → KeptNodes
nodes_of row = from_entries (numbered 1 (things row))

-- the place with that number, where the row has it
abbrev pub place : {A : Type 0} → List A → ℕ → Option A
place xs zero = None
place xs (suc i) = slice_get xs i

-- what is at a place, where the row has the place
abbrev pub in_place : Option (Option Kept) → Option Kept
in_place (Some found) = found
in_place None = None

-- what is in a row under that number
abbrev pub thing_in : List (Option Kept) → ℕ → Option Kept
thing_in xs n = in_place (place xs n)

-- whether it is an empty place of the row
abbrev pub is_gap : Option (Option Kept) → Bool
is_gap (Some None) = true
is_gap _ = false

-- the set has the numbers of the empty places
abbrev pub AreUnused : BTreeSet ℕ → List (Option Kept) → Type 0
AreUnused numbers xs = (n : ℕ) → contains nat_cmp numbers n ≡ is_gap (place xs n)

-- a change that may take memory
abbrev pub grown : Growth → Kept → Kept
grown (Write off piece) = with_bytes (written off piece.now)
grown (Fill off count byte) = with_bytes (written off (replicate count byte))
grown (Resize size) = with_bytes (resized size)
grown (Name name number) = with_name name.now number

-- the end of what it puts into a file
abbrev pub end_of : Growth → ℕ
end_of (Write off piece) = off + length piece.now
end_of (Fill off count byte) = off + count
end_of (Resize size) = size
end_of (Name name number) = 0

-- a change that takes no memory
abbrev pub settled : Settling → Kept → Kept
settled (Renumber name number) = with_number name.now number
settled (Unname name) = without_name name.now
settled Link = with_links next_count
settled Unlink = with_links (λ links. links - 1)
