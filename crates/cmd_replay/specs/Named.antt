-- Trees that their listings tell apart: each name in a path is lawful, and the bytes of a file are bytes; and so it is of what snapshots keep.
use Rattle.std.specs.Prelude.{◌≡◌, ℕ, true, nat_lt, List, map, Some}
use Rattle.std.specs.List.{list_all}
use Rattle.std.specs.FinMap.{entries, get}
use Rattle.base_types.specs.Name.{is_name}
use Rattle.lang_tree.specs.Tree.{Tree, File, HasSoundSnapshots, IsSound, Kept, kept_tree}

-- each name of each path is lawful
abbrev pub HasLawfulNames : Tree → Type 0
HasLawfulNames t = (p : List (List ℕ)) (n : ℕ) → get t.names p ≡ Some n → list_all is_name p ≡ true

-- each byte of each file is below 256
abbrev pub HasBytes : Tree → Type 0
HasBytes t = (n : ℕ) (bytes : List ℕ) → get t.nodes n ≡ Some (File bytes) → list_all (λ b. nat_lt b 256) bytes ≡ true

-- so it is of the name and the tree of each snapshot
abbrev pub OfEachSnapshot : (List ℕ → Tree → Type 0) → Tree → Type 0
OfEachSnapshot P t = (name : List ℕ) (k : Kept) → get t.snapshots name ≡ Some k → P name (kept_tree k)

-- The tree and those that its snapshots keep are sound, and their names are lawful.
pub record IsListable (limit : ℕ) (t : Tree) : Type 0 where
  pub sound : IsSound limit t
  pub names : HasLawfulNames t
  pub snapshots : HasSoundSnapshots limit t
  pub kept : OfEachSnapshot (λ name u. (is_name name ≡ true) × HasLawfulNames u) t

-- The bytes of the tree are bytes, and so are those of the trees that its snapshots keep.
pub record HasAllBytes (t : Tree) : Type 0 where
  pub bytes : HasBytes t
  pub kept : OfEachSnapshot (λ name u. HasBytes u) t

-- the snapshots of a tree, their names ascending, each with the tree that it keeps
abbrev pub kept_trees : Tree → List (List ℕ × Tree)
kept_trees t = map (λ e. (e.0, kept_tree e.1)) (entries t.snapshots)

-- Two trees with the same paths and nodes, whose snapshots have the same names and keep the same: only the numbers of snapshots may differ. Without snapshots they are one tree.
pub record AreAlike (s t : Tree) : Type 0 where
  pub names : s.names ≡ t.names
  pub nodes : s.nodes ≡ t.nodes
  pub snapshots : kept_trees s ≡ kept_trees t
