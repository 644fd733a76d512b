-- The tree of a load: which names and files it may have. Only private contracts speak of it.
use Rattle.std.specs.Prelude.{◌≡◌, ℕ, ◌-◌, ◌≤◌, Bool, true, ◌&&◌, bytes_eq, nat_lt, List, length, Some, slice_index_or}
use Rattle.std.specs.FinMap.{empty, get}
use Rattle.std.specs.List.{list_all}
use Rattle.lang_load.specs.Load.{name}
use Rattle.lang_tree.specs.Tree.{Tree, File}

-- how many bytes the largest file of a load may have: those of 12 blocks
abbrev pub largest : ℕ
largest = 12288

-- the digit of a name of a load
abbrev pub digit_of : List ℕ → ℕ
digit_of x = slice_index_or x 1 0 - 48

-- whether a name is one of a load: the letter and a digit below 8
abbrev pub is_load_name : List ℕ → Bool
is_load_name x = nat_lt (digit_of x) 8 && bytes_eq x (name (digit_of x))

-- No file is larger, each name of a path is one of a load, and no snapshot is there.
pub record IsLoadTree (t : Tree) : Type 0 where
  pub files : (k : ℕ) (bytes : List ℕ) → get t.nodes k ≡ Some (File bytes) → length bytes ≤ largest
  pub names : (path : List (List ℕ)) (k : ℕ) → get t.names path ≡ Some k → list_all is_load_name path ≡ true
  pub alone : t.snapshots ≡ empty
