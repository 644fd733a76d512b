-- What is at a number and at a path, and the least free number, from inodes alone.
use Rattle.std.specs.Prelude.{ℕ, Bool, true, false, List, [], ◌∷◌, is_none, Option, None, Some, option_and_then, Result, Ok, find}
use Rattle.std.specs.List.{range_with_len}
use Rattle.layout_bytes.specs.declared.slot.Slot.{Slot}
use Rattle.lang_tree.specs.declared.command.Refusal.{Refusal}
use Rattle.lang_tree.specs.Walk.{enter}
use Rattle.crash_stands.specs.Inodes.{Inode, Inodes, ADir, AFile}
use Rattle.crash_stands.specs.Walks.{entries_of, entry_in, walk}

-- the least number from 1 to the limit that no inode has; where there is no snapshot it is the least unused one
abbrev pub least_free : ℕ → Inodes → Option ℕ
least_free limit m = find (λ n. is_none (m n)) (range_with_len 1 limit)

-- One inode.

abbrev pub is_dir_inode : Option Inode → Bool
is_dir_inode (Some (ADir slots)) = true
is_dir_inode _ = false

abbrev pub is_file_inode : Option Inode → Bool
is_file_inode (Some (AFile links bytes)) = true
is_file_inode _ = false

abbrev pub is_list : List Slot → Bool
is_list [] = false
is_list (s ∷ slots) = true

-- whether a directory is there that has a slot
abbrev pub has_slots : Option Inode → Bool
has_slots (Some (ADir slots)) = is_list slots
has_slots _ = false

-- how many slots name the node: a directory has one
abbrev pub links_in : Option Inode → ℕ
links_in None = 0
links_in (Some (ADir slots)) = 1
links_in (Some (AFile links bytes)) = links

abbrev pub bytes_of : Option Inode → List ℕ
bytes_of (Some (AFile links bytes)) = bytes
bytes_of _ = []

abbrev pub slots_of : Option Inode → List Slot
slots_of (Some (ADir slots)) = slots
slots_of _ = []

-- Paths.

-- the walk that has come to node k and has these names to go
abbrev pub walk_on : Inodes → ℕ → List (List ℕ) → Result ℕ Refusal
walk_on m k [] = Ok k
walk_on m k (name ∷ rest) = enter (is_dir_inode (m k)) (entry_in (m k) name) (λ j. walk_on m j rest)

-- the number at a path, and the inode there
abbrev pub number_at : Inodes → List (List ℕ) → Option ℕ
number_at m path = walk (entries_of m) 1 path

abbrev pub inode_at : Inodes → List (List ℕ) → Option Inode
inode_at m path = option_and_then m (number_at m path)
