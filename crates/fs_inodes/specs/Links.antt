-- How many slots name a node.
use Rattle.std.specs.Prelude.{ℕ, zero, suc, ◌+◌, ◌==◌, if◌then◌else◌, List, [], ◌∷◌}
use Rattle.layout_bytes.specs.declared.slot.Slot.{Slot}
use Rattle.crash_stands.specs.Inodes.{Inodes}
use Rattle.fs_inodes.specs.Lookups.{slots_of}

-- how many of these slots name node n
abbrev pub naming : ℕ → List Slot → ℕ
naming n [] = 0
naming n (s ∷ slots) = (if s.node == n then 1 else 0) + naming n slots

-- how many slots of the directories among c numbers from k on do
abbrev pub naming_from : Inodes → ℕ → ℕ → ℕ → ℕ
naming_from m n k zero = 0
naming_from m n k (suc c) = naming n (slots_of (m k)) + naming_from m n (k + 1) c

-- how many slots name node n in all directories up to the limit
abbrev pub slots_naming : ℕ → Inodes → ℕ → ℕ
slots_naming limit m n = naming_from m n 1 limit
