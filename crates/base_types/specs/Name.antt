-- The grammar of a name, on its bytes. The rule is described in docs/TREE.md.
use Rattle.std.specs.Prelude.{ℕ, ◌==◌, Bool, not, ◌&&◌, ◌||◌, List, [], ◌∷◌, length, nat_lt, nat_le, bytes_eq}
use Rattle.std.specs.List.{list_all}

-- a byte that may be in a name: printable, no blank, no slash
abbrev pub is_name_byte : ℕ → Bool
is_name_byte b = nat_le 33 b && (nat_le b 126 && not (b == 47))

-- `.` and `..`, which other systems read as this directory and its parent
abbrev pub is_dots : List ℕ → Bool
is_dots name = bytes_eq name (46 ∷ []) || bytes_eq name (46 ∷ 46 ∷ [])

-- 1 to 255 bytes, each of which may be in a name, and neither `.` nor `..`
abbrev pub is_name : List ℕ → Bool
is_name name = nat_lt 0 (length name) && (nat_le (length name) 255 && (list_all is_name_byte name && not (is_dots name)))

-- the name of a snapshot: a name of at most 59 bytes, in each layout
abbrev pub is_snapshot_name : List ℕ → Bool
is_snapshot_name name = is_name name && nat_le (length name) 59
