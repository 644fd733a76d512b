-- A worked row: snapshots s and t of a file with two blocks, of which the first was written over between them. Node 2 is the file, and nodes 3 and 4 are s and t with their own blocks. It is described in docs/SPACE.md.
use Rattle.std.specs.Prelude.{ℕ, ◌==◌, List, [], ◌∷◌, if◌then◌else◌, not, bytes_eq}
use Rattle.fs_session.specs.Lists.{KeptLists}

abbrev pub name_s : List ℕ
name_s = 115 ∷ []

abbrev pub name_t : List ℕ
name_t = 116 ∷ []

-- the blocks of the nodes
abbrev pub row_places : ℕ → List ℕ
row_places k =
    if k == 1 then 23 ∷ []
    else if k == 2 then 32 ∷ 25 ∷ []
    else if k == 3 then 26 ∷ 27 ∷ 28 ∷ 29 ∷ 30 ∷ 31 ∷ []
    else if k == 4 then 33 ∷ 34 ∷ 35 ∷ 36 ∷ 37 ∷ 38 ∷ []
    else []

-- the blocks that the snapshots keep
abbrev pub row_kept : KeptLists
row_kept name k = if not (k == 2) then [] else if bytes_eq name name_s then 24 ∷ 25 ∷ [] else if bytes_eq name name_t then 32 ∷ 25 ∷ [] else []

-- the blocks of the nodes once s and the file's blocks went
abbrev pub row_after : ℕ → List ℕ
row_after k =
    if k == 1 then 23 ∷ []
    else if k == 4 then 33 ∷ 34 ∷ 35 ∷ 36 ∷ 37 ∷ 38 ∷ []
    else []
