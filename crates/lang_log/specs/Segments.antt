-- The segments of a log: files in a directory, named by the number of their first append, in which appends lie one behind the other.
use Rattle.std.specs.Prelude.{◌≡◌, ◌≢◌, ◌⊎◌, ⊤, ℕ, ◌+◌, List, [], ◌∷◌, ◌++◌, length, map, Some}
use Rattle.std.specs.List.{AllByRecursion, flat_map}
use Rattle.std.specs.FinMap.{get}
use Rattle.lang_tree.specs.Tree.{Tree, Dir, File}
use Rattle.lang_log.specs.Spelling.{spellings}
use Rattle.lang_log.specs.Names.{log_path, path_in_log, segment_name, segment_path}

-- a segment: the number of its first append, the node of its file, and its appends
pub record Segment : Type 0 where
  pub first : ℕ
  pub node : ℕ
  pub appends : List (List ℕ)

-- a segment that has no append yet
abbrev pub new_segment : ℕ → ℕ → Segment
new_segment first node = record { first = first; node = node; appends = [] }

-- the segment with one append more
abbrev pub grown : List ℕ → Segment → Segment
grown bytes s = record s { appends = s.appends ++ bytes ∷ [] }

-- one of the list
abbrev pub IsOneOf : {A : Type 0} → A → List A → Type 0
IsOneOf x [] = ⊥
IsOneOf x (y ∷ ys) = (x ≡ y) ⊎ IsOneOf x ys

-- The segment lies in the tree: its file is under its name, and has its appends and nothing else.
pub record LiesIn (t : Tree) (s : Segment) : Type 0 where
  pub at : get t.names (segment_path s.first) ≡ Some s.node
  pub file : get t.nodes s.node ≡ Some (File (spellings s.appends))

-- none of the segments has the node
abbrev pub AreNot : ℕ → List Segment → Type 0
AreNot node segments = AllByRecursion (λ s. s.node ≢ node) segments

-- no two of them are one node
abbrev pub AreApart : List Segment → Type 0
AreApart [] = ⊤
AreApart (s ∷ ss) = AreNot s.node ss × AreApart ss

-- one of them has the name
abbrev pub OneIsNamed : List Segment → List ℕ → Type 0
OneIsNamed segments name = IsOneOf name (map (λ s. segment_name s.first) segments)

-- the first of them begins with number n, and each other one with the number behind the one before
abbrev pub AreInRow : ℕ → List Segment → Type 0
AreInRow n [] = ⊤
AreInRow n (s ∷ ss) = (s.first ≡ n) × AreInRow (n + length s.appends) ss

-- the appends of all of them, in order
abbrev pub appends_in : List Segment → List (List ℕ)
appends_in segments = flat_map (λ s. s.appends) segments

-- the number with which they begin, 0 where there are none
abbrev pub low_of : List Segment → ℕ
low_of [] = 0
low_of (s ∷ ss) = s.first

-- What lies in the directory of the log is these segments and nothing else. There needn't be a directory where there are none.
pub record HasSegments (t : Tree) (segments : List Segment) : Type 0 where
  pub directory : (n : ℕ) → get t.names log_path ≡ Some n → get t.nodes n ≡ Some Dir
  pub there : AllByRecursion (LiesIn t) segments
  pub only : (name : List ℕ) (n : ℕ) → get t.names (path_in_log name) ≡ Some n → OneIsNamed segments name
  pub apart : AreApart segments
