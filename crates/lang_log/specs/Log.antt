-- The log that a tree has: numbered appends.
use Rattle.std.specs.Prelude.{◌≡◌, ℕ, ◌+◌, ◌-◌, ◌^◌, ◌≤◌, List, [], ◌∷◌, ◌++◌, length, drop}
use Rattle.lang_tree.specs.Tree.{Tree}
use Rattle.lang_log.specs.Spelling.{AreShort}
use Rattle.lang_log.specs.Segments.{Segment, HasSegments, AreInRow, appends_in, low_of}

-- appends, of which the first has the number `low` and each other one the number behind the one before
pub record Log : Type 0 where
  pub low : ℕ
  pub appends : List (List ℕ)

-- the number that the next append will have
abbrev pub next_of : Log → ℕ
next_of l = l.low + length l.appends

-- The log of these segments: they are in a row, their appends are short, and numbers end at 2^32 - 1.
pub record IsMadeOf (segments : List Segment) (l : Log) : Type 0 where
  pub row : AreInRow l.low segments
  pub low : l.low ≡ low_of segments
  pub appends : l.appends ≡ appends_in segments
  pub short : AreShort l.appends
  pub within : next_of l ≤ 2 ^ 32 - 1

-- The log of a tree: that of the segments in its directory `/log`. A tree has one at most.
pub record IsLogOf (t : Tree) (l : Log) : Type 0 where
  pub segments : List Segment
  pub has : HasSegments t segments
  pub made : IsMadeOf segments l

-- the tree has none
abbrev pub HasNoLog : Tree → Type 0
HasNoLog t = (l : Log) → IsLogOf t l → ⊥

-- no appends, from number 0 on
abbrev pub nothing_logged : Log
nothing_logged = record { low = 0; appends = [] }

-- one append more
abbrev pub with_append : List ℕ → Log → Log
with_append bytes l = record l { appends = l.appends ++ bytes ∷ [] }

-- the appends from number `low` on
abbrev pub trimmed : ℕ → Log → Log
trimmed low l = record { low = low; appends = drop (low - l.low) l.appends }
