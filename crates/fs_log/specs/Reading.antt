-- Which append of a segment begins at a byte of it, and which segment has the append of a number.
use Rattle.std.specs.Prelude.{◌≡◌, ◌<◌, ◌≤◌, ◌++◌, ◌∷◌, ℕ, List, drop, length}
use Rattle.std.specs.List.{AllByRecursion}
use Rattle.lang_log.specs.Spelling.{spellings}
use Rattle.lang_log.specs.Segments.{Segment}
use Rattle.lang_log.specs.Log.{Log}
use Rattle.engine_blocks.specs.State.{State}
use Rattle.fs_log.specs.Keeping.{HoldsLog}

-- The blocks hold a log, and this is one of its segments.
pub record HoldsSegment (s : Segment) (state : State) : Type 0 where
  pub before : List Segment
  pub rest : List Segment
  pub log : Log
  pub holds : HoldsLog (before ++ s ∷ rest) log state

-- From this byte of the segment's file on it has the appends behind so many others.
abbrev pub IsAt : Segment → ℕ → ℕ → Type 0
IsAt s offset others = drop offset (spellings s.appends) ≡ spellings (drop others s.appends)

-- A segment that begins with this number, and has an append behind so many others.
pub record HasAppend (first others : ℕ) (state : State) : Type 0 where
  pub segment : Segment
  pub holds : HoldsSegment segment state
  pub begins : first ≡ segment.first
  pub some : others < length segment.appends

-- An append of the segment that begins with this number begins at this byte of it.
pub record BeginsAt (first offset : ℕ) (state : State) : Type 0 where
  pub others : ℕ
  pub has : HasAppend first others state
  pub at : IsAt has.segment offset others

-- The last of some numbers that is this one or lower: all behind it are greater.
pub record IsLastUpto (number : ℕ) (numbers : List ℕ) (last : ℕ) : Type 0 where
  pub before : List ℕ
  pub behind : List ℕ
  pub is : numbers ≡ before ++ last ∷ behind
  pub low : last ≤ number
  pub greater : AllByRecursion (λ n. number < n) behind
