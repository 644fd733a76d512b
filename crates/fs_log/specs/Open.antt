-- A log as its calls see it, and what holds of it between two of them.
use Rattle.std.specs.Prelude.{◌≡◌, ℕ, ◌^◌, ◌≤◌, nat_le, Bool, false, IsTrue, List, [], ◌∷◌, length, map}
use Rattle.lang_log.specs.Spelling.{spellings}
use Rattle.lang_log.specs.Segments.{Segment}
use Rattle.lang_log.specs.Log.{Log, next_of}
use Rattle.engine_blocks.specs.State.{State}
use Rattle.fs_commands.specs.declared.fs.Fs.{Fs}
use Rattle.fs_commands.specs.Opened.{MayFollow, blocks_in}
use Rattle.fs_log.specs.Keeping.{HoldsLog}

-- A log: the file system; how many bytes a segment comes to have at most; the numbers with which segments begin; the bytes of the last one; the number of the next append, and that below which all is on the disk.
pub record Open (S : Type 0) : Type 0 where
  pub fs : Fs S
  pub most : ℕ
  pub firsts : List ℕ
  pub size : ℕ
  pub next : ℕ
  pub kept : ℕ

-- how many bytes the last of these segments has
abbrev pub size_of : List Segment → ℕ
size_of [] = 0
size_of (s ∷ []) = length (spellings s.appends)
size_of (s ∷ r ∷ rest) = size_of (r ∷ rest)

-- What is kept in memory of a log is that of the blocks: the numbers with which its segments begin, the bytes of the last one, and the number of the next append.
pub record Mirrors (s : State) (firsts : List ℕ) (size next : ℕ) : Type 0 where
  pub segments : List Segment
  pub log : Log
  pub holds : HoldsLog segments log s
  pub firsts_are : firsts ≡ map (λ s. s.first) segments
  pub size_is : size ≡ size_of segments
  pub next_is : next ≡ next_of log

-- the first of the numbers, or that one where there is none
abbrev pub first_or : List ℕ → ℕ → ℕ
first_or [] n = n
first_or (first ∷ firsts) n = first

-- the second of the numbers
abbrev pub second_of : List ℕ → ℕ
second_of (first ∷ second ∷ firsts) = second
second_of _ = 0

-- Whether the first of the segments that begin with these numbers may go in a trim to this number: there is a second one, and it begins with that number or a lower one.
abbrev pub may_go : ℕ → List ℕ → Bool
may_go number (first ∷ second ∷ firsts) = nat_le second number
may_go number _ = false

module _ {S : Type 0} where
  -- the number with which a log begins
  abbrev pub low_in : Open S → ℕ
  low_in l = first_or l.firsts l.next

  -- what is known of its blocks
  abbrev pub state_in : (S → State) → Open S → State
  state_in state l = state (blocks_in l.fs)

  -- A command may follow, a segment has room for the longest append, and what is kept in memory is that of the blocks, where they are known.
  pub record IsOpen (tells : Bool) (state : S → State) (l : Open S) : Type 0 where
    pub follows : MayFollow tells state l.fs
    pub least : 65540 ≤ l.most
    pub most : l.most ≤ 2 ^ 30
    pub kept : l.kept ≤ l.next
    pub mirrors : IsTrue tells → Mirrors (state_in state l) l.firsts l.size l.next
