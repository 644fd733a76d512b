-- The dead data blocks: which may be taken, which the running transaction freed, and which wait. It is described in docs/REUSE.md.
use Rattle.std.specs.Prelude.{◌≡◌, ℕ, ◌-◌, ◌≤◌, ◌==◌, Bool, true, false, List, ◌++◌, map}
use Rattle.std.specs.List.{filter, count_by, range_with_len, AllPairs}
use Rattle.layout_geometry.specs.Geometry.{Geometry, LiesIn, data_start}
use Rattle.layout_geometry.specs.Geometry.Area.{Data}
use Rattle.engine_reuse.specs.Numbers.{is_among}

-- The dead data blocks: those that may be taken, those that the running transaction freed, and those that wait, each with the number of the record that freed it. There is room for so many frees more.
pub record DeadBlocks : Type 0 where
  pub geom : Geometry
  pub reusable : List ℕ
  pub held : List ℕ
  pub waiting : List (ℕ × ℕ)
  pub room : ℕ

-- the block of a pair
abbrev pub block_of : ℕ × ℕ → ℕ
block_of p = p.0

-- the number of the record that freed it
abbrev pub freed_by : ℕ × ℕ → ℕ
freed_by p = p.1

-- all dead data blocks
abbrev pub dead_blocks : DeadBlocks → List ℕ
dead_blocks v = v.reusable ++ (v.held ++ map block_of v.waiting)

-- a data block that may be taken
pub record IsReusable (v : DeadBlocks) (b : ℕ) : Type 0 where
  pub lies : LiesIn v.geom Data b
  pub among : is_among b v.reusable ≡ true

-- a data block that isn't dead
pub record IsLive (v : DeadBlocks) (b : ℕ) : Type 0 where
  pub lies : LiesIn v.geom Data b
  pub not_dead : is_among b (dead_blocks v) ≡ false

-- the data blocks that pass the test, ascending
abbrev pub data_blocks_that : Geometry → (ℕ → Bool) → List ℕ
data_blocks_that g test = filter test (range_with_len (data_start g) (g.n - data_start g))

-- how often the number is in the list
abbrev pub times : ℕ → List ℕ → ℕ
times b xs = count_by (λ x. x == b) xs

-- Each dead block is a data block, and is dead in one way only. Those that may be taken ascend, and those that wait come in the order of their records.
pub record AreSound (v : DeadBlocks) : Type 0 where
  pub lie : (b : ℕ) → is_among b (dead_blocks v) ≡ true → LiesIn v.geom Data b
  pub once : (b : ℕ) → times b (dead_blocks v) ≤ 1
  pub ascending : v.reusable ≡ data_blocks_that v.geom (λ b. is_among b v.reusable)
  pub in_order : AllPairs (λ p q. freed_by p ≤ freed_by q) v.waiting
