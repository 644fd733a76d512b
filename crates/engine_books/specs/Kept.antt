-- What holds of the books at all times. It is described in docs/BOOKS.md.
use Rattle.std.specs.Prelude.{◌≡◌, ℕ, ◌+◌, ◌-◌, ◌*◌, ◌<◌, ◌≤◌, min, true, false, not, List, length}
use Rattle.base_types.specs.Seal.{blocks_of}
use Rattle.layout_geometry.specs.Geometry.{Geometry, LiesIn, IsGeometry, bitmap_blocks, bitmap_start, data_start, table_start}
use Rattle.layout_geometry.specs.Geometry.Area.{Data}
use Rattle.layout_bitmap.specs.Bits.{is_bad_bit, free_blocks}
use Rattle.crash_argument.specs.HomeTest.{is_one_of}
use Rattle.engine_running.specs.Running.{IsOrdered, IsRisingNumbers}
use Rattle.engine_reuse.specs.Numbers.{is_among}
use Rattle.engine_reuse.specs.Dead.{AreSound, dead_blocks}
use Rattle.engine_blocks.specs.Ranges.{counted}
use Rattle.engine_blocks.specs.State.{MayBeTaken}
use Rattle.engine_books.specs.Books.{TransactionBooks, bit_now, has_put, is_free_now, is_taken_now}

-- how many blocks of the bitmap weren't put
abbrev pub clean_bitmap_blocks : TransactionBooks → ℕ
clean_bitmap_blocks v = counted (λ c. not (has_put c v.changes.paid)) (bitmap_start v.geom) (bitmap_blocks v.geom)

-- There is room for so many puts, and for those of the bitmap's blocks when so many bits are written: each block of the bitmap takes a box once, and one box more is there while a block is put again.
abbrev pub HasBoxes : ℕ → ℕ → TransactionBooks → Type 0
HasBoxes puts bits v = puts + min bits (clean_bitmap_blocks v + 1) ≤ v.changes.puts

-- the bitmap and the dead blocks say the same: a data block is live where its bit is set
pub record BitsAgree (v : TransactionBooks) : Type 0 where
  pub size : length v.bitmap ≡ bitmap_blocks v.geom
  pub others : (b : ℕ) → is_bad_bit v.geom (blocks_of v.bitmap) b ≡ false
  pub same : (b : ℕ) → LiesIn v.geom Data b → bit_now v b ≡ not (is_among b (dead_blocks v.dead))
  pub counted : v.live + length (free_blocks v.geom (blocks_of v.bitmap)) ≡ v.geom.n - data_start v.geom

-- These blocks may be the bitmap: there are as many as it has, and they mark no block that they mustn't.
pub record HasBits (g : Geometry) (blocks : List (List ℕ)) : Type 0 where
  pub size : length blocks ≡ bitmap_blocks g
  pub others : (b : ℕ) → is_bad_bit g (blocks_of blocks) b ≡ false

-- the puts and the blocks taken are where they may be
pub record ChangesLie (v : TransactionBooks) : Type 0 where
  pub ordered : IsOrdered v.changes.paid v.changes.laid
  pub rising : IsRisingNumbers v.changes.taken
  pub taken : (b : ℕ) → is_one_of b v.changes.taken ≡ true → LiesIn v.geom Data b
  pub paid_from : (b : ℕ) → has_put b v.changes.paid ≡ true → bitmap_start v.geom ≤ b
  pub paid_below : (b : ℕ) → has_put b v.changes.paid ≡ true → b < v.geom.n
  -- what will be written in place was taken, and wasn't freed since
  pub laid : (b : ℕ) → has_put b v.changes.laid ≡ true → is_taken_now v b ≡ true

-- what was made ready is there
pub record RoomIsKept (v : TransactionBooks) : Type 0 where
  pub boxes : HasBoxes v.spare.puts (v.spare.takes + v.spare.frees) v
  pub takes : v.spare.takes ≤ v.changes.takes
  pub frees : v.spare.frees ≤ v.changes.frees
  pub held : v.spare.frees ≤ v.dead.room

-- all of it
pub record AreKept (v : TransactionBooks) : Type 0 where
  pub limits : IsGeometry v.geom
  pub geom : v.dead.geom ≡ v.geom
  pub sound : AreSound v.dead
  pub bits : BitsAgree v
  pub lie : ChangesLie v
  pub room : RoomIsKept v
  -- the blocks that the transaction freed are those that are held
  pub freed : v.changes.freed ≡ v.dead.held
  pub taken_few : length v.changes.taken ≤ v.took
  pub took_few : v.took ≤ v.live + length v.dead.held
  pub fits : v.weight ≤ 24 * (v.geom.j - 2)

-- These numbers may be taken.
pub record MayTake (list : List ℕ) (v : TransactionBooks) : Type 0 where
  pub kept : AreKept v
  -- room for them was made
  pub room : length list ≤ v.spare.takes
  -- each of them may be taken, and none stands in the list twice
  pub takeable : MayBeTaken v.geom (is_free_now v) list

-- Block b may be put: it is one of the node table or a data block, and room for a put was made.
pub record MayPut (b : ℕ) (v : TransactionBooks) : Type 0 where
  pub kept : AreKept v
  pub room : 0 < v.spare.puts
  pub from : table_start v.geom ≤ b
  pub below : b < v.geom.n

-- Block b may be freed: it is a data block, and room for a free was made.
pub record MayFree (b : ℕ) (v : TransactionBooks) : Type 0 where
  pub kept : AreKept v
  pub room : 0 < v.spare.frees
  pub from : data_start v.geom ≤ b
  pub below : b < v.geom.n
