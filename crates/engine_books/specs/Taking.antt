-- The books within a call: while the blocks of a list are taken, before the dead blocks and the counts are told, and while a block is freed, before its bit is put. Private functions alone cite it.
use Rattle.std.specs.Prelude.{◌≡◌, ◌≢◌, ℕ, ◌+◌, ◌-◌, ◌/◌, ◌≤◌, true, false, ◌||◌, Some, None, if◌then◌else◌, List, [], ◌∷◌, ◌++◌, length}
use Rattle.base_types.specs.Seal.{blocks_of}
use Rattle.layout_geometry.specs.Geometry.{bitmap_start}
use Rattle.layout_bitmap.specs.Bits.{free_blocks, BitBecomes}
use Rattle.crash_argument.specs.HomeTest.{is_one_of}
use Rattle.engine_running.specs.declared.put.Put.{Put}
use Rattle.engine_running.specs.Rows.{put_of, without_put}
use Rattle.engine_reuse.specs.Calls.{with_freed}
use Rattle.engine_running.specs.Running.{Changes, IsOrdered, Puts, Takes, Forgets}
use Rattle.engine_blocks.specs.Running.{has, has_bit, bit_block}
use Rattle.engine_books.specs.Books.{TransactionBooks, bit_now}
use Rattle.engine_books.specs.Kept.{HasBoxes}

-- nothing is new but the bitmap and the changes
pub record SameRest (old new : TransactionBooks) : Type 0 where
  pub same : new ≡ record old { bitmap = new.bitmap; changes = new.changes }
  pub size : length new.bitmap ≡ length old.bitmap

-- the put of the block of the bitmap that has the bit of block b
abbrev pub bits_put : TransactionBooks → ℕ → Put
bits_put v b = record { block = bit_block v.geom b; bytes = blocks_of v.bitmap (b / 8192) }

-- One block was taken: its bit is set, whatever was put for it is given up, it is among the blocks taken, and the block of the bitmap is put.
pub record TakesOne (b : ℕ) (old new : TransactionBooks) : Type 0 where
  pub rest : SameRest old new
  pub bits : BitBecomes (blocks_of old.bitmap) (blocks_of new.bitmap) b true
  pub others : (k : ℕ) → k ≢ b / 8192 → blocks_of new.bitmap k ≡ blocks_of old.bitmap k
  pub ordered : IsOrdered old.changes.paid old.changes.laid
  pub forgotten : Changes
  pub forgets : Forgets b old.changes forgotten
  pub taken : Changes
  pub takes : Takes b forgotten taken
  pub ordered_then : IsOrdered taken.paid taken.laid
  pub whole : length (blocks_of new.bitmap (b / 8192)) ≡ 1024
  pub puts : Puts false (bits_put new b) taken new.changes

-- These blocks were taken: their bits are set, the blocks of the bitmap with these bits are put, and whatever was put for one of them is given up.
pub record HasTaken (bs : List ℕ) (old new : TransactionBooks) : Type 0 where
  pub rest : SameRest old new
  pub bits : (b : ℕ) → bit_now new b ≡ (has bs b || bit_now old b)
  pub others : (k : ℕ) → has_bit old.geom bs (bitmap_start old.geom + k) ≡ false → blocks_of new.bitmap k ≡ blocks_of old.bitmap k
  pub whole : (c : ℕ) → has_bit old.geom bs c ≡ true → length (blocks_of new.bitmap (c - bitmap_start old.geom)) ≡ 1024
  pub free : length (free_blocks old.geom (blocks_of new.bitmap)) + length bs ≡ length (free_blocks old.geom (blocks_of old.bitmap))
  pub paid : (c : ℕ) → put_of c new.changes.paid ≡ (if has_bit old.geom bs c then Some (blocks_of new.bitmap (c - bitmap_start old.geom)) else if has bs c then None else put_of c old.changes.paid)
  pub laid : (c : ℕ) → put_of c new.changes.laid ≡ (if has_bit old.geom bs c then None else if has bs c then None else put_of c old.changes.laid)
  pub taken : (c : ℕ) → is_one_of c new.changes.taken ≡ (has bs c || is_one_of c old.changes.taken)
  pub taken_len : length new.changes.taken ≤ length old.changes.taken + length bs
  pub freed : new.changes.freed ≡ old.changes.freed
  pub boxes : (puts bits : ℕ) → length bs ≤ bits → HasBoxes puts bits old → HasBoxes puts (bits - length bs) new
  pub takes : old.changes.takes ≤ new.changes.takes + length bs
  pub frees : new.changes.frees ≡ old.changes.frees

-- What becomes of the books where the bit of a freed block was set: the block is held, and one block less is live.
pub record HoldsFreed (b : ℕ) (old new : TransactionBooks) : Type 0 where
  pub freed : new.changes.freed ≡ old.changes.freed ++ b ∷ []
  pub dead : new.dead ≡ with_freed old.dead b
  pub live : new.live + 1 ≡ old.live

-- what becomes of them where it was clear: the block is held already, or may be taken
pub record HoldsNoMore (old new : TransactionBooks) : Type 0 where
  pub freed : new.changes.freed ≡ old.changes.freed
  pub dead : new.dead ≡ old.dead
  pub live : new.live ≡ old.live

-- A block was given up: its bit is clear, and nothing is put for it.
pub record GivesUp (b : ℕ) (old new : TransactionBooks) : Type 0 where
  pub same : new ≡ record old { bitmap = new.bitmap; changes = new.changes; dead = new.dead; live = new.live }
  pub size : length new.bitmap ≡ length old.bitmap
  pub bits : BitBecomes (blocks_of old.bitmap) (blocks_of new.bitmap) b false
  pub others : (k : ℕ) → k ≢ b / 8192 → blocks_of new.bitmap k ≡ blocks_of old.bitmap k
  pub set : bit_now old b ≡ true → HoldsFreed b old new
  pub clear : bit_now old b ≡ false → HoldsNoMore old new
  pub paid : new.changes.paid ≡ without_put b old.changes.paid
  pub laid : new.changes.laid ≡ without_put b old.changes.laid
  pub taken : new.changes.taken ≡ old.changes.taken
  pub puts : old.changes.puts ≤ new.changes.puts
  pub takes : new.changes.takes ≡ old.changes.takes
  pub frees : old.changes.frees ≤ new.changes.frees + 1
