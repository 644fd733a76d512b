-- The books and the last sync point: what the transaction changed of it. It is described in docs/BOOKS.md.
use Rattle.std.specs.Prelude.{◌≡◌, ℕ, ◌+◌, ◌*◌, ◌<◌, ◌≤◌, true, false, List, length, Some, is_some, IsTrue}
use Rattle.base_types.specs.Seal.{Blocks, blocks_of}
use Rattle.layout_geometry.specs.Geometry.{bitmap_blocks, bitmap_start, data_start}
use Rattle.layout_bytes.specs.Bitmap.{is_set}
use Rattle.layout_journal.specs.Run.{is_live}
use Rattle.crash_argument.specs.HomeTest.{is_one_of}
use Rattle.engine_running.specs.Running.{SameChanges, bytes_put}
use Rattle.engine_blocks.specs.State.{Bookkeeping}
use Rattle.engine_books.specs.Books.{TransactionBooks, bit_now, bytes_over, map_of, with_books}

-- The transaction began at this map: the bitmap now is the map's with the puts; a block is in the list of those taken, or freed, where its bit changed; each put of a data block is of a marked one; and each put is a whole block.
pub record BeganAt (v : TransactionBooks) (last : Blocks) : Type 0 where
  pub bitmap : (k : ℕ) → k < bitmap_blocks v.geom → bytes_over v.changes last (bitmap_start v.geom + k) ≡ blocks_of v.bitmap k
  pub was_dead : (b : ℕ) → is_one_of b v.changes.taken ≡ true → is_set v.geom last b ≡ false
  pub took : (b : ℕ) → b < 8192 * bitmap_blocks v.geom → bit_now v b ≡ true → is_set v.geom last b ≡ false → is_one_of b v.changes.taken ≡ true
  pub killed : (b : ℕ) → b < 8192 * bitmap_blocks v.geom → bit_now v b ≡ false → is_set v.geom last b ≡ true → is_one_of b v.changes.freed ≡ true
  pub marked : (b : ℕ) → data_start v.geom ≤ b → is_some (bytes_put v.changes b) ≡ true → bit_now v b ≡ true
  pub whole : (b : ℕ) (bytes : List ℕ) → bytes_put v.changes b ≡ Some bytes → length bytes ≡ 1024

-- a map has this bitmap
abbrev pub HasBitmap : TransactionBooks → Blocks → Type 0
HasBitmap v m = (k : ℕ) → k < bitmap_blocks v.geom → m (bitmap_start v.geom + k) ≡ blocks_of v.bitmap k

-- another map has the bytes of this one on its live blocks
abbrev pub HasSameLive : TransactionBooks → Blocks → Blocks → Type 0
HasSameLive v last next = (b : ℕ) → IsTrue (is_live v.geom last b) → next b ≡ last b

-- Nothing has changed but what is ready.
pub record SameButReady (v w : TransactionBooks) : Type 0 where
  -- the transaction is the same
  pub same : SameChanges v.changes w.changes
  -- and so are the dead blocks, but for the room for frees
  pub dead : w.dead ≡ record v.dead { room = w.dead.room }
  -- the bookkeeping by them is the same, but for what is ready
  pub books : (k : Bookkeeping) → with_books k w ≡ record (with_books k v) { spare = w.spare }
  -- and so is the map
  pub map : (last : Blocks) → map_of w last ≡ map_of v last
