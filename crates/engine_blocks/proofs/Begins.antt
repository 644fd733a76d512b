-- The blocks of the formatted disk, with which a map of blocks in memory begins.
use Rattle.std.proofs.Common.{◌≡◌, ℕ, ◌+◌, ◌-◌, ◌/◌, ◌%◌, ◌<◌, ◌≤◌, ◌==◌, nat_lt, false, List, [], length, map, slice_index, ap, ◌∙◌, arith}
use Rattle.std.proofs.lemmas.Bool.{le-ltb}
use Rattle.std.proofs.lemmas.List.FromFn.{get_or-map-range_with_len}
use Rattle.std.specs.Int.{bit_at}
use Rattle.std.specs.List.{range_with_len}
use Rattle.base_types.specs.Seal.{Blocks, blocks_of}
use Rattle.layout_geometry.specs.Geometry.{Geometry, bitmap_start, data_start}
use Rattle.layout_bytes.specs.Bitmap.{bit_in, is_set}
use Rattle.layout_bitmap.specs.Bits.{free_blocks}
use Rattle.layout_journal.specs.Formatted.{formatted}
use Rattle.engine_blocks.specs.Ranges.{parts_from}
use Rattle.engine_blocks.proofs.Ranges.{none_from}

-- the block at place k of those from block a on
pub block_at : (g : Geometry) (a n k : ℕ) (blocks : List (List ℕ)) → blocks ≡ map (formatted g) (range_with_len a n) → k < n → blocks_of blocks k ≡ formatted g (a + k)
block_at g a n k blocks e low = ap (λ l. blocks_of l k) e ∙ get_or-map-range_with_len (formatted g) a n k (a + k) [] low (omega arith)

-- the bit of a data block is clear
pub clear_at : (g : Geometry) (b : ℕ) (x : List ℕ) → x ≡ formatted g (bitmap_start g + b / 8192) → is_set g (formatted g) b ≡ nat_lt b (data_start g) → data_start g ≤ b → (bit_at (slice_index x (b % 8192 / 8)) (b % 8) == 1) ≡ false
clear_at g b x e bit from = ap (λ y. bit_at (slice_index y (b % 8192 / 8)) (b % 8) == 1) e ∙ bit ∙ le-ltb b (data_start g) from

-- where all bits of the data are clear, all data blocks are free
pub all_free : (g : Geometry) (m : Blocks) → ((b : ℕ) → data_start g ≤ b → b < g.n → bit_in m b ≡ false) → length (free_blocks g m) ≡ g.n - data_start g
all_free g m clear = omega (arith, parts_from (λ b. bit_in m b) (data_start g) (g.n - data_start g), ap length (none_from (λ b. bit_in m b) (data_start g) (g.n - data_start g) (λ b from below. clear b from (omega (arith, from, below)))))
