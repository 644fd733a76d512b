-- Numbers of a list, bits of the bitmap, and calls that leave the disk alone.
use Rattle.std.proofs.Common.{◌≡◌, ◌≢◌, ℕ, zero, suc, ◌+◌, ◌*◌, ◌/◌, ◌%◌, ◌<◌, ◌==◌, Bool, false, ◌||◌, List, [], ◌∷◌, length, take, slice_index, get_or, AllPairs, refl, sym, ap, ◌∙◌, arith, rules}
use Rattle.std.proofs.lemmas.Bool.{ne_eqb}
use Rattle.std.specs.Int.{bit_at}
use Rattle.base_types.specs.Seal.{Blocks}
use Rattle.layout_geometry.specs.Geometry.{Geometry, bitmap_start, bitmap_blocks, table_start}
use Rattle.layout_bytes.specs.Bitmap.{is_set}
use Rattle.engine_blocks.specs.Running.{has}
use Rattle.engine_blocks.specs.State.{State}
use Rattle.engine_blocks.specs.Crashes.{IssuesNothing}
use Rattle.engine_blocks.specs.Effects.{LeavesDisk}

-- The numbers of a list.

-- where no two are the same, a number isn't among those before it
pub not_before : (xs : List ℕ) (i d : ℕ) → i < length xs → AllPairs (λ a b. a ≢ b) xs → has (take i xs) (get_or xs i d) ≡ false
not_before [] i d low pairs = absurd (omega (arith, low))
not_before (x ∷ xs) zero d low pairs = refl
not_before (x ∷ xs) (suc i) d low pairs =
    ap (λ t. t || has (take i xs) (get_or xs i d)) (ne_eqb (get_or xs i d) x (λ e. pairs 0 (suc i) d (omega arith) low (sym e)))
    ∙ not_before xs i d (omega (arith, low)) (λ j k e a b. pairs (suc j) (suc k) e (omega (arith, a)) (omega (arith, b)))

-- Bits.

-- the bits are those of the blocks before the node table
pub bits_alike : (g : Geometry) (old new : Blocks) → ((b : ℕ) → b < table_start g → new b ≡ old b) → (k : ℕ) → k < 8192 * bitmap_blocks g → is_set g new k ≡ is_set g old k
bits_alike g old new same k low = ap (λ y. bit_at (slice_index y (k % 8192 / 8)) (k % 8) == 1) (same (bitmap_start g + k / 8192) (omega (arith, low)))

-- The disk.

nothing_on : (old mid new : State) → IssuesNothing old mid → IssuesNothing mid new → IssuesNothing old new
nothing_on old mid new a b = search (rules, arith)

-- the disk is left alone, twice
pub leaves_on : (tells : Bool) (old mid new : State) → LeavesDisk tells old mid → LeavesDisk tells mid new → LeavesDisk tells old new
leaves_on tells old mid new a b = record { counts = b.counts ∙ a.counts; crash = λ t. nothing_on old mid new (a.crash t) (b.crash t) }
