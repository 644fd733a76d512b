-- The books with an empty transaction.
use Rattle.std.proofs.Common.{◌≡◌, ℕ, ◌+◌, ◌-◌, ◌*◌, ◌/◌, ◌%◌, ◌<◌, ◌≤◌, ◌==◌, Bool, true, false, not, List, [], length, is_some, None, refl, sym, ap, ap₂, subst, ◌∙◌, arith}
use Rattle.std.proofs.lemmas.Bool.{false≢true}
use Rattle.std.proofs.lemmas.Option.{none-some}
use Rattle.std.specs.Int.{bit_at}
use Rattle.std.specs.Prelude.{slice_index}
use Rattle.base_types.specs.Seal.{Blocks, blocks_of}
use Rattle.layout_geometry.specs.Geometry.{Geometry, LiesIn, IsGeometry, bitmap_start, bitmap_blocks, data_start}
use Rattle.layout_geometry.specs.Geometry.Area.{Data}
use Rattle.layout_bytes.specs.Bitmap.{is_set}
use Rattle.layout_bitmap.specs.Bits.{bit_in, is_bad_bit, free_blocks}
use Rattle.layout_journal.specs.Run.{or_else, otherwise}
use Rattle.crash_argument.specs.HomeTest.{is_one_of}
use Rattle.engine_running.specs.declared.put.Put.{Put}
use Rattle.engine_running.specs.Rows.{IsRising, put_of}
use Rattle.engine_running.specs.Running.{Changes, IsEmpty, IsOrdered, IsRisingNumbers}
use Rattle.engine_reuse.specs.Numbers.{is_among}
use Rattle.engine_reuse.specs.Dead.{DeadBlocks, AreSound, dead_blocks}
use Rattle.engine_reuse.specs.Calls.{with_bitmap}
use Rattle.engine_blocks.specs.Running.{Spare}
use Rattle.engine_books.specs.Books.{TransactionBooks, bit_now}
use Rattle.engine_books.specs.Kept.{AreKept, BitsAgree}
use Rattle.engine_books.specs.Point.{BeganAt, HasBitmap}
use Rattle.engine_books.specs.Sealing.{nothing_spare}
use Rattle.engine_books.proofs.Counts.{few_from}

-- no puts and no numbers are in order
no_puts : IsRising []
no_puts i k p q lt is at = absurd (none-some p is)

pub empty_ordered : (c : Changes) → IsEmpty c → IsOrdered c.paid c.laid
empty_ordered c e = subst (λ (l : List Put). IsOrdered c.paid l) (sym e.laid) (subst (λ (l : List Put). IsOrdered l []) (sym e.paid) (record { paid = no_puts; laid = no_puts; apart = λ k p is. absurd (none-some p is) }))

pub empty_rising : (c : Changes) → IsEmpty c → IsRisingNumbers c.taken
empty_rising c e = subst (λ (l : List ℕ). IsRisingNumbers l) (sym e.taken) (λ i k m n lt is at. absurd (none-some m is))

not_paid : (c : Changes) (b : ℕ) → IsEmpty c → put_of b c.paid ≡ None
not_paid c b e = ap (put_of b) e.paid

not_laid : (c : Changes) (b : ℕ) → IsEmpty c → put_of b c.laid ≡ None
not_laid c b e = ap (put_of b) e.laid

not_taken : (c : Changes) (b : ℕ) → IsEmpty c → is_one_of b c.taken ≡ false
not_taken c b e = ap (is_one_of b) e.taken

-- what holds of books whose transaction is empty, where the bitmap agrees with the dead blocks
pub empty_kept : (v : TransactionBooks) → IsGeometry v.geom → v.dead.geom ≡ v.geom → AreSound v.dead → BitsAgree v → IsEmpty v.changes → v.dead.held ≡ [] → v.took ≡ 0 → v.weight ≡ 0 → v.spare ≡ nothing_spare → AreKept v
empty_kept v limits geom sound bits e held took weight spare = record {
  limits = limits;
  geom = geom;
  sound = sound;
  bits = bits;
  lie = record {
    ordered = empty_ordered v.changes e;
    rising = empty_rising v.changes e;
    taken = λ b is. absurd (false≢true (sym (not_taken v.changes b e) ∙ is));
    paid_from = λ b is. absurd (false≢true (sym (ap is_some (not_paid v.changes b e)) ∙ is));
    paid_below = λ b is. absurd (false≢true (sym (ap is_some (not_paid v.changes b e)) ∙ is));
    laid = λ b is. absurd (false≢true (sym (ap is_some (not_laid v.changes b e)) ∙ is));
  };
  room = record {
    boxes = omega (arith, ap (λ (s : Spare). s.puts) spare, ap (λ (s : Spare). s.takes) spare, ap (λ (s : Spare). s.frees) spare);
    takes = omega (arith, ap (λ (s : Spare). s.takes) spare);
    frees = omega (arith, ap (λ (s : Spare). s.frees) spare);
    held = omega (arith, ap (λ (s : Spare). s.frees) spare);
  };
  freed = e.freed ∙ sym held;
  taken_few = omega (arith, ap (λ (l : List ℕ). length l) e.taken);
  took_few = omega (arith, took);
  fits = omega (arith, weight);
}

-- the bits of a map that has the bitmap
pub set_now : (v : TransactionBooks) (m : Blocks) (b : ℕ) → HasBitmap v m → b < 8192 * bitmap_blocks v.geom → is_set v.geom m b ≡ bit_now v b
set_now v m b has low = ap (λ x. bit_at (slice_index x (b % 8192 / 8)) (b % 8) == 1) (has (b / 8192) (omega (arith, low)))

-- an empty transaction began at each map that has the bitmap
pub empty_began : (v : TransactionBooks) (m : Blocks) → IsEmpty v.changes → ((b : ℕ) → is_one_of b v.changes.taken ≡ true → ⊥) → HasBitmap v m → BeganAt v m
empty_began v m e none has = record {
  bitmap = λ k low. ap₂ (λ x y. otherwise (or_else x y) (m (bitmap_start v.geom + k))) (not_laid v.changes (bitmap_start v.geom + k) e) (not_paid v.changes (bitmap_start v.geom + k) e) ∙ has k low;
  was_dead = λ b is. absurd (none b is);
  took = λ b low is out. absurd (false≢true (sym out ∙ set_now v m b has low ∙ is));
  killed = λ b low is set. absurd (false≢true (sym is ∙ sym (set_now v m b has low) ∙ set));
  marked = λ b from is. absurd (false≢true (sym (ap₂ (λ x y. is_some (or_else x y)) (not_laid v.changes b e) (not_paid v.changes b e)) ∙ is));
  whole = λ b bytes is. absurd (none-some bytes (sym (ap₂ or_else (not_laid v.changes b e) (not_paid v.changes b e)) ∙ is));
}

pub none_taken : (c : Changes) → IsEmpty c → (b : ℕ) → is_one_of b c.taken ≡ true → ⊥
none_taken c e b is = false≢true (sym (not_taken c b e) ∙ is)

-- The books of a mounted disk.

abbrev pub BeginsLaw : Type 0
BeginsLaw = (g : Geometry) (m : Blocks) (b : ℕ) → LiesIn g Data b → is_among b (dead_blocks (with_bitmap g m)) ≡ not (bit_in m b)

abbrev pub mounted_books : Geometry → List (List ℕ) → Changes → DeadBlocks → ℕ → TransactionBooks
mounted_books g bitmap c dead live = record { geom = g; bitmap = bitmap; changes = c; dead = dead; weight = 0; took = 0; live = live; spare = nothing_spare }

pub few_free : (g : Geometry) (m : Blocks) → length (free_blocks g m) ≤ g.n - data_start g
few_free g m = few_from (λ b. not (bit_in m b)) (data_start g) (g.n - data_start g)

pub mounted_kept : BeginsLaw → (g : Geometry) (bitmap : List (List ℕ)) (c : Changes) (dead : DeadBlocks) (live : ℕ) → IsGeometry g → length bitmap ≡ bitmap_blocks g → ((b : ℕ) → is_bad_bit g (blocks_of bitmap) b ≡ false)
    → dead ≡ with_bitmap g (blocks_of bitmap) → AreSound dead → IsEmpty c → live ≡ g.n - data_start g - length dead.reusable → AreKept (mounted_books g bitmap c dead live)
mounted_kept law g bitmap c dead live limits size others d sound e count =
    empty_kept (mounted_books g bitmap c dead live) limits (ap (λ (x : DeadBlocks). x.geom) d) sound (record {
      size = size;
      others = others;
      same = λ b lie. twice (bit_in (blocks_of bitmap) b) ∙ sym (ap not (ap (λ (x : DeadBlocks). is_among b (dead_blocks x)) d ∙ law g (blocks_of bitmap) b lie));
      counted = omega (arith, count, ap (λ (x : DeadBlocks). length x.reusable) d, few_free g (blocks_of bitmap));
    }) e (ap (λ (x : DeadBlocks). x.held) d) refl refl refl
  where
    twice : (u : Bool) → u ≡ not (not u)
    twice true = refl
    twice false = refl
