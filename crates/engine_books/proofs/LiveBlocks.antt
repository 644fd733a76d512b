-- The map by the books needs only the live blocks of the map at which the transaction began.
use Rattle.std.proofs.Common.{◌≡◌, ⊎_elim, ℕ, ◌+◌, ◌*◌, ◌/◌, ◌%◌, ◌<◌, ◌≤◌, ◌==◌, nat_lt, nat_le, slice_index, Bool, true, false, not, ◌||◌, ◌&&◌, List, Option, None, is_some, sym, ap, ◌∙◌, arith}
use Rattle.std.proofs.lemmas.Bool.{cases_lt, cases_Bool, leb-true, ltb-true, le-ltb, both_ways, not-true}
use Rattle.std.specs.Int.{bit_at}
use mathlib.Core.Path.{fun_ext}
use Rattle.base_types.specs.Seal.{Blocks}
use Rattle.layout_geometry.specs.Geometry.{bitmap_start, bitmap_blocks, data_start}
use Rattle.layout_bytes.specs.Bitmap.{is_set}
use Rattle.layout_journal.specs.Run.{is_live, otherwise, or_else}
use Rattle.crash_argument.specs.HomeTest.{is_one_of}
use Rattle.engine_running.specs.Rows.{put_of}
use Rattle.engine_running.specs.Running.{bytes_put}
use Rattle.engine_blocks.specs.Running.{is_bare}
use Rattle.engine_blocks.specs.State.{defined_by}
use Rattle.engine_books.specs.Books.{TransactionBooks, bit_now, is_marked, role_by, roles_of, map_of}
use Rattle.engine_books.specs.Kept.{AreKept}
use Rattle.engine_books.specs.Point.{BeganAt, HasSameLive}
use Rattle.engine_books.proofs.Tests.{and_first, and_last}
use Rattle.engine_books.proofs.NextRows.{both}
use Rattle.engine_books.proofs.NextMap.{live_by}
use Rattle.engine_books.proofs.Maps.{map_there, map_nowhere}

-- what lies between the journal and the data is live
early_live : (v : TransactionBooks) (m : Blocks) (b : ℕ) → AreKept v → bitmap_start v.geom ≤ b → b < data_start v.geom → is_live v.geom m b ≡ true
early_live v m b k from early = live_by v.geom m b from (omega (arith, early, k.limits.data_room)) (λ late. absurd (omega (arith, early, late)))

-- two maps with the same live blocks have the same bits
same_bit : (v : TransactionBooks) (last next : Blocks) (b : ℕ) → AreKept v → HasSameLive v last next → b < 8192 * bitmap_blocks v.geom → is_set v.geom next b ≡ is_set v.geom last b
same_bit v last next b k same low = ap (λ x. bit_at (slice_index x (b % 8192 / 8)) (b % 8) == 1) (same (bitmap_start v.geom + b / 8192) (early_live v last (bitmap_start v.geom + b / 8192) k (omega arith) (omega (arith, low))))

-- so the same blocks are live in both
pub same_live : (v : TransactionBooks) (last next : Blocks) (b : ℕ) → AreKept v → HasSameLive v last next → is_live v.geom next b ≡ is_live v.geom last b
same_live v last next b k same = ⊎_elim
    (λ below. ap (λ t. nat_le (bitmap_start v.geom) b && (nat_lt b v.geom.n && (nat_lt b (data_start v.geom) || t))) (same_bit v last next b k same (omega (arith, below))))
    (λ above. nowhere next above ∙ sym (nowhere last above))
    (cases_lt b v.geom.n)
  where
    nowhere : (m : Blocks) → v.geom.n ≤ b → is_live v.geom m b ≡ (nat_le (bitmap_start v.geom) b && false)
    nowhere m above = ap (λ x. nat_le (bitmap_start v.geom) b && (x && (nat_lt b (data_start v.geom) || is_set v.geom m b))) (le-ltb b v.geom.n above)

-- bytes over one map and another, where they are the same if nothing was put
by_put : (o : Option (List ℕ)) (x y : List ℕ) → (o ≡ None → x ≡ y) → otherwise o x ≡ otherwise o y
by_put o x y same = grind (arith, same)

-- a block that was put in neither row and is taken is bare
bare_of : (laid paid : Option (List ℕ)) (taken : Bool) → or_else laid paid ≡ None → taken ≡ true → is_bare (role_by (is_some laid) (is_some paid) taken) ≡ true
bare_of laid paid taken none is = grind (arith, none, is)

-- where the map is defined and nothing was put, the block is live in the map at which the transaction began
pub unput_live : (v : TransactionBooks) (last : Blocks) (b : ℕ) → AreKept v → BeganAt v last → defined_by v.geom (is_marked v b) (is_bare (roles_of v b)) b ≡ true → bytes_put v.changes b ≡ None → is_live v.geom last b ≡ true
unput_live v last b k began is none = ⊎_elim (λ early. early_live v last b k from early) late_live (cases_lt b (data_start v.geom))
  where
    from : bitmap_start v.geom ≤ b
    from = leb-true (bitmap_start v.geom) b (and_first (nat_le (bitmap_start v.geom) b) _ is)

    late_live : data_start v.geom ≤ b → is_live v.geom last b ≡ true
    late_live late =
        let there : (nat_lt b v.geom.n && (is_marked v b && not (is_bare (roles_of v b)))) ≡ true = sym (ap (λ u. u || (nat_lt b v.geom.n && (is_marked v b && not (is_bare (roles_of v b))))) (le-ltb b (data_start v.geom) late)) ∙ and_last (nat_le (bitmap_start v.geom) b) _ is in
        let below : b < v.geom.n = ltb-true b v.geom.n (and_first (nat_lt b v.geom.n) _ there) in
        let marked : is_marked v b ≡ true = and_first (is_marked v b) _ (and_last (nat_lt b v.geom.n) _ there) in
        let filled : not (is_bare (roles_of v b)) ≡ true = and_last (is_marked v b) _ (and_last (nat_lt b v.geom.n) _ there) in
        let set : bit_now v b ≡ true = and_last (nat_lt b v.geom.n) _ marked in
        live_by v.geom last b from below (λ _. ⊎_elim (λ was. was)
        (λ wasnt. absurd (both_ways (is_bare (roles_of v b)) (not-true (is_bare (roles_of v b)) filled) (bare_of (put_of b v.changes.laid) (put_of b v.changes.paid) (is_one_of b v.changes.taken && bit_now v b) none (both (began.took b (omega (arith, below)) set wasnt) set))))
        (cases_Bool (is_set v.geom last b)))

-- the map by the books over one map and another with its live blocks
pub same_map : (v : TransactionBooks) (last next : Blocks) → AreKept v → BeganAt v last → HasSameLive v last next → map_of v next ≡ map_of v last
same_map v last next k began same = fun_ext (λ b. ⊎_elim
    (λ is. map_there v next b is ∙ by_put (bytes_put v.changes b) (next b) (last b) (λ none. same b (unput_live v last b k began is none)) ∙ sym (map_there v last b is))
    (λ out. map_nowhere v next b out ∙ sym (map_nowhere v last b out))
    (cases_Bool (defined_by v.geom (is_marked v b) (is_bare (roles_of v b)) b)))

-- the transaction began at both
pub same_began : (v : TransactionBooks) (last next : Blocks) → AreKept v → BeganAt v last → HasSameLive v last next → BeganAt v next
same_began v last next k began same = record {
  bitmap = λ i low. by_put (bytes_put v.changes (bitmap_start v.geom + i)) (next (bitmap_start v.geom + i)) (last (bitmap_start v.geom + i)) (λ none. same (bitmap_start v.geom + i) (early_live v last (bitmap_start v.geom + i) k (omega arith) (omega (arith, low)))) ∙ began.bitmap i low;
  was_dead = λ b is. same_bit v last next b k same (omega (arith, (k.lie.taken b is).below)) ∙ began.was_dead b is;
  took = λ b low set out. began.took b low set (sym (same_bit v last next b k same low) ∙ out);
  killed = λ b low clear was. began.killed b low clear (sym (same_bit v last next b k same low) ∙ was);
  marked = began.marked;
  whole = began.whole;
}
