-- The books are sound: their numbers, and what a commit would have.
use Rattle.std.proofs.Common.{◌≡◌, ℕ, ◌+◌, ◌-◌, ◌<◌, ◌≤◌, nat_lt, Bool, true, false, not, ◌&&◌, List, length, is_some, refl, sym, ap, subst, ◌∙◌, arith}
use Rattle.std.proofs.lemmas.Bool.{lt-ltb}
use Rattle.std.proofs.Math.Bool.{and-false}
use Rattle.base_types.specs.Seal.{Blocks}
use Rattle.layout_geometry.specs.Geometry.{Geometry, LiesIn, bitmap_start, data_start}
use Rattle.layout_geometry.specs.Geometry.Area.{Data}
use Rattle.layout_bytes.specs.Bitmap.{is_set}
use Rattle.crash_argument.specs.HomeTest.{is_one_of}
use Rattle.engine_reuse.specs.Numbers.{is_among}
use Rattle.engine_reuse.specs.Dead.{dead_blocks, data_blocks_that}
use Rattle.engine_blocks.specs.Running.{is_payload, is_fresh, is_bare, payloads, fresh_blocks}
use Rattle.engine_blocks.specs.Ranges.{parts_from, fewer_from}
use Rattle.engine_blocks.specs.State.{Bookkeeping, live_blocks, reusable_blocks}
use Rattle.engine_blocks.specs.Calls.{IsSound}
use Rattle.engine_books.specs.Books.{TransactionBooks, has_put, bit_now, is_taken_now, role_by, roles_of, running_of, is_marked, with_books, map_of}
use Rattle.engine_books.specs.Kept.{AreKept}
use Rattle.engine_books.specs.Point.{BeganAt, HasBitmap}
use Rattle.engine_books.proofs.Tests.{and_first}
use Rattle.engine_books.proofs.Rows.{not_in_both}
use Rattle.engine_books.proofs.Numbers.{one_is_any}
use Rattle.engine_books.proofs.Counts.{as_many, few_from, row_counted, list_counted}
use Rattle.engine_books.proofs.Members.{among_first, among_last}
use Rattle.engine_books.proofs.Maps.{table_defined, map_there, map_bit}
use Rattle.engine_books.proofs.Taken.{AccountsLaw}

-- How many data blocks are live.
pub live_is : (k : Bookkeeping) (v : TransactionBooks) → AreKept v → v.live ≡ length (live_blocks (with_books k v))
live_is k v kept = omega (
  arith,
  kept.bits.counted,
  parts_from (bit_now v) (data_start v.geom) (v.geom.n - data_start v.geom),
  as_many (is_marked v) (bit_now v) (data_start v.geom) (v.geom.n - data_start v.geom) (λ b low high. ap (λ u. u && bit_now v b) (lt-ltb b v.geom.n (omega (arith, low, high)))),
)

-- What a commit has.

payload_is : (l p t : Bool) → (l ≡ true → p ≡ false) → is_payload (role_by l p t) ≡ p
payload_is l p t e = grind (arith, e)

fresh_is : (l p t : Bool) → is_fresh (role_by l p t) ≡ l
fresh_is l p t = grind arith

pub laid_lies : (v : TransactionBooks) (b : ℕ) → AreKept v → has_put b v.changes.laid ≡ true → LiesIn v.geom Data b
laid_lies v b k is = k.lie.taken b (and_first (is_one_of b v.changes.taken) (bit_now v b) (k.lie.laid b is))

pub payloads_are : (v : TransactionBooks) → AreKept v → payloads v.geom (running_of v) ≡ length v.changes.paid
payloads_are v k =
    as_many (λ b. is_payload (roles_of v b)) (λ b. has_put b v.changes.paid) 0 v.geom.n (λ b low high. payload_is (has_put b v.changes.laid) (has_put b v.changes.paid) (is_taken_now v b) (λ is. ap is_some (not_in_both v.changes.paid v.changes.laid b k.lie.ordered is)))
    ∙ row_counted v.changes.paid v.geom.n k.lie.ordered.paid k.lie.paid_below

pub fresh_are : (v : TransactionBooks) → AreKept v → fresh_blocks v.geom (running_of v) ≡ length v.changes.laid
fresh_are v k =
    as_many (λ b. is_fresh (roles_of v b)) (λ b. has_put b v.changes.laid) 0 v.geom.n (λ b low high. fresh_is (has_put b v.changes.laid) (has_put b v.changes.paid) (is_taken_now v b))
    ∙ row_counted v.changes.laid v.geom.n k.lie.ordered.laid (λ b is. (laid_lies v b k is).below)

pub few_puts : (v : TransactionBooks) → AreKept v → length v.changes.paid + length v.changes.laid ≤ 2097152
few_puts v k = omega (arith, payloads_are v k, fresh_are v k, few_from (λ b. is_payload (roles_of v b)) 0 v.geom.n, few_from (λ b. is_fresh (roles_of v b)) 0 v.geom.n, k.limits.most_blocks)

took_them : (v : TransactionBooks) → AreKept v → fresh_blocks v.geom (running_of v) ≤ v.took
took_them v k = omega (
  arith,
  k.taken_few,
  list_counted v.changes.taken 0 v.geom.n,
  fewer_from (λ b. is_one_of b v.changes.taken) (λ b. is_fresh (roles_of v b)) 0 v.geom.n (λ b low is.
      and_first (is_one_of b v.changes.taken) (bit_now v b) (k.lie.laid b (sym (fresh_is (has_put b v.changes.laid) (has_put b v.changes.paid) (is_taken_now v b)) ∙ is))),
)

-- The whole bookkeeping.
pub books_sound : AccountsLaw → (k : Bookkeeping) (v : TransactionBooks) → AreKept v → k.floor ≤ k.point → k.free_places ≤ v.geom.j → IsSound (with_books k v)
books_sound law k v kept floor places = record {
  accounts = omega (arith, accounts, live_is k v kept, count, reusable, same_count, live_same);
  area = refl;
  unmarked = λ b r. ap (λ u. nat_lt b v.geom.n && u) (kept.bits.same b (record { from = r.from; below = r.below }) ∙ ap not (among_first b v.dead.reusable _ r.free)) ∙ and-false (nat_lt b v.geom.n);
  fits = kept.fits;
  room = refl;
  took = took_them v kept;
  floor = floor;
  free_places = places;
}
  where
    accounts : length v.dead.reusable + length (data_blocks_that v.dead.geom (bit_now v)) + length v.dead.held + length v.dead.waiting ≡ v.dead.geom.n - data_start v.dead.geom
    accounts = law v.dead (bit_now v) kept.sound (λ b lie. kept.bits.same b (subst (λ (g : Geometry). LiesIn g Data b) kept.geom lie))

    count : v.dead.geom.n - data_start v.dead.geom ≡ v.geom.n - data_start v.geom
    count = ap (λ (g : Geometry). g.n - data_start g) kept.geom

    reusable : length v.dead.reusable ≡ length (reusable_blocks (with_books k v))
    reusable = ap (λ (l : List ℕ). length l) (kept.sound.ascending ∙ ap (λ (g : Geometry). data_blocks_that g (λ b. is_among b v.dead.reusable)) kept.geom)

    same_count : length (data_blocks_that v.dead.geom (bit_now v)) ≡ length (data_blocks_that v.geom (bit_now v))
    same_count = ap (λ (g : Geometry). length (data_blocks_that g (bit_now v))) kept.geom

    live_same : length (live_blocks (with_books k v)) ≡ length (data_blocks_that v.geom (bit_now v))
    live_same = as_many (is_marked v) (bit_now v) (data_start v.geom) (v.geom.n - data_start v.geom) (λ b low high. ap (λ u. u && bit_now v b) (lt-ltb b v.geom.n (omega (arith, low, high))))

-- The blocks freed, and the blocks that a commit writes in place.

pub freed_clear : (v : TransactionBooks) (b : ℕ) → AreKept v → is_one_of b v.changes.freed ≡ true → LiesIn v.geom Data b × (bit_now v b ≡ false)
freed_clear v b k is =
    let dead : is_among b (dead_blocks v.dead) ≡ true = among_last b v.dead.reusable _ (among_first b v.dead.held _ (sym (one_is_any b v.dead.held) ∙ ap (is_one_of b) (sym k.freed) ∙ is)) in
    let lie = subst (λ (g : Geometry). LiesIn g Data b) k.geom (k.sound.lie b dead) in
    (lie, k.bits.same b lie ∙ ap not dead)

-- The map.

pub told_bit : (v : TransactionBooks) (last : Blocks) (b : ℕ) → BeganAt v last → b < v.geom.n → is_marked v b ≡ is_set v.geom (map_of v last) b
told_bit v last b began low = ap (λ u. u && bit_now v b) (lt-ltb b v.geom.n low) ∙ sym (map_bit v last b began (omega (arith, low)))

pub map_bitmap : (v : TransactionBooks) (last : Blocks) → BeganAt v last → HasBitmap v (map_of v last)
map_bitmap v last began k low =
    map_there v last (bitmap_start v.geom + k) (table_defined v.geom (is_marked v (bitmap_start v.geom + k)) (is_bare (roles_of v (bitmap_start v.geom + k))) (bitmap_start v.geom + k) (omega arith) (omega (arith, low)))
    ∙ began.bitmap k low
