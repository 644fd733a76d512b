-- The map now, where a transaction put something and where it didn't, and which blocks are live in it.
use Rattle.std.proofs.Common.{◌≡◌, ℕ, ◌+◌, ◌<◌, ◌≤◌, nat_le, nat_lt, Bool, true, false, ◌||◌, List, [], ◌∷◌, length, slice_get, Option, Some, is_some, refl, sym, ap, ap₂, ◌∙◌, arith, inl, inr}
use Rattle.std.proofs.lemmas.Bool.{cases_lt, le-leb, lt-ltb, le-ltb, leb-true, ltb-true, false≢true, true_from_ne_false, false_from_ne_true}
use Rattle.base_types.specs.Seal.{Blocks}
use Rattle.layout_geometry.specs.Geometry.{Geometry, bitmap_start, data_start}
use Rattle.layout_bytes.specs.Bitmap.{is_set}
use Rattle.layout_journal.specs.Run.{is_live, or_else, otherwise}
use Rattle.crash_argument.specs.HomeTest.{is_one_of}
use Rattle.engine_running.specs.declared.put.Put.{Put}
use Rattle.engine_running.specs.Rows.{put_of}
use Rattle.engine_running.specs.Running.{bytes_put}
use Rattle.engine_blocks.specs.Running.{is_bare, HasNoBare}
use Rattle.engine_books.specs.Books.{TransactionBooks, bit_now, has_put, is_taken_now, is_marked, role_by, roles_of, running_of, bytes_over, map_of}
use Rattle.engine_books.specs.Kept.{AreKept}
use Rattle.engine_books.specs.Point.{BeganAt, HasBitmap}
use Rattle.engine_books.proofs.Tests.{and_first, and_last}
use Rattle.engine_books.proofs.Rows.{none_put}
use Rattle.engine_books.proofs.Maps.{table_defined, data_defined, map_there, map_bit}
use Rattle.engine_books.proofs.Sound.{laid_lies, freed_clear}
use Rattle.engine_books.proofs.Begun.{set_now}
use Rattle.engine_books.proofs.NextRows.{both, put_at, has_it}

-- a block of the bitmap, of the node table, or a data block whose bit is set now
pub record IsLiveNow (v : TransactionBooks) (b : ℕ) : Type 0 where
  pub from : bitmap_start v.geom ≤ b
  pub below : b < v.geom.n
  pub set : data_start v.geom ≤ b → bit_now v b ≡ true

-- what is live, by facts
pub live_by : (g : Geometry) (m : Blocks) (b : ℕ) → bitmap_start g ≤ b → b < g.n → (data_start g ≤ b → is_set g m b ≡ true) → is_live g m b ≡ true
live_by g m b from below set = both (le-leb (bitmap_start g) b from) (both (lt-ltb b g.n below) (elim (cases_lt b (data_start g)) [
  | inl early ↦ ap (λ u. u || is_set g m b) (lt-ltb b (data_start g) early)
  | inr late ↦ ap₂ (λ u w. u || w) (le-ltb b (data_start g) late) (set late)
]))

pub live_from : (g : Geometry) (m : Blocks) (b : ℕ) → is_live g m b ≡ true → bitmap_start g ≤ b
live_from g m b is = leb-true (bitmap_start g) b (and_first (nat_le (bitmap_start g) b) _ is)

pub live_below : (g : Geometry) (m : Blocks) (b : ℕ) → is_live g m b ≡ true → b < g.n
live_below g m b is = ltb-true b g.n (and_first (nat_lt b g.n) _ (and_last (nat_le (bitmap_start g) b) _ is))

pub live_set : (g : Geometry) (m : Blocks) (b : ℕ) → is_live g m b ≡ true → data_start g ≤ b → is_set g m b ≡ true
live_set g m b is late = sym (ap (λ u. u || is_set g m b) (le-ltb b (data_start g) late)) ∙ and_last (nat_lt b g.n) _ (and_last (nat_le (bitmap_start g) b) _ is)

-- live now is live in the map now
pub live_there : (v : TransactionBooks) (last : Blocks) (b : ℕ) → BeganAt v last → IsLiveNow v b → is_live v.geom (map_of v last) b ≡ true
live_there v last b began l = live_by v.geom (map_of v last) b l.from l.below (λ late. map_bit v last b began (omega (arith, l.below)) ∙ l.set late)

pub live_now : (v : TransactionBooks) (last : Blocks) (b : ℕ) → BeganAt v last → is_live v.geom (map_of v last) b ≡ true → IsLiveNow v b
live_now v last b began is = record {
  from = live_from v.geom (map_of v last) b is;
  below = live_below v.geom (map_of v last) b is;
  set = λ late. sym (map_bit v last b began (omega (arith, live_below v.geom (map_of v last) b is))) ∙ live_set v.geom (map_of v last) b is late;
}

-- the map has bytes there, where nothing is bare
pub live_bytes : (v : TransactionBooks) (last : Blocks) (b : ℕ) → HasNoBare (running_of v) → IsLiveNow v b → map_of v last b ≡ bytes_over v.changes last b
live_bytes v last b filled l = map_there v last b (elim (cases_lt b (data_start v.geom)) [
  | inl early ↦ table_defined v.geom (is_marked v b) (is_bare (roles_of v b)) b l.from early
  | inr late ↦ data_defined v.geom (is_marked v b) (is_bare (roles_of v b)) b late l.below (both (lt-ltb b v.geom.n l.below) (l.set late)) (filled b)
])

-- The puts.

pub laid_live : (v : TransactionBooks) (b : ℕ) → AreKept v → has_put b v.changes.laid ≡ true → IsLiveNow v b
laid_live v b kept is = record {
  from = let lie = laid_lies v b kept is in omega (arith, lie.from);
  below = (laid_lies v b kept is).below;
  set = λ late. and_last (is_one_of b v.changes.taken) (bit_now v b) (kept.lie.laid b is);
}

pub laid_taken : (v : TransactionBooks) (b : ℕ) → AreKept v → has_put b v.changes.laid ≡ true → is_one_of b v.changes.taken ≡ true
laid_taken v b kept is = and_first (is_one_of b v.changes.taken) (bit_now v b) (kept.lie.laid b is)

-- the puts that are written in place have their bytes in the map, and so have the others
pub laid_bytes : (v : TransactionBooks) (k : ℕ) (p : Put) → AreKept v → slice_get v.changes.laid k ≡ Some p → bytes_put v.changes p.block ≡ Some p.bytes
laid_bytes v k p kept is = ap (λ o. or_else o (put_of p.block v.changes.paid)) (put_at v.changes.laid kept.lie.ordered.laid k p is)

pub paid_bytes : (v : TransactionBooks) (k : ℕ) (p : Put) → AreKept v → slice_get v.changes.paid k ≡ Some p → bytes_put v.changes p.block ≡ Some p.bytes
paid_bytes v k p kept is = ap₂ or_else (none_put p.block v.changes.laid (λ i q at e. kept.lie.ordered.apart i q at k p is (sym e))) (put_at v.changes.paid kept.lie.ordered.paid k p is)

pub paid_live : (v : TransactionBooks) (last : Blocks) (k : ℕ) (p : Put) → AreKept v → BeganAt v last → slice_get v.changes.paid k ≡ Some p → IsLiveNow v p.block
paid_live v last k p kept began is = record {
  from = kept.lie.paid_from p.block (has_it v.changes.paid kept.lie.ordered.paid k p is);
  below = kept.lie.paid_below p.block (has_it v.changes.paid kept.lie.ordered.paid k p is);
  set = λ late. began.marked p.block late (ap is_some (paid_bytes v k p kept is));
}

pub put_in : (v : TransactionBooks) (last : Blocks) (p : Put) → HasNoBare (running_of v) → IsLiveNow v p.block → bytes_put v.changes p.block ≡ Some p.bytes → map_of v last p.block ≡ p.bytes
put_in v last p filled l bytes = live_bytes v last p.block filled l ∙ ap (λ o. otherwise o (last p.block)) bytes

-- What wasn't put.

unput : (v : TransactionBooks) (last : Blocks) (b : ℕ) → has_put b v.changes.laid ≡ false → has_put b v.changes.paid ≡ false → bytes_over v.changes last b ≡ last b
unput v last b e f = by (put_of b v.changes.laid) (put_of b v.changes.paid) e f
  where
    by : (x y : Option (List ℕ)) → is_some x ≡ false → is_some y ≡ false → otherwise (or_else x y) (last b) ≡ last b
    by x y e f = grind (arith, e, f)

not_taken : (v : TransactionBooks) (b : ℕ) → HasNoBare (running_of v) → has_put b v.changes.laid ≡ false → has_put b v.changes.paid ≡ false → is_taken_now v b ≡ false
not_taken v b filled e f = by (has_put b v.changes.laid) (has_put b v.changes.paid) (is_taken_now v b) e f (filled b)
  where
    by : (l p t : Bool) → l ≡ false → p ≡ false → is_bare (role_by l p t) ≡ false → t ≡ false
    by l p t e f bare = grind (arith, e, f, bare)

pub unput_set : (v : TransactionBooks) (last : Blocks) (b : ℕ) → BeganAt v last → HasNoBare (running_of v) → IsLiveNow v b → data_start v.geom ≤ b → has_put b v.changes.laid ≡ false → has_put b v.changes.paid ≡ false → is_set v.geom last b ≡ true
unput_set v last b began filled l late e f =
    true_from_ne_false (is_set v.geom last b) (λ out. false≢true (sym (not_taken v b filled e f) ∙ both (began.took b (omega (arith, l.below)) (l.set late) out) (l.set late)))

-- a block that lives and wasn't put lived before, and has the bytes of the last point
pub unput_same : (v : TransactionBooks) (last : Blocks) (b : ℕ) → BeganAt v last → HasNoBare (running_of v) → has_put b v.changes.paid ≡ false → has_put b v.changes.laid ≡ false → is_live v.geom (map_of v last) b ≡ true
    → (is_live v.geom last b ≡ true) × (map_of v last b ≡ last b)
unput_same v last b began filled paid laid is =
    let l = live_now v last b began is in
    (live_by v.geom last b l.from l.below (λ late. unput_set v last b began filled l late laid paid), live_bytes v last b filled l ∙ unput v last b laid paid)

-- The blocks freed.

pub killed_freed : (v : TransactionBooks) (last : Blocks) (b : ℕ) → BeganAt v last → data_start v.geom ≤ b → is_live v.geom last b ≡ true → is_live v.geom (map_of v last) b ≡ false → is_one_of b v.changes.freed ≡ true
killed_freed v last b began late is out = began.killed b (omega (arith, live_below v.geom last b is)) (false_from_ne_true (bit_now v b) (λ set. false≢true (sym out ∙ live_there v last b began (record { from = live_from v.geom last b is; below = live_below v.geom last b is; set = λ x. set })))) (live_set v.geom last b is late)

pub freed_dead : (v : TransactionBooks) (last : Blocks) (b : ℕ) → AreKept v → BeganAt v last → is_one_of b v.changes.freed ≡ true → is_live v.geom (map_of v last) b ≡ false
freed_dead v last b kept began is =
    let clear = freed_clear v b kept is in
    false_from_ne_true (is_live v.geom (map_of v last) b) (λ live. false≢true (sym clear.1 ∙ (live_now v last b began live).set clear.0.from))

-- Something is a payload where something is written in place: the block of the bitmap that has its bit.

-- without payloads the last point has the bitmap of now
bitmap_stays : (v : TransactionBooks) (last : Blocks) → AreKept v → BeganAt v last → v.changes.paid ≡ [] → HasBitmap v last
bitmap_stays v last kept began none k low =
    sym (unput v last (bitmap_start v.geom + k) (false_from_ne_true (has_put (bitmap_start v.geom + k) v.changes.laid) (λ is. omega (arith, low, (laid_lies v (bitmap_start v.geom + k) kept is).from))) (ap (λ row. has_put (bitmap_start v.geom + k) row) none))
    ∙ began.bitmap k low

first_put : (row : List Put) → 0 < length row → (p : Put) × (slice_get row 0 ≡ Some p)
first_put [] some = absurd (omega (arith, some))
first_put (q ∷ qs) some = (q, refl)

pub some_paid : (v : TransactionBooks) (last : Blocks) → AreKept v → BeganAt v last → 0 < length v.changes.laid → 0 < length v.changes.paid
some_paid v last kept began some = by v.changes.paid refl (first_put v.changes.laid some)
  where
    by : (row : List Put) → v.changes.paid ≡ row → ((p : Put) × (slice_get v.changes.laid 0 ≡ Some p)) → 0 < length v.changes.paid
    by [] e (p, is) =
        let put = has_it v.changes.laid kept.lie.ordered.laid 0 p is in
        let l = laid_live v p.block kept put in
        absurd (false≢true (sym (began.was_dead p.block (laid_taken v p.block kept put)) ∙ set_now v last p.block (bitmap_stays v last kept began e) (omega (arith, l.below)) ∙ l.set (laid_lies v p.block kept put).from))
    by (q ∷ qs) e first = omega (arith, ap length e)
