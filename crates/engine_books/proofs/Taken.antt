-- The books once all blocks of a list are taken.
use Rattle.std.proofs.Common.{◌≡◌, ℕ, ◌+◌, ◌-◌, ◌*◌, ◌<◌, ◌≤◌, ◌==◌, nat_lt, Bool, true, false, not, ◌||◌, ◌&&◌, cond, List, [], length, get_or, take, Option, Some, None, is_some, All, refl, sym, ap, ap₂, subst, ◌∙◌, arith, ◌⊎◌, inl, inr}
use Rattle.std.proofs.lemmas.Bool.{cases_Bool, cond-true, lt-ltb, false≢true, eqb-true, or_parts, false_from_ne_true}
use Rattle.std.proofs.lemmas.List.{take_more, length-take-le, take_all}
use Rattle.std.proofs.lemmas.Option.{same_Some, none-some}
use Rattle.std.proofs.lemmas.Map.Views.{any-filter_same}
use mathlib.Core.Path.{fun_ext}
use Rattle.base_types.specs.Seal.{Blocks, blocks_of}
use Rattle.layout_geometry.specs.Geometry.{Geometry, LiesIn, bitmap_start, bitmap_blocks, data_start}
use Rattle.layout_geometry.specs.Geometry.Area.{Data}
use Rattle.layout_bytes.specs.Bitmap.{is_set}
use Rattle.layout_journal.specs.Run.{or_else, otherwise}
use Rattle.crash_argument.specs.HomeTest.{is_one_of}
use Rattle.engine_running.specs.Rows.{put_of}
use Rattle.engine_running.specs.Running.{Changes, IsOrdered, IsRisingNumbers, bytes_put}
use Rattle.engine_reuse.specs.Numbers.{is_among}
use Rattle.engine_reuse.specs.Dead.{DeadBlocks, AreSound, IsReusable, dead_blocks, data_blocks_that}
use Rattle.engine_reuse.specs.Calls.{with_taken}
use Rattle.engine_blocks.specs.declared.role.Role.TheVariants.{Changed, Bare}
use Rattle.engine_blocks.specs.Running.{has, has_bit, is_bare, with_takes}
use Rattle.engine_blocks.specs.State.{Bookkeeping, MayBeTaken, IsReusable as MayTake, after_take, defined_by}
use Rattle.engine_blocks.specs.Calls.{IsWithTaken}
use Rattle.engine_books.specs.Books.{TransactionBooks, has_put, bit_now, is_taken_now, role_by, roles_of, is_marked, is_free_now, with_books, bytes_over, map_of}
use Rattle.engine_books.specs.Kept.{AreKept, BitsAgree, ChangesLie}
use Rattle.engine_books.specs.Point.{BeganAt}
use Rattle.engine_books.specs.Taking.{HasTaken, TakesOne}
use Rattle.engine_books.proofs.Tests.{and_first}
use Rattle.engine_books.proofs.Numbers.{one_is_any, any_is_has, among, bit_of_one, not_before}
use Rattle.std.proofs.lemmas.List.Elements.{All-take}
use Rattle.std.proofs.Math.Bool.{and-false}
use Rattle.engine_books.proofs.Takes.{more_taken_books}
use Rattle.engine_books.proofs.Members.{among_first, still_good}
use Rattle.engine_books.proofs.Maps.{data_undefined, same_bytes, map_nowhere, map_bit}

-- the books with the dead blocks and the counts told
abbrev pub taken_books : TransactionBooks → List (List ℕ) → Changes → List ℕ → TransactionBooks
taken_books v bitmap c bs = record v { bitmap = bitmap; changes = c; dead = with_taken v.dead bs; live = v.live + length bs; took = v.took + length bs; spare = record v.spare { takes = v.spare.takes - length bs } }

-- laws of the dead blocks
abbrev pub TakenLaw : Type 0
TakenLaw = (v : DeadBlocks) (bs : List ℕ) (c : ℕ) → AreSound v → All (IsReusable v) bs → is_among c (dead_blocks (with_taken v bs)) ≡ (not (is_among c bs) && is_among c (dead_blocks v))

abbrev pub HeldLaw : Type 0
HeldLaw = (v : DeadBlocks) (b : ℕ) → AreSound v → is_among b v.held ≡ true → is_among b v.reusable ≡ false

abbrev pub AccountsLaw : Type 0
AccountsLaw = (v : DeadBlocks) (live : ℕ → Bool) → AreSound v → ((b : ℕ) → LiesIn v.geom Data b → live b ≡ not (is_among b (dead_blocks v))) → length v.reusable + length (data_blocks_that v.geom live) + length v.held + length v.waiting ≡ v.geom.n - data_start v.geom

-- the dead blocks are none more than all
pub few_held : AccountsLaw → (v : TransactionBooks) → AreKept v → length v.dead.held ≤ v.geom.n
few_held law v k = omega (arith, ap (λ (g : Geometry). g.n - data_start g) k.geom, law v.dead (bit_now v) k.sound (λ b lie. k.bits.same b (subst (λ (g : Geometry). LiesIn g Data b) k.geom lie)))

-- the blocks may be taken as the dead blocks have it
pub all_reusable : (v : TransactionBooks) (bs : List ℕ) → v.dead.geom ≡ v.geom → MayBeTaken v.geom (is_free_now v) bs → All (IsReusable v.dead) bs
all_reusable v bs e may i d low = let one = may.each i d low in record {
  lies = subst (λ (g : Geometry). LiesIn g Data (get_or bs i d)) (sym e) (record { from = one.from; below = one.below });
  among = one.free;
}

-- the roles after blocks were taken
taken_role : (hb h t b : Bool) (x : List ℕ) (l p : Option (List ℕ)) → (hb ≡ true → h ≡ false) → (hb ≡ true → t ≡ false)
    → role_by (is_some (cond hb None (cond h None l))) (is_some (cond hb (Some x) (cond h None p))) ((h || t) && (h || b)) ≡ cond h Bare (cond hb Changed (role_by (is_some l) (is_some p) (t && b)))
taken_role hb h t b x l p e f = grind (arith, e, f)

taken_mark : (x y z : Bool) → (y ≡ true → x ≡ true) → (x && (y || z)) ≡ (y || (x && z))
taken_mark x y z e = grind (arith, e)

-- where a put is one of before
paid_where : (x y : Bool) (new : List ℕ) (o : Option (List ℕ)) → is_some (cond x (Some new) (cond y None o)) ≡ true → (x ≡ true) ⊎ ((y ≡ false) × (is_some o ≡ true))
paid_where x y new o is = grind (arith, is)

laid_where : (x y : Bool) (o : Option (List ℕ)) → is_some (cond x None (cond y None o)) ≡ true → (y ≡ false) × (is_some o ≡ true)
laid_where x y o is = grind (arith, is)

module _ (v : TransactionBooks) (bitmap : List (List ℕ)) (c : Changes) (bs : List ℕ) (k : AreKept v) (may : MayBeTaken v.geom (is_free_now v) bs) (h : HasTaken bs v (record v { bitmap = bitmap; changes = c })) where
  lies : (b : ℕ) → has bs b ≡ true → LiesIn v.geom Data b
  lies b is = let one = among (MayTake v.geom (is_free_now v)) bs may.each b is in record { from = one.from; below = one.below }

  is_free : (b : ℕ) → has bs b ≡ true → is_among b v.dead.reusable ≡ true
  is_free b is = (among (MayTake v.geom (is_free_now v)) bs may.each b is).free

  -- their bits were clear
  was_clear : (b : ℕ) → has bs b ≡ true → bit_now v b ≡ false
  was_clear b is = k.bits.same b (lies b is) ∙ ap not (among_first b v.dead.reusable _ (is_free b is))

  -- a block of the bitmap isn't one of them, and was never taken
  not_taken : (b : ℕ) → b < data_start v.geom → is_one_of b v.changes.taken ≡ false
  not_taken b low = false_from_ne_true (is_one_of b v.changes.taken) (λ is. omega (arith, low, (k.lie.taken b is).from))

  not_has : (b : ℕ) → b < data_start v.geom → has bs b ≡ false
  not_has b low = false_from_ne_true (has bs b) (λ is. omega (arith, low, (lies b is).from))

  in_bitmap : (b : ℕ) → has_bit v.geom bs b ≡ true → (bitmap_start v.geom ≤ b) × (b < bitmap_start v.geom + bitmap_blocks v.geom)
  in_bitmap b is = let r = bit_of_one v.geom bs b is in (omega (arith, r.2), omega (arith, r.2, (lies r.0 r.1).below))

  no_bits : (b : ℕ) → data_start v.geom ≤ b → has_bit v.geom bs b ≡ false
  no_bits b from = false_from_ne_true (has_bit v.geom bs b) (λ is. omega (arith, from, (in_bitmap b is).1))

  -- The bookkeeping.

  roles : (b : ℕ) → roles_of (taken_books v bitmap c bs) b ≡ with_takes v.geom (roles_of v) bs b
  roles b =
      ap₂ (λ x y. role_by (is_some x) (is_some y) (is_taken_now (taken_books v bitmap c bs) b)) (h.laid b) (h.paid b)
      ∙ ap₂ (λ x y. role_by (is_some (cond (has_bit v.geom bs b) None (cond (has bs b) None (put_of b v.changes.laid)))) (is_some (cond (has_bit v.geom bs b) (Some (blocks_of bitmap (b - bitmap_start v.geom))) (cond (has bs b) None (put_of b v.changes.paid)))) (x && y)) (h.taken b) (h.bits b)
      ∙ taken_role (has_bit v.geom bs b) (has bs b) (is_one_of b v.changes.taken) (bit_now v b) (blocks_of bitmap (b - bitmap_start v.geom)) (put_of b v.changes.laid) (put_of b v.changes.paid)
      (λ is. not_has b (omega (arith, (in_bitmap b is).1))) (λ is. not_taken b (omega (arith, (in_bitmap b is).1)))

  marks : (b : ℕ) → is_marked (taken_books v bitmap c bs) b ≡ (has bs b || is_marked v b)
  marks b = ap (λ x. nat_lt b v.geom.n && x) (h.bits b) ∙ taken_mark (nat_lt b v.geom.n) (has bs b) (bit_now v b) (λ is. lt-ltb b v.geom.n (lies b is).below)

  frees : (b : ℕ) → is_free_now (taken_books v bitmap c bs) b ≡ (not (has bs b) && is_free_now v b)
  frees b = any-filter_same (λ x. x == b) (λ x. not (is_among x bs)) (not (is_among b bs)) (λ x e. ap (λ y. not (is_among y bs)) (eqb-true x b e)) v.dead.reusable ∙ ap (λ u. not u && is_among b v.dead.reusable) (any_is_has b bs)

  books_taken : (q : Bookkeeping) → with_books q (taken_books v bitmap c bs) ≡ after_take (with_books q v) bs
  books_taken q =
      ap₂ (λ r m. record (with_books q (taken_books v bitmap c bs)) { running = record { roles = r; weight = v.weight; held = length v.dead.held; took = v.took + length bs }; marked = m }) (fun_ext roles) (fun_ext marks)
      ∙ ap (λ u. record (after_take (with_books q v) bs) { reusable = u }) (fun_ext frees)

  -- What holds at all times.

  bits_kept : TakenLaw → BitsAgree (taken_books v bitmap c bs)
  bits_kept law = record {
    size = h.rest.size ∙ k.bits.size;
    others = still_good v.geom (blocks_of v.bitmap) (blocks_of bitmap) (λ b out. h.bits b ∙ ap (λ u. u || bit_now v b) (false_from_ne_true (has bs b) (λ is. out (lies b is)))) k.bits.others;
    same = λ b lie. h.bits b ∙ ap (λ u. has bs b || u) (k.bits.same b lie) ∙ by (has bs b) (is_among b (dead_blocks v.dead)) ∙ sym (ap not (law v.dead bs b k.sound (all_reusable v bs k.geom may) ∙ ap (λ u. not u && is_among b (dead_blocks v.dead)) (any_is_has b bs)));
    counted = omega (arith, h.free, k.bits.counted);
  }
    where
      by : (u w : Bool) → (u || not w) ≡ not (not u && w)
      by true w = refl
      by false w = refl

  lie_kept : IsOrdered c.paid c.laid → IsRisingNumbers c.taken → ChangesLie (taken_books v bitmap c bs)
  lie_kept o r = record {
    ordered = o;
    rising = r;
    taken = λ b is. now_taken b (sym (h.taken b) ∙ is) (cases_Bool (has bs b));
    paid_from = λ b is. elim (paid_where (has_bit v.geom bs b) (has bs b) _ _ (sym (ap is_some (h.paid b)) ∙ is)) [ inl i ↦ (in_bitmap b i).0 | inr was ↦ k.lie.paid_from b was.1 ];
    paid_below = λ b is. elim (paid_where (has_bit v.geom bs b) (has bs b) _ _ (sym (ap is_some (h.paid b)) ∙ is)) [ inl i ↦ omega (arith, (in_bitmap b i).1, k.limits.data_room) | inr was ↦ k.lie.paid_below b was.1 ];
    laid = λ b is.
        let was = laid_where (has_bit v.geom bs b) (has bs b) _ (sym (ap is_some (h.laid b)) ∙ is) in
        ap₂ (λ x y. x && y) (h.taken b) (h.bits b) ∙ ap (λ u. (u || is_one_of b v.changes.taken) && (u || bit_now v b)) was.0 ∙ k.lie.laid b was.1;
  }
    where
      now_taken : (b : ℕ) → (has bs b || is_one_of b v.changes.taken) ≡ true → (has bs b ≡ true) ⊎ (has bs b ≡ false) → LiesIn v.geom Data b
      now_taken b is (inl e) = lies b e
      now_taken b is (inr f) = k.lie.taken b (sym (ap (λ u. u || is_one_of b v.changes.taken) f) ∙ is)

  kept_taken : TakenLaw → length bs ≤ v.spare.takes → AreSound (with_taken v.dead bs) → IsOrdered c.paid c.laid → IsRisingNumbers c.taken → AreKept (taken_books v bitmap c bs)
  kept_taken law few sound o r = record {
    limits = k.limits;
    geom = k.geom;
    sound = sound;
    bits = bits_kept law;
    lie = lie_kept o r;
    room = record {
      boxes = omega (arith, few, h.boxes v.spare.puts (v.spare.takes + v.spare.frees) (omega (arith, few)) k.room.boxes);
      takes = omega (arith, few, k.room.takes, h.takes);
      frees = omega (arith, k.room.frees, h.frees);
      held = k.room.held;
    };
    freed = h.freed ∙ k.freed;
    taken_few = omega (arith, h.taken_len, k.taken_few);
    took_few = omega (arith, k.took_few);
    fits = k.fits;
  }

  -- The last point.

  no_laid : (b : ℕ) → b < data_start v.geom → put_of b v.changes.laid ≡ None
  no_laid b low = elim (put_of b v.changes.laid) as (λ o. is_some o ≡ false → o ≡ None) [
    | None ↦ λ none. refl
    | Some x ↦ λ some. absurd (false≢true (sym some))
  ] (false_from_ne_true (has_put b v.changes.laid) (λ is. false≢true (sym (not_taken b low) ∙ and_first (is_one_of b v.changes.taken) (bit_now v b) (k.lie.laid b is))))

  -- the puts of a block that isn't taken and has none of the bits
  paid_same : (b : ℕ) → has_bit v.geom bs b ≡ false → has bs b ≡ false → put_of b c.paid ≡ put_of b v.changes.paid
  paid_same b f e = h.paid b ∙ ap₂ (λ x y. cond x (Some (blocks_of bitmap (b - bitmap_start v.geom))) (cond y None (put_of b v.changes.paid))) f e

  laid_same : (b : ℕ) → has_bit v.geom bs b ≡ false → has bs b ≡ false → put_of b c.laid ≡ put_of b v.changes.laid
  laid_same b f e = h.laid b ∙ ap₂ (λ x y. cond x None (cond y None (put_of b v.changes.laid))) f e

  bitmap_now : (last : Blocks) → BeganAt v last → (i : ℕ) → i < bitmap_blocks v.geom → bytes_over c last (bitmap_start v.geom + i) ≡ blocks_of bitmap i
  bitmap_now last began i low = by (cases_Bool (has_bit v.geom bs (bitmap_start v.geom + i)))
    where
      at : ℕ
      at = bitmap_start v.geom + i

      by : (has_bit v.geom bs (bitmap_start v.geom + i) ≡ true) ⊎ (has_bit v.geom bs (bitmap_start v.geom + i) ≡ false) → bytes_over c last (bitmap_start v.geom + i) ≡ blocks_of bitmap i
      by (inl e) =
          ap₂ (λ x y. otherwise (or_else x y) (last (bitmap_start v.geom + i))) (h.laid (bitmap_start v.geom + i)) (h.paid (bitmap_start v.geom + i))
          ∙ ap (λ u. otherwise (or_else (cond u None (cond (has bs (bitmap_start v.geom + i)) None (put_of (bitmap_start v.geom + i) v.changes.laid))) (cond u (Some (blocks_of bitmap (bitmap_start v.geom + i - bitmap_start v.geom))) (cond (has bs (bitmap_start v.geom + i)) None (put_of (bitmap_start v.geom + i) v.changes.paid)))) (last (bitmap_start v.geom + i))) e
          ∙ ap (blocks_of bitmap) (omega arith)
      by (inr f) = same_bytes v.changes c last (bitmap_start v.geom + i) (laid_same (bitmap_start v.geom + i) f (not_has (bitmap_start v.geom + i) (omega (arith, low)))) (paid_same (bitmap_start v.geom + i) f (not_has (bitmap_start v.geom + i) (omega (arith, low))))
          ∙ began.bitmap i low ∙ sym (h.others i f)

  began_taken : HeldLaw → (last : Blocks) → BeganAt v last → BeganAt (taken_books v bitmap c bs) last
  began_taken held last began = record {
    bitmap = bitmap_now last began;
    was_dead = λ b is. dead b (sym (h.taken b) ∙ is) (cases_Bool (has bs b));
    took = λ b low is out. h.taken b ∙ came b low (sym (h.bits b) ∙ is) out (has bs b) refl;
    killed = λ b low is set. ap (is_one_of b) h.freed ∙ began.killed b low ((or_parts (has bs b) (bit_now v b) (sym (h.bits b) ∙ is)).1) set;
    marked = λ b from is. h.bits b ∙ shown b from is (cases_Bool (has bs b));
    whole = λ b bytes is. full b bytes is (cases_Bool (has_bit v.geom bs b)) (cases_Bool (has bs b));
  }
    where
      dead : (b : ℕ) → (has bs b || is_one_of b v.changes.taken) ≡ true → (has bs b ≡ true) ⊎ (has bs b ≡ false) → is_set v.geom last b ≡ false
      dead b is (inr f) = began.was_dead b (sym (ap (λ u. u || is_one_of b v.changes.taken) f) ∙ is)
      dead b is (inl e) = false_from_ne_true (is_set v.geom last b) (λ set. false≢true (sym (held v.dead b k.sound
          (sym (one_is_any b v.dead.held) ∙ ap (is_one_of b) (sym k.freed) ∙ began.killed b (omega (arith, (lies b e).below)) (was_clear b e) set)) ∙ is_free b e))

      came : (b : ℕ) → b < 8192 * bitmap_blocks v.geom → (has bs b || bit_now v b) ≡ true → is_set v.geom last b ≡ false → (u : Bool) → has bs b ≡ u → (has bs b || is_one_of b v.changes.taken) ≡ true
      came b low is out true e = ap (λ u. u || is_one_of b v.changes.taken) e
      came b low is out false f = ap (λ u. u || is_one_of b v.changes.taken) f ∙ began.took b low (sym (ap (λ u. u || bit_now v b) f) ∙ is) out

      shown : (b : ℕ) → data_start v.geom ≤ b → is_some (bytes_put c b) ≡ true → (has bs b ≡ true) ⊎ (has bs b ≡ false) → (has bs b || bit_now v b) ≡ true
      shown b from is (inl e) = ap (λ u. u || bit_now v b) e
      shown b from is (inr f) = ap (λ u. u || bit_now v b) f
          ∙ began.marked b from (sym (ap₂ (λ x y. is_some (or_else x y)) (laid_same b (no_bits b from) f) (paid_same b (no_bits b from) f)) ∙ is)

      full : (b : ℕ) (bytes : List ℕ) → bytes_put c b ≡ Some bytes → (has_bit v.geom bs b ≡ true) ⊎ (has_bit v.geom bs b ≡ false) → (has bs b ≡ true) ⊎ (has bs b ≡ false) → length bytes ≡ 1024
      full b bytes is (inl e) s =
          ap (λ (x : List ℕ). length x) (sym (same_Some (blocks_of bitmap (b - bitmap_start v.geom)) bytes (sym (ap₂ or_else
          (h.laid b ∙ cond-true (has_bit v.geom bs b) None (cond (has bs b) None (put_of b v.changes.laid)) e)
          (h.paid b ∙ cond-true (has_bit v.geom bs b) (Some (blocks_of bitmap (b - bitmap_start v.geom))) (cond (has bs b) None (put_of b v.changes.paid)) e)) ∙ is)))
          ∙ h.whole b e
      full b bytes is (inr f) (inl e) = absurd (none-some bytes (sym (ap₂ or_else
          (h.laid b ∙ ap₂ (λ x y. cond x None (cond y None (put_of b v.changes.laid))) f e)
          (h.paid b ∙ ap₂ (λ x y. cond x (Some (blocks_of bitmap (b - bitmap_start v.geom))) (cond y None (put_of b v.changes.paid))) f e)) ∙ is))
      full b bytes is (inr f) (inr e) = began.whole b bytes (sym (ap₂ or_else (laid_same b f e) (paid_same b f e)) ∙ is)

  map_taken : HeldLaw → (last : Blocks) → BeganAt v last → IsWithTaken v.geom (map_of v last) (map_of (taken_books v bitmap c bs) last) bs
  map_taken held last began = record {
    bits = λ b low. map_bit (taken_books v bitmap c bs) last b (began_taken held last began) low ∙ h.bits b ∙ by (has bs b) (bit_now v b) ∙ ap (λ u. cond (has bs b) true u) (sym (map_bit v last b began low));
    others = λ b out. stays b out (cases_Bool (has bs b));
  }
    where
      by : (u w : Bool) → (u || w) ≡ cond u true w
      by true w = refl
      by false w = refl

      stays : (b : ℕ) → has_bit v.geom bs b ≡ false → (has bs b ≡ true) ⊎ (has bs b ≡ false) → map_of (taken_books v bitmap c bs) last b ≡ map_of v last b
      stays b out (inl e) =
          map_nowhere (taken_books v bitmap c bs) last b (data_undefined v.geom (is_marked (taken_books v bitmap c bs) b) (is_bare (roles_of (taken_books v bitmap c bs) b)) b (lies b e).from
          (ap (λ r. is_marked (taken_books v bitmap c bs) b && not (is_bare r)) (roles b ∙ cond-true (has bs b) Bare (cond (has_bit v.geom bs b) Changed (roles_of v b)) e) ∙ and-false (is_marked (taken_books v bitmap c bs) b)))
          ∙ sym (map_nowhere v last b (data_undefined v.geom (is_marked v b) (is_bare (roles_of v b)) b (lies b e).from (ap (λ u. (nat_lt b v.geom.n && u) && not (is_bare (roles_of v b))) (was_clear b e) ∙ dead (nat_lt b v.geom.n) (not (is_bare (roles_of v b))))))
        where
          dead : (u w : Bool) → ((u && false) && w) ≡ false
          dead true w = refl
          dead false w = refl
      stays b out (inr f) =
          ap₂ (λ d x. cond d x [])
          (ap₂ (λ m r. defined_by v.geom m (is_bare r) b) (marks b ∙ ap (λ u. u || is_marked v b) f) (roles b ∙ ap₂ (λ x y. cond x Bare (cond y Changed (roles_of v b))) f out))
          (same_bytes v.changes c last b (laid_same b out f) (paid_same b out f))

-- What taking a list leaves, in one.
pub record TakeLeaves (v now : TransactionBooks) (bs : List ℕ) : Type 0 where
  pub kept : AreKept now
  pub books : (q : Bookkeeping) → with_books q now ≡ after_take (with_books q v) bs
  pub began : (last : Blocks) → BeganAt v last → BeganAt now last
  pub map : (last : Blocks) → BeganAt v last → IsWithTaken v.geom (map_of v last) (map_of now last) bs

-- The list.
-- there is a box for the next one
pub has_box : (v w : TransactionBooks) (xs : List ℕ) (i : ℕ) → AreKept v → length xs ≤ v.spare.takes → i < length xs → HasTaken (take i xs) v w → 0 < w.changes.puts
has_box v w xs i k few low h =
    let long = length-take-le i xs (omega (arith, low)) in
    let room = h.boxes v.spare.puts (v.spare.takes + v.spare.frees) (omega (arith, long, few, low)) k.room.boxes in
    omega (arith, room, long, few, low)

-- the next one is taken
pub next_taken : (v w z : TransactionBooks) (xs : List ℕ) (i : ℕ) → AreKept v → MayBeTaken v.geom (is_free_now v) xs → i < length xs → HasTaken (take i xs) v w → TakesOne (get_or xs i 0) w z → HasTaken (take (i + 1) xs) v z
next_taken v w z xs i k may low h t =
    let one : MayTake v.geom (is_free_now v) (get_or xs i 0) = may.each i 0 low in
    subst (λ ys. HasTaken ys v z) (sym (take_more xs i 0 low))
    (more_taken_books v w z (take i xs) (get_or xs i 0) k.limits one.from one.below (λ x is. (among (MayTake v.geom (is_free_now v)) (take i xs) (All-take (MayTake v.geom (is_free_now v)) i xs may.each) x is).below)
    (h.bits (get_or xs i 0) ∙ ap (λ u. u || bit_now v (get_or xs i 0)) (not_before xs i 0 low may.distinct) ∙ k.bits.same (get_or xs i 0) (record { from = one.from; below = one.below }) ∙ ap not (among_first (get_or xs i 0) v.dead.reusable _ one.free))
    h t)

-- the dead blocks and the counts are told
told : (v x : TransactionBooks) (bs : List ℕ) (dead : DeadBlocks) (count : ℕ) → x ≡ record v { bitmap = x.bitmap; changes = x.changes } → dead ≡ with_taken x.dead bs → count ≡ length bs
    → record x { dead = dead; live = x.live + count; took = x.took + count; spare = record x.spare { takes = x.spare.takes - count } } ≡ taken_books v x.bitmap x.changes bs
told v x bs dead count e d n =
    ap₂ (λ y m. record x { dead = y; live = x.live + m; took = x.took + m; spare = record x.spare { takes = x.spare.takes - m } }) d n
    ∙ ap (λ (y : TransactionBooks). record y { bitmap = x.bitmap; changes = x.changes; dead = with_taken y.dead bs; live = y.live + length bs; took = y.took + length bs; spare = record y.spare { takes = y.spare.takes - length bs } }) e

pub take_leaves : (v w x : TransactionBooks) (bs : List ℕ) (i : ℕ) (dead : DeadBlocks) (count : ℕ) → x ≡ w → length bs ≤ i → HasTaken (take i bs) v w → AreKept v → MayBeTaken v.geom (is_free_now v) bs → TakenLaw → HeldLaw → length bs ≤ v.spare.takes
    → dead ≡ with_taken x.dead bs → AreSound dead → count ≡ length bs → IsOrdered x.changes.paid x.changes.laid → IsRisingNumbers x.changes.taken
    → TakeLeaves v (record x { dead = dead; live = x.live + count; took = x.took + count; spare = record x.spare { takes = x.spare.takes - count } }) bs
take_leaves v w x bs i dead count e all taken k may law held few d sound n o r =
    let h = subst (λ y. HasTaken bs v y) (sym e) (subst (λ ys. HasTaken ys v w) (take_all i bs all) taken) in
    let h1 = subst (λ y. HasTaken bs v y) h.rest.same h in
    subst (λ y. TakeLeaves v y bs) (sym (told v x bs dead count h.rest.same d n)) (record {
      kept = kept_taken v x.bitmap x.changes bs k may h1 law few (subst AreSound (d ∙ ap (λ (y : TransactionBooks). with_taken y.dead bs) h.rest.same) sound) o r;
      books = books_taken v x.bitmap x.changes bs k may h1;
      began = began_taken v x.bitmap x.changes bs k may h1 held;
      map = map_taken v x.bitmap x.changes bs k may h1 held;
    })
