-- One block is taken, and then the next.
use Rattle.std.proofs.Common.{◌≡◌, ◌≢◌, ℕ, ◌+◌, ◌-◌, ◌/◌, ◌<◌, ◌≤◌, ◌==◌, Bool, true, false, not, ◌||◌, cond, List, [], ◌∷◌, ◌++◌, length, Option, Some, None, is_some, refl, sym, ap, ap₂, subst, ◌∙◌, arith, inl, inr, length-append}
use Rattle.std.proofs.lemmas.Bool.{cases_eq, cond-true, cond-false, eq-eqb, false≢true, ne_eqb, eqb-true, eqb-false, or_parts}
use Rattle.base_types.specs.Seal.{blocks_of}
use Rattle.layout_geometry.specs.Geometry.{IsGeometry, bitmap_start, bitmap_blocks, data_start}
use Rattle.layout_bitmap.specs.Bits.{bit_in, free_blocks, BitBecomes}
use Rattle.crash_argument.specs.HomeTest.{is_one_of}
use Rattle.engine_running.specs.Rows.{put_of}
use Rattle.engine_running.specs.Running.{Changes, IsOrdered, Puts, Takes, Forgets}
use Rattle.engine_blocks.specs.Running.{has, has_bit, bit_block}
use Rattle.engine_books.specs.Books.{TransactionBooks, has_put, bit_now}
use Rattle.engine_books.specs.Kept.{HasBoxes}
use Rattle.engine_books.specs.Taking.{TakesOne, HasTaken, bits_put}
use Rattle.engine_books.proofs.Tests.{eqb_sym}
use Rattle.engine_books.proofs.Rows.{put_with, put_without}
use Rattle.engine_books.proofs.Numbers.{has_push, has_bit_push, bit_of_one, one_with, with_one_more}
use Rattle.engine_books.proofs.Counts.{one_less}
use Rattle.engine_books.proofs.Boxes.{bits_room}

-- the steps of taking one
pub one_taken : (v w : TransactionBooks) (bitmap : List (List ℕ)) (b : ℕ) (c1 c2 : Changes) → BitBecomes (blocks_of v.bitmap) (blocks_of bitmap) b true
    → ((k : ℕ) → k ≢ b / 8192 → blocks_of bitmap k ≡ blocks_of v.bitmap k) → length bitmap ≡ length v.bitmap → IsOrdered v.changes.paid v.changes.laid → Forgets b v.changes c1 → Takes b c1 c2 → IsOrdered c2.paid c2.laid → length (blocks_of bitmap (b / 8192)) ≡ 1024
    → Puts false (bits_put (record v { bitmap = bitmap }) b) c2 w.changes → w ≡ record v { bitmap = bitmap; changes = w.changes } → TakesOne b v w
one_taken v w bitmap b c1 c2 bits others size o f t q full p e = subst (λ x. TakesOne b v x) (sym e) (record {
  rest = record { same = refl; size = size };
  bits = bits;
  others = others;
  ordered = o;
  forgotten = c1;
  forgets = f;
  taken = c2;
  takes = t;
  ordered_then = q;
  whole = full;
  puts = p;
})

pub none_taken : (v : TransactionBooks) → HasTaken [] v v
none_taken v = record {
  rest = record { same = refl; size = refl };
  bits = λ b. refl;
  others = λ k out. refl;
  whole = λ c is. absurd (false≢true is);
  free = omega arith;
  paid = λ c. refl;
  laid = λ c. refl;
  taken = λ c. refl;
  taken_len = omega arith;
  freed = refl;
  boxes = λ puts bits le h. omega (arith, h);
  takes = omega arith;
  frees = refl;
}

-- the puts of a block over those of a list
both : (p q r s p' q' : Bool) (here mid now : List ℕ) (x : Option (List ℕ)) → p' ≡ p → q' ≡ q → (p ≡ true → here ≡ now) → (r ≡ true → q ≡ false) → (r ≡ true → p ≡ false → mid ≡ now)
    → cond p (Some here) (cond q None (cond r (Some mid) (cond s None x))) ≡ cond (r || p') (Some now) (cond (s || q') None x)
both p q r s p' q' here mid now x e f own apart same = grind (arith, e, f, own, apart, same)

shift : (p q r s p' q' : Bool) (x : Option (List ℕ)) → p' ≡ p → q' ≡ q → cond p None (cond q None (cond r None (cond s None x))) ≡ cond (r || p') None (cond (s || q') None x)
shift p q r s p' q' x e f = grind (arith, e, f)

-- one block more among those of a list
set_too : (u x y : Bool) → cond u true (x || y) ≡ ((x || u) || y)
set_too u x y = grind arith

one_too : (u x y : Bool) → (u || (x || y)) ≡ ((x || u) || y)
one_too u x y = grind arith

or_before : (u w : Bool) → (u || w) ≡ true → w ≡ false → u ≡ true
or_before u w e f = grind (arith, e, f)

-- what one more leaves, for books that are the old ones but for the bitmap and the changes
module _ (v : TransactionBooks) (mid now : List (List ℕ)) (cm cn : Changes) (xs : List ℕ) (b : ℕ) (limits : IsGeometry v.geom) (from : data_start v.geom ≤ b) (below : b < v.geom.n) (low : (x : ℕ) → has xs x ≡ true → x < v.geom.n)
    (h : HasTaken xs v (record v { bitmap = mid; changes = cm })) (t : TakesOne b (record v { bitmap = mid; changes = cm }) (record v { bitmap = now; changes = cn })) where
  -- the block of the bitmap isn't the one that is taken
  apart : (x : ℕ) → x < v.geom.n → bit_block v.geom x ≢ b
  apart x lt e = omega (arith, lt, e, from)

  of_bits : (c : ℕ) → has_bit v.geom xs c ≡ true → c ≢ b
  of_bits c is e = let r = bit_of_one v.geom xs c is in apart r.0 (low r.0 r.1) (sym r.2 ∙ e)

  paid_one : (c : ℕ) → put_of c cn.paid ≡ cond (bit_block v.geom b == c) (Some (blocks_of now (b / 8192))) (cond (b == c) None (put_of c cm.paid))
  paid_one c = ap (put_of c) t.puts.paid ∙ put_with (bits_put (record v { bitmap = now; changes = cn }) b) t.taken.paid c
      ∙ ap (λ (o : Option (List ℕ)). cond (bit_block v.geom b == c) (Some (blocks_of now (b / 8192))) o) (ap (put_of c) (t.takes.paid ∙ t.forgets.paid) ∙ put_without b cm.paid c t.ordered.paid)

  laid_one : (c : ℕ) → put_of c cn.laid ≡ cond (bit_block v.geom b == c) None (cond (b == c) None (put_of c cm.laid))
  laid_one c = ap (put_of c) t.puts.laid ∙ put_without (bit_block v.geom b) t.taken.laid c t.ordered_then.laid
      ∙ ap (λ (o : Option (List ℕ)). cond (bit_block v.geom b == c) None o) (ap (put_of c) (t.takes.laid ∙ t.forgets.laid) ∙ put_without b cm.laid c t.ordered.laid)

  more_paid : (c : ℕ) → put_of c cn.paid ≡ cond (has_bit v.geom (xs ++ b ∷ []) c) (Some (blocks_of now (c - bitmap_start v.geom))) (cond (has (xs ++ b ∷ []) c) None (put_of c v.changes.paid))
  more_paid c =
      paid_one c ∙ ap (λ (o : Option (List ℕ)). cond (bit_block v.geom b == c) (Some (blocks_of now (b / 8192))) (cond (b == c) None o)) (h.paid c)
      ∙ both (bit_block v.geom b == c) (b == c) (has_bit v.geom xs c) (has xs c) (c == bit_block v.geom b) (c == b) (blocks_of now (b / 8192)) (blocks_of mid (c - bitmap_start v.geom)) (blocks_of now (c - bitmap_start v.geom)) (put_of c v.changes.paid)
      (eqb_sym c (bit_block v.geom b)) (eqb_sym c b) (λ u. ap (blocks_of now) (place (eqb-true _ _ u))) (λ u. ne_eqb b c (λ q. of_bits c u (sym q)))
      (λ u f. sym (t.others (c - bitmap_start v.geom) (let r = bit_of_one v.geom xs c u in λ q. eqb-false _ _ f (omega (arith, q, r.2)))))
      ∙ ap₂ (λ u w. cond u (Some (blocks_of now (c - bitmap_start v.geom))) (cond w None (put_of c v.changes.paid))) (sym (has_bit_push v.geom xs b c)) (sym (has_push xs b c))
    where
      place : bit_block v.geom b ≡ c → b / 8192 ≡ c - bitmap_start v.geom
      place e = omega (arith, e)

  more_laid : (c : ℕ) → put_of c cn.laid ≡ cond (has_bit v.geom (xs ++ b ∷ []) c) None (cond (has (xs ++ b ∷ []) c) None (put_of c v.changes.laid))
  more_laid c =
      laid_one c ∙ ap (λ (o : Option (List ℕ)). cond (bit_block v.geom b == c) None (cond (b == c) None o)) (h.laid c)
      ∙ shift (bit_block v.geom b == c) (b == c) (has_bit v.geom xs c) (has xs c) (c == bit_block v.geom b) (c == b) (put_of c v.changes.laid) (eqb_sym c (bit_block v.geom b)) (eqb_sym c b)
      ∙ ap₂ (λ u w. cond u None (cond w None (put_of c v.changes.laid))) (sym (has_bit_push v.geom xs b c)) (sym (has_push xs b c))

  -- the blocks of the bitmap that weren't put, and the room for puts
  more_boxes : (puts bits : ℕ) → length (xs ++ b ∷ []) ≤ bits → HasBoxes puts bits v → HasBoxes puts (bits - length (xs ++ b ∷ [])) (record v { bitmap = now; changes = cn })
  more_boxes puts bits le room =
      let long = length-append xs (b ∷ []) in
      let first = h.boxes puts bits (omega (arith, le, long)) room in
      let second = bits_room v.geom cm t.taken cn (bits_put (record v { bitmap = now; changes = cn }) b) t.ordered_then t.puts (omega arith) (omega (arith, below)) (omega (arith, t.forgets.puts, t.takes.puts)) same puts (bits - length xs) (omega (arith, le, long)) first in
      omega (arith, second, long)
    where
      same : (c : ℕ) → bitmap_start v.geom ≤ c → c < bitmap_start v.geom + bitmap_blocks v.geom → has_put c t.taken.paid ≡ has_put c cm.paid
      same c low high = ap is_some (ap (put_of c) (t.takes.paid ∙ t.forgets.paid) ∙ put_without b cm.paid c t.ordered.paid ∙ cond-false (b == c) None (put_of c cm.paid) (ne_eqb b c (λ e. omega (arith, e, high, from))))

  more_free : bit_in (blocks_of mid) b ≡ false → length (free_blocks v.geom (blocks_of now)) + length (xs ++ b ∷ []) ≡ length (free_blocks v.geom (blocks_of v.bitmap))
  more_free clear = omega (
    arith,
    h.free,
    length-append xs (b ∷ []),
    one_less (λ k. not (bit_in (blocks_of mid) k)) (λ k. not (bit_in (blocks_of now) k)) b (data_start v.geom) (v.geom.n - data_start v.geom) from (omega (arith, from, below)) (ap not clear)
        (ap not (t.bits b ∙ cond-true (b == b) true (bit_in (blocks_of mid) b) (eq-eqb b b refl)))
        (λ k first upto d. ap not (t.bits k ∙ cond-false (k == b) true (bit_in (blocks_of mid) k) (ne_eqb k b d))),
  )

  more_bits : (k : ℕ) → bit_in (blocks_of now) k ≡ (has (xs ++ b ∷ []) k || bit_now v k)
  more_bits k = t.bits k ∙ ap (λ u. cond (k == b) true u) (h.bits k) ∙ set_too (k == b) (has xs k) (bit_now v k) ∙ ap (λ u. u || bit_now v k) (sym (has_push xs b k))

  more_taken : (c : ℕ) → is_one_of c cn.taken ≡ (has (xs ++ b ∷ []) c || is_one_of c v.changes.taken)
  more_taken c = ap (is_one_of c) (t.puts.taken ∙ t.takes.taken) ∙ one_with b t.forgotten.taken c ∙ ap (λ u. (c == b) || u) (ap (is_one_of c) t.forgets.taken ∙ h.taken c)
      ∙ one_too (c == b) (has xs c) (is_one_of c v.changes.taken) ∙ ap (λ u. u || is_one_of c v.changes.taken) (sym (has_push xs b c))

  more_others : (k : ℕ) → has_bit v.geom (xs ++ b ∷ []) (bitmap_start v.geom + k) ≡ false → blocks_of now k ≡ blocks_of v.bitmap k
  more_others k out =
      let split = sym (has_bit_push v.geom xs b (bitmap_start v.geom + k)) ∙ out in
      t.others k (λ e. false≢true (sym (or_parts (has_bit v.geom xs (bitmap_start v.geom + k)) (bitmap_start v.geom + k == bit_block v.geom b) split).1 ∙ eq-eqb (bitmap_start v.geom + k) (bit_block v.geom b) (ap (λ n. bitmap_start v.geom + n) e)))
      ∙ h.others k ((or_parts (has_bit v.geom xs (bitmap_start v.geom + k)) (bitmap_start v.geom + k == bit_block v.geom b) split).0)

  more_whole : (c : ℕ) → has_bit v.geom (xs ++ b ∷ []) c ≡ true → length (blocks_of now (c - bitmap_start v.geom)) ≡ 1024
  more_whole c is = elim (cases_eq c (bit_block v.geom b)) [
    | inl e ↦ ap (λ k. length (blocks_of now k)) {y = b / 8192} (omega (arith, e)) ∙ t.whole
    | inr d ↦
        let old = or_before (has_bit v.geom xs c) (c == bit_block v.geom b) (sym (has_bit_push v.geom xs b c) ∙ is) (ne_eqb c (bit_block v.geom b) d) in
        ap (λ (x : List ℕ). length x) (t.others (c - bitmap_start v.geom) (let r = bit_of_one v.geom xs c old in λ q. d (omega (arith, q, r.2)))) ∙ h.whole c old
  ]

  pub taken_then : bit_in (blocks_of mid) b ≡ false → HasTaken (xs ++ b ∷ []) v (record v { bitmap = now; changes = cn })
  taken_then clear = record {
    rest = record { same = refl; size = t.rest.size ∙ h.rest.size };
    bits = more_bits;
    others = more_others;
    whole = more_whole;
    free = more_free clear;
    paid = more_paid;
    laid = more_laid;
    taken = more_taken;
    taken_len = omega (arith, h.taken_len, length-append xs (b ∷ []), with_one_more b t.forgotten.taken, ap (λ (l : List ℕ). length l) (t.puts.taken ∙ t.takes.taken), ap (λ (l : List ℕ). length l) t.forgets.taken);
    freed = t.puts.freed ∙ t.takes.freed ∙ t.forgets.freed ∙ h.freed;
    boxes = more_boxes;
    takes = omega (arith, h.takes, length-append xs (b ∷ []), t.puts.takes, t.takes.takes, t.forgets.takes);
    frees = t.puts.frees ∙ t.takes.frees ∙ t.forgets.frees ∙ h.frees;
  }

-- the same of books that are known by what is as before
pub more_taken_books : (v w z : TransactionBooks) (xs : List ℕ) (b : ℕ) → IsGeometry v.geom → data_start v.geom ≤ b → b < v.geom.n → ((x : ℕ) → has xs x ≡ true → x < v.geom.n) → bit_now w b ≡ false → HasTaken xs v w → TakesOne b w z → HasTaken (xs ++ b ∷ []) v z
more_taken_books v w z xs b limits from below low clear h t =
    let first : record v { bitmap = w.bitmap; changes = w.changes } ≡ w = sym h.rest.same in
    let second : z ≡ record v { bitmap = z.bitmap; changes = z.changes } = t.rest.same ∙ ap (λ (x : TransactionBooks). record x { bitmap = z.bitmap; changes = z.changes }) h.rest.same in
    let t1 = subst (λ x. TakesOne b x z) h.rest.same t in
    let t2 = subst (λ x. TakesOne b (record v { bitmap = w.bitmap; changes = w.changes }) x) second t1 in
    subst (λ x. HasTaken (xs ++ b ∷ []) v x) (sym second)
    (taken_then v w.bitmap z.bitmap w.changes z.changes xs b limits from below low (subst (λ x. HasTaken xs v x) h.rest.same h) t2 clear)
