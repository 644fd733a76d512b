-- Fronts of the recoverable run, as the search for it goes on.
use Rattle.std.proofs.Common.{◌≡◌, ℕ, ◌+◌, ◌-◌, ◌%◌, List, [], ◌∷◌, ◌++◌, length, refl, sym, ◌∙◌, ap, subst, arith, add-zero}
use Rattle.base_types.specs.Seal.{Blocks}
use Rattle.layout_journal.specs.declared.header.Header.{Header}
use Rattle.layout_journal.specs.Run.{Record, places, IsWhole, AreConsecutive, AreWhole, AreLetIn, IsLetIn, IsRun, all_places, place_after}
use Rattle.crash_record.specs.Found.{IsOnly, MayCome, IsFront}

-- one record more is consecutive where it has the next number and place
consecutive_more : (j n p : ℕ) (rs : List Record) (r : Record) → AreConsecutive j n p rs → r.number ≡ n + length rs → r.place ≡ place_after j p rs → AreConsecutive j n p (rs ++ r ∷ [])
consecutive_more j n p [] r c number place = (number ∙ add-zero n, place, tt)
consecutive_more j n p (x ∷ rs) r c number place = (c.0, c.1, consecutive_more j (n + 1) ((p + places x) % j) rs r c.2 (omega (arith, number)) place)

-- and it has them where it is consecutive
consecutive_last : (j n p : ℕ) (rs : List Record) (r : Record) → AreConsecutive j n p (rs ++ r ∷ []) → (r.number ≡ n + length rs) × (r.place ≡ place_after j p rs)
consecutive_last j n p [] r c = (c.0 ∙ sym (add-zero n), c.1)
consecutive_last j n p (x ∷ rs) r c =
    let later = consecutive_last j (n + 1) ((p + places x) % j) rs r c.2 in
    (omega (arith, later.0), later.1)

-- one whole record more
whole_more : (img : Blocks) (h : Header) (rs : List Record) (r : Record) → AreWhole img h rs → IsWhole img h r → AreWhole img h (rs ++ r ∷ [])
whole_more img h [] r w x = (x, tt)
whole_more img h (y ∷ rs) r w x = (w.0, whole_more img h rs r w.1 x)

-- one record more that is let in
let_in_more : (h : Header) (rs : List Record) (r : Record) → AreLetIn h rs → IsLetIn h r → AreLetIn h (rs ++ r ∷ [])
let_in_more h [] r w x = (x, tt)
let_in_more h (y ∷ rs) r w x = (w.0, let_in_more h rs r w.1 x)

-- its places count
places_more : (rs : List Record) (r : Record) → all_places (rs ++ r ∷ []) ≡ all_places rs + places r
places_more [] r = omega arith
places_more (x ∷ rs) r = omega (arith, places_more rs r)

-- and the next record begins behind it
after_more : (j p : ℕ) (rs : List Record) (r : Record) → place_after j p (rs ++ r ∷ []) ≡ (place_after j p rs + places r) % j
after_more j p [] r = refl
after_more j p (x ∷ rs) r = after_more j ((p + places x) % j) rs r

-- no records are a front
pub front_none : (img : Blocks) (h : Header) → IsFront img h [] h.at h.geom.j
front_none img h = record { consecutive = tt; whole = tt; let_in = tt; place_is = refl; left_is = omega arith }

-- a front grows by the record that may come
pub front_more : (img : Blocks) (h : Header) (rs : List Record) (place left : ℕ) (r : Record) → IsFront img h rs place left
    → r.number ≡ h.start + length rs → r.place ≡ place → MayCome img h left r
    → IsFront img h (rs ++ r ∷ []) ((r.place + places r) % h.geom.j) (left - places r)
front_more img h rs place left r f number at m =
    let here : r.place ≡ place_after h.geom.j h.at rs = at ∙ f.place_is in
    record {
      consecutive = consecutive_more h.geom.j h.start h.at rs r f.consecutive number here;
      whole = whole_more img h rs r f.whole m.whole;
      let_in = let_in_more h rs r f.let_in m.let_in;
      place_is = ap (λ p. (p + places r) % h.geom.j) here ∙ sym (after_more h.geom.j h.at rs r);
      left_is = omega (arith, f.left_is, places_more rs r, m.within);
    }

-- where none may come, the front is the run
pub front_whole : (img : Blocks) (h : Header) (rs : List Record) (place left : ℕ) → IsFront img h rs place left
    → ((r : Record) → r.number ≡ h.start + length rs → r.place ≡ place → ¬ MayCome img h left r) → IsRun img h rs
front_whole img h rs place left f none = record {
  consecutive = f.consecutive;
  whole = f.whole;
  let_in = f.let_in;
  within = omega (arith, f.left_is);
  longest = λ r c.
      let last = consecutive_last h.geom.j h.start h.at rs r c.next in
      none r last.0 (last.1 ∙ sym f.place_is) (record { whole = c.whole; let_in = c.let_in; within = omega (arith, f.left_is, places_more rs r, c.within) });
}

-- the same step, as the loop makes it
pub front_step : (img : Blocks) (h : Header) (rs new : List Record) (place after left taken count : ℕ) (r : Record) → IsFront img h rs place left
    → IsOnly (MayCome img h left) (h.start + count) place r → count ≡ length rs
    → new ≡ rs ++ r ∷ [] → after ≡ (r.place + places r) % h.geom.j → taken ≡ places r → IsFront img h new after (left - taken)
front_step img h rs new place after left taken count r f only many grown next took =
    subst (λ (l : List Record). IsFront img h l after (left - taken)) (sym grown)
    (subst (λ p. IsFront img h (rs ++ r ∷ []) p (left - taken)) (sym next)
    (subst (λ t. IsFront img h (rs ++ r ∷ []) ((r.place + places r) % h.geom.j) (left - t)) (sym took)
    (front_more img h rs place left r f (only.is_number ∙ ap (λ n. h.start + n) many) only.is_place only.has)))
