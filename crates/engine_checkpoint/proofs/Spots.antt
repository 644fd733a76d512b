-- The index of newest payloads: one block more that is taken out or dropped, and the sorted list of its blocks.
use Rattle.std.proofs.Common.{◌≡◌, ℕ, zero, suc, ◌+◌, ◌<◌, ◌==◌, ◌&&◌, ◌||◌, nat_eq, Bool, true, false, if◌then◌else◌, List, [], ◌∷◌, ◌++◌, ◌≤◌, length, take, slice_get, slice_index_or, Option, Some, None, is_some, refl, sym, ◌∙◌, ap, subst, arith, length-append, append_assoc}
use Rattle.std.proofs.lemmas.Bool.Decides.{nat_tests}
use Rattle.std.specs.Cmp.{nat_eq_equiv}
use Rattle.std.specs.HashMap.{keys, IsUnique}
use Rattle.std.specs.List.{list_any, IsDistinct}
use Rattle.std.specs.List.Sorted.{IsPermutation, IsSorted, IsStrictlySortedBy}
use Rattle.std.specs.Ordering.{nat_cmp}
use Rattle.std.proofs.lemmas.List.Sorted.{IsNonDecreasingBy-from_sort, list_any-IsPermutation}
use Rattle.std.proofs.lemmas.Map.Keys.{IsDistinct-IsPermutation, IsStrictlyIncreasing-from_distinct, sorted_from_strictly_increasing, below_from_sorted, any_passes_from_place}
use Rattle.std.proofs.lemmas.Option.{same_Some, none-some}
use Rattle.crash_argument.specs.HomeTest.{is_one_of}
use Rattle.engine_running.specs.declared.put.Put.{Put}
use Rattle.engine_running.specs.Running.{IsRisingNumbers}
use Rattle.engine_checkpoint.specs.declared.newest.Spot.{Spot}
use Rattle.engine_checkpoint.specs.declared.newest.Newest.{Newest}
use Rattle.engine_checkpoint.specs.Newest.{spot_of, has_block, is_upto, IsSpotList}
use Rattle.engine_checkpoint.proofs.Lists.{below_none}

-- a choice is made by the last of the numbers, or by those before it
pub out_push : {A : Type 0} (ts : List ℕ) (k d b : ℕ) (x y : A) → k < length ts → (if slice_index_or ts k d == b then x else (if is_one_of b (take k ts) then x else y)) ≡ (if is_one_of b (take (k + 1) ts) then x else y)
out_push [] k d b x y lt = absurd (below_none k lt)
out_push (t ∷ ts) zero d b x y lt = grind (arith, nat_tests)
out_push (t ∷ ts) (suc k) d b x y lt = grind (arith, nat_tests, out_push ts k d b x y (omega (arith, lt)))

-- one put more
pub has_push : (ps : List Put) (k b : ℕ) (d : Put) → k < length ps → has_block b (take (k + 1) ps) ≡ (has_block b (take k ps) || ((slice_index_or ps k d).block == b))
has_push [] k b d lt = absurd (below_none k lt)
has_push (q ∷ ps) zero b d lt = grind (arith, nat_tests)
has_push (q ∷ ps) (suc k) b d lt = grind (arith, nat_tests, has_push ps k b d (omega (arith, lt)))

-- what was dropped up to a number has nothing up to it
pub dropped_none : (n : ℕ) (s : Option Spot) → is_upto n (if is_upto n s then None else s) ≡ false
dropped_none n None = refl
dropped_none n (Some t) = grind (arith, nat_tests)

-- dropped for some blocks, and for one more
pub drop_twice : (n : ℕ) (s : Option Spot) (has same : Bool) → (if same && is_upto n (if has && is_upto n s then None else s) then None else (if has && is_upto n s then None else s)) ≡ (if (has || same) && is_upto n s then None else s)
drop_twice n s false same = refl
drop_twice n s true same = grind (arith, nat_tests, dropped_none)

pub drop_push : (n : ℕ) (before cur after : Option Spot) (ps : List Put) (k b : ℕ) (p : Put) → k < length ps → p ≡ slice_index_or ps k p → cur ≡ (if has_block b (take k ps) && is_upto n before then None else before) → after ≡ (if p.block == b && is_upto n cur then None else cur)
    → after ≡ (if has_block b (take (k + 1) ps) && is_upto n before then None else before)
drop_push n before cur after ps k b p lt is at_k at_p = at_p ∙ ap (λ c. if p.block == b && is_upto n c then None else c) at_k ∙ drop_twice n before (has_block b (take k ps)) (p.block == b) ∙ ap (λ w. if w && is_upto n before then None else before) (ap (λ (r : Put). has_block b (take k ps) || (r.block == b)) is ∙ sym (has_push ps k b p lt))

-- one of these numbers, either way
any_is_one : (b : ℕ) (bs : List ℕ) → list_any (nat_eq b) bs ≡ is_one_of b bs
any_is_one b [] = refl
any_is_one b (c ∷ bs) = grind (arith, nat_tests, any_is_one b bs)

-- the length of a list that ends with these, and what comes behind one of them
pub room_left : (xs ys zs : List ℕ) (y most : ℕ) (all : List ℕ) → xs ++ ys ≡ all → ys ≡ y ∷ zs → length all ≤ most → length xs < most
room_left xs ys zs y most all e f le = omega (arith, le, ap length e, length-append xs ys, ap length f)

pub one_further : (xs ys zs : List ℕ) (y : ℕ) (all : List ℕ) → xs ++ ys ≡ all → ys ≡ y ∷ zs → (xs ++ y ∷ []) ++ zs ≡ all
one_further xs ys zs y all e f = append_assoc xs (y ∷ []) zs ∙ ap (λ v. xs ++ v) (sym f) ∙ e

rises : (bs : List ℕ) → IsStrictlySortedBy nat_cmp bs → IsRisingNumbers bs
rises bs sorted i k x y lt at_i at_k = subst (λ m. m < y) (index_of bs i x at_i) (subst (λ n. slice_index_or bs i 0 < n) (index_of bs k y at_k) (below_from_sorted bs i k 0 sorted lt (get_below bs k y at_k)))
  where
    index_of : (xs : List ℕ) (n z : ℕ) → slice_get xs n ≡ Some z → slice_index_or xs n 0 ≡ z
    index_of [] n z is = absurd (none-some z is)
    index_of (v ∷ xs) zero z is = same_Some _ _ is
    index_of (v ∷ xs) (suc n) z is = index_of xs n z is

    get_below : (xs : List ℕ) (n z : ℕ) → slice_get xs n ≡ Some z → n < length xs
    get_below [] n z is = absurd (none-some z is)
    get_below (v ∷ xs) zero z is = omega arith
    get_below (v ∷ xs) (suc n) z is = omega (arith, get_below xs n z is)

-- the keys, sorted, are the list of blocks
pub spot_list : (n : Newest) (ks bs : List ℕ) → ks ≡ keys n.spots → IsUnique nat_eq n.spots → ((b : ℕ) → is_some (spot_of n b) ≡ list_any (nat_eq b) (keys n.spots)) → IsPermutation ks bs → IsSorted nat_cmp bs → IsSpotList n bs
spot_list n ks bs are unique has moved sorted = record {
  rising = λ i k x y lt at_i at_k. rises bs (sorted_from_strictly_increasing bs (IsStrictlyIncreasing-from_distinct bs (IsNonDecreasingBy-from_sort (λ b. b) bs sorted) (IsDistinct-IsPermutation nat_eq nat_eq_equiv.symm ks bs moved (subst (IsDistinct nat_eq) (sym are) unique)))) i k x y lt at_i at_k;
  all = λ b some. sym (any_is_one b bs) ∙ sym (has_sorted b) ∙ some;
  only = λ k b is. has_sorted b ∙ any_passes_from_place (nat_eq b) bs k b is (nat_eq_equiv.refl b);
}
  where
    has_sorted : (b : ℕ) → is_some (spot_of n b) ≡ list_any (nat_eq b) bs
    has_sorted b = has b ∙ ap (list_any (nat_eq b)) (sym are) ∙ list_any-IsPermutation (nat_eq b) ks bs moved
