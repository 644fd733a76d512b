-- Lists of numbers: which numbers are in one, and how long two lists are that have the same ones.
use Rattle.std.proofs.Common.{◌≡◌, ◌≢◌, ◌⊎◌, inl, inr, ℕ, zero, suc, ◌+◌, ◌<◌, ◌≤◌, ◌==◌, ◌||◌, Bool, true, false, List, [], ◌∷◌, ◌++◌, length, get_or, slice_get, filter, Some, refl, sym, ap, ◌∙◌, arith}
use Rattle.std.specs.Cmp.{nat_eq_equiv, unsigned_Decides}
use Rattle.std.specs.List.{AllByRecursion, IsDistinct, range_with_len}
use Rattle.std.specs.Set.{is_member}
use Rattle.std.proofs.lemmas.Bool.{cases_Bool, cases_order, eq-eqb, false≢true, or_left, or_right}
use Rattle.std.proofs.lemmas.List.FromFn.{get_or-range_with_len, length-range_with_len}
use Rattle.std.proofs.lemmas.List.Kept.{AllPairs-filter}
use Rattle.std.proofs.lemmas.Map.Made.{IsDistinct-from_AllPairs, length-le_from_is_member}
use Rattle.std.proofs.lemmas.Option.{slice_get-get_or}
use Rattle.engine_blocks.specs.Running.{has}
pub use Rattle.fs_files.specs.Places.{has_append, has_place, in_append, place_of}

-- Places in a list.

-- Lists without repeats.

-- no number is there twice: each has one place
abbrev HasOnce : List ℕ → Type 0
HasOnce xs = (i j b : ℕ) → slice_get xs i ≡ Some b → slice_get xs j ≡ Some b → i ≡ j

distinct_once : (xs : List ℕ) → HasOnce xs → IsDistinct (λ a b. a == b) xs
distinct_once xs once = IsDistinct-from_AllPairs unsigned_Decides xs (λ i j d low high e.
    absurd (omega (arith, low, once i j (get_or xs i d) (slice_get-get_or xs i d (omega (arith, low, high))) (slice_get-get_or xs j d high ∙ ap Some (sym e)))))

-- two lists, one behind the other, have no repeats where neither has and they share no number
absent : (x : ℕ) (ys : List ℕ) → (has ys x ≡ true → ⊥) → AllByRecursion (λ y. (x == y) ≡ false) ys
absent x [] none = tt
absent x (y ∷ ys) none = (by (cases_Bool (x == y)), absent x ys (λ is. none (or_right (x == y) (has ys x) is)))
  where
    by : ((x == y) ≡ true) ⊎ ((x == y) ≡ false) → (x == y) ≡ false
    by (inl same) = absurd (none (ap (λ t. t || has ys x) same))
    by (inr other) = other

all_both : (P : ℕ → Type 0) (xs ys : List ℕ) → AllByRecursion P xs → AllByRecursion P ys → AllByRecursion P (xs ++ ys)
all_both P [] ys first second = second
all_both P (x ∷ xs) ys first second = (first.0, all_both P xs ys first.1 second)

distinct_append : (xs ys : List ℕ) → IsDistinct (λ a b. a == b) xs → IsDistinct (λ a b. a == b) ys → ((b : ℕ) → has xs b ≡ true → has ys b ≡ true → ⊥) → IsDistinct (λ a b. a == b) (xs ++ ys)
unfolding IsDistinct
distinct_append [] ys first second apart = second
distinct_append (x ∷ xs) ys first second apart = (
  all_both (λ y. (x == y) ≡ false) xs ys first.0 (absent x ys (apart x (ap (λ t. t || has xs x) (eq-eqb x x refl)))),
  distinct_append xs ys first.1 second (λ b is. apart b (or_right (b == x) (has xs b) is)),
)

-- Two lists with the same numbers.

member_is : (xs : List ℕ) (b : ℕ) → is_member (λ a b. a == b) xs b ≡ has xs b
member_is [] b = refl
member_is (x ∷ xs) b = ap (λ t. (b == x) || t) (member_is xs b)

-- a list without repeats is no longer than one that has its numbers
no_longer : (xs ys : List ℕ) → IsDistinct (λ a b. a == b) xs → ((b : ℕ) → has xs b ≡ true → has ys b ≡ true) → length xs ≤ length ys
no_longer xs ys once all = length-le_from_is_member nat_eq_equiv xs ys once (λ b is. member_is ys b ∙ all b (sym (member_is xs b) ∙ is))

pub as_long : (xs ys : List ℕ) → IsDistinct (λ a b. a == b) xs → IsDistinct (λ a b. a == b) ys → ((b : ℕ) → has xs b ≡ true → has ys b ≡ true) → ((b : ℕ) → has ys b ≡ true → has xs b ≡ true) → length xs ≡ length ys
as_long xs ys first second there back = omega (arith, no_longer xs ys first there, no_longer ys xs second back)

-- The numbers of a range that pass a test.

pub distinct_kept : (p : ℕ → Bool) (a n : ℕ) → IsDistinct (λ a b. a == b) (filter p (range_with_len a n))
distinct_kept p a n = IsDistinct-from_AllPairs unsigned_Decides (filter p (range_with_len a n)) (AllPairs-filter (λ x y. x ≢ y) p (range_with_len a n) (λ i j d before low e.
    let long = length-range_with_len a n in
    absurd (omega (arith, before, low, long, e, get_or-range_with_len a n i d (omega (arith, before, low, long)), get_or-range_with_len a n j d (omega (arith, low, long))))))

-- Lists one behind the other.

-- those of n numbers from k on
abbrev pub in_turn : (ℕ → List ℕ) → ℕ → ℕ → List ℕ
in_turn f k zero = []
in_turn f k (suc n) = f k ++ in_turn f (k + 1) n

pub turn_of : (f : ℕ → List ℕ) (k n b : ℕ) → has (in_turn f k n) b ≡ true → (l : ℕ) × (k ≤ l) × (l < k + n) × (has (f l) b ≡ true)
turn_of f k zero b e = absurd (false≢true e)
turn_of f k (suc n) b e = by (turn_of f (k + 1) n b) (in_append (f k) (in_turn f (k + 1) n) b e)
  where
    by : (has (in_turn f (k + 1) n) b ≡ true → (l : ℕ) × (k + 1 ≤ l) × (l < k + 1 + n) × (has (f l) b ≡ true)) → (has (f k) b ≡ true) ⊎ (has (in_turn f (k + 1) n) b ≡ true) → (l : ℕ) × (k ≤ l) × (l < k + suc n) × (has (f l) b ≡ true)
    by further (inl here) = (k, omega arith, omega arith, here)
    by further (inr later) = let r = further later in (r.0, omega (arith, r.1), omega (arith, r.2), r.3)

pub in_its_turn : (f : ℕ → List ℕ) (k n b l : ℕ) → k ≤ l → l < k + n → has (f l) b ≡ true → has (in_turn f k n) b ≡ true
in_its_turn f k zero b l low high e = absurd (omega (arith, low, high))
in_its_turn f k (suc n) b l low high e = by (cases_order k l) (λ from. in_its_turn f (k + 1) n b l from (omega (arith, high)) e)
  where
    by : (k ≡ l) ⊎ ((k < l) ⊎ (l < k)) → (k + 1 ≤ l → has (in_turn f (k + 1) n) b ≡ true) → has (f k ++ in_turn f (k + 1) n) b ≡ true
    by (inl same) further = has_append (f k) (in_turn f (k + 1) n) b ∙ or_left (has (f k) b) (has (in_turn f (k + 1) n) b) (ap (λ j. has (f j) b) same ∙ e)
    by (inr (inl later)) further = has_append (f k) (in_turn f (k + 1) n) b ∙ or_right (has (f k) b) (has (in_turn f (k + 1) n) b) (further (omega (arith, later)))
    by (inr (inr before)) further = absurd (omega (arith, low, before))

-- a number has one place in one of the lists
abbrev pub HasOnePlace : (ℕ → List ℕ) → Type 0
HasOnePlace f = (k l i j b : ℕ) → slice_get (f k) i ≡ Some b → slice_get (f l) j ≡ Some b → (k ≡ l) × (i ≡ j)

pub distinct_turns : (f : ℕ → List ℕ) (k n : ℕ) → HasOnePlace f → IsDistinct (λ a b. a == b) (in_turn f k n)
unfolding IsDistinct
distinct_turns f k zero once = tt
distinct_turns f k (suc n) once = distinct_append (f k) (in_turn f (k + 1) n) (distinct_once (f k) (λ i j b at_i at_j. (once k k i j b at_i at_j).1)) (distinct_turns f (k + 1) n once) (λ b here later.
    let r = turn_of f (k + 1) n b later in
    let first = place_of (f k) b here in
    let second = place_of (f r.0) b r.3 in
    absurd (omega (arith, r.1, (once k r.0 first.0 second.0 b first.1 second.1).0)))
