-- Rows of records: what is so of their numbers and their ring places as some leave at the front, or go from one state into the next.
use Rattle.std.proofs.Common.{◌≡◌, ⊎_elim, ℕ, zero, suc, ◌+◌, ◌-◌, ◌≤◌, List, [], ◌∷◌, ◌++◌, length, take, drop, map, slice_get, option_map, Some, refl, sym, ◌∙◌, subst, ap, arith, append_assoc}
use Rattle.std.proofs.lemmas.Bool.Decides.{nat_tests}
use Rattle.std.specs.List.{range_with_len}
use Rattle.std.proofs.lemmas.Option.{same_Some, none-some, slice_get-map}
use Rattle.layout_journal.specs.Ring.{RingPlaces, without_places}
use Rattle.engine_running.specs.declared.states.Durable.{Durable}
use Rattle.engine_running.specs.declared.states.Sure.{Sure}
use Rattle.engine_running.specs.States.{IsSureOf}
use Rattle.engine_checkpoint.proofs.Index.{sure_kept}
use Rattle.engine_checkpoint.proofs.Lists.{last_or}
use Rattle.engine_checkpoint.specs.Kept.{of_sure, of_durable, total}
use Rattle.engine_checkpoint.specs.Turns.{AreSured}

-- The front of a row.

-- the one at this place is the first of those from there on
pub drop_next : {A : Type 0} (k : ℕ) (xs rest : List A) (x : A) → drop k xs ≡ x ∷ rest → slice_get xs k ≡ Some x
drop_next zero xs rest x is = ap (λ ys. slice_get ys 0) is
drop_next (suc k) [] rest x is = cc
drop_next (suc k) (y ∷ xs) rest x is = drop_next k xs rest x is

one_more : (k : ℕ) → suc k ≡ k + 1
one_more k = omega arith

-- and behind it are those that come after it
pub drop_rest : {A : Type 0} (k : ℕ) (xs rest : List A) (x : A) → drop k xs ≡ x ∷ rest → rest ≡ drop (k + 1) xs
drop_rest k xs rest x is = behind k xs rest x is ∙ ap (λ n. drop n xs) (one_more k)
  where
    behind : {A : Type 0} (k : ℕ) (xs rest : List A) (x : A) → drop k xs ≡ x ∷ rest → rest ≡ drop (suc k) xs
    behind zero [] rest x is = cc
    behind zero (y ∷ xs) rest x is = ap (drop 1) (sym is)
    behind (suc k) [] rest x is = cc
    behind (suc k) (y ∷ xs) rest x is = behind k xs rest x is

-- Numbers of a row together.

pub total_next : {A : Type 0} (f : A → ℕ) (k : ℕ) (xs : List A) (x : A) → slice_get xs k ≡ Some x → total (map f (take (k + 1) xs)) ≡ total (map f (take k xs)) + f x
total_next f k xs x is = ap (λ n. total (map f (take n xs))) (sym (one_more k)) ∙ next f k xs x is
  where
    next : {A : Type 0} (f : A → ℕ) (k : ℕ) (xs : List A) (x : A) → slice_get xs k ≡ Some x → total (map f (take (suc k) xs)) ≡ total (map f (take k xs)) + f x
    next f k [] x is = absurd (none-some x is)
    next f zero (y ∷ xs) x is = omega (arith, ap f (same_Some _ _ is))
    next f (suc k) (y ∷ xs) x is = omega (arith, next f k xs x is)

pub total_parts : {A : Type 0} (f : A → ℕ) (k : ℕ) (xs : List A) → total (map f (take k xs)) + total (map f (drop k xs)) ≡ total (map f xs)
total_parts f zero xs = omega arith
total_parts f (suc k) [] = refl
total_parts f (suc k) (x ∷ xs) = omega (arith, total_parts f k xs)

pub total_more : {A : Type 0} (f : A → ℕ) (k n : ℕ) (xs : List A) → k ≤ n → total (map f (take k xs)) ≤ total (map f (take n xs))
total_more f zero n xs le = omega arith
total_more f (suc k) n [] le = omega arith
total_more f (suc k) zero (x ∷ xs) le = absurd (omega (arith, le))
total_more f (suc k) (suc n) (x ∷ xs) le = omega (arith, total_more f k n xs (omega (arith, le)))

-- places that are given back one after another
pub without_more : (old now new : RingPlaces) (n m k : ℕ) → now ≡ without_places old n → new ≡ without_places now m → k ≡ n + m → new ≡ without_places old k
without_more old now new n m k first then sum = grind (arith, nat_tests)

-- Records that become sure.

pub sured_next : (ds : List Durable) (ss : List Sure) (d : Durable) (s : Sure) → AreSured ds ss → slice_get ds (length ss) ≡ Some d → IsSureOf d s → AreSured ds (ss ++ s ∷ [])
sured_next ds ss d s each is of i t at = ⊎_elim (each i t) (λ own. (d, ap (slice_get ds) own.0 ∙ is, subst (IsSureOf d) own.1 of)) (last_or ss s i t at)

-- they keep what is kept of them
pub sured_kept : (ds : List Durable) (ss : List Sure) → AreSured ds ss → map of_sure ss ≡ map of_durable (take (length ss) ds)
sured_kept ds [] each = refl
sured_kept [] (s ∷ ss) each = let d = each 0 s refl in absurd (none-some d.0 d.1)
sured_kept (d ∷ ds) (s ∷ ss) each = let r = each 0 s refl in ap (λ k. k ∷ map of_sure ss) (sure_kept d s (subst (λ (x : Durable). IsSureOf x s) (sym (same_Some _ _ r.1)) r.2)) ∙ ap (λ ks. of_durable d ∷ ks) (sured_kept ds ss (λ i t is. each (suc i) t is))

-- Numbers that follow one another.

pub range_at : (a n k x : ℕ) → slice_get (range_with_len a n) k ≡ Some x → x ≡ a + k
range_at a zero k x is = absurd (none-some x is)
range_at a (suc n) zero x is = omega (arith, same_Some _ _ is)
range_at a (suc n) (suc k) x is = omega (arith, range_at (a + 1) n k x is)

pub drop_range : (k a n : ℕ) → drop k (range_with_len a n) ≡ range_with_len (a + k) (n - k)
drop_range zero a n = grind (arith, nat_tests)
drop_range (suc k) a zero = grind (arith, nat_tests)
drop_range (suc k) a (suc n) = drop_range k (a + 1) n ∙ ap (λ m. range_with_len m (n - k)) (s a k) ∙ ap (range_with_len (a + suc k)) (t n k)
  where
    s : (a k : ℕ) → a + 1 + k ≡ a + suc k
    s a k = omega arith

    t : (n k : ℕ) → n - k ≡ suc n - suc k
    t n k = omega arith

-- Places in rows that stand behind one another.

pub get_map : {A B : Type 0} (f : A → B) (xs : List A) (k : ℕ) (x : A) → slice_get xs k ≡ Some x → slice_get (map f xs) k ≡ Some (f x)
get_map f xs k x is = slice_get-map f xs k ∙ ap (option_map f) is

pub get_behind : {A : Type 0} (xs ys : List A) (n k : ℕ) (z : A) → n ≡ length xs + k → slice_get ys k ≡ Some z → slice_get (xs ++ ys) n ≡ Some z
get_behind [] ys n k z e is = grind (arith, nat_tests)
get_behind (x ∷ xs) ys zero k z e is = absurd (omega (arith, e))
get_behind (x ∷ xs) ys (suc n) k z e is = get_behind xs ys n k z (omega (arith, e)) is

-- two rows of which the second gave its front to the first
pub moved_front : {A : Type 0} (x y a b e c d : List A) → x ≡ a ++ b → y ≡ e → b ++ e ≡ d → x ++ (y ++ c) ≡ a ++ (d ++ c)
moved_front x y a b e c d first second whole = ap (λ s. s ++ (y ++ c)) first ∙ ap (λ s. (a ++ b) ++ (s ++ c)) second ∙ append_assoc a b (e ++ c) ∙ ap (λ s. a ++ s) (sym (append_assoc b e c) ∙ ap (λ s. s ++ c) whole)
