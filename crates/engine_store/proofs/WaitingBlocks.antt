-- Which blocks wait, and for which record: what is so of pairs in a list, and what calls that change the transaction leave of it.
use Rattle.std.proofs.Common.{◌≡◌, ℕ, zero, suc, ◌+◌, ◌≤◌, ◌==◌, ◌||◌, Bool, true, false, cond, if◌then◌else◌, List, [], ◌∷◌, ◌++◌, map, filter, slice_get, Some, None, option_map, refl, sym, ◌∙◌, ap, ap₂, arith, inl, inr}
use Rattle.std.proofs.lemmas.Bool.{eq-eqb, eqb-true, false≢true, cases_Bool, cond-true, cond-false, or_right, false_from_ne_true}
use Rattle.std.proofs.lemmas.List.Folds.{list_any-append}
use Rattle.std.proofs.lemmas.List.Sums.{sum_by-append}
use Rattle.std.proofs.lemmas.Option.{none-some, same_Some}
use Rattle.std.proofs.lemmas.Bool.Decides.{nat_tests}
use Rattle.engine_reuse.specs.Numbers.{is_among}
use Rattle.engine_reuse.specs.Dead.{DeadBlocks, AreSound, block_of, dead_blocks, freed_by, times}
use Rattle.engine_reuse.specs.Calls.{with_freed}
use Rattle.engine_books.specs.Books.{TransactionBooks, with_books}
use Rattle.engine_store.specs.declared.parts.StoreParts.{StoreParts}
use Rattle.engine_store.specs.Store.{beside_books, bookkeeping_of, point_of, waits_for}

-- Pairs in a list.

pub found : (ps : List (ℕ × ℕ)) (b r : ℕ) → waits_for ps b ≡ Some r → (k : ℕ) × (slice_get ps k ≡ Some (b, r))
found [] b r is = absurd (none-some r is)
found (p ∷ ps) b r is = elim (cases_Bool (block_of p == b)) [
  | inl own ↦ (0, ap₂ (λ x y. Some (x, y)) (eqb-true (block_of p) b own) (same_Some (freed_by p) r (sym (cond-true (block_of p == b) (Some (freed_by p)) (waits_for ps b) own) ∙ is)))
  | inr other ↦ (let k = found ps b r (sym (cond-false (block_of p == b) (Some (freed_by p)) (waits_for ps b) other) ∙ is) in (suc k.0, k.1))
]

pub none_among : (ps : List (ℕ × ℕ)) (b : ℕ) → waits_for ps b ≡ None → is_among b (map block_of ps) ≡ false
none_among [] b none = refl
none_among (p ∷ ps) b none = grind (arith, none, none_among ps b)

pub among_none : (ps : List (ℕ × ℕ)) (b : ℕ) → is_among b (map block_of ps) ≡ false → waits_for ps b ≡ None
among_none [] b none = refl
among_none (p ∷ ps) b none = grind (arith, none, among_none ps b)

pub at_among : (ps : List (ℕ × ℕ)) (k b r : ℕ) → slice_get ps k ≡ Some (b, r) → is_among b (map block_of ps) ≡ true
at_among [] k b r is = absurd (none-some (b, r) is)
at_among (q ∷ qs) zero b r is = ap (λ t. t || is_among b (map block_of qs)) (eq-eqb (block_of q) b (ap block_of (same_Some q (b, r) is)))
at_among (q ∷ qs) (suc k) b r is = or_right (block_of q == b) (is_among b (map block_of qs)) (at_among qs k b r is)

-- of some of the pairs
pub kept_waits : (test : ℕ × ℕ → Bool) (ps : List (ℕ × ℕ)) (b r : ℕ) → waits_for ps b ≡ Some r → test (b, r) ≡ true → waits_for (filter test ps) b ≡ Some r
kept_waits test [] b r is passes = is
kept_waits test (p ∷ ps) b r is passes = grind (arith, nat_tests, is, passes, kept_waits test ps b r, λ (own : block_of p ≡ b) (at : freed_by p ≡ r). ap test (ap₂ (λ (x y : ℕ). (x, y)) own at))

pub none_kept : (test : ℕ × ℕ → Bool) (ps : List (ℕ × ℕ)) (b : ℕ) → waits_for ps b ≡ None → waits_for (filter test ps) b ≡ None
none_kept test [] b none = none
none_kept test (p ∷ ps) b none = grind (arith, none, none_kept test ps b)

-- of two lists
pub first_waits : (ps qs : List (ℕ × ℕ)) (b r : ℕ) → waits_for ps b ≡ Some r → waits_for (ps ++ qs) b ≡ Some r
first_waits [] qs b r is = absurd (none-some r is)
first_waits (p ∷ ps) qs b r is = grind (arith, is, first_waits ps qs b r)

pub then_waits : (ps qs : List (ℕ × ℕ)) (b : ℕ) → waits_for ps b ≡ None → waits_for (ps ++ qs) b ≡ waits_for qs b
then_waits [] qs b none = refl
then_waits (p ∷ ps) qs b none = grind (arith, none, then_waits ps qs b)

-- of blocks with one record
pub all_wait : (bs : List ℕ) (b n : ℕ) → waits_for (map (λ x. (x, n)) bs) b ≡ (if is_among b bs then Some n else None)
all_wait [] b n = refl
all_wait (x ∷ bs) b n = grind (arith, all_wait bs b n)

-- Dead blocks.

pub dead_is : (v : DeadBlocks) (b : ℕ) → is_among b (dead_blocks v) ≡ (is_among b v.reusable || (is_among b v.held || is_among b (map block_of v.waiting)))
dead_is v b = list_any-append (λ x. x == b) v.reusable (v.held ++ map block_of v.waiting) ∙ ap (λ x. is_among b v.reusable || x) (list_any-append (λ x. x == b) v.held (map block_of v.waiting))

times_append : (b : ℕ) (xs ys : List ℕ) → times b (xs ++ ys) ≡ times b xs + times b ys
times_append b xs ys = sum_by-append (λ x. cond (x == b) 1 0) xs ys

times_some : (b : ℕ) (xs : List ℕ) → is_among b xs ≡ true → 1 ≤ times b xs
times_some b [] among = absurd (false≢true among)
times_some b (x ∷ xs) among = grind (arith, among, times_append b (x ∷ []) xs, times_some b xs)

-- a block that waits isn't held
pub waits_not_held : (v : DeadBlocks) (b : ℕ) → AreSound v → is_among b (map block_of v.waiting) ≡ true → is_among b v.held ≡ false
waits_not_held v b sound waits = false_from_ne_true (is_among b v.held) (λ held. omega (
  arith,
  sound.once b,
  times_append b v.reusable (v.held ++ map block_of v.waiting),
  times_append b v.held (map block_of v.waiting),
  times_some b v.held held,
  times_some b (map block_of v.waiting) waits,
))

-- Calls that change the transaction alone.

pub waits_freed : (bit : Bool) (dead next : DeadBlocks) (b : ℕ) → next ≡ (if bit then with_freed dead b else dead) → next.waiting ≡ dead.waiting
waits_freed true dead next b is = ap (λ (x : DeadBlocks). x.waiting) is
waits_freed false dead next b is = ap (λ (x : DeadBlocks). x.waiting) is

-- the bookkeeping beside the books is as it was, where the same blocks wait
pub books_beside : (v : StoreParts) (w : TransactionBooks) → w.dead.waiting ≡ v.books.dead.waiting → bookkeeping_of (record v { books = w }) ≡ with_books (beside_books v) w
books_beside v w same = ap (λ (ws : List (ℕ × ℕ)). with_books (record (beside_books v) { since = λ b. option_map (point_of v.first) (waits_for ws b) }) w) same
