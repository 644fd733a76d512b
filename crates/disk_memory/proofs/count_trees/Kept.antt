-- What the counts of a set of numbers keep to, and what they tell.
use Rattle.std.proofs.Common.{◌≡◌, ◌≢◌, ℕ, ◌+◌, ◌*◌, ◌<◌, ◌≤◌, ◌⊎◌, inl, inr, ◌==◌, true, false, List, length, replicate, sym, ap, subst, ◌∙◌, arith}
use Rattle.std.specs.Prelude.{Some, slice_index}
use Rattle.std.specs.List.{list_any, slice_get}
use Rattle.std.proofs.lemmas.Bool.{cases_eq, cases_lt, false≢true}
use Rattle.std.proofs.lemmas.List.{get_or-replicate, get_or_past, length-replicate}
use Rattle.disk_memory.specs.Counts.{marked, sum_from, AreSums, IsDoubled, IsKept}
use Rattle.disk_memory.proofs.count_trees.Sums.{doubled_up, root_sum}
use Rattle.disk_memory.proofs.count_trees.Marks.{marked_at, length_marked, none_marked, any_marked}

pub some_leaf : (counts : List ℕ) (size joined most : ℕ) → IsKept counts size joined most → 0 < size
some_leaf counts size joined most k = omega (arith, doubled_up k.times 1 size k.doubled)

-- the root tells how many there are
pub root_is : (counts : List ℕ) (size joined most : ℕ) → IsKept counts size joined most → slice_index counts 1 ≡ length (marked counts size joined)
root_is counts size joined most k =
    root_sum counts size k.times joined k.sums k.doubled (omega (arith, k.few, k.room)) k.later ∙ sym (length_marked counts size joined k.marks)

-- a leaf of 1 is one of a number that joined
pub leaf_below : (counts : List ℕ) (size joined most leaf : ℕ) → IsKept counts size joined most → slice_index counts (size + leaf) ≡ 1 → leaf < joined
leaf_below counts size joined most leaf k on = elim (cases_lt leaf joined) [ inl below ↦ below | inr past ↦ absurd (omega (arith, k.later leaf past, on)) ]

-- the leaf with so many before it is that of the member at this place
pub member_at : (counts : List ℕ) (size joined most leaf place : ℕ) → IsKept counts size joined most → slice_index counts (size + leaf) ≡ 1 → sum_from counts size leaf ≡ place → Some (leaf + 1) ≡ slice_get (marked counts size joined) place
member_at counts size joined most leaf place k on before =
    sym (marked_at counts size leaf joined k.marks on (leaf_below counts size joined most leaf k on)) ∙ ap (slice_get (marked counts size joined)) before

zeros_kept : (size most times : ℕ) → IsDoubled times 1 size → most ≤ size → most ≤ 4294967295 → IsKept (replicate (2 * size) 0) size 0 most
zeros_kept size most times d room short =
    let long : length (replicate {A = ℕ} (2 * size) 0) ≡ 2 * size = length-replicate {A = ℕ} (2 * size) 0 in
    let nothing : (p : ℕ) → slice_index (replicate {A = ℕ} (2 * size) 0) p ≡ 0 = λ p. elim (cases_lt p (2 * size)) [
      | inl below ↦ get_or-replicate {A = ℕ} (2 * size) p 0 0 below
      | inr past ↦ get_or_past {X = ℕ} (replicate (2 * size) 0) p 0 (omega (arith, long))
    ] in
    record {
      times = times;
      doubled = d;
      twice = long;
      room = room;
      short = short;
      few = omega arith;
      sums = λ p some below. omega (arith, nothing p, nothing (2 * p), nothing (2 * p + 1));
      marks = λ n. omega (arith, nothing (size + n));
      later = λ n past. nothing (size + n);
      small = λ p. omega (arith, nothing p);
    }

-- counts of 0 for no numbers
pub kept_new : (counts : List ℕ) (size most times : ℕ) → counts ≡ replicate (2 * size) 0 → IsDoubled times 1 size → most ≤ size → most ≤ 4294967295 → IsKept counts size 0 most
kept_new counts size most times is d room short = subst (λ xs. IsKept xs size 0 most) (sym is) (zeros_kept size most times d room short)

-- the next number has joined
pub kept_joined : (old new : List ℕ) (size joined most : ℕ) → IsKept old size joined most → joined < most → length new ≡ length old → AreSums new size → slice_index new (size + joined) ≡ 1 → ((n : ℕ) → n ≢ joined → slice_index new (size + n) ≡ slice_index old (size + n)) → ((p : ℕ) → slice_index new p ≤ slice_index old p + 1) → IsKept new size (joined + 1) most
kept_joined old new size joined most k some long sums on others close = record {
  times = k.times;
  doubled = k.doubled;
  twice = long ∙ k.twice;
  room = k.room;
  short = k.short;
  few = omega arith;
  sums = sums;
  marks = λ n. elim (cases_eq n joined) [ inl here ↦ omega (arith, ap (λ m. slice_index new (size + m)) here, on) | inr apart ↦ omega (arith, others n apart, k.marks n) ];
  later = λ n past. others n (λ e. omega arith) ∙ k.later n (omega arith);
  small = λ p. omega (arith, close p, k.small p);
}

-- 0 and what hasn't joined are no members
pub none_joined : (counts : List ℕ) (size joined most number : ℕ) → IsKept counts size joined most → ((number ≡ 0) ⊎ (joined < number)) → false ≡ list_any (λ member. member == number) (marked counts size joined)
none_joined counts size joined most number k out = sym (none_marked counts size joined number k.marks 0 out)

-- a number that joined is a member where its leaf is 1
pub joined_one : (counts : List ℕ) (size joined most number leaf : ℕ) → IsKept counts size joined most → number ≡ leaf + 1 → number ≤ joined → (slice_index counts (size + leaf) == 1) ≡ list_any (λ member. member == number) (marked counts size joined)
joined_one counts size joined most number leaf k is below =
    sym (any_marked counts size leaf joined k.marks (omega arith)) ∙ ap (λ (m : ℕ). list_any (λ member. member == m) (marked counts size joined)) (sym is)

-- a member is one of the numbers that joined
pub member_joined : (counts : List ℕ) (size joined most number : ℕ) → IsKept counts size joined most → list_any (λ member. member == number) (marked counts size joined) ≡ true → (0 < number) × (number ≤ joined)
member_joined counts size joined most number k is =
    elim (cases_eq number 0) [
      | inl least ↦ absurd (false≢true (none_joined counts size joined most number k (inl least) ∙ is))
      | inr some ↦
          elim (cases_lt joined number) [
            | inl above ↦ absurd (false≢true (none_joined counts size joined most number k (inr above) ∙ is))
            | inr below ↦ (omega arith, below)
          ]
    ]
