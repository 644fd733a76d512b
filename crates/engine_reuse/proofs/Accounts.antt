-- How many dead blocks there are, what calls make of them, and when a freed one may be taken again.
use Rattle.std.proofs.Common.{inl, inr, ◌≡◌, ℕ, zero, suc, ◌+◌, ◌-◌, ◌≤◌, ◌==◌, ◌&&◌, ◌||◌, not, Bool, true, false, cond, Option, Some, List, [], ◌∷◌, ◌++◌, length, filter, map, slice_get, sym, ap, ◌∙◌, arith}
use Rattle.std.proofs.lemmas.Bool.{cond-true, eq-eqb, false≢true, or_right, cases_Bool, or_parts}
use Rattle.std.proofs.lemmas.List.Elements.{All-head, All-tail}
use Rattle.std.proofs.lemmas.Option.{none-some, same_Some}
use Rattle.std.specs.List.{All}
use Rattle.std.proofs.lemmas.Bool.Decides.{nat_tests}
use Rattle.std.proofs.Math.Bool.{or-false}
use Rattle.layout_geometry.specs.Geometry.{LiesIn, data_start}
use Rattle.layout_geometry.specs.Geometry.Area.{Data}
use Rattle.engine_reuse.specs.Numbers.{is_among}
use Rattle.engine_reuse.specs.Dead.{DeadBlocks, block_of, dead_blocks, data_blocks_that, times, AreSound, IsReusable}
use Rattle.engine_reuse.specs.Calls.{with_sealed, with_released, with_taken, is_given_up, given_up}
use Rattle.engine_reuse.proofs.Ranges.{among-filter}
use Rattle.engine_reuse.proofs.Counts.{count_others, among-append, times_none, times_some, none_from_times, some_from_times}
use Rattle.engine_reuse.proofs.Sound.{among_data, dead_times, dead_count, times_given, released_no_more, inside}

pub add_up : (v : DeadBlocks) (marked : ℕ → Bool) → AreSound v → ((b : ℕ) → LiesIn v.geom Data b → marked b ≡ not (is_among b (dead_blocks v)))
    → length v.reusable + length (data_blocks_that v.geom marked) + length v.held + length v.waiting ≡ v.geom.n - data_start v.geom
add_up v marked h is = omega (
  arith,
  dead_count v,
  count_others (data_start v.geom) (v.geom.n - data_start v.geom) (dead_blocks v) marked (inside v h) h.once (λ b from below. is b (record { from = from; below = omega (arith, from, below) })),
)

-- a block is dead where it is there at least once
dead_at_least : (v : DeadBlocks) (b : ℕ) → 1 ≤ times b v.reusable + times b v.held + times b (map block_of v.waiting) → is_among b (dead_blocks v) ≡ true
dead_at_least v b some = some_from_times b (dead_blocks v) (omega (arith, some, dead_times b v))

same_truth : (s t : Bool) → (s ≡ true → t ≡ true) → (t ≡ true → s ≡ true) → s ≡ t
same_truth s t f g = grind (arith, f, g)

-- A pair at a place of a list.

pub block_among : (ps : List (ℕ × ℕ)) (k : ℕ) (p : ℕ × ℕ) → slice_get ps k ≡ Some p → is_among (block_of p) (map block_of ps) ≡ true
block_among [] k p at = absurd (none-some p at)
block_among (q ∷ qs) zero p at = ap (λ t. t || is_among (block_of p) (map block_of qs)) (eq-eqb (block_of q) (block_of p) (ap block_of (same_Some q p at)))
block_among (q ∷ qs) (suc k) p at = or_right (block_of q == block_of p) (is_among (block_of p) (map block_of qs)) (block_among qs k p at)

pub kept_pair : (test : ℕ × ℕ → Bool) (ps : List (ℕ × ℕ)) (k : ℕ) (p : ℕ × ℕ) → slice_get ps k ≡ Some p → test p ≡ true → (i : ℕ) × (slice_get (filter test ps) i ≡ Some p)
kept_pair test [] k p at passes = absurd (none-some p at)
kept_pair test (q ∷ qs) zero p at passes = (0, ap (λ zs. slice_get zs 0) (cond-true (test q) (q ∷ filter test qs) (filter test qs) (ap test (same_Some q p at) ∙ passes)) ∙ at)
kept_pair test (q ∷ qs) (suc k) p at passes = let h = kept_pair test qs k p at passes in elim (cases_Bool (test q)) [
  | inl e ↦ (suc h.0, ap (λ t. slice_get (cond t (q ∷ filter test qs) (filter test qs)) (suc h.0)) e ∙ h.1)
  | inr e ↦ (h.0, ap (λ t. slice_get (cond t (q ∷ filter test qs) (filter test qs)) h.0) e ∙ h.1)
]

behind : {X : Type 0} (xs ys : List X) (k : ℕ) → slice_get (xs ++ ys) (length xs + k) ≡ slice_get ys k
behind [] ys k = ap (slice_get ys) {x = 0 + k} {y = k} (omega arith)
behind (x ∷ xs) ys k = ap (slice_get (x ∷ (xs ++ ys))) {x = suc (length xs) + k} {y = suc (length xs + k)} (omega arith) ∙ behind xs ys k

pair_at : (number k b : ℕ) (held : List ℕ) → slice_get held k ≡ Some b → slice_get {X = ℕ × ℕ} (map (λ c. (c, number)) held) k ≡ Some (b, number)
pair_at number k b [] at = absurd (none-some b at)
pair_at number zero b (c ∷ cs) at = ap {B = Option (ℕ × ℕ)} (λ x. Some (x, number)) (same_Some c b at)
pair_at number (suc k) b (c ∷ cs) at = pair_at number k b cs at

pub waits_sealed : (v : DeadBlocks) (number k b : ℕ) → slice_get v.held k ≡ Some b → (i : ℕ) × (slice_get (with_sealed v number).waiting i ≡ Some (b, number))
waits_sealed v number k b at = (length v.waiting + k, behind v.waiting (map (λ c. (c, number)) v.held) k ∙ pair_at number k b v.held at)

-- What is held or waits may not be taken.

pub held_apart : (v : DeadBlocks) (b : ℕ) → AreSound v → is_among b v.held ≡ true → is_among b v.reusable ≡ false
held_apart v b h held = none_from_times b v.reusable (omega (arith, h.once b, dead_times b v, times_some b v.held held))

pub waiting_apart : (v : DeadBlocks) (b : ℕ) → AreSound v → is_among b (map block_of v.waiting) ≡ true → is_among b v.reusable ≡ false
waiting_apart v b h waits = none_from_times b v.reusable (omega (arith, h.once b, dead_times b v, times_some b (map block_of v.waiting) waits))

-- A release lets a block be taken exactly where its pair is given up.

lies_pair : (v : DeadBlocks) (k : ℕ) (p : ℕ × ℕ) → AreSound v → slice_get v.waiting k ≡ Some p → LiesIn v.geom Data (block_of p)
lies_pair v k p h at = h.lie (block_of p) (dead_at_least v (block_of p) (omega (arith, times_some (block_of p) (map block_of v.waiting) (block_among v.waiting k p at))))

pub released_exactly : (v : DeadBlocks) (sure : ℕ) (home : List ℕ) (k : ℕ) (p : ℕ × ℕ) → AreSound v → slice_get v.waiting k ≡ Some p
    → is_among (block_of p) (with_released v sure home).reusable ≡ is_given_up sure home p
released_exactly v sure home k p h at =
    among_data v.geom (λ b. is_among b given || is_among b v.reusable) (block_of p) (lies_pair v k p h at)
    ∙ ap (λ t. is_among (block_of p) given || t) (waiting_apart v (block_of p) h (block_among v.waiting k p at))
    ∙ or-false (is_among (block_of p) given)
    ∙ elim (cases_Bool (is_given_up sure home p)) [
      | inl is ↦ let there = kept_pair (is_given_up sure home) v.waiting k p at is in block_among (filter (is_given_up sure home) v.waiting) there.0 p there.1 ∙ sym is
      | inr is ↦ none_from_times (block_of p) given (
          let there = kept_pair (λ q. not (is_given_up sure home q)) v.waiting k p at (ap not is) in
          omega (arith, h.once (block_of p), dead_times (block_of p) v, times_given (is_given_up sure home) (block_of p) v.waiting, times_some (block_of p) _ (block_among _ there.0 p there.1))
          ) ∙ sym is
    ]
  where
    given : List ℕ
    given = given_up sure home v.waiting

-- What calls make of the dead blocks.

pub dead_released : (v : DeadBlocks) (sure : ℕ) (home : List ℕ) (c : ℕ) → AreSound v → is_among c (dead_blocks (with_released v sure home)) ≡ is_among c (dead_blocks v)
dead_released v sure home c h = same_truth (is_among c (dead_blocks (with_released v sure home))) (is_among c (dead_blocks v)) fewer (λ is. elim (cases_Bool (test c)) [
  | inl passes ↦ dead_at_least (with_released v sure home) c (omega (arith, times_some c (data_blocks_that v.geom test) (among_data v.geom test c (h.lie c is) ∙ passes)))
  | inr fails ↦ dead_at_least (with_released v sure home) c
      (omega (arith, times_some c (dead_blocks v) is, dead_times c v, times_none c (given_up sure home v.waiting) (or_parts _ _ fails).0, times_none c v.reusable (or_parts _ _ fails).1, times_given (is_given_up sure home) c v.waiting))
])
  where
    test : ℕ → Bool
    test b = is_among b (given_up sure home v.waiting) || is_among b v.reusable

    fewer : is_among c (dead_blocks (with_released v sure home)) ≡ true → is_among c (dead_blocks v) ≡ true
    fewer is = some_from_times c (dead_blocks v) (omega (arith, released_no_more v sure home c, times_some c (dead_blocks (with_released v sure home)) is))

one_of_all : (P : ℕ → Type 0) (bs : List ℕ) (c : ℕ) → All P bs → is_among c bs ≡ true → P c
one_of_all P [] c each is = absurd (false≢true is)
one_of_all P (b ∷ bs) c each is = grind (arith, nat_tests, is, All-head P b bs each, one_of_all P bs c (All-tail P b bs each))

pub dead_taken : (v : DeadBlocks) (bs : List ℕ) (c : ℕ) → AreSound v → All (IsReusable v) bs → is_among c (dead_blocks (with_taken v bs)) ≡ (not (is_among c bs) && is_among c (dead_blocks v))
dead_taken v bs c h each = elim (cases_Bool (is_among c bs)) [
  | inl e ↦
      none_from_times c (dead_blocks (with_taken v bs))
      (omega (
        arith,
        dead_times c (with_taken v bs),
        dead_times c v,
        h.once c,
        times_some c v.reusable (one_of_all (IsReusable v) bs c each e).among,
        times_none c (filter (λ b. not (is_among b bs)) v.reusable) (among-filter (λ b. not (is_among b bs)) c v.reusable ∙ ap (λ t. not t && is_among c v.reusable) e),
      ))
      ∙ sym (ap (λ t. not t && is_among c (dead_blocks v)) e)
  | inr e ↦ grind (
    arith,
    e,
    among-append c (filter (λ b. not (is_among b bs)) v.reusable) (v.held ++ map block_of v.waiting),
    among-filter (λ b. not (is_among b bs)) c v.reusable,
    among-append c v.reusable (v.held ++ map block_of v.waiting),
  )
]
