-- What a release lets be taken, and how many wait then.
use Rattle.std.proofs.Common.{◌≡◌, ℕ, zero, suc, ◌+◌, ◌-◌, ◌<◌, ◌≤◌, ◌==◌, true, not, ◌||◌, List, length, refl, sym, ap, subst, ◌∙◌, arith}
use Rattle.std.proofs.lemmas.Bool.{eqb-true}
use Rattle.std.proofs.lemmas.Map.Views.{any-filter_same}
use Rattle.std.specs.List.{range_with_len}
use Rattle.std.proofs.lemmas.Bool.Decides.{nat_tests}
use Rattle.std.proofs.lemmas.List.Filters.{length-filter_both}
use Rattle.layout_geometry.specs.Geometry.{Geometry, LiesIn, data_start}
use Rattle.layout_geometry.specs.Geometry.Area.{Data}
use Rattle.engine_reuse.specs.Numbers.{is_among}
use Rattle.engine_reuse.specs.Dead.{DeadBlocks}
use Rattle.engine_reuse.specs.Calls.{with_released, given_up, is_given_up}
use Rattle.engine_books.specs.Books.{TransactionBooks, is_free_now}
use Rattle.engine_books.specs.Kept.{AreKept}

-- a range has each of its numbers
among_range : (a n b : ℕ) → a ≤ b → b < a + n → is_among b (range_with_len a n) ≡ true
among_range a zero b low high = absurd (omega (arith, low, high))
among_range a (suc n) b low high = grind (arith, nat_tests, low, high, among_range (a + 1) n b)

-- what may be taken still may
still_may : (d : DeadBlocks) (sure : ℕ) (home : List ℕ) (b : ℕ) → LiesIn d.geom Data b → is_among b d.reusable ≡ true → is_among b (with_released d sure home).reusable ≡ true
still_may d sure home b lie is =
    any-filter_same (λ x. x == b) (λ x. is_among x (given_up sure home d.waiting) || is_among x d.reusable) (is_among b (given_up sure home d.waiting) || is_among b d.reusable)
    (λ y e. ap (λ x. is_among x (given_up sure home d.waiting) || is_among x d.reusable) (eqb-true y b e)) (range_with_len (data_start d.geom) (d.geom.n - data_start d.geom))
    ∙ grind (arith, is, among_range (data_start d.geom) (d.geom.n - data_start d.geom) b lie.from (omega (arith, lie.from, lie.below)))

pub may_at : (v x : TransactionBooks) (dead : DeadBlocks) (sure : ℕ) (home : List ℕ) → x ≡ v → dead ≡ with_released x.dead sure home → (b : ℕ) → AreKept v → LiesIn v.geom Data b → is_free_now v b ≡ true → is_among b dead.reusable ≡ true
may_at v x dead sure home e d b k lie is =
    ap (λ (y : DeadBlocks). is_among b y.reusable) d
    ∙ still_may x.dead sure home b (subst (λ (g : Geometry). LiesIn g Data b) (sym k.geom ∙ ap (λ (y : TransactionBooks). y.dead.geom) (sym e)) lie) (ap (λ y. is_free_now y b) e ∙ is)

pub fewer_at : (v x : TransactionBooks) (dead : DeadBlocks) (sure : ℕ) (home : List ℕ) → x ≡ v → dead ≡ with_released x.dead sure home → length dead.waiting ≤ length v.dead.waiting
fewer_at v x dead sure home e d = omega (
  arith,
  ap (λ (y : DeadBlocks). length y.waiting) d,
  ap (λ (y : TransactionBooks). length y.dead.waiting) e,
  length-filter_both (is_given_up sure home) (λ p. not (is_given_up sure home p)) (λ p. refl) x.dead.waiting,
)
