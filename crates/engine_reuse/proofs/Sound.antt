-- The dead blocks stay sound under each call.
use Rattle.std.proofs.Common.{◌≡◌, ◌≢◌, ℕ, ◌+◌, ◌-◌, ◌<◌, ◌≤◌, ◌==◌, ◌&&◌, ◌||◌, not, Bool, true, false, cond, ◌⊎◌, inl, inr, List, [], ◌∷◌, ◌++◌, length, filter, map, slice_index_or, refl, sym, ap, ap₂, subst, ◌∙◌, arith, append-nil}
use Rattle.std.proofs.Math.Bool.{and-true, and-false, or_comm}
use Rattle.std.proofs.lemmas.Bool.{cases_lt, eq-eqb, eqb-true, false≢true, or_cases, cases_Bool, false_from_ne_true}
use Rattle.std.proofs.lemmas.List.{length-append, length-map, map-append, get_or_append_left, get_or-append_right, get_or-map}
use Rattle.std.proofs.lemmas.List.Folds.{list_any_at}
use Rattle.std.proofs.lemmas.List.Kept.{AllPairs-filter}
use Rattle.std.specs.List.{range_with_len, All}
use Rattle.std.proofs.lemmas.Bool.Decides.{nat_tests}
use Rattle.base_types.specs.Seal.{Blocks}
use Rattle.layout_geometry.specs.Geometry.{Geometry, LiesIn, data_start}
use Rattle.layout_geometry.specs.Geometry.Area.{Data}
use Rattle.layout_bitmap.specs.Bits.{bit_in, free_blocks}
use Rattle.engine_reuse.specs.Numbers.{is_among, numbers_below}
use Rattle.engine_reuse.specs.Dead.{DeadBlocks, block_of, freed_by, dead_blocks, IsLive, data_blocks_that, times, AreSound}
use Rattle.engine_reuse.specs.Calls.{with_bitmap, with_freed, with_sealed, with_released, with_taken, is_given_up, given_up}
use Rattle.engine_reuse.proofs.Ranges.{among-filter, among_inside, among_outside, same_from, none_from, kept_split}
use Rattle.engine_reuse.proofs.Counts.{count_others, times-append, times-cons, some_from_times, among-append, times_none, times_some, times-filter, times_range}

-- a data block passes where it is among those that pass, and no other number is there
pub among_data : (g : Geometry) (test : ℕ → Bool) (b : ℕ) → LiesIn g Data b → is_among b (data_blocks_that g test) ≡ test b
among_data g test b lies =
    among-filter test b (range_with_len (data_start g) (g.n - data_start g))
    ∙ ap (λ t. test b && t) (among_inside b (data_start g) (g.n - data_start g) lies.from (omega (arith, lies.from, lies.below))) ∙ and-true (test b)

pub lies_among : (g : Geometry) (test : ℕ → Bool) (b : ℕ) → is_among b (data_blocks_that g test) ≡ true → LiesIn g Data b
lies_among g test b is = record { from = grind (arith, none); below = grind (arith, none) }
  where
    none : (b < data_start g) ⊎ (data_start g + (g.n - data_start g) ≤ b) → ⊥
    none out = false≢true (sym (among-filter test b (range_with_len (data_start g) (g.n - data_start g)) ∙ ap (λ t. test b && t) (among_outside b (data_start g) (g.n - data_start g) out) ∙ and-false (test b)) ∙ is)

pub same_data : (g : Geometry) (p q : ℕ → Bool) → ((b : ℕ) → LiesIn g Data b → p b ≡ q b) → data_blocks_that g p ≡ data_blocks_that g q
same_data g p q same = same_from p q (data_start g) (g.n - data_start g) (λ b from below. same b (record { from = from; below = omega (arith, from, below) }))

-- such a list has its own members
pub listed : (g : Geometry) (test : ℕ → Bool) → data_blocks_that g test ≡ data_blocks_that g (λ b. is_among b (data_blocks_that g test))
listed g test = same_data g test (λ b. is_among b (data_blocks_that g test)) (λ b lies. sym (among_data g test b lies))

pub once_data : (g : Geometry) (test : ℕ → Bool) (b : ℕ) → times b (data_blocks_that g test) ≤ 1
once_data g test b = omega (arith, times-filter test b (range_with_len (data_start g) (g.n - data_start g)), times_range b (data_start g) (g.n - data_start g))

-- how often a block is dead: as one that may be taken, as a held one, as one that waits
pub dead_times : (b : ℕ) (v : DeadBlocks) → times b (dead_blocks v) ≡ times b v.reusable + times b v.held + times b (map block_of v.waiting)
dead_times b v = omega (arith, times-append b v.reusable (v.held ++ map block_of v.waiting), times-append b v.held (map block_of v.waiting))

pub dead_count : (v : DeadBlocks) → length (dead_blocks v) ≡ length v.reusable + length v.held + length v.waiting
dead_count v = omega (arith, length-append v.reusable (v.held ++ map block_of v.waiting), length-append v.held (map block_of v.waiting), length-map v.waiting block_of)

pub lies_waiting : (v : DeadBlocks) (k : ℕ) (d : ℕ × ℕ) → AreSound v → k < length v.waiting → LiesIn v.geom Data (block_of (slice_index_or v.waiting k d))
lies_waiting v k d h low = h.lie b (some_from_times b (dead_blocks v) (omega (arith, dead_times b v, times_some b (map block_of v.waiting) there)))
  where
    b : ℕ
    b = block_of (slice_index_or v.waiting k d)

    there : is_among b (map block_of v.waiting) ≡ true
    there = list_any_at (λ x. x == b) (map block_of v.waiting) k 0 (omega (arith, low, length-map v.waiting block_of)) (eq-eqb (slice_index_or (map block_of v.waiting) k 0) b (get_or-map block_of v.waiting k d 0 low))

-- numbers below a limit that pass, where all that pass are data blocks
pub below_is_data : (g : Geometry) (limit : ℕ) (test : ℕ → Bool) → g.n ≤ limit → ((b : ℕ) → test b ≡ true → LiesIn g Data b) → numbers_below limit test ≡ data_blocks_that g test
below_is_data g limit test fits lies = by (cases_lt (data_start g) g.n)
  where
    fails : (b : ℕ) → (LiesIn g Data b → ⊥) → test b ≡ false
    fails b never = false_from_ne_true (test b) (λ is. never (lies b is))

    by : (data_start g < g.n) ⊎ (g.n ≤ data_start g) → numbers_below limit test ≡ data_blocks_that g test
    by (inl l) =
        ap (λ n. filter test (range_with_len 0 n)) {x = limit} {y = data_start g + (g.n - data_start g + (limit - g.n))} (omega (arith, fits, l))
        ∙ kept_split test 0 (data_start g) (g.n - data_start g + (limit - g.n))
        ∙ ap₂ ◌++◌ (none_from test 0 (data_start g) (λ b _ below. fails b (λ h. omega (arith, below, h.from))))
        (kept_split test (0 + data_start g) (g.n - data_start g) (limit - g.n)
        ∙ ap₂ ◌++◌ (ap (λ a. filter test (range_with_len a (g.n - data_start g))) {x = 0 + data_start g} {y = data_start g} (omega arith))
        (none_from test (0 + data_start g + (g.n - data_start g)) (limit - g.n) (λ b from _. fails b (λ h. omega (arith, from, l, h.below))))
        ∙ append-nil (data_blocks_that g test))
    by (inr h) =
        none_from test 0 limit (λ b _ _. fails b (λ lie. omega (arith, h, lie.from, lie.below)))
        ∙ sym (none_from test (data_start g) (g.n - data_start g) (λ b _ _. fails b (λ lie. omega (arith, h, lie.from, lie.below))))

-- There are no more dead blocks than data blocks.

pub inside : (v : DeadBlocks) → AreSound v → (b : ℕ) → is_among b (dead_blocks v) ≡ true → (data_start v.geom ≤ b) × (b < data_start v.geom + (v.geom.n - data_start v.geom))
inside v h b is = ((h.lie b is).from, omega (arith, (h.lie b is).from, (h.lie b is).below))

pub few_dead : (v : DeadBlocks) → AreSound v → length v.reusable + length v.held + length v.waiting ≤ v.geom.n - data_start v.geom
few_dead v h = omega (arith, dead_count v, count_others (data_start v.geom) (v.geom.n - data_start v.geom) (dead_blocks v) (λ b. not (is_among b (dead_blocks v))) (inside v h) h.once (λ b _ _. refl))

-- A new set.

pub sound_new : (g : Geometry) (m : Blocks) → AreSound (with_bitmap g m)
sound_new g m = record {
  lie = λ b is. lies_among g is_free b (ap (is_among b) (sym (append-nil (free_blocks g m))) ∙ is);
  once = λ b. omega (arith, once_data g is_free b, ap (times b) (append-nil (free_blocks g m)));
  ascending = listed g is_free;
  in_order = λ i j d before low. absurd (omega (arith, low));
}
  where
    is_free : ℕ → Bool
    is_free b = not (bit_in m b)

-- A block is freed.

pub dead_freed : (v : DeadBlocks) (b c : ℕ) → is_among c (dead_blocks (with_freed v b)) ≡ (b == c || is_among c (dead_blocks v))
dead_freed v b c = grind (
  arith,
  among-append c v.reusable (v.held ++ b ∷ [] ++ map block_of v.waiting),
  among-append c (v.held ++ b ∷ []) (map block_of v.waiting),
  among-append c v.held (b ∷ []),
  among-append c v.reusable (v.held ++ map block_of v.waiting),
  among-append c v.held (map block_of v.waiting),
)

pub sound_freed : (v : DeadBlocks) (b : ℕ) → AreSound v → IsLive v b → AreSound (with_freed v b)
sound_freed v b h live = record {
  lie = λ c is. elim (or_cases (b == c) (is_among c (dead_blocks v)) (sym (dead_freed v b c) ∙ is)) [
    | inl e ↦ let P : ℕ → Type 0 = λ k. LiesIn v.geom Data k in subst P (eqb-true b c e) live.lies
    | inr was ↦ h.lie c was
  ];
  once = λ c. grind (arith, nat_tests, more c, h.once c, λ (e : b ≡ c). times_none c (dead_blocks v) (ap (λ k. is_among k (dead_blocks v)) (sym e) ∙ live.not_dead));
  ascending = h.ascending;
  in_order = h.in_order;
}
  where
    more : (c : ℕ) → times c (dead_blocks (with_freed v b)) ≡ times c (dead_blocks v) + cond (b == c) 1 0
    more c = omega (arith, dead_times c (with_freed v b), dead_times c v, times-append c v.held (b ∷ []), times-cons c b [])

-- What is held becomes what waits.

blocks_back : (number : ℕ) (held : List ℕ) → map block_of (map (λ b. (b, number)) held) ≡ held
blocks_back number [] = refl
blocks_back number (b ∷ bs) = ap (λ rest. b ∷ rest) (blocks_back number bs)

sealed_blocks : (v : DeadBlocks) (number : ℕ) → map block_of (with_sealed v number).waiting ≡ map block_of v.waiting ++ v.held
sealed_blocks v number = map-append block_of v.waiting (map (λ b. (b, number)) v.held) ∙ ap (λ bs. map block_of v.waiting ++ bs) (blocks_back number v.held)

pub dead_sealed : (v : DeadBlocks) (number c : ℕ) → is_among c (dead_blocks (with_sealed v number)) ≡ is_among c (dead_blocks v)
dead_sealed v number c =
    among-append c v.reusable (map block_of (with_sealed v number).waiting)
    ∙ ap (λ t. is_among c v.reusable || t) (ap (is_among c) (sealed_blocks v number) ∙ among-append c (map block_of v.waiting) v.held ∙ or_comm (is_among c (map block_of v.waiting)) (is_among c v.held) ∙ sym (among-append c v.held (map block_of v.waiting)))
    ∙ sym (among-append c v.reusable (v.held ++ map block_of v.waiting))

pub sound_sealed : (v : DeadBlocks) (number : ℕ) → AreSound v → All (λ p. freed_by p ≤ number) v.waiting → AreSound (with_sealed v number)
sound_sealed v number h upto = record {
  lie = λ c is. h.lie c (sym (dead_sealed v number c) ∙ is);
  once = λ c. omega (arith, h.once c, dead_times c v, dead_times c (with_sealed v number), ap (times c) (sealed_blocks v number), times-append c (map block_of v.waiting) v.held);
  ascending = h.ascending;
  in_order = λ i j d before low. grind (arith, before, low, size, first i d, first j d, later i d, later j d, h.in_order i j d before, upto i d);
}
  where
    new : List (ℕ × ℕ)
    new = map (λ b. (b, number)) v.held

    size : length (v.waiting ++ new) ≡ length v.waiting + length v.held
    size = omega (arith, length-append v.waiting new, length-map {B = ℕ × ℕ} v.held (λ b. (b, number)))

    first : (i : ℕ) (d : ℕ × ℕ) → i < length v.waiting → freed_by (slice_index_or (v.waiting ++ new) i d) ≡ freed_by (slice_index_or v.waiting i d)
    first i d low = ap freed_by (get_or_append_left v.waiting new d i low)

    later : (j : ℕ) (d : ℕ × ℕ) → length v.waiting ≤ j → j < length (v.waiting ++ new) → freed_by (slice_index_or (v.waiting ++ new) j d) ≡ number
    later j d high low =
        ap freed_by (get_or-append_right v.waiting new (length v.waiting) j d refl high ∙ get_or-map {Y = ℕ × ℕ} (λ b. (b, number)) v.held (j - length v.waiting) 0 d (omega (arith, high, low, size)))

-- Blocks are taken.

filter-filter : (p q : ℕ → Bool) (xs : List ℕ) → filter q (filter p xs) ≡ filter (λ b. q b && p b) xs
filter-filter p q [] = refl
filter-filter p q (x ∷ xs) = grind (arith, filter-filter p q xs)

pub taken_are : (v : DeadBlocks) (bs : List ℕ) → AreSound v → (with_taken v bs).reusable ≡ data_blocks_that v.geom (λ b. not (is_among b bs) && is_among b v.reusable)
taken_are v bs h = ap (filter (λ b. not (is_among b bs))) h.ascending ∙ filter-filter (λ b. is_among b v.reusable) (λ b. not (is_among b bs)) (range_with_len (data_start v.geom) (v.geom.n - data_start v.geom))

pub sound_taken : (v : DeadBlocks) (bs : List ℕ) → AreSound v → AreSound (with_taken v bs)
sound_taken v bs h = record {
  lie = λ c is. h.lie c (some_from_times c (dead_blocks v) (omega (arith, fewer c, times_some c (dead_blocks (with_taken v bs)) is)));
  once = λ c. omega (arith, fewer c, h.once c);
  ascending = taken_are v bs h ∙ listed v.geom (λ b. not (is_among b bs) && is_among b v.reusable) ∙ ap (λ xs. data_blocks_that v.geom (λ b. is_among b xs)) (sym (taken_are v bs h));
  in_order = h.in_order;
}
  where
    fewer : (c : ℕ) → times c (dead_blocks (with_taken v bs)) ≤ times c (dead_blocks v)
    fewer c = omega (arith, dead_times c (with_taken v bs), dead_times c v, times-filter (λ b. not (is_among b bs)) c v.reusable)

-- Blocks are released.

-- how often a block is given up, and how often it waits on
pub times_given : (test : ℕ × ℕ → Bool) (b : ℕ) (ps : List (ℕ × ℕ)) → times b (map block_of (filter test ps)) + times b (map block_of (filter (λ p. not (test p)) ps)) ≡ times b (map block_of ps)
times_given test b [] = refl
times_given test b (p ∷ ps) = grind (arith, times_given test b ps, times-cons b (block_of p) (map block_of (filter test ps)), times-cons b (block_of p) (map block_of (filter (λ q. not (test q)) ps)), times-cons b (block_of p) (map block_of ps))

-- no block is dead in more ways than before
pub released_no_more : (v : DeadBlocks) (sure : ℕ) (home : List ℕ) (c : ℕ) → times c (dead_blocks (with_released v sure home)) ≤ times c (dead_blocks v)
released_no_more v sure home c = omega (arith, dead_times c (with_released v sure home), dead_times c v, least, times_given (is_given_up sure home) c v.waiting)
  where
    test : ℕ → Bool
    test b = is_among b (given_up sure home v.waiting) || is_among b v.reusable

    least : times c (data_blocks_that v.geom test) ≤ times c (given_up sure home v.waiting) + times c v.reusable
    least = elim (cases_Bool (is_among c (data_blocks_that v.geom test))) [
      | inl is ↦ grind (arith, once_data v.geom test c, sym (among_data v.geom test c (lies_among v.geom test c is)) ∙ is, times_some c (given_up sure home v.waiting), times_some c v.reusable)
      | inr out ↦ omega (arith, times_none c (data_blocks_that v.geom test) out)
    ]

pub sound_released : (v : DeadBlocks) (sure : ℕ) (home : List ℕ) → AreSound v → AreSound (with_released v sure home)
sound_released v sure home h = record {
  lie = λ c is. h.lie c (some_from_times c (dead_blocks v) (omega (arith, released_no_more v sure home c, times_some c (dead_blocks (with_released v sure home)) is)));
  once = λ c. omega (arith, released_no_more v sure home c, h.once c);
  ascending = listed v.geom (λ b. is_among b (given_up sure home v.waiting) || is_among b v.reusable);
  in_order = AllPairs-filter (λ p q. freed_by p ≤ freed_by q) (λ p. not (is_given_up sure home p)) v.waiting h.in_order;
}
