-- What each call makes of its parts is what its contract says of the dead blocks.
use Rattle.std.proofs.Common.{◌≡◌, ℕ, ◌+◌, ◌<◌, ◌≤◌, ◌==◌, ◌&&◌, ◌||◌, not, nat_le, nat_lt, Bool, true, false, cond, inl, inr, List, [], ◌∷◌, ◌++◌, length, take, drop, filter, map, slice_index_or, refl, sym, ap, ap₂, subst, ◌∙◌, arith, append-nil}
use Rattle.std.proofs.Math.Bool.{or-false}
use Rattle.std.proofs.lemmas.Bool.{le-leb, lt-leb, lt-ltb, and_parts, or_cases}
use Rattle.std.proofs.lemmas.List.{map-append, length-map, take-append-drop, get_or-take, get_or-drop, length-take, length-drop, get_or-map}
use Rattle.std.proofs.lemmas.List.Elements.{filter-append, All-head, All-tail}
use Rattle.std.specs.List.{All, AllPairs, AllWithin}
use Rattle.std.proofs.lemmas.Bool.Decides.{nat_tests}
use Rattle.base_types.specs.Seal.{Blocks}
use Rattle.layout_geometry.specs.Geometry.{Geometry, LiesIn, data_start}
use Rattle.layout_geometry.specs.Geometry.Area.{Data}
use Rattle.layout_bytes.specs.Bitmap.{bit_in}
use Rattle.layout_bitmap.specs.Bits.{free_blocks}
use Rattle.engine_reuse.specs.declared.waiting.Freed.{Freed}
use Rattle.engine_reuse.specs.Numbers.{is_among, numbers_below, NumberSet, set_of}
use Rattle.engine_reuse.specs.Dead.{DeadBlocks, block_of, freed_by, dead_blocks, data_blocks_that, AreSound}
use Rattle.engine_reuse.specs.Calls.{with_bitmap, with_sealed, with_released, with_taken, is_given_up, given_up}
use Rattle.engine_reuse.specs.Inside.{pair_of, dead_of, is_going_home, blocks_at_rest, AreKept}
use Rattle.engine_reuse.proofs.Ranges.{none_from}
use Rattle.engine_reuse.proofs.Members.{among_below, same_set_of}
use Rattle.engine_reuse.proofs.Counts.{among-append, times_some, some_from_times}
use Rattle.engine_reuse.proofs.Sound.{below_is_data, taken_are, same_data, dead_times, times_given, lies_waiting}

-- What is held waits.

pairs_of_held : (number : ℕ) (held : List ℕ) → map pair_of (map (λ b. record { block = b; number = number }) held) ≡ map (λ b. (b, number)) held
pairs_of_held number [] = refl
pairs_of_held number (b ∷ bs) = ap (λ rest. (b, number) ∷ rest) (pairs_of_held number bs)

pub sealed_is : (g : Geometry) (reusable : NumberSet) (held : List ℕ) (waiting new : List Freed) (room number : ℕ) → new ≡ waiting ++ map (λ b. record { block = b; number = number }) held
    → dead_of g reusable [] new room ≡ with_sealed (dead_of g reusable held waiting room) number
sealed_is g reusable held waiting new room number is =
    ap (λ ps. record { geom = g; reusable = reusable.members; held = []; waiting = ps; room = room })
    (ap (map pair_of) is ∙ map-append pair_of waiting (map (λ b. record { block = b; number = number }) held) ∙ ap (λ ps. map pair_of waiting ++ ps) (pairs_of_held number held))

-- Blocks are taken.

pub taken_is : (g : Geometry) (reusable new : NumberSet) (held : List ℕ) (waiting : List Freed) (room : ℕ) (bs : List ℕ) → AreSound (dead_of g reusable held waiting room) → g.n ≤ reusable.limit
    → new ≡ set_of reusable.limit (λ b. not (is_among b bs) && is_among b reusable.members) → dead_of g new held waiting room ≡ with_taken (dead_of g reusable held waiting room) bs
taken_is g reusable new held waiting room bs sound limit is =
    ap (λ xs. record { geom = g; reusable = xs; held = held; waiting = map pair_of waiting; room = room })
    (ap (λ (s : NumberSet). s.members) is ∙ below_is_data g reusable.limit (λ b. not (is_among b bs) && is_among b reusable.members) limit lies
    ∙ sym (taken_are (dead_of g reusable held waiting room) bs sound))
  where
    lies : (b : ℕ) → (not (is_among b bs) && is_among b reusable.members) ≡ true → LiesIn g Data b
    lies b passes = sound.lie b (among-append b reusable.members (held ++ map block_of (map pair_of waiting)) ∙ ap (λ t. t || is_among b (held ++ map block_of (map pair_of waiting))) (and_parts (not (is_among b bs)) (is_among b reusable.members) passes).1)

-- The free blocks are put in, one by one.

abbrev pub is_free_before : Geometry → Blocks → ℕ → ℕ → Bool
is_free_before g m end b = nat_le (data_start g) b && (nat_lt b end && not (bit_in m b))

pub none_free : (g : Geometry) (m : Blocks) (s : NumberSet) → s ≡ set_of s.limit (λ b. false) → s ≡ set_of s.limit (is_free_before g m (data_start g))
none_free g m s is = is ∙ same_set_of s.limit (λ b. false) (is_free_before g m (data_start g)) (λ b _. grind (arith, nat_tests))

-- a number more is free or not as its bit says
test_more : (a b c : ℕ) (bit : Bool) → a ≤ b → (c ≡ b → bit ≡ false) → (c == b || (nat_le a c && (nat_lt c b && not bit))) ≡ (nat_le a c && (nat_lt c (b + 1) && not bit))
test_more a b c bit low clear = grind (arith, nat_tests, low, clear)

test_same : (a b c : ℕ) (bit : Bool) → (c ≡ b → bit ≡ true) → (nat_le a c && (nat_lt c b && not bit)) ≡ (nat_le a c && (nat_lt c (b + 1) && not bit))
test_same a b c bit set = grind (arith, nat_tests, set)

pub one_free : (g : Geometry) (m : Blocks) (limit b : ℕ) (s new : NumberSet) → s ≡ set_of limit (is_free_before g m b) → data_start g ≤ b → bit_in m b ≡ false
    → new ≡ set_of s.limit (λ c. c == b || is_among c s.members) → new ≡ set_of limit (is_free_before g m (b + 1))
one_free g m limit b s new before low clear put =
    put ∙ ap (λ (q : NumberSet). set_of q.limit (λ c. c == b || is_among c q.members)) before
    ∙ same_set_of limit (λ c. c == b || is_among c (numbers_below limit (is_free_before g m b))) (is_free_before g m (b + 1))
    (λ c below. ap (λ t. c == b || t) (among_below limit (is_free_before g m b) c below) ∙ test_more (data_start g) b c (bit_in m c) low (λ e. ap (bit_in m) e ∙ clear))

pub one_set : (g : Geometry) (m : Blocks) (limit b : ℕ) (s : NumberSet) → s ≡ set_of limit (is_free_before g m b) → bit_in m b ≡ true → s ≡ set_of limit (is_free_before g m (b + 1))
one_set g m limit b s before set =
    before ∙ same_set_of limit (is_free_before g m b) (is_free_before g m (b + 1)) (λ c below. test_same (data_start g) b c (bit_in m c) (λ e. ap (bit_in m) e ∙ set))

pub all_free : (g : Geometry) (m : Blocks) (limit : ℕ) (s : NumberSet) → s ≡ set_of limit (is_free_before g m g.n) → g.n ≤ limit → s.members ≡ free_blocks g m
all_free g m limit s is fits =
    ap (λ (q : NumberSet). q.members) is ∙ below_is_data g limit (is_free_before g m g.n) fits (λ b passes. record { from = grind (arith, nat_tests, passes); below = grind (arith, nat_tests, passes) })
    ∙ same_data g (is_free_before g m g.n) (λ b. not (bit_in m b)) (λ b lie.
    ap (λ t. t && (nat_lt b g.n && not (bit_in m b))) (le-leb (data_start g) b lie.from) ∙ ap (λ t. t && not (bit_in m b)) (lt-ltb b g.n lie.below))

-- Blocks are released.

filter_map : (test : ℕ × ℕ → Bool) (xs : List Freed) → filter test (map pair_of xs) ≡ map pair_of (filter (λ f. test (pair_of f)) xs)
filter_map test [] = refl
filter_map test (x ∷ xs) = grind (arith, filter_map test xs)

blocks_of_pairs : (xs : List Freed) → map block_of (map pair_of xs) ≡ map (λ (f : Freed). f.block) xs
blocks_of_pairs [] = refl
blocks_of_pairs (x ∷ xs) = ap (λ bs. x.block ∷ bs) (blocks_of_pairs xs)

-- two tests that agree on each element keep the same of them
filter_same : {X : Type 0} (p q : X → Bool) (xs : List X) → All (λ f. p f ≡ q f) xs → filter p xs ≡ filter q xs
filter_same p q [] same = refl
filter_same p q (x ∷ xs) same =
    ap₂ (λ t ys. cond t (x ∷ ys) ys) (All-head (λ f. p f ≡ q f) x xs same) (filter_same p q xs (All-tail (λ f. p f ≡ q f) x xs same))

filter_each : (xs : List Freed) → filter (λ f. true) xs ≡ xs
filter_each [] = refl
filter_each (x ∷ xs) = ap (λ ys. x ∷ ys) (filter_each xs)

filter_none : (xs : List Freed) → filter (λ f. false) xs ≡ []
filter_none [] = refl
filter_none (x ∷ xs) = filter_none xs

-- the first so many were freed by records up to the sure one, and the others weren't
pub record IsReach (xs : List Freed) (sure reached : ℕ) : Type 0 where
  pub bound : reached ≤ length xs
  pub below : AllWithin (λ (f : Freed). f.number ≤ sure) xs 0 reached
  pub above : AllWithin (λ (f : Freed). sure < f.number) xs reached (length xs)

in_front : (xs : List Freed) (sure reached : ℕ) → IsReach xs sure reached → All (λ (f : Freed). f.number ≤ sure) (take reached xs)
in_front xs sure reached h k d low =
    let within : k < reached = omega (arith, low, length-take reached xs) in
    subst (λ (f : Freed). f.number ≤ sure) (sym (get_or-take reached xs k d within)) (h.below k d (omega arith) within)

behind : (xs : List Freed) (sure reached : ℕ) → IsReach xs sure reached → All (λ (f : Freed). sure < f.number) (drop reached xs)
behind xs sure reached h k d low =
    subst (λ (f : Freed). sure < f.number) (sym (get_or-drop reached xs k d)) (h.above (reached + k) d (omega arith) (omega (arith, low, length-drop reached xs, h.bound)))

abbrev given : ℕ → List ℕ → Freed → Bool
given sure home f = is_given_up sure home (pair_of f)

-- of the first, those are given up that aren't going home
given_front : (xs : List Freed) (sure reached : ℕ) (home : List ℕ) → IsReach xs sure reached → filter (given sure home) (take reached xs) ≡ filter (λ f. not (is_going_home home f)) (take reached xs)
given_front xs sure reached home h =
    filter_same (given sure home) (λ f. not (is_going_home home f)) (take reached xs)
    (λ k d low. ap (λ t. t && not (is_going_home home (slice_index_or (take reached xs) k d))) (le-leb _ sure (in_front xs sure reached h k d low)))

-- of the others, none is
given_behind : (xs : List Freed) (sure reached : ℕ) (home : List ℕ) → IsReach xs sure reached → filter (given sure home) (drop reached xs) ≡ []
given_behind xs sure reached home h =
    filter_same (given sure home) (λ f. false) (drop reached xs)
    (λ k d low. ap (λ t. t && not (is_going_home home (slice_index_or (drop reached xs) k d))) (lt-leb _ sure (behind xs sure reached h k d low)))
    ∙ filter_none (drop reached xs)

pub given_are : (xs : List Freed) (sure reached : ℕ) (home : List ℕ) → IsReach xs sure reached → given_up sure home (map pair_of xs) ≡ blocks_at_rest home (take reached xs)
given_are xs sure reached home h =
    ap (map block_of) (filter_map (is_given_up sure home) xs) ∙ blocks_of_pairs (filter (given sure home) xs)
    ∙ ap (map (λ (f : Freed). f.block))
    (ap (filter (given sure home)) (sym (take-append-drop reached xs)) ∙ filter-append (given sure home) (take reached xs) (drop reached xs)
    ∙ ap₂ ◌++◌ (given_front xs sure reached home h) (given_behind xs sure reached home h) ∙ append-nil (filter (λ f. not (is_going_home home f)) (take reached xs)))

pub waiting_are : (xs : List Freed) (sure reached : ℕ) (home : List ℕ) → IsReach xs sure reached
    → filter (λ p. not (is_given_up sure home p)) (map pair_of xs) ≡ map pair_of (filter (is_going_home home) (take reached xs) ++ drop reached xs)
waiting_are xs sure reached home h =
    filter_map (λ p. not (is_given_up sure home p)) xs
    ∙ ap (map pair_of) (ap (filter stays) (sym (take-append-drop reached xs)) ∙ filter-append stays (take reached xs) (drop reached xs) ∙ ap₂ ◌++◌ front rest)
  where
    stays : Freed → Bool
    stays f = not (is_given_up sure home (pair_of f))

    front : filter stays (take reached xs) ≡ filter (is_going_home home) (take reached xs)
    front = filter_same stays (is_going_home home) (take reached xs) (λ k d low. grind (arith, le-leb _ sure (in_front xs sure reached h k d low)))

    rest : filter stays (drop reached xs) ≡ drop reached xs
    rest =
        filter_same stays (λ f. true) (drop reached xs)
        (λ k d low. ap (λ t. not (t && not (is_going_home home (slice_index_or (drop reached xs) k d)))) (lt-leb _ sure (behind xs sure reached h k d low)))
        ∙ filter_each (drop reached xs)

-- what `released` leaves of its parts
pub record HasReleased (xs new : List Freed) (reusable left : NumberSet) (home : List ℕ) (reached : ℕ) : Type 0 where
  pub waiting : new ≡ filter (is_going_home home) (take reached xs) ++ drop reached xs
  pub served : left ≡ set_of reusable.limit (λ b. is_among b (blocks_at_rest home (take reached xs)) || is_among b reusable.members)

pub released_is : (g : Geometry) (reusable left : NumberSet) (held : List ℕ) (waiting new : List Freed) (room sure reached : ℕ) (home : List ℕ)
    → AreSound (dead_of g reusable held waiting room) → g.n ≤ reusable.limit → IsReach waiting sure reached → HasReleased waiting new reusable left home reached
    → dead_of g left held new room ≡ with_released (dead_of g reusable held waiting room) sure home
released_is g reusable left held waiting new room sure reached home sound limit reach done =
    ap₂ (λ xs ps. record { geom = g; reusable = xs; held = held; waiting = ps; room = room })
    (ap (λ (s : NumberSet). s.members) done.served ∙ below_is_data g reusable.limit (λ b. is_among b (blocks_at_rest home (take reached waiting)) || is_among b reusable.members) limit lies
    ∙ ap (λ bs. data_blocks_that g (λ b. is_among b bs || is_among b reusable.members)) (sym (given_are waiting sure reached home reach)))
    (ap (map pair_of) done.waiting ∙ sym (waiting_are waiting sure reached home reach))
  where
    v : DeadBlocks
    v = dead_of g reusable held waiting room

    lies : (b : ℕ) → (is_among b (blocks_at_rest home (take reached waiting)) || is_among b reusable.members) ≡ true → LiesIn g Data b
    lies b passes = sound.lie b (some_from_times b (dead_blocks v) (elim (or_cases (is_among b (blocks_at_rest home (take reached waiting))) (is_among b reusable.members) passes) [
      | inl rests ↦ omega (arith, dead_times b v, times_given (is_given_up sure home) b (map pair_of waiting), times_some b (given_up sure home (map pair_of waiting)) (ap (is_among b) (given_are waiting sure reached home reach) ∙ rests))
      | inr served ↦ omega (arith, dead_times b v, times_some b reusable.members served)
    ]))

-- the same blocks are going home
pub same_home : (v : DeadBlocks) (sure : ℕ) (home other : List ℕ) → All (λ p. is_among (block_of p) home ≡ is_among (block_of p) other) v.waiting → with_released v sure home ≡ with_released v sure other
same_home v sure home other same =
    ap₂ (λ ps qs. record v { reusable = data_blocks_that v.geom (λ b. is_among b (map block_of ps) || is_among b v.reusable); waiting = qs })
    (filter_same (is_given_up sure home) (is_given_up sure other) v.waiting (λ k d low. ap (λ t. nat_le (freed_by (slice_index_or v.waiting k d)) sure && not t) (same k d low)))
    (filter_same (λ p. not (is_given_up sure home p)) (λ p. not (is_given_up sure other p)) v.waiting
    (λ k d low. ap (λ t. not (nat_le (freed_by (slice_index_or v.waiting k d)) sure && not t)) (same k d low)))

pub marked_home : (v : DeadBlocks) (marks : NumberSet) (limit : ℕ) (home : List ℕ) → AreSound v → v.geom.n ≤ limit → marks ≡ set_of limit (λ b. is_among b home || false)
    → All (λ p. is_among (block_of p) marks.members ≡ is_among (block_of p) home) v.waiting
marked_home v marks limit home sound fits is k d low =
    ap (λ (s : NumberSet). is_among (block_of (slice_index_or v.waiting k d)) s.members) is
    ∙ among_below limit (λ b. is_among b home || false) (block_of (slice_index_or v.waiting k d)) (omega (arith, (lies_waiting v k d sound low).below, fits))
    ∙ or-false (is_among (block_of (slice_index_or v.waiting k d)) home)

-- and they are marked no more in the end
pub no_marks : (limit : ℕ) (home : List ℕ) (marks left : NumberSet) → marks ≡ set_of limit (λ b. is_among b home || false) → left ≡ set_of marks.limit (λ b. not (is_among b home) && is_among b marks.members) → left.members ≡ []
no_marks limit home marks left is out =
    ap (λ (s : NumberSet). s.members) out
    ∙ none_from (λ b. not (is_among b home) && is_among b marks.members) 0 marks.limit
    (λ b _ below. ap (λ (s : NumberSet). not (is_among b home) && is_among b s.members) is
    ∙ grind (arith, among_below limit (λ c. is_among c home || false) b (omega (arith, below, ap (λ (s : NumberSet). s.limit) is))))

-- no other block is marked
pub only_home : (g : Geometry) (reusable marks home_marks : NumberSet) (held : List ℕ) (waiting : List Freed) (room : ℕ) (home : List ℕ) → AreKept (dead_of g reusable held waiting room) reusable marks
    → home_marks ≡ set_of marks.limit (λ b. is_among b home || is_among b marks.members) → home_marks ≡ set_of marks.limit (λ b. is_among b home || false)
only_home g reusable marks home_marks held waiting room home kept marked = marked ∙ ap (λ xs. set_of marks.limit (λ b. is_among b home || is_among b xs)) kept.none_home

-- the whole of it: the blocks are marked, and what is reached is given up but for them
pub release_is : (g : Geometry) (reusable left marks home_marks : NumberSet) (held : List ℕ) (waiting new : List Freed) (room sure reached : ℕ) (home : List ℕ) → AreKept (dead_of g reusable held waiting room) reusable marks
    → IsReach waiting sure reached → home_marks ≡ set_of marks.limit (λ b. is_among b home || is_among b marks.members) → HasReleased waiting new reusable left home_marks.members reached
    → dead_of g left held new room ≡ with_released (dead_of g reusable held waiting room) sure home
release_is g reusable left marks home_marks held waiting new room sure reached home kept reach marked done =
    released_is g reusable left held waiting new room sure reached home_marks.members kept.sound kept.limit reach done
    ∙ same_home (dead_of g reusable held waiting room) sure home_marks.members home
    (marked_home (dead_of g reusable held waiting room) home_marks marks.limit home kept.sound kept.home_limit (only_home g reusable marks home_marks held waiting room home kept marked))

-- where none is reached, nothing changes
pub none_released : (g : Geometry) (reusable : NumberSet) (held : List ℕ) (waiting : List Freed) (room sure : ℕ) (home : List ℕ) → AreSound (dead_of g reusable held waiting room) → IsReach waiting sure 0
    → dead_of g reusable held waiting room ≡ with_released (dead_of g reusable held waiting room) sure home
none_released g reusable held waiting room sure home sound reach =
    ap₂ (λ xs ps. record { geom = g; reusable = xs; held = held; waiting = ps; room = room })
    (sound.ascending ∙ ap (λ bs. data_blocks_that g (λ b. is_among b bs || is_among b reusable.members)) (sym (given_are waiting sure 0 home reach)))
    (sym (waiting_are waiting sure 0 home reach))

-- the rows come in the order of the pairs
pub order_of_rows : (xs : List Freed) → AllPairs (λ p q. freed_by p ≤ freed_by q) (map pair_of xs) → AllPairs (λ (f : Freed) (h : Freed). f.number ≤ h.number) xs
order_of_rows xs up i j d before low =
    omega (arith, up i j (pair_of d) before (omega (arith, low, length-map xs pair_of)), ap freed_by (get_or-map pair_of xs i d (pair_of d) (omega (arith, before, low))), ap freed_by (get_or-map pair_of xs j d (pair_of d) low))

-- the dead blocks of a bitmap
pub new_is : (g : Geometry) (m : Blocks) (reusable : NumberSet) → reusable.members ≡ free_blocks g m → dead_of g reusable [] [] 0 ≡ with_bitmap g m
new_is g m reusable is = ap (λ xs. record { geom = g; reusable = xs; held = []; waiting = []; room = 0 }) is

pub none_marked : (s : NumberSet) → s ≡ set_of s.limit (λ b. false) → s.members ≡ []
none_marked s is = ap (λ (q : NumberSet). q.members) is ∙ none_from (λ b. false) 0 s.limit (λ b _ _. refl)
