-- The numbers of runs: joined lists, their length, and the number at a place.
use Rattle.std.proofs.Common.{◌≡◌, ℕ, zero, suc, ◌+◌, ◌-◌, ◌<◌, ◌≤◌, List, [], ◌∷◌, ◌++◌, length, get_or, take, drop, slice_get, Some, refl, sym, ap, ◌∙◌, arith, append_assoc}
use Rattle.std.proofs.lemmas.List.{take_more, drop_more, length-append}
use Rattle.base_types.specs.declared.places.Run.{Run}
use Rattle.base_types.specs.Runs.{blocks_from, run_places}

pub places_append : (rs ss : List Run) → run_places (rs ++ ss) ≡ run_places rs ++ run_places ss
places_append [] ss = refl
places_append (r ∷ rs) ss =
    ap (λ xs. blocks_from r.first r.count ++ xs) (places_append rs ss) ∙ sym (append_assoc (blocks_from r.first r.count) (run_places rs) (run_places ss))

length_blocks : (x c : ℕ) → length (blocks_from x c) ≡ c
length_blocks x zero = refl
length_blocks x (suc c) = ap suc (length_blocks (x + 1) c)

-- one run more
pub length_more : (rs : List Run) (i : ℕ) (d : Run) → i < length rs
    → length (run_places (take (i + 1) rs)) ≡ length (run_places (take i rs)) + (get_or rs i d).count
length_more rs i d h =
    ap (λ ss. length (run_places ss)) (take_more rs i d h)
    ∙ ap length (places_append (take i rs) (get_or rs i d ∷ []))
    ∙ length-append (run_places (take i rs)) (run_places (get_or rs i d ∷ []))
    ∙ ap (λ n. length (run_places (take i rs)) + n) (length-append (blocks_from (get_or rs i d).first (get_or rs i d).count) [] ∙ ap (λ n. n + 0) (length_blocks (get_or rs i d).first (get_or rs i d).count))
    ∙ ap (λ n. length (run_places (take i rs)) + n) {x = (get_or rs i d).count + 0} {y = (get_or rs i d).count} (omega arith)

get_within : (x c i : ℕ) (ys : List ℕ) → i < c → slice_get (blocks_from x c ++ ys) i ≡ Some (x + i)
get_within x zero i ys h = absurd (omega arith)
get_within x (suc c) zero ys h = ap Some {x = x} {y = x + zero} (omega arith)
get_within x (suc c) (suc i) ys h = get_within (x + 1) c i ys (omega arith) ∙ ap Some {x = x + 1 + i} {y = x + suc i} (omega arith)

get_behind : (x c i : ℕ) (ys : List ℕ) → c ≤ i → slice_get (blocks_from x c ++ ys) i ≡ slice_get ys (i - c)
get_behind x zero i ys h = ap (slice_get ys) {x = i} {y = i - zero} (omega arith)
get_behind x (suc c) zero ys h = absurd (omega arith)
get_behind x (suc c) (suc i) ys h = get_behind (x + 1) c i ys (omega arith) ∙ ap (slice_get ys) {x = i - c} {y = suc i - suc c} (omega arith)

-- the place lies in the next run, or behind it, or behind all
pub place_within : (rs : List Run) (k i : ℕ) (d : Run) → k < length rs → i < (get_or rs k d).count
    → slice_get (run_places (drop k rs)) i ≡ Some ((get_or rs k d).first + i)
place_within rs k i d h p =
    ap (λ ss. slice_get (run_places ss) i) (drop_more rs k d h) ∙ get_within (get_or rs k d).first (get_or rs k d).count i (run_places (drop (k + 1) rs)) p

pub place_behind : (rs : List Run) (k i : ℕ) (d : Run) → k < length rs → (get_or rs k d).count ≤ i
    → slice_get (run_places (drop k rs)) i ≡ slice_get (run_places (drop (k + 1) rs)) (i - (get_or rs k d).count)
place_behind rs k i d h p =
    ap (λ ss. slice_get (run_places ss) i) (drop_more rs k d h) ∙ get_behind (get_or rs k d).first (get_or rs k d).count i (run_places (drop (k + 1) rs)) p
