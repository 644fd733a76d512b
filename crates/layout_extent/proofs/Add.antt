-- Neighbouring numbers at the end of tidy runs: they make the last run longer, or are a run of their own.
use Rattle.std.proofs.Common.{◌≡◌, ◌≢◌, ℕ, zero, suc, ◌+◌, ◌<◌, ◌≤◌, List, [], ◌∷◌, ◌++◌, length, sym, ap, ◌∙◌, arith, append_assoc}
use Rattle.std.proofs.lemmas.List.{append-nil, length_push}
use Rattle.std.proofs.lemmas.List.Elements.{All-nil, All-cons, All-head, All-tail, All-push}
use Rattle.base_types.specs.declared.places.Run.{Run}
use Rattle.base_types.specs.Runs.{blocks_from, run_places}
use Rattle.layout_extent.specs.Runs.{AreTidy, LieBelow, stretches}
use Rattle.layout_extent.proofs.Places.{places_append}
use Rattle.layout_extent.specs.TidyLaws.{Apart, tidy_cons, tidy_first, tidy_apart, tidy_rest}
use Rattle.layout_extent.proofs.Count.{tidy_count}

-- the last run, so many numbers longer
abbrev pub longer : ℕ → Run → Run
longer c r = record { first = r.first; count = r.count + c }

blocks_join : (x c d : ℕ) → blocks_from x (c + d) ≡ blocks_from x c ++ blocks_from (x + c) d
blocks_join x zero d = ap (λ n. blocks_from x n) {x = zero + d} {y = d} (omega arith) ∙ ap (λ y. blocks_from y d) {x = x} {y = x + zero} (omega arith)
blocks_join x (suc c) d =
    ap (λ n. blocks_from x n) {x = suc c + d} {y = suc (c + d)} (omega arith)
    ∙ ap (λ ys. x ∷ ys) (blocks_join (x + 1) c d)
    ∙ ap (λ y. blocks_from x (suc c) ++ blocks_from y d) {x = x + 1 + c} {y = x + suc c} (omega arith)

longer_blocks : (c : ℕ) (r : Run) → run_places (longer c r ∷ []) ≡ run_places (r ∷ []) ++ blocks_from (r.first + r.count) c
longer_blocks c r =
    append-nil (blocks_from r.first (r.count + c))
    ∙ blocks_join r.first r.count c
    ∙ ap (λ ys. ys ++ blocks_from (r.first + r.count) c) (sym (append-nil (blocks_from r.first r.count)))

pub longer_places : (rs : List Run) (last : Run) (x c : ℕ) → x ≡ last.first + last.count
    → run_places (rs ++ longer c last ∷ []) ≡ run_places (rs ++ last ∷ []) ++ blocks_from x c
longer_places rs last x c e =
    places_append rs (longer c last ∷ [])
    ∙ ap (λ ys. run_places rs ++ ys) (longer_blocks c last)
    ∙ sym (append_assoc (run_places rs) (run_places (last ∷ [])) (blocks_from (last.first + last.count) c))
    ∙ ap (λ ys. ys ++ blocks_from (last.first + last.count) c) (sym (places_append rs (last ∷ [])))
    ∙ ap (λ n. run_places (rs ++ last ∷ []) ++ blocks_from n c) (sym e)

-- a run of its own
pub alone_places : (rs : List Run) (r : Run) → run_places (rs ++ r ∷ []) ≡ run_places rs ++ blocks_from r.first r.count
alone_places rs r = places_append rs (r ∷ []) ∙ ap (λ ys. run_places rs ++ ys) (append-nil (blocks_from r.first r.count))

-- the runs stay tidy

apart_end : (end c : ℕ) (rs ss : List Run) (last : Run) → Apart end (rs ++ last ∷ []) → Apart end (rs ++ longer c last ∷ ss)
apart_end end c [] ss last a = a
apart_end end c (r ∷ rs) ss last a = a

pub longer_tidy : (c : ℕ) (rs : List Run) (last : Run) → AreTidy (rs ++ last ∷ []) → AreTidy (rs ++ longer c last ∷ [])
longer_tidy c [] last t = omega arith
longer_tidy c (r ∷ rs) last t =
    tidy_cons r (rs ++ longer c last ∷ []) (tidy_first r (rs ++ last ∷ []) t) (apart_end (r.first + r.count) c rs [] last (tidy_apart r (rs ++ last ∷ []) t))
    (longer_tidy c rs last (tidy_rest r (rs ++ last ∷ []) t))

apart_more : (end : ℕ) (rs ss : List Run) (last : Run) → Apart end (rs ++ last ∷ []) → Apart end ((rs ++ last ∷ []) ++ ss)
apart_more end [] ss last a = a
apart_more end (r ∷ rs) ss last a = a

pub alone_tidy : (rs : List Run) (last new : Run) → new.first ≢ last.first + last.count → 0 < new.count → AreTidy (rs ++ last ∷ []) → AreTidy ((rs ++ last ∷ []) ++ new ∷ [])
alone_tidy [] last new a p t = (t, a, p)
alone_tidy (r ∷ rs) last new a p t =
    tidy_cons r ((rs ++ last ∷ []) ++ new ∷ []) (tidy_first r (rs ++ last ∷ []) t) (apart_more (r.first + r.count) rs (new ∷ []) last (tidy_apart r (rs ++ last ∷ []) t))
    (alone_tidy rs last new a p (tidy_rest r (rs ++ last ∷ []) t))

-- there is room for it
pub alone_room : (rs : List Run) (last new : Run) (xs : List ℕ) → new.first ≢ last.first + last.count → 0 < new.count → AreTidy (rs ++ last ∷ [])
    → run_places (rs ++ last ∷ []) ≡ xs → length (rs ++ last ∷ []) + 1 ≡ stretches (xs ++ blocks_from new.first new.count)
alone_room rs last new xs a p t e =
    sym (length_push (rs ++ last ∷ []) new) ∙ tidy_count ((rs ++ last ∷ []) ++ new ∷ []) (alone_tidy rs last new a p t)
    ∙ ap stretches (alone_places (rs ++ last ∷ []) new ∙ ap (λ ys. ys ++ blocks_from new.first new.count) e)

-- the numbers stay below the bound

pub longer_below : (m c : ℕ) (rs : List Run) (last : Run) (x : ℕ) → x ≡ last.first + last.count → x + c ≤ m → LieBelow m (rs ++ last ∷ []) → LieBelow m (rs ++ longer c last ∷ [])
longer_below m c [] last x e h b = All-cons (λ r. r.first + r.count ≤ m) (longer c last) [] (omega arith) (All-nil (λ r. r.first + r.count ≤ m))
longer_below m c (r ∷ rs) last x e h b =
    All-cons (λ r. r.first + r.count ≤ m) r (rs ++ longer c last ∷ []) (All-head (λ r. r.first + r.count ≤ m) r (rs ++ last ∷ []) b)
    (longer_below m c rs last x e h (All-tail (λ r. r.first + r.count ≤ m) r (rs ++ last ∷ []) b))

pub alone_below : (m : ℕ) (rs : List Run) (new : Run) → new.first + new.count ≤ m → LieBelow m rs → LieBelow m (rs ++ new ∷ [])
alone_below m rs new h b = All-push (λ r. r.first + r.count ≤ m) rs new b h
