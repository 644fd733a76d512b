-- Where the first line feed of some bytes is.
use Rattle.std.proofs.Common.{◌≡◌, ℕ, suc, ◌+◌, ◌<◌, ◌≤◌, ◌==◌, Bool, true, false, not, List, [], ◌∷◌, length, get_or, take, drop, Option, Some, None, refl, sym, ap, ap₂, ◌∙◌, add-one, arith, tests, take_all, drop-cons}
use Rattle.std.specs.Prelude.{nat_lt, cond}
use Rattle.std.specs.List.{position, prefix_len}
use Rattle.std.proofs.lemmas.List.{length-take-le, get_or-take}
use Rattle.std.proofs.lemmas.List.Quantifiers.{position-Some}
use Rattle.std.proofs.lemmas.List.Sums.{prefix_len_passes}
use Rattle.std.proofs.lemmas.Bool.{eqb-true}
use Rattle.lang_lines.proofs.Parts.{feedless}

abbrev is_feed : ℕ → Bool
is_feed b = b == 10

feedless_by : (xs : List ℕ) → ((k : ℕ) → k < length xs → not (is_feed (get_or xs k 0)) ≡ true) → feedless xs ≡ true
feedless_by [] h = refl
feedless_by (x ∷ xs) h = rw (h 0 (omega arith)) (feedless_by xs (λ k low. h (suc k) (omega (arith, low))))

before : (xs : List ℕ) (i : ℕ) → position is_feed xs ≡ Some i → feedless (take i xs) ≡ true
before xs i e =
    let found = position-Some is_feed xs i 0 e in
    let long = length-take-le i xs (omega (arith, found.0)) in
    feedless_by (take i xs) (λ k low. ap (λ b. not (is_feed b)) (get_or-take i xs k 0 (omega (arith, low, long))) ∙ ap not (found.2 k (omega (arith, low, long))))

whole : (xs : List ℕ) → position is_feed xs ≡ None → feedless xs ≡ true
whole xs e = feedless_by xs (λ k low. prefix_len_passes (λ b. not (is_feed b)) xs k 0 (omega (arith, low, all (nat_lt n (length xs)) refl e)))
  where
    n : ℕ
    n = prefix_len (λ b. not (is_feed b)) xs

    all : (b : Bool) → nat_lt n (length xs) ≡ b → cond b (Some n) None ≡ None → length xs ≤ n
    all true f g = absurd (cc g)
    all false f g = grind (arith, tests, f)

-- there is none
pub none_in : (result : Option ℕ) (bytes other ahead : List ℕ) → result ≡ None → result ≡ position (λ b. b == 10) bytes → bytes ≡ ahead → other ≡ ahead → feedless (take (length other) ahead) ≡ true
none_in result bytes other ahead none first is same =
    ap (λ (l : List ℕ). feedless (take (length l) ahead)) same ∙ ap feedless (take_all (length ahead) ahead (omega arith))
    ∙ whole ahead (ap (position (λ b. b == 10)) (sym is) ∙ sym first ∙ none)

-- there is none before the first one
pub none_before : (result : Option ℕ) (bytes ahead : List ℕ) (at : ℕ) → result ≡ Some at → result ≡ position (λ b. b == 10) bytes → bytes ≡ ahead → feedless (take at ahead) ≡ true
none_before result bytes ahead at some first is = before ahead at (ap (position (λ b. b == 10)) (sym is) ∙ sym first ∙ some)

-- and there it is
pub feed_there : (result : Option ℕ) (bytes ahead : List ℕ) (at : ℕ) → result ≡ Some at → result ≡ position (λ b. b == 10) bytes → bytes ≡ ahead → drop at ahead ≡ 10 ∷ drop (at + 1) ahead
feed_there result bytes ahead at some first is =
    let found : position is_feed ahead ≡ Some at = ap (position (λ b. b == 10)) (sym is) ∙ sym first ∙ some in
    drop-cons ahead at 0 (omega (arith, (position-Some is_feed ahead at 0 found).0)) ∙ ap₂ (λ b k. b ∷ drop k ahead) (eqb-true (get_or ahead at 0) 10 (position-Some is_feed ahead at 0 found).1) (sym (add-one at))

-- behind the bytes before it, it comes next
pub feed_next : (next ahead : List ℕ) (at : ℕ) → next ≡ drop at ahead → drop at ahead ≡ 10 ∷ drop (at + 1) ahead → next ≡ 10 ∷ drop 1 next
feed_next next ahead at is feed = let all = is ∙ feed in all ∙ sym (ap (λ l. 10 ∷ drop 1 l) all)
