-- What one more item adds to a choice, and when an item says nothing.
use Rattle.std.proofs.Common.{◌≡◌, sym, ap, refl, ◌∙◌, subst, arith, ℕ, zero, suc, ◌+◌, ◌<◌, List, [], ◌∷◌, ◌++◌, length, take, get_or, map, append_assoc, Option, Some, None, Bor}
use Rattle.std.specs.Prelude.{option_map}
use Rattle.std.proofs.lemmas.List.{take_more, get_or-map, length-map}
use Rattle.disk_memory.specs.Choice.{ChoiceState, with_fate}
use Rattle.disk_memory.specs.declared.choice.Named.{Named}
use Rattle.cmd_words.specs.ChoiceTexts.{all_of, with_more}

-- what the items are called, in order
abbrev pub texts : List (Bor (List ℕ)) → List (List ℕ)
texts items = map (λ item. item.now) items

length_texts : (items : List (Bor (List ℕ))) → length (texts items) ≡ length items
length_texts items = length-map items (λ item. item.now)

-- what the item at a place says
said_at : (says : List ℕ → Option Named) (items : List (Bor (List ℕ))) (i : ℕ) (d : Bor (List ℕ)) → i < length items
    → get_or (map says (texts items)) i None ≡ says (get_or items i d).now
said_at says items i d low =
    let inside : i < length (texts items) = rw (length_texts items) low in
    get_or-map says (texts items) i [] None inside ∙ ap says (get_or-map (λ item. item.now) items i d [] low)

length_said : (says : List ℕ → Option Named) (items : List (Bor (List ℕ))) → length (map says (texts items)) ≡ length items
length_said says items = length-map (texts items) says ∙ length_texts items

-- ---- one item more

all_of_more : (xs : List (Option Named)) (y : Named) → all_of (xs ++ Some y ∷ []) ≡ option_map (λ ys. ys ++ y ∷ []) (all_of xs)
all_of_more [] y = refl
all_of_more (None ∷ xs) y = refl
all_of_more (Some x ∷ xs) y = ap (option_map (λ others. x ∷ others)) (all_of_more xs y) ∙ swapped (all_of xs)
  where
    swapped : (o : Option (List Named)) → option_map (λ others. x ∷ others) (option_map (λ ys. ys ++ y ∷ []) o) ≡ option_map (λ ys. ys ++ y ∷ []) (option_map (λ others. x ∷ others) o)
    swapped (Some ys) = refl
    swapped None = refl

more_with : (old c : ChoiceState) (o : Option (List Named)) (y : Named) → with_more old o ≡ Some c
    → with_more old (option_map (λ ys. ys ++ y ∷ []) o) ≡ Some (with_fate c y.write y.fate)
more_with old c (Some ys) y h =
    let is : record old { named = old.named ++ ys } ≡ c = cc h in
    subst (λ d. with_more old (Some (ys ++ y ∷ [])) ≡ Some (with_fate d y.write y.fate)) is
    (ap (λ l. Some record old { named = l }) (sym (append_assoc old.named ys (y ∷ []))))
more_with old c None y h = cc h

-- one more item is said
pub said_more : (old c : ChoiceState) (xs : List (Option Named)) (i : ℕ) (y : Named) → i < length xs → get_or xs i None ≡ Some y
    → with_more old (all_of (take i xs)) ≡ Some c → with_more old (all_of (take (i + 1) xs)) ≡ Some (with_fate c y.write y.fate)
said_more old c xs i y low at h =
    rw (take_more xs i None low) (rw at (rw (all_of_more (take i xs) y) (more_with old c (all_of (take i xs)) y h)))

-- where one item says nothing, the list says nothing
pub says_nothing : (xs : List (Option Named)) (i : ℕ) → i < length xs → get_or xs i None ≡ None → all_of xs ≡ None
says_nothing [] i low h = absurd (omega (arith, low))
says_nothing (None ∷ xs) i low h = refl
says_nothing (Some x ∷ xs) zero low h = cc h
says_nothing (Some x ∷ xs) (suc i) low h = ap (option_map (λ others. x ∷ others)) (says_nothing xs i (omega (arith, low)) h)

-- ---- the same by the items

pub one_more : (says : List ℕ → Option Named) (old c : ChoiceState) (items : List (Bor (List ℕ))) (i : ℕ) (d : Bor (List ℕ)) (y : Named) → i < length items
    → says (get_or items i d).now ≡ Some y → with_more old (all_of (take i (map says (texts items)))) ≡ Some c
    → with_more old (all_of (take (i + 1) (map says (texts items)))) ≡ Some (with_fate c y.write y.fate)
one_more says old c items i d y low at h =
    said_more old c (map says (texts items)) i y (rw (length_said says items) low) (said_at says items i d low ∙ at) h

pub none_at : (says : List ℕ → Option Named) (items : List (Bor (List ℕ))) (i : ℕ) (d : Bor (List ℕ)) → i < length items
    → says (get_or items i d).now ≡ None → all_of (map says (texts items)) ≡ None
none_at says items i d low at =
    says_nothing (map says (texts items)) i (rw (length_said says items) low) (said_at says items i d low ∙ at)
