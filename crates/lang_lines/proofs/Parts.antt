-- More bytes of an input: its whole lines, its open line, and what they say.
use Rattle.std.proofs.Common.{◌≡◌, ℕ, suc, ◌+◌, ◌<◌, ◌≤◌, Bool, true, false, not, ◌==◌, cond, eqb, ltb, List, [], ◌∷◌, ◌++◌, length, take, refl, sym, ap, ◌∙◌, subst, arith, add-one, append_assoc, append-nil, take_all}
use Rattle.std.specs.List.{onto_first, flat_map, list_all}
use Rattle.std.proofs.lemmas.Bool.{and_parts, eqb-true, lt-ltb}
use Rattle.std.proofs.lemmas.Bool.Decides.{nat_tests}
use Rattle.std.proofs.lemmas.Grind.{flat_map-append}
use Rattle.std.proofs.lemmas.List.{length-take, length-take-le}
use Rattle.lang_lines.specs.Lines.{parts_of, all_but_last, last_of, whole_lines, open_line, items_of_line, whole_items, items_of}

-- the parts after one byte that is no line feed
abbrev grow : ℕ → List (List ℕ) → List (List ℕ)
grow b ps = all_but_last ps ++ (last_of ps ++ b ∷ []) ∷ []

-- there is always a part
some_parts : (xs : List ℕ) → (part : List ℕ) × (rest : List (List ℕ)) × (parts_of xs ≡ part ∷ rest)
some_parts [] = ([], [], refl)
some_parts (x ∷ xs) = shown x (parts_of xs) (some_parts xs) (eqb x 10)
  where
    shown : (x : ℕ) (ps : List (List ℕ)) → (part : List ℕ) × (rest : List (List ℕ)) × (ps ≡ part ∷ rest) → (t : Bool)
        → (part : List ℕ) × (rest : List (List ℕ)) × (cond t ([] ∷ ps) (onto_first x ps) ≡ part ∷ rest)
    shown x ps here true = ([], ps, refl)
    shown x ps here false = (x ∷ here.0, here.1, ap (onto_first x) here.2)

split_last : (p : List ℕ) (ps : List (List ℕ)) → p ∷ ps ≡ all_but_last (p ∷ ps) ++ last_of (p ∷ ps) ∷ []
split_last p [] = refl
split_last p (q ∷ ps) = ap (λ xs. p ∷ xs) (split_last q ps)

-- the whole lines, and then the open one
parts-split : (xs : List ℕ) → parts_of xs ≡ whole_lines xs ++ open_line xs ∷ []
parts-split xs =
    let some = some_parts xs in
    let P : List (List ℕ) → Type 0 = λ ps. ps ≡ all_but_last ps ++ last_of ps ∷ [] in
    subst P (sym some.2) (split_last some.0 some.1)

front_back : (ps : List (List ℕ)) (q : List ℕ) → all_but_last (ps ++ q ∷ []) ≡ ps
front_back [] q = refl
front_back (p ∷ []) q = refl
front_back (p ∷ r ∷ ps) q = ap (λ xs. p ∷ xs) (front_back (r ∷ ps) q)

last_back : (ps : List (List ℕ)) (q : List ℕ) → last_of (ps ++ q ∷ []) ≡ q
last_back [] q = refl
last_back (p ∷ []) q = refl
last_back (p ∷ r ∷ ps) q = last_back (r ∷ ps) q

parts-feed : (xs : List ℕ) → parts_of (xs ++ 10 ∷ []) ≡ parts_of xs ++ [] ∷ []
parts-feed [] = refl
parts-feed (x ∷ xs) = shown x (parts_of xs) (parts_of (xs ++ 10 ∷ [])) (some_parts xs) (parts-feed xs) (eqb x 10)
  where
    shown : (x : ℕ) (ps qs : List (List ℕ)) → (part : List ℕ) × (rest : List (List ℕ)) × (ps ≡ part ∷ rest) → qs ≡ ps ++ [] ∷ [] → (t : Bool)
        → cond t ([] ∷ qs) (onto_first x qs) ≡ cond t ([] ∷ ps) (onto_first x ps) ++ [] ∷ []
    shown x ps qs here e true = ap (λ l. [] ∷ l) e
    shown x ps qs here e false =
        let P : List (List ℕ) → Type 0 = λ l. onto_first x (l ++ [] ∷ []) ≡ onto_first x l ++ [] ∷ [] in
        ap (onto_first x) e ∙ subst P (sym here.2) refl

parts-byte : (xs : List ℕ) (b : ℕ) → eqb b 10 ≡ false → parts_of (xs ++ b ∷ []) ≡ grow b (parts_of xs)
parts-byte [] b no_feed = ap (λ t. cond t ([] ∷ [] ∷ []) (onto_first b ([] ∷ []))) no_feed
parts-byte (x ∷ xs) b no_feed = shown b x (parts_of xs) (parts_of (xs ++ b ∷ [])) (some_parts xs) (parts-byte xs b no_feed) (eqb x 10)
  where
    first : (b : ℕ) (part : List ℕ) (rest : List (List ℕ)) → [] ∷ grow b (part ∷ rest) ≡ grow b ([] ∷ part ∷ rest)
    first b part rest = refl

    onto : (b x : ℕ) (part : List ℕ) (rest : List (List ℕ)) → onto_first x (grow b (part ∷ rest)) ≡ grow b (onto_first x (part ∷ rest))
    onto b x part [] = refl
    onto b x part (q ∷ rest) = refl

    shown : (b x : ℕ) (ps qs : List (List ℕ)) → (part : List ℕ) × (rest : List (List ℕ)) × (ps ≡ part ∷ rest) → qs ≡ grow b ps → (t : Bool)
        → cond t ([] ∷ qs) (onto_first x qs) ≡ grow b (cond t ([] ∷ ps) (onto_first x ps))
    shown b x ps qs here e true =
        let P : List (List ℕ) → Type 0 = λ l. [] ∷ grow b l ≡ grow b ([] ∷ l) in
        ap (λ l. [] ∷ l) e ∙ subst P (sym here.2) (first b here.0 here.1)
    shown b x ps qs here e false =
        let P : List (List ℕ) → Type 0 = λ l. onto_first x (grow b l) ≡ grow b (onto_first x l) in
        ap (onto_first x) e ∙ subst P (sym here.2) (onto b x here.0 here.1)

-- a byte that is no line feed

pub open-byte : (xs : List ℕ) (b : ℕ) → eqb b 10 ≡ false → open_line (xs ++ b ∷ []) ≡ open_line xs ++ b ∷ []
open-byte xs b no_feed = ap last_of (parts-byte xs b no_feed) ∙ last_back (whole_lines xs) _

whole-byte : (xs : List ℕ) (b : ℕ) → eqb b 10 ≡ false → whole_lines (xs ++ b ∷ []) ≡ whole_lines xs
whole-byte xs b no_feed = ap all_but_last (parts-byte xs b no_feed) ∙ front_back (whole_lines xs) _

pub items-byte : {A : Type 0} (each : List ℕ → List A) (xs : List ℕ) (b : ℕ) → eqb b 10 ≡ false → whole_items each (xs ++ b ∷ []) ≡ whole_items each xs
items-byte each xs b no_feed = ap (flat_map each) (whole-byte xs b no_feed)

-- a line feed

pub open-feed : (xs : List ℕ) → open_line (xs ++ 10 ∷ []) ≡ []
open-feed xs = ap last_of (parts-feed xs) ∙ last_back (parts_of xs) []

-- at the end of an input the open line is a line
pub items-end : {A : Type 0} (each : List ℕ → List A) (xs : List ℕ) → items_of each xs ≡ whole_items each xs ++ each (open_line xs)
items-end each xs =
    ap (flat_map each) (parts-split xs) ∙ flat_map-append each (whole_lines xs) (open_line xs ∷ [])
    ∙ ap (λ l. whole_items each xs ++ l) (append-nil (each (open_line xs)))

pub items-feed : {A : Type 0} (each : List ℕ → List A) (xs : List ℕ) → whole_items each (xs ++ 10 ∷ []) ≡ items_of each xs
items-feed each xs = ap (flat_map each) (ap all_but_last (parts-feed xs) ∙ front_back (parts_of xs) [])

-- What is read later takes no item away that is there.

behind : {A : Type 0} (each : List ℕ → List A) (xs : List ℕ) (b : ℕ) (t : Bool) → eqb b 10 ≡ t → (more : List A) × (whole_items each (xs ++ b ∷ []) ≡ whole_items each xs ++ more)
behind {A = A} each xs b true e =
    let P : ℕ → Type 0 = λ c. (more : List A) × (whole_items each (xs ++ c ∷ []) ≡ whole_items each xs ++ more) in
    subst P (sym (eqb-true b 10 e)) (each (open_line xs), items-feed each xs ∙ items-end each xs)
behind {A = A} each xs b false e = ([], items-byte each xs b e ∙ sym (append-nil (whole_items each xs)))

pub items-more : {A : Type 0} (each : List ℕ → List A) (xs ys : List ℕ) → (more : List A) × (items_of each (xs ++ ys) ≡ whole_items each xs ++ more)
items-more each xs [] =
    (each (open_line xs), ap (items_of each) (append-nil xs) ∙ items-end each xs)
items-more each xs (y ∷ ys) =
    let here = behind each xs y (eqb y 10) refl in
    let later = items-more each (xs ++ y ∷ []) ys in
    (here.0 ++ later.0, ap (items_of each) (sym (append_assoc xs (y ∷ []) ys)) ∙ later.1 ∙ ap (λ l. l ++ later.0) here.1 ∙ append_assoc (whole_items each xs) here.0 later.0)

-- Bytes of which none is a line feed.

abbrev pub feedless : List ℕ → Bool
feedless bytes = list_all (λ b. not (b == 10)) bytes

no_feed : (b : ℕ) → not (b == 10) ≡ true → eqb b 10 ≡ false
no_feed b h = grind (arith, h)

pub open-more : (xs ys : List ℕ) → feedless ys ≡ true → open_line (xs ++ ys) ≡ open_line xs ++ ys
open-more xs [] h = ap open_line (append-nil xs) ∙ sym (append-nil (open_line xs))
open-more xs (y ∷ ys) h =
    let parts = and_parts _ _ h in
    ap open_line (sym (append_assoc xs (y ∷ []) ys)) ∙ open-more (xs ++ y ∷ []) ys parts.1 ∙ ap (λ l. l ++ ys) (open-byte xs y (no_feed y parts.0))
    ∙ append_assoc (open_line xs) (y ∷ []) ys

pub whole-more : {A : Type 0} (each : List ℕ → List A) (xs ys : List ℕ) → feedless ys ≡ true → whole_items each (xs ++ ys) ≡ whole_items each xs
whole-more each xs [] h = ap (whole_items each) (append-nil xs)
whole-more each xs (y ∷ ys) h =
    let parts = and_parts _ _ h in
    ap (whole_items each) (sym (append_assoc xs (y ∷ []) ys)) ∙ whole-more each (xs ++ y ∷ []) ys parts.1 ∙ items-byte each xs y (no_feed y parts.0)

-- a line feed makes the open line a whole one
pub whole-feed : {A : Type 0} (each : List ℕ → List A) (xs : List ℕ) → whole_items each (xs ++ 10 ∷ []) ≡ whole_items each xs ++ each (open_line xs)
whole-feed each xs = items-feed each xs ∙ items-end each xs

-- The line that is kept.

-- one byte more than a line may have decides as the whole line does
pub line_kept : {A : Type 0} (bad : A) (says : List ℕ → A) (n : ℕ) (line : List ℕ) → items_of_line bad says n (take (n + 1) line) ≡ items_of_line bad says n line
line_kept bad says n [] = ap (items_of_line bad says n) (take_all (n + 1) [] (omega arith))
line_kept bad says n (b ∷ line) = shown n b line (ltb n (length (b ∷ line))) refl
  where
    shown : (n b : ℕ) (line : List ℕ) (t : Bool) → ltb n (length (b ∷ line)) ≡ t → items_of_line bad says n (take (n + 1) (b ∷ line)) ≡ items_of_line bad says n (b ∷ line)
    shown n b line true long =
        let more : n < suc (length line) = grind (arith, nat_tests) in
        let cut : length (take n line) ≡ n = length-take-le n line (omega arith) in
        let still : ltb n (length (b ∷ take n line)) ≡ true = rw cut (lt-ltb n (suc n) (omega arith)) in
        let front : take (n + 1) (b ∷ line) ≡ b ∷ take n line = rw add-one refl in
        ap (items_of_line bad says n) front
        ∙ ap (λ t. cond (eqb b 35) [] ((cond t bad (says (b ∷ take n line))) ∷ [])) still
        ∙ sym (ap (λ t. cond (eqb b 35) [] ((cond t bad (says (b ∷ line))) ∷ [])) long)
    shown n b line false short =
        let all : suc (length line) ≤ n = grind (arith, nat_tests) in
        ap (items_of_line bad says n) (take_all (n + 1) (b ∷ line) (omega arith))

-- where nothing is kept of a line there is nothing of it
pub none_kept : (n : ℕ) (line : List ℕ) → [] ≡ take (n + 1) line → line ≡ []
none_kept n [] h = refl
none_kept n (b ∷ line) h = absurd (omega (arith, ap (λ (l : List ℕ). length l) h, length-take (n + 1) (b ∷ line)))
