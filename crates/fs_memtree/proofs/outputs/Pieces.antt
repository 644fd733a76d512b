-- A text that a sink takes piece by piece: what is left of it, and that a fault leaves a front of it taken.
use Rattle.std.proofs.Common.{◌≡◌, ℕ, ◌<◌, List, [], ◌∷◌, ◌++◌, length, codes, Option, Result, OnErr, sym, refl, ap, ◌∙◌, subst, arith, append_assoc, append-nil, slice_index, ◌/◌, ◌%◌, decimal}
use Rattle.std.proofs.lemmas.Grind.{flat_map-append}
use Rattle.std.specs.Io.KnownBytes.{Appends}
use Rattle.std.proofs.KnownBytes.{Appends-trans}
use Rattle.std.proofs.lemmas.Bool.Decides.{nat_tests}
use Rattle.hex.specs.Hex.{encode_lower, encode_with, lower_digits}
use Rattle.base_io.specs.Prefix.{TakesPrefix}
use Rattle.lang_tree.specs.Listing.{slashed, path_text, digits_behind_blank}

-- what holds anyway holds on an error
pub on_err : {T E : Type 0} (r : Result T E) (P : Type 0) → P → OnErr r P
on_err r P e = grind (arith, nat_tests)

-- of the whole text all but the rest was taken
pub record Wrote (old now : Option (List ℕ)) (rest whole : List ℕ) : Type 0 where
  pub done : List ℕ
  pub taken : Appends old now done
  pub split : done ++ rest ≡ whole

pub wrote_first : (old now : Option (List ℕ)) (first rest whole : List ℕ) → Appends old now first → first ++ rest ≡ whole → Wrote old now rest whole
wrote_first old now first rest whole taken is = record { done = first; taken = taken; split = is }

pub wrote_more : (old now new : Option (List ℕ)) (left piece rest whole : List ℕ) → Wrote old now left whole → left ≡ piece ++ rest → Appends now new piece
    → Wrote old new rest whole
wrote_more old now new left piece rest whole so_far is taken = record {
  done = so_far.done ++ piece;
  taken = Appends-trans old now new so_far.done piece so_far.taken taken;
  split = append_assoc so_far.done piece rest ∙ ap (λ xs. so_far.done ++ xs) (sym is) ∙ so_far.split;
}

pub wrote_all : (old now : Option (List ℕ)) (left whole : List ℕ) → Wrote old now left whole → left ≡ [] → Appends old now whole
wrote_all old now left whole so_far is = grind (arith, nat_tests, append-nil)

-- a prefix of what was taken before, of the next piece and of the rest is one of the whole
pub wrote_front : (old now new : Option (List ℕ)) (left piece rest whole : List ℕ) (so_far : Wrote old now left whole) → left ≡ piece ++ rest
    → TakesPrefix old new (so_far.done ++ (piece ++ rest)) → TakesPrefix old new whole
wrote_front old now new left piece rest whole so_far is front = subst (TakesPrefix old new) (ap (λ xs. so_far.done ++ xs) (sym is) ∙ so_far.split) front

-- The texts.

-- the kind with its blank, the path and the number
abbrev pub head : List ℕ → List (List ℕ) → ℕ → List ℕ
head kind path n = kind ++ path_text path ++ codes " " ++ decimal n

-- a name more at the end of a path
pub slashed_last : (up : List (List ℕ)) (name : List ℕ) → slashed (up ++ name ∷ []) ≡ slashed up ++ 47 ∷ name
slashed_last up name = flat_map-append (λ n. 47 ∷ n) up (name ∷ []) ∙ ap (λ xs. slashed up ++ xs) (append-nil (47 ∷ name))

pub digits_all : (bytes : List ℕ) → 0 < length bytes → codes " " ++ encode_lower bytes ≡ digits_behind_blank bytes
digits_all bytes e = grind (arith, nat_tests)

encode_append : (digits xs ys : List ℕ) → encode_with digits (xs ++ ys) ≡ encode_with digits xs ++ encode_with digits ys
unfolding encode_with
encode_append digits [] ys = refl
encode_append digits (x ∷ xs) ys = ap (λ rest. slice_index digits (x / 16) ∷ slice_index digits (x % 16) ∷ rest) (encode_append digits xs ys)

pub digits_next : (left piece rest : List ℕ) → left ≡ piece ++ rest → encode_lower left ≡ encode_lower piece ++ encode_lower rest
digits_next left piece rest is = ap encode_lower is ∙ encode_append lower_digits piece rest

pub no_digits : (left : List ℕ) → length left ≡ 0 → encode_lower left ≡ []
unfolding encode_with
no_digits [] none = refl
no_digits (x ∷ left) none = absurd (omega arith)
