-- A text that a sink takes piece by piece: what is left of it, and that a fault leaves a prefix of it taken.
use Rattle.std.proofs.Common.{◌≡◌, ℕ, suc, ◌+◌, ◌<◌, ◌/◌, ◌%◌, List, [], ◌∷◌, ◌++◌, length, take, drop, get_or, slice_index, codes, decimal, Option, Result, Ok, Err, OnErr, sym, refl, ap, ap₂, ◌∙◌, subst, arith, append_assoc, append-nil, drop-cons}
use Rattle.std.proofs.Math.Seq.{take-append_seam}
use Rattle.std.proofs.lemmas.List.{take-append-drop, drop-drop}
use Rattle.std.specs.Io.KnownBytes.{Appends}
use Rattle.std.proofs.KnownBytes.{Appends-trans, Appends-nil}
use Rattle.hex.specs.Hex.{encode_lower, encode_with, lower_digits}
use Rattle.base_io.specs.Prefix.{TakesPrefix}
use Rattle.lang_tree.specs.Listing.{slashed, path_text, digits_behind_blank}

-- what holds anyway holds on an error
pub on_err : {T E : Type 0} (r : Result T E) (P : Type 0) → P → OnErr r P
on_err (Ok x) P p = tt
on_err (Err e) P p = p

-- What prefixes of two pieces in a row are: the clauses of `prefixes_join`.
abbrev pub IsFirst : Type 0
IsFirst = (old new : Option (List ℕ)) (xs ys : List ℕ) → TakesPrefix old new xs → TakesPrefix old new (xs ++ ys)

abbrev pub IsSecond : Type 0
IsSecond = (old mid new : Option (List ℕ)) (xs ys : List ℕ) → Appends old mid xs → TakesPrefix mid new ys → TakesPrefix old new (xs ++ ys)

-- of the whole text all but the rest was taken
pub record Wrote (old now : Option (List ℕ)) (rest whole : List ℕ) : Type 0 where
  pub done : List ℕ
  pub taken : Appends old now done
  pub split : done ++ rest ≡ whole

pub wrote_more : (old now new : Option (List ℕ)) (left piece rest whole : List ℕ) → Wrote old now left whole → left ≡ piece ++ rest → Appends now new piece
    → Wrote old new rest whole
wrote_more old now new left piece rest whole so_far is taken = record {
  done = so_far.done ++ piece;
  taken = Appends-trans old now new so_far.done piece so_far.taken taken;
  split = append_assoc so_far.done piece rest ∙ ap (λ xs. so_far.done ++ xs) (sym is) ∙ so_far.split;
}

pub wrote_all : (old now : Option (List ℕ)) (left whole : List ℕ) → Wrote old now left whole → left ≡ [] → Appends old now whole
wrote_all old now left whole so_far is =
    subst (Appends old now) (sym (append-nil so_far.done) ∙ ap (λ xs. so_far.done ++ xs) (sym is) ∙ so_far.split) so_far.taken

-- a prefix of what was taken before, of the next piece and of the rest is one of the whole
pub wrote_front : (old now new : Option (List ℕ)) (left piece rest whole : List ℕ) (so_far : Wrote old now left whole) → left ≡ piece ++ rest
    → TakesPrefix old new (so_far.done ++ (piece ++ rest)) → TakesPrefix old new whole
wrote_front old now new left piece rest whole so_far is front = subst (TakesPrefix old new) (ap (λ xs. so_far.done ++ xs) (sym is) ∙ so_far.split) front

-- and so is what was taken before
pub wrote_so_far : (old now : Option (List ℕ)) (left whole : List ℕ) → Wrote old now left whole → TakesPrefix old now whole
wrote_so_far old now left whole so_far =
    (length so_far.done, subst (Appends old now) (sym (take-append_seam so_far.done left) ∙ ap (take (length so_far.done)) so_far.split) so_far.taken)

-- a sink that took nothing took a prefix
pub took_nothing : (old : Option (List ℕ)) (whole : List ℕ) → TakesPrefix old old whole
took_nothing old whole = (0, Appends-nil old)

-- The texts.

-- the kind with its blank, the path and the number
abbrev pub head : List ℕ → List (List ℕ) → ℕ → List ℕ
head kind path n = kind ++ path_text path ++ codes " " ++ decimal n

-- the next name of a path, and those behind it
pub slashed_next : (path : List (List ℕ)) (i : ℕ) (name : List ℕ) → i < length path → name ≡ get_or path i name
    → slashed (drop i path) ≡ (47 ∷ name) ++ slashed (drop (i + 1) path)
slashed_next path i name within is =
    let next : suc i ≡ i + 1 = omega arith in
    ap slashed (drop-cons path i name within) ∙ ap (λ x. (47 ∷ x) ++ slashed (drop (suc i) path)) (sym is)
    ∙ ap (λ k. (47 ∷ name) ++ slashed (drop k path)) next

pub digits_all : (bytes : List ℕ) → 0 < length bytes → codes " " ++ encode_lower bytes ≡ digits_behind_blank bytes
digits_all [] some = absurd (omega arith)
digits_all (byte ∷ bytes) some = refl

encode_append : (digits xs ys : List ℕ) → encode_with digits (xs ++ ys) ≡ encode_with digits xs ++ encode_with digits ys
unfolding encode_with
encode_append digits [] ys = refl
encode_append digits (x ∷ xs) ys = ap (λ rest. slice_index digits (x / 16) ∷ slice_index digits (x % 16) ∷ rest) (encode_append digits xs ys)

pub digits_next : (left piece rest : List ℕ) → left ≡ piece ++ rest → encode_lower left ≡ encode_lower piece ++ encode_lower rest
digits_next left piece rest is = ap encode_lower is ∙ encode_append lower_digits piece rest

-- the digits of the next piece of some bytes, and those behind them
pub digits_piece : (at n : ℕ) (bytes piece : List ℕ) → piece ≡ take n (drop at bytes) → encode_lower (drop at bytes) ≡ encode_lower piece ++ encode_lower (drop (at + n) bytes)
digits_piece at n bytes piece is =
    digits_next (drop at bytes) piece (drop (at + n) bytes) (sym (take-append-drop n (drop at bytes)) ∙ ap₂ (λ xs ys. xs ++ ys) (sym is) (drop-drop n at bytes))

pub no_digits : (left : List ℕ) → length left ≡ 0 → encode_lower left ≡ []
unfolding encode_with
no_digits [] none = refl
no_digits (x ∷ left) none = absurd (omega arith)
