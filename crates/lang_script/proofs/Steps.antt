-- What one more part or name adds, and when a part is no number.
use Rattle.std.proofs.Common.{◌≡◌, ap, refl, arith, rules, ℕ, ◌+◌, ◌<◌, ◌≤◌, ◌^◌, true, false, ◌&&◌, inl, inr, List, [], ◌∷◌, ◌++◌, length, take, get_or, map, Err, None, Bor, decimal, nat_lt, bytes_eq}
use Rattle.std.proofs.lemmas.Bool.{cases_Bool, and_parts}
use Rattle.std.proofs.lemmas.Bool.Decides.{Decides-ltb}
use Rattle.std.proofs.lemmas.Slice.Eq.{bytes_eq-Decides}
use Rattle.std.proofs.lemmas.Fmt.{decimal_nonempty}
use Rattle.std.proofs.lemmas.Str.Parse.{parse_digits}
use Rattle.std.proofs.lemmas.List.{take_more, get_or-map, length-map}
use Rattle.std.proofs.lemmas.List.Folds.{list_all_more, list_all_at}
use Rattle.base_types.specs.Name.{is_name}
use Rattle.std.specs.Char.{is_ascii_digit}
use Rattle.std.specs.List.{list_all}
use Rattle.std.specs.Str.Parse.{digits_value, ParsesUnsigned}
use Rattle.lang_script.specs.Shared.{own}
use Rattle.lang_script.specs.Grammar.{small_number_of, command_on_tree}
use Rattle.lang_tree.specs.declared.command.Cmd.TheVariants.{Bad}

-- six parts or more are no command
pub many_parts : (parts : List (List ℕ)) → 6 ≤ length parts → Bad ≡ command_on_tree parts
many_parts [] h = absurd (omega (arith, h))
many_parts (a ∷ []) h = absurd (omega (arith, h))
many_parts (a ∷ b ∷ []) h = absurd (omega (arith, h))
many_parts (a ∷ b ∷ c ∷ []) h = absurd (omega (arith, h))
many_parts (a ∷ b ∷ c ∷ d ∷ []) h = absurd (omega (arith, h))
many_parts (a ∷ b ∷ c ∷ d ∷ e ∷ []) h = absurd (omega (arith, h))
many_parts (a ∷ b ∷ c ∷ d ∷ e ∷ f ∷ more) h = refl

not_small : (part : List ℕ) (v limit : ℕ) → limit < 2 ^ 64 → ¬ ((0 < length part) × (v < limit))
    → (nat_lt v limit && bytes_eq (decimal v) part) ≡ false
not_small part v limit small never = elim (cases_Bool (nat_lt v limit && bytes_eq (decimal v) part)) [
  | inl passed ↦
      let both = and_parts (nat_lt v limit) (bytes_eq (decimal v) part) passed in
      let below : v < limit = (Decides-ltb v limit).0 both.0 in
      let same : decimal v ≡ part = (bytes_eq-Decides (decimal v) part).0 both.1 in
      let some : 0 < length (decimal v) = decimal_nonempty v (omega (arith, below, small)) in
      absurd (never (rw same at some, below))
  | inr off ↦ off
]

-- where digits alone give no number below 2 ^ 32, the part is no number
pub no_number : {E : Type 0} (part : List ℕ) (why : E) → ParsesUnsigned 32 10 part (Err why)
    → list_all is_ascii_digit part ≡ true → None ≡ small_number_of part
no_number part why h digits =
    let off = not_small part (digits_value 10 part) 4294967296 (omega arith) (parse_digits own 32 part (Err why) h digits) in
    search (rules, off, digits)

-- what the parts are called, in order
abbrev pub texts : List (Bor (List ℕ)) → List (List ℕ)
texts parts = map (λ part. part.now) parts

pub length_texts : (parts : List (Bor (List ℕ))) → length (texts parts) ≡ length parts
length_texts parts = length-map parts (λ part. part.now)

-- one more lawful part
pub part_more : (parts : List (Bor (List ℕ))) (i : ℕ) (d : Bor (List ℕ)) (names : List (List ℕ)) → i < length parts
    → names ≡ take i (texts parts) → list_all is_name (take i (texts parts)) ≡ true
    → is_name (get_or parts i d).now ≡ true
    → (names ++ (get_or parts i d).now ∷ [] ≡ take (i + 1) (texts parts)) × (list_all is_name (take (i + 1) (texts parts)) ≡ true)
part_more parts i d names below same lawful this =
    let inside : i < length (texts parts) = rw (length_texts parts) below in
    let at : get_or (texts parts) i [] ≡ (get_or parts i d).now = get_or-map (λ part. part.now) parts i d [] below in
    let more : take (i + 1) (texts parts) ≡ take i (texts parts) ++ get_or (texts parts) i [] ∷ [] = take_more (texts parts) i [] inside in
    let all : list_all is_name (take (i + 1) (texts parts)) ≡ (list_all is_name (take i (texts parts)) && is_name (get_or (texts parts) i [])) =
    list_all_more is_name (texts parts) i [] inside in
    (rw more (rw at (ap (λ xs. xs ++ (get_or parts i d).now ∷ []) same)), rw all (rw lawful (rw at this)))

-- a part that is no name
pub unlawful_part : (parts : List (Bor (List ℕ))) (i : ℕ) (d : Bor (List ℕ)) → i < length parts
    → is_name (get_or parts i d).now ≡ false → list_all is_name (texts parts) ≡ false
unlawful_part parts i d below off =
    let inside : i < length (texts parts) = rw (length_texts parts) below in
    let at : get_or (texts parts) i [] ≡ (get_or parts i d).now = get_or-map (λ part. part.now) parts i d [] below in
    list_all_at is_name (texts parts) i [] inside (rw at off)
