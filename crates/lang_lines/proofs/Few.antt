-- How many items the bytes that were pulled have: no more than lines.
use Rattle.std.proofs.Common.{ℕ, ◌+◌, ◌^◌, ◌≤◌, ◌==◌, Bool, true, false, if◌then◌else◌, List, [], ◌∷◌, length, length-append, ap, arith}
use Rattle.std.proofs.lemmas.List.Splits.{length-slice_split}
use Rattle.std.proofs.lemmas.List.Sums.{count_by-le-length}
use Rattle.std.specs.List.{flat_map}
use Rattle.lang_lines.specs.Lines.{all_but_last, is_skipped, items_of, items_of_line, longest, parts_of, whole_items}
use Rattle.lang_lines.specs.Reading.{HasGivenItems, ReaderState}

all_but_short : (parts : List (List ℕ)) → length (all_but_last parts) ≤ length parts
all_but_short [] = omega arith
all_but_short (part ∷ []) = omega arith
all_but_short (part ∷ more ∷ parts) = omega (arith, all_but_short (more ∷ parts))

parts_short : (input : List ℕ) → length (parts_of input) ≤ length input + 1
parts_short input = omega (arith, length-slice_split (λ b. b == 10) input, count_by-le-length (λ b. b == 10) input)

module _ {A : Type 0} (bad : A) (says : List ℕ → A) where
  abbrev each : List ℕ → List A
  each = items_of_line bad says longest

  line_short : (line : List ℕ) → length (each line) ≤ 1
  line_short line = by (is_skipped line) _
    where
      by : (b : Bool) (c : A) → length (if b then [] else (c ∷ [])) ≤ 1
      by true c = omega arith
      by false c = omega arith

  lines_short : (lines : List (List ℕ)) → length (flat_map each lines) ≤ length lines
  lines_short [] = omega arith
  lines_short (line ∷ lines) = omega (arith, line_short line, lines_short lines, length-append (each line) (flat_map each lines))

  items_short : (over : Bool) (front : List ℕ) → length (if over then items_of each front else whole_items each front) ≤ length front + 1
  items_short true front = omega (arith, lines_short (parts_of front), parts_short front)
  items_short false front = omega (arith, lines_short (all_but_last (parts_of front)), all_but_short (parts_of front), parts_short front)

  pub few_given : (seen : List ℕ) (items : List A) (r : ReaderState) → HasGivenItems each seen items r → length items ≤ 2 ^ 30 + 1
  few_given seen items r given = omega (arith, given.most, ap (λ (cs : List A). length cs) given.are, items_short r.over given.front, ap (λ (bs : List ℕ). length bs) given.split, length-append given.front r.ahead)
