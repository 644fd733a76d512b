-- A directory of a load has few names: they are different, and there are 8.
use Rattle.std.proofs.Common.{◌≡◌, sym, refl, ap, ◌∙◌, subst, arith, ℕ, ◌<◌, ◌≤◌, Bool, true, false, true≢false, List, [], ◌∷◌, ◌++◌, length, map, Option, Some, None, bytes_eq, nat_lt}
use Rattle.std.specs.Prelude.{T, ◌||◌, if◌then◌else◌}
use Rattle.std.specs.List.{IsDistinct, AllByRecursion, cons_option, filter_map, list_all, list_any}
use Rattle.std.specs.Cmp.{tied_itself}
use Rattle.std.specs.FinMap.{entries, entries_sorted, is_sorted}
use Rattle.std.specs.Ordering.{eq_by_cmp, is_eq}
use Rattle.std.proofs.Math.Dec.{eqb}
use Rattle.std.proofs.lemmas.Bool.{and_parts, eqb-true, ltb-true}
use Rattle.std.proofs.lemmas.List.{length-map}
use Rattle.std.proofs.lemmas.Map.Steps.{length-le_from_distinct_below}
use Rattle.std.proofs.lemmas.Slice.Eq.{bytes_eq-Decides}
use Rattle.std.proofs.lemmas.Option.{same_Some}
use Rattle.lang_load.specs.Load.{name}
use Rattle.lang_tree.specs.Names.{names_in}
use Rattle.lang_tree.specs.Paths.{lone_name, name_in, strip}
use Rattle.lang_tree.specs.Tree.{Tree, path_cmp}
use Rattle.cmd_load.specs.Trees.{IsLoadTree, digit_of, is_load_name}
use Rattle.cmd_load.proofs.Entries.{Each, apart_each, each_of, entry_each, first_of, second_of}
use Rattle.cmd_load.proofs.Trees.{path_total}

-- a path in a directory is that of the directory, and its name
path_of : (up path rest : List (List ℕ)) → strip up path ≡ Some rest → path ≡ up ++ rest
path_of [] path rest e = same_Some path rest e
path_of (a ∷ up) [] rest e = cc e
path_of (a ∷ up) (b ∷ path) rest e = elim (bytes_eq a b) as (λ t. bytes_eq a b ≡ t → (strip up path ≡ Some rest → path ≡ up ++ rest) → (if t then strip up path else None) ≡ Some rest → b ∷ path ≡ a ∷ (up ++ rest)) [
  | true ↦ λ same later is. ap (λ x. x ∷ path) (sym ((bytes_eq-Decides a b).0 same)) ∙ ap (λ p. a ∷ p) (later is)
  | false ↦ λ same later is. cc is
] refl (path_of up path rest) e

lone_is : (o : Option (List (List ℕ))) (x : List ℕ) → lone_name o ≡ Some x → o ≡ Some (x ∷ [])
lone_is (Some (y ∷ [])) x e = ap (λ z. Some (z ∷ [])) (same_Some y x e)
lone_is other x e = cc e

path_in : (up path : List (List ℕ)) (x : List ℕ) → name_in up path ≡ Some x → path ≡ up ++ x ∷ []
path_in up path x e = path_of up path (x ∷ []) (lone_is (strip up path) x e)

-- the last name of a named path is a load's
last_named : (up : List (List ℕ)) (x : List ℕ) → list_all is_load_name (up ++ x ∷ []) ≡ true → is_load_name x ≡ true
last_named [] x h = (and_parts (is_load_name x) true h).0
last_named (u ∷ up) x h = last_named up x (and_parts (is_load_name u) (list_all is_load_name (up ++ x ∷ [])) h).1

-- names of a load with one digit are the same
same_digit : (x y : List ℕ) → is_load_name x ≡ true → is_load_name y ≡ true → digit_of x ≡ digit_of y → x ≡ y
same_digit x y one two e =
    (bytes_eq-Decides x (name (digit_of x))).0 (and_parts (nat_lt (digit_of x) 8) (bytes_eq x (name (digit_of x))) one).1
    ∙ ap name e ∙ sym ((bytes_eq-Decides y (name (digit_of y))).0 (and_parts (nat_lt (digit_of y) 8) (bytes_eq y (name (digit_of y))) two).1)

-- an entry whose path is a load's
abbrev IsNamed : (List (List ℕ) × ℕ) → Type 0
IsNamed e = list_all is_load_name e.0 ≡ true

abbrev names_of : List (List ℕ) → List (List (List ℕ) × ℕ) → List (List ℕ)
names_of up es = filter_map (λ e. name_in up e.0) es

named_at : (up : List (List ℕ)) (e : List (List ℕ) × ℕ) (x : List ℕ) → IsNamed e → name_in up e.0 ≡ Some x → is_load_name x ≡ true
named_at up e x h is = last_named up x (subst (λ (p : List (List ℕ)). list_all is_load_name p ≡ true) (path_in up e.0 x is) h)

-- each digit is below 8
low_each : (up : List (List ℕ)) (es : List (List (List ℕ) × ℕ)) → Each IsNamed es → (q : ℕ) → list_any (eqb q) (map digit_of (names_of up es)) ≡ true → q < 8
low_each up [] h q is = cc is
low_each up (e ∷ es) h q is = by (name_in up e.0) refl (low_each up es h.1 q) is
  where
    rest : List (List ℕ)
    rest = names_of up es

    low : (x : List ℕ) → is_load_name x ≡ true → (b : Bool) → eqb q (digit_of x) ≡ b → (list_any (eqb q) (map digit_of rest) ≡ true → q < 8) → (b || list_any (eqb q) (map digit_of rest)) ≡ true → q < 8
    low x named true same later any = subst (λ (k : ℕ). k < 8) (sym (eqb-true q (digit_of x) same)) (ltb-true (digit_of x) 8 (and_parts (nat_lt (digit_of x) 8) (bytes_eq x (name (digit_of x))) named).0)
    low x named false same later any = later any

    by : (o : Option (List ℕ)) → name_in up e.0 ≡ o → (list_any (eqb q) (map digit_of rest) ≡ true → q < 8) → list_any (eqb q) (map digit_of (cons_option o rest)) ≡ true → q < 8
    by None at later any = later any
    by (Some x) at later any = low x (named_at up e x h.0 at) (eqb q (digit_of x)) refl later any

-- Different paths of one directory have different digits.
module _ (up : List (List ℕ)) (e : List (List ℕ) × ℕ) (x : List ℕ) (here : IsNamed e) (at : name_in up e.0 ≡ Some x) where
  apart_digits : (f : List (List ℕ) × ℕ) (y : List ℕ) → IsNamed f → name_in up f.0 ≡ Some y → eq_by_cmp path_cmp f.0 e.0 ≡ false → (b : Bool) → eqb (digit_of x) (digit_of y) ≡ b → b ≡ false
  apart_digits f y there is off false same = refl
  apart_digits f y there is off true same =
      let alike : x ≡ y = same_digit x y (named_at up e x here at) (named_at up f y there is) (eqb-true (digit_of x) (digit_of y) same) in
      let paths : f.0 ≡ e.0 = path_in up f.0 y is ∙ ap (λ z. up ++ z ∷ []) (sym alike) ∙ sym (path_in up e.0 x at) in
      absurd (true≢false (sym (ap is_eq (tied_itself path_total e.0)) ∙ ap (λ p. eq_by_cmp path_cmp p e.0) (sym paths) ∙ off))

  apart_all : (es : List (List (List ℕ) × ℕ)) → Each IsNamed es → Each (λ f. eq_by_cmp path_cmp f.0 e.0 ≡ false) es → AllByRecursion (λ d. eqb (digit_of x) d ≡ false) (map digit_of (names_of up es))
  apart_all [] h off = tt
  apart_all (f ∷ es) h off = by (name_in up f.0) refl (apart_all es h.1 off.1)
    where
      by : (o : Option (List ℕ)) → name_in up f.0 ≡ o → AllByRecursion (λ d. eqb (digit_of x) d ≡ false) (map digit_of (names_of up es)) → AllByRecursion (λ d. eqb (digit_of x) d ≡ false) (map digit_of (cons_option o (names_of up es)))
      by None is later = later
      by (Some y) is later = (apart_digits f y h.0 is off.0 (eqb (digit_of x) (digit_of y)) refl, later)

distinct : (up : List (List ℕ)) (es : List (List (List ℕ) × ℕ)) → T (is_sorted path_cmp es) → Each IsNamed es → IsDistinct eqb (map digit_of (names_of up es))
unfolding IsDistinct
distinct up [] sorted h = tt
distinct up (e ∷ es) sorted h = elim (name_in up e.0) as (λ o. name_in up e.0 ≡ o → IsDistinct eqb (map digit_of (names_of up es)) → IsDistinct eqb (map digit_of (cons_option o (names_of up es)))) [
  | None ↦ λ at later. later
  | Some x ↦ λ at later. (apart_all up e x h.0 at es h.1 (apart_each path_total e.0 es (first_of _ _ sorted)), later)
] refl (distinct up es (second_of _ _ sorted) h.1)

pub few_names : (t : Tree) (up : List (List ℕ)) → IsLoadTree t → length (names_in t.names up) ≤ 8
few_names t up is =
    let named = each_of (λ e at. is.names e.0 e.1 at) (entries t.names) (entry_each path_total t.names) in
    omega (
      arith,
      length-map (names_in t.names up) digit_of,
      length-le_from_distinct_below (map digit_of (names_in t.names up)) 8 (distinct up (entries t.names) (entries_sorted t.names) named) (low_each up (entries t.names) named),
    )
