-- The numbers of a tree's snapshots by their names are the entries of its snapshots, in their order.
use Rattle.std.proofs.Common.{◌≡◌, ℕ, Bool, true, false, cond, ◌&&◌, List, [], ◌∷◌, map, Some, option_map, T, refl, sym, ap, ap₂, subst, ◌∙◌}
use Rattle.std.specs.Ordering.{eq_by_cmp, is_lt}
use Rattle.std.specs.FinMap.{get, keys, entries, entries_sorted, entries-from_sorted, from_sorted, get-entries, find, is_sorted, same_map}
use Rattle.std.specs.FinMap.Entries.{below_all}
use Rattle.lang_tree.specs.Tree.{Kept, Snapshots}
use Rattle.fs_check.specs.Snapshots.{Numbers}
use Rattle.fs_commands.proofs.numbered.Keys.{name_cmp, name_total, name_same}

abbrev pub numbers_of : List (List ℕ × Kept) → List (List ℕ × ℕ)
numbers_of es = map (λ e. (e.0, e.1.number)) es

below_numbers : (k : List ℕ) (es : List (List ℕ × Kept)) → below_all name_cmp k (numbers_of es) ≡ below_all name_cmp k es
below_numbers k [] = refl
below_numbers k (e ∷ es) = ap (λ b. is_lt (name_cmp k e.0) && b) (below_numbers k es)

sorted_numbers : (es : List (List ℕ × Kept)) → is_sorted name_cmp (numbers_of es) ≡ is_sorted name_cmp es
sorted_numbers [] = refl
sorted_numbers (e ∷ es) = ap₂ (λ a b. a && b) (below_numbers e.0 es) (sorted_numbers es)

find_number : (q : List ℕ) (es : List (List ℕ × Kept)) → find name_cmp q (numbers_of es) ≡ option_map (λ (k : Kept). k.number) (find name_cmp q es)
find_number q [] = refl
find_number q (e ∷ es) = by (eq_by_cmp name_cmp q e.0) (find_number q es)
  where
    by : (b : Bool) → find name_cmp q (numbers_of es) ≡ option_map (λ (k : Kept). k.number) (find name_cmp q es)
        → cond b (Some e.1.number) (find name_cmp q (numbers_of es)) ≡ option_map (λ (k : Kept). k.number) (cond b (Some e.1) (find name_cmp q es))
    by true rest = refl
    by false rest = rest

module _ (t : Snapshots) (m : Numbers) (are : (q : List ℕ) → get m q ≡ option_map (λ (k : Kept). k.number) (get t q)) where
  rise : T (is_sorted name_cmp (numbers_of (entries t)))
  rise = subst T (sym (sorted_numbers (entries t))) (entries_sorted t)

  numbered : Numbers
  numbered = from_sorted (numbers_of (entries t))

  entries_numbered : entries numbered ≡ numbers_of (entries t)
  unfolding numbered
  entries_numbered = entries-from_sorted name_cmp (numbers_of (entries t)) rise

  same : m ≡ numbered
  same = same_map name_total name_same _ _ (λ q. are q ∙ ap (option_map (λ (k : Kept). k.number)) (get-entries t q)
      ∙ sym (get-entries numbered q ∙ ap (find name_cmp q) entries_numbered ∙ find_number q (entries t)))

  pub entries_are : entries m ≡ numbers_of (entries t)
  entries_are = ap entries same ∙ entries_numbered

  -- so the names are the same
  pub names_are : keys m ≡ keys t
  names_are = ap (map (λ e. e.0)) entries_are ∙ names (entries t)
    where
      names : (es : List (List ℕ × Kept)) → map (λ (e : List ℕ × ℕ). e.0) (numbers_of es) ≡ map (λ e. e.0) es
      names [] = refl
      names (e ∷ es) = ap (λ xs. e.0 ∷ xs) (names es)
