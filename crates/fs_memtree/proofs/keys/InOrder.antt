-- Entries whose keys strictly rise are the entries of the finite map that they make.
use Rattle.std.proofs.Common.{◌≡◌, List, [], ◌∷◌, map, length, refl, sym, ap, ◌∙◌, ℕ}
use Rattle.std.specs.declared.cmp.Ordering.{Ordering}
use Rattle.std.specs.declared.cmp.Ordering.TheVariants.{Less}
use Rattle.std.specs.Cmp.{IsTotalOrder}
use Rattle.std.specs.List.{AllByRecursion}
use Rattle.std.specs.List.Sorted.{IsStrictlySortedBy}
use Rattle.std.specs.FinMap.{FinMap, entries, from_entries, empty, put, entries-insert, keys, len, len-empty, len-entries}
use Rattle.std.specs.FinMap.Entries.{by_order}
use Rattle.std.proofs.lemmas.List.{nil_from_length}
use Rattle.fs_memtree.specs.Kept.{name_cmp, names_in, DirNames}
use Rattle.fs_memtree.proofs.keys.Keys.{name_total}

module _ {K X : Type 0} (R : K → K → Ordering) where
  abbrev pub Rise : List (K × X) → Type 0
  Rise es = IsStrictlySortedBy R (map (λ e. e.0) es)

  pub entries_empty : entries (empty {X = X} {R = R}) ≡ []
  entries_empty = nil_from_length _ (sym (len-entries _) ∙ len-empty R X)

  put_first : (e : K × X) (es : List (K × X)) → AllByRecursion (λ y. R e.0 y ≡ Less) (map (λ d. d.0) es) → put R e.0 e.1 es ≡ e ∷ es
  put_first e [] above = refl
  put_first e (d ∷ es) above = ap (λ o. by_order o (e ∷ d ∷ es) ((d.0, e.1) ∷ es) (d ∷ put R e.0 e.1 es)) above.0

  pub in_order : IsTotalOrder R → (es : List (K × X)) → Rise es → entries (from_entries {R = R} es) ≡ es
  unfolding IsStrictlySortedBy
  in_order o [] rise = entries_empty
  in_order o (e ∷ es) rise = entries-insert o (from_entries es) e.0 e.1 ∙ ap (put R e.0 e.1) (in_order o es rise.1) ∙ put_first e es rise.0

-- the finite map of a search tree has the entries of the tree in their order
pub tree_in_order : {X : Type 0} (es : List (List ℕ × X)) → Rise name_cmp es → entries (from_entries {R = name_cmp} es) ≡ es
tree_in_order es rise = in_order name_cmp name_total es rise

-- and as many
pub tree_length : (es : List (List ℕ × ℕ)) (names : DirNames) → Rise name_cmp es → names_in es ≡ names → len names ≡ length es
tree_length es names rise is = sym (ap len is) ∙ len-entries (names_in es) ∙ ap length (tree_in_order es rise)

-- and their keys
pub keys_in_order : {X : Type 0} (es : List (List ℕ × X)) (names : FinMap name_cmp X) → Rise name_cmp es → from_entries {R = name_cmp} es ≡ names → map (λ e. e.0) es ≡ keys names
keys_in_order es names rise is = ap (map (λ e. e.0)) (sym (tree_in_order es rise)) ∙ ap keys is
