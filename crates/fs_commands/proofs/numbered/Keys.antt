-- The numbers of snapshots lie in a search tree over their names, whose entries make a finite map: what is there after an insertion and a removal.
use Rattle.std.proofs.Common.{◌≡◌, ℕ, true, false, cond, List, [], ◌∷◌, map, Some, sym, refl, ap, ◌∙◌, ◌⊎◌, inl, inr, ⊎_elim, arith}
use Rattle.std.proofs.lemmas.Bool.{cases_Bool}
use Rattle.std.proofs.lemmas.Bool.Decides.{nat_tests}
use Rattle.std.proofs.lemmas.List.{nil_from_length}
use Rattle.std.specs.Ordering.{is_eq, eq_by_cmp, match_ordering}
use Rattle.std.specs.declared.cmp.Ordering.{Ordering}
use Rattle.std.specs.declared.cmp.Ordering.TheVariants.{Less}
use Rattle.std.specs.Cmp.{IsTotalOrder, nat_cmp_total, eq_by_cmp_equiv, tied_itself, Equal-is}
use Rattle.std.specs.Cmp.Lexicographic.{lists_total, slice_cmp}
use Rattle.std.specs.Ordering.{nat_cmp}
use Rattle.std.specs.List.{AllByRecursion}
use Rattle.std.specs.List.Sorted.{IsStrictlySortedBy}
use Rattle.std.specs.Map.{lookup, KeepsOthers}
use Rattle.std.specs.BTreeMap.{insert_entry}
use Rattle.std.specs.FinMap.{IsAntisymmetric, nat_cmp-IsAntisymmetric, slice_cmp-IsAntisymmetric, get, insert, empty, entries, entries-insert, keys, from_entries, find, put, get-from_entries, get-insert, same_map, len-empty, len-entries}
use Rattle.std.specs.FinMap.Entries.{find-put, by_order}

abbrev pub name_cmp : List ℕ → List ℕ → Ordering
name_cmp = slice_cmp nat_cmp

pub name_total : IsTotalOrder name_cmp
name_total = lists_total nat_cmp_total

pub name_same : IsAntisymmetric name_cmp
name_same = slice_cmp-IsAntisymmetric nat_cmp-IsAntisymmetric

-- equal names tie
pub tied : (x y : List ℕ) → x ≡ y → eq_by_cmp name_cmp x y ≡ true
tied x y e = ap (λ z. eq_by_cmp name_cmp z y) e ∙ ap is_eq (tied_itself name_total y)

-- names are equal, or their test fails
pub which_key : (x y : List ℕ) → (x ≡ y) ⊎ (eq_by_cmp name_cmp x y ≡ false)
which_key x y = ⊎_elim (λ e. inl (name_same x y ((Equal-is (name_cmp x y)).0 e))) (λ e. inr e) (cases_Bool (eq_by_cmp name_cmp x y))

pub apart : (x y : List ℕ) → (x ≡ y → ⊥) → eq_by_cmp name_cmp x y ≡ false
apart x y off = ⊎_elim (λ e. absurd (off e)) (λ e. e) (which_key x y)

module _ {X : Type 0} where
  insert_put : (es : List (List ℕ × X)) (k : List ℕ) (v : X) → from_entries {R = name_cmp} (put name_cmp k v es) ≡ insert (from_entries es) k v
  insert_put es k v = same_map name_total name_same _ _ (λ q.
      get-from_entries name_total (put name_cmp k v es) q ∙ find-put name_cmp name_total q k v es
      ∙ sym (get-insert name_total (from_entries es) k v q ∙ ap (cond (eq_by_cmp name_cmp q k) _) (get-from_entries name_total es q)))

  found_entry : (q : List ℕ) (es : List (List ℕ × X)) → lookup (λ k. is_eq (name_cmp q k)) es ≡ find name_cmp q es
  found_entry q [] = refl
  found_entry q (e ∷ es) = ap (cond (is_eq (name_cmp q e.0)) _) (found_entry q es)

  -- what the search tree finds
  pub found : (q : List ℕ) (es : List (List ℕ × X)) → lookup (λ k. is_eq (name_cmp q k)) es ≡ get (from_entries {R = name_cmp} es) q
  found q es = found_entry q es ∙ sym (get-from_entries name_total es q)

  same_place : (o : Ordering) (e : List ℕ × X) (es : List (List ℕ × X)) (k : List ℕ) (v : X) (us ws : List (List ℕ × X)) → us ≡ ws
      → match_ordering o ((k, v) ∷ e ∷ es) ((e.0, v) ∷ es) (e ∷ us) ≡ by_order o ((k, v) ∷ e ∷ es) ((e.0, v) ∷ es) (e ∷ ws)
  same_place o e es k v us ws h = grind (arith, nat_tests)

  put_entry : (es : List (List ℕ × X)) (k : List ℕ) (v : X) → insert_entry name_cmp es k v ≡ put name_cmp k v es
  put_entry [] k v = refl
  put_entry (e ∷ es) k v = same_place (name_cmp k e.0) e es k v _ _ (put_entry es k v)

  added : (es us : List (List ℕ × X)) (k : List ℕ) (v : X) → us ≡ insert_entry name_cmp es k v → from_entries {R = name_cmp} us ≡ insert (from_entries es) k v
  added es us k v is = ap from_entries is ∙ ap from_entries (put_entry es k v) ∙ insert_put es k v

  -- a name that was put in has its value, and every other one what it had
  pub put_here : (es us : List (List ℕ × X)) (k : List ℕ) (v : X) → us ≡ insert_entry name_cmp es k v → get (from_entries {R = name_cmp} us) k ≡ Some v
  put_here es us k v is = ap (λ m. get m k) (added es us k v is) ∙ get-insert name_total (from_entries es) k v k ∙ ap (λ b. cond b (Some v) (get (from_entries {R = name_cmp} es) k)) (tied k k refl)

  pub put_other : (es us : List (List ℕ × X)) (k : List ℕ) (v : X) → us ≡ insert_entry name_cmp es k v → (q : List ℕ) → (q ≡ k → ⊥) → get (from_entries {R = name_cmp} us) q ≡ get (from_entries {R = name_cmp} es) q
  put_other es us k v is q off = ap (λ m. get m q) (added es us k v is) ∙ get-insert name_total (from_entries es) k v q ∙ ap (λ b. cond b (Some v) (get (from_entries {R = name_cmp} es) q)) (apart q k off)

-- every other name than one that was taken out has what it had
pub gone_other : {X : Type 0} (p : List ℕ) (es us : List (List ℕ × X)) → KeepsOthers (eq_by_cmp name_cmp) (λ k. eq_by_cmp name_cmp p k) es us → (q : List ℕ) → (q ≡ p → ⊥)
    → get (from_entries {R = name_cmp} us) q ≡ get (from_entries {R = name_cmp} es) q
unfolding KeepsOthers
gone_other p es us kept q off = sym (found q us) ∙ kept (λ k. eq_by_cmp name_cmp q k) ((eq_by_cmp_equiv name_total).congr q) (λ k is. ap (eq_by_cmp name_cmp q) (sym (name_same p k ((Equal-is (name_cmp p k)).0 is))) ∙ apart q p off) ∙ found q es

-- The entries of a search tree are those of the finite map, in their order.
module _ {X : Type 0} where
  abbrev pub Rise : List (List ℕ × X) → Type 0
  Rise es = IsStrictlySortedBy name_cmp (map (λ e. e.0) es)

  entries_empty : entries (empty {X = X} {R = name_cmp}) ≡ []
  entries_empty = nil_from_length _ (sym (len-entries _) ∙ len-empty name_cmp X)

  put_first : (e : List ℕ × X) (es : List (List ℕ × X)) → AllByRecursion (λ y. name_cmp e.0 y ≡ Less) (map (λ d. d.0) es) → put name_cmp e.0 e.1 es ≡ e ∷ es
  put_first e [] above = refl
  put_first e (d ∷ es) above = ap (λ o. by_order o (e ∷ d ∷ es) ((d.0, e.1) ∷ es) (d ∷ put name_cmp e.0 e.1 es)) above.0

  pub in_order : (es : List (List ℕ × X)) → Rise es → entries (from_entries {R = name_cmp} es) ≡ es
  unfolding IsStrictlySortedBy
  in_order [] rise = entries_empty
  in_order (e ∷ es) rise = entries-insert name_total (from_entries es) e.0 e.1 ∙ ap (put name_cmp e.0 e.1) (in_order es rise.1) ∙ put_first e es rise.0

  pub keys_in_order : (es : List (List ℕ × X)) → Rise es → map (λ e. e.0) es ≡ keys (from_entries {R = name_cmp} es)
  keys_in_order es rise = ap (map (λ e. e.0)) (sym (in_order es rise))
