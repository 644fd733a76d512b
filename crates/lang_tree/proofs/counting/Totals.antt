-- Sums over the entries of a finite map: with an entry more or less, with another summand at one key, and with other keys.
use Rattle.std.proofs.Common.{◌≡◌, ℕ, ◌+◌, Bool, cond, T, List, [], ◌∷◌, map, Option, Some, None, refl, sym, ap, ap₂, ◌∙◌, arith}
use Rattle.std.specs.Ordering.{eq_by_cmp}
use Rattle.std.specs.declared.cmp.Ordering.{Ordering}
use Rattle.std.specs.Cmp.{IsTotalOrder}
use Rattle.std.specs.FinMap.{FinMap, IsAntisymmetric, get, insert, remove, entries, find, put, from_entries, is_sorted, entries-insert, get-entries, get-insert, get-remove, same_map}
use Rattle.std.proofs.lemmas.Option.{none-some}
use Rattle.lang_tree.specs.Tree.{path_cmp}
use Rattle.lang_tree.proofs.basics.Order.{path_total}
use Rattle.lang_tree.proofs.basics.Finds.{gone_here, was, put_back, later, first_is}
use Rattle.lang_tree.proofs.counting.PathCounts.{none_in, KeepApart, first_free, behind_first}

-- the sum of f over a list
abbrev pub total : {A : Type 0} → (A → ℕ) → List A → ℕ
total f [] = 0
total f (x ∷ xs) = f x + total f xs

pub total_none : {A : Type 0} (xs : List A) → total (λ x. 0) xs ≡ 0
total_none [] = refl
total_none (x ∷ xs) = let h = total_none xs in omega arith

module _ {K X : Type 0} (R : K → K → Ordering) where
  total_put : (f : K × X → ℕ) (es : List (K × X)) (k : K) (v : X) → find R k es ≡ None → total f (put R k v es) ≡ f (k, v) + total f es
  total_put f [] k v none = refl
  total_put f (e ∷ es) k v none = grind (arith, total_put f es k v)

module _ {K X : Type 0} {R : K → K → Ordering} (o : IsTotalOrder R) where
  pub total_inserted : (f : K × X → ℕ) (m : FinMap R X) (k : K) (v : X) → get m k ≡ None → total f (entries (insert m k v)) ≡ f (k, v) + total f (entries m)
  total_inserted f m k v none = ap (total f) (entries-insert o m k v) ∙ total_put R f (entries m) k v (sym (get-entries m k) ∙ none)

  total_alike : (f g : K → ℕ) (es : List (K × X)) → ((k : K) (v : X) → find R k es ≡ Some v → f k ≡ g k) → total (λ e. f e.0) es ≡ total (λ e. g e.0) es
  total_alike f g [] same = refl
  total_alike f g (e ∷ es) same = ap₂ (λ a b. a + b) (same e.0 e.1 (first_is o e es)) (total_alike f g es (λ k v is. let w = later o e es k v is in same k w.0 w.1))

  pub total_same : (f g : K → ℕ) (m : FinMap R X) → ((k : K) (v : X) → get m k ≡ Some v → f k ≡ g k) → total (λ e. f e.0) (entries m) ≡ total (λ e. g e.0) (entries m)
  total_same f g m same = total_alike f g (entries m) (λ k v is. same k v (get-entries m k ∙ is))

module _ {K X : Type 0} {R : K → K → Ordering} (o : IsTotalOrder R) (same : IsAntisymmetric R) where
  pub total_removed : (f : K × X → ℕ) (m : FinMap R X) (k : K) (v : X) → get m k ≡ Some v → total f (entries m) ≡ f (k, v) + total f (entries (remove m k))
  total_removed f m k v at = ap (λ m. total f (entries m)) (sym (put_back o same m k v at)) ∙ total_inserted o f (remove m k) k v (gone_here o m k k refl)

  -- with another value at a key that has one
  pub total_replaced : (f : K × X → ℕ) (m : FinMap R X) (k : K) (w v : X) → get m k ≡ Some w → total f (entries (insert m k v)) + f (k, w) ≡ total f (entries m) + f (k, v)
  total_replaced f m k w v at =
      let over : insert m k v ≡ insert (remove m k) k v = same_map o same (insert m k v) (insert (remove m k) k v) (λ q.
      get-insert o m k v q ∙ hidden (eq_by_cmp R q k) (get m q) ∙ ap (cond (eq_by_cmp R q k) (Some v)) (sym (get-remove o m k q)) ∙ sym (get-insert o (remove m k) k v q)) in
      let new = ap (λ m. total f (entries m)) over ∙ total_inserted o f (remove m k) k v (gone_here o m k k refl) in
      let old = total_removed f m k w at in
      omega (arith, new, old)
    where
      hidden : (b : Bool) (u : Option X) → cond b (Some v) u ≡ cond b (Some v) (cond b None u)
      hidden b u = grind arith

  -- two sums that differ at one key
  pub total_changed : (f g : K → ℕ) (m : FinMap R X) (u : K) (v : X) → get m u ≡ Some v → ((k : K) (w : X) → get m k ≡ Some w → (k ≡ u → ⊥) → f k ≡ g k)
      → total (λ e. f e.0) (entries m) + g u ≡ total (λ e. g e.0) (entries m) + f u
  total_changed f g m u v at alike = grind (arith, total_removed, total_same, was, none-some, gone_here)

-- Other keys for all entries, where no two come to one.
pub total_moved : (f : List (List ℕ) → ℕ) (move : List (List ℕ) → List (List ℕ)) (es : List (List (List ℕ) × ℕ)) → T (is_sorted path_cmp es) → KeepApart move es
    → total (λ e. f e.0) (entries (from_entries {R = path_cmp} (map (λ e. (move e.0, e.1)) es))) ≡ total (λ e. f (move e.0)) es
total_moved f move [] h apart = ap (total (λ e. f e.0)) none_in
total_moved f move (e ∷ es) h apart =
    let b = behind_first move e es h apart in
    total_inserted path_total (λ e. f e.0) (from_entries (map (λ e. (move e.0, e.1)) es)) (move e.0) e.1 (first_free move e es h apart)
    ∙ ap (λ k. f (move e.0) + k) (total_moved f move es b.0 b.1)
