-- The entries of a search tree over names make a finite map: look-up and insertion agree. What a finite map has at a key after a change.
use Rattle.std.proofs.Common.{◌≡◌, ℕ, Bool, true, false, cond, if◌then◌else◌, List, [], ◌∷◌, Option, None, Some, IsSome, MutBor, sym, refl, ap, ◌∙◌, ◌⊎◌, inl, inr, ⊎_elim, arith}
use Rattle.std.proofs.lemmas.Bool.{cases_Bool}
use Rattle.std.specs.Option.{option_copied_mut}
use Rattle.std.specs.Ordering.{is_eq, eq_by_cmp, match_ordering}
use Rattle.std.specs.declared.cmp.Ordering.{Ordering}
use Rattle.std.specs.declared.cmp.Ordering.TheVariants.{Equal}
use Rattle.std.specs.Cmp.{IsTotalOrder, nat_cmp_total, eq_by_cmp_equiv, tied_itself}
use Rattle.std.specs.Cmp.Lexicographic.{lists_total}
use Rattle.std.specs.Map.{lookup, IsKeyTest, AreApart, KeepsOthers}
use Rattle.std.specs.BTreeMap.{insert_entry}
use Rattle.std.specs.FinMap.{FinMap, IsAntisymmetric, nat_cmp-IsAntisymmetric, slice_cmp-IsAntisymmetric, get, insert, remove, from_entries, find, put, get-from_entries, get-insert, get-remove, same_map}
use Rattle.std.specs.FinMap.Entries.{find-put, by_order}
use Rattle.std.proofs.lemmas.Bool.Decides.{nat_tests}
use Rattle.fs_memtree.specs.Kept.{DirNames, name_cmp, renumbered}

pub name_total : IsTotalOrder name_cmp
name_total = lists_total nat_cmp_total

pub name_same : IsAntisymmetric name_cmp
name_same = slice_cmp-IsAntisymmetric nat_cmp-IsAntisymmetric

tie : (r : Ordering) → is_eq r ≡ true → r ≡ Equal
tie r e = grind (arith, nat_tests)

-- What a finite map has at a key after a change.
module _ {K : Type 0} {R : K → K → Ordering} (o : IsTotalOrder R) (same : IsAntisymmetric R) where
  -- equal keys tie
  pub tied : (x y : K) → x ≡ y → eq_by_cmp R x y ≡ true
  tied x y e = ap (λ z. eq_by_cmp R z y) e ∙ ap is_eq (tied_itself o y)

  -- keys are equal, or their test fails
  pub which_key : (x y : K) → (x ≡ y) ⊎ (eq_by_cmp R x y ≡ false)
  which_key x y = ⊎_elim (λ e. inl (same x y (tie (R x y) e))) (λ e. inr e) (cases_Bool (eq_by_cmp R x y))

  pub tie_same : (x y : K) → eq_by_cmp R x y ≡ true → x ≡ y
  tie_same x y e = same x y (tie (R x y) e)

  pub apart : (x y : K) → (x ≡ y → ⊥) → eq_by_cmp R x y ≡ false
  apart x y off = ⊎_elim (λ e. absurd (off e)) (λ e. e) (which_key x y)

  module _ {X : Type 0} (m : FinMap R X) (k : K) where
    -- a key that was put in has its value
    pub put_here : (v : X) (q : K) → q ≡ k → get (insert m k v) q ≡ Some v
    put_here v q e = get-insert o m k v q ∙ ap (λ b. cond b (Some v) (get m q)) (tied q k e)

    -- another key has what it had
    pub put_other : (v : X) (q : K) → (q ≡ k → ⊥) → get (insert m k v) q ≡ get m q
    put_other v q off = get-insert o m k v q ∙ ap (λ b. cond b (Some v) (get m q)) (apart q k off)

    -- a key that was taken out has nothing
    pub gone_here : (q : K) → q ≡ k → get (remove m k) q ≡ None
    gone_here q e = get-remove o m k q ∙ ap (λ b. cond b None (get m q)) (tied q k e)

    -- another key has what it had
    pub gone_other : (q : K) → (q ≡ k → ⊥) → get (remove m k) q ≡ get m q
    gone_other q off = get-remove o m k q ∙ ap (λ b. cond b None (get m q)) (apart q k off)

    -- what is put in over a key's own value changes nothing
    pub put_same : (v : X) → get m k ≡ Some v → insert m k v ≡ m
    put_same v is = same_map o same _ _ (λ q. ⊎_elim (λ e. put_here v q e ∙ sym (ap (get m) e ∙ is)) (λ e. get-insert o m k v q ∙ ap (λ b. cond b (Some v) (get m q)) e) (which_key q k))

    -- to take out what isn't there changes nothing
    pub remove_absent : get m k ≡ None → remove m k ≡ m
    remove_absent none = same_map o same _ _ (λ q. ⊎_elim (λ e. gone_here q e ∙ sym (ap (get m) e ∙ none)) (λ e. get-remove o m k q ∙ ap (λ b. cond b None (get m q)) e) (which_key q k))

    -- a key that is put in twice has the second value
    pub put_twice : (v w : X) → insert (insert m k v) k w ≡ insert m k w
    put_twice v w = same_map o same _ _ (λ q. get-insert o (insert m k v) k w q ∙ by q (eq_by_cmp R q k) refl ∙ sym (get-insert o m k w q))
      where
        by : (q : K) (b : Bool) → eq_by_cmp R q k ≡ b → cond b (Some w) (get (insert m k v) q) ≡ cond b (Some w) (get m q)
        by q true e = refl
        by q false e = get-insert o m k v q ∙ ap (λ b. cond b (Some v) (get m q)) e

    -- a key that was put in and is taken out again leaves the map as it was
    pub taken_back : (v : X) → get m k ≡ None → remove (insert m k v) k ≡ m
    taken_back v free = same_map o same _ _ (λ q. get-remove o (insert m k v) k q ∙ by q (which_key q k))
      where
        by : (q : K) → (q ≡ k) ⊎ (eq_by_cmp R q k ≡ false) → cond (eq_by_cmp R q k) None (get (insert m k v) q) ≡ get m q
        by q (inl e) = ap (λ b. cond b None (get (insert m k v) q)) (tied q k e) ∙ sym (ap (get m) e ∙ free)
        by q (inr e) = ap (λ b. cond b None (get (insert m k v) q)) e ∙ get-insert o m k v q ∙ ap (λ b. cond b (Some v) (get m q)) e

-- The entries of a search tree over names.

insert_put : {X : Type 0} (es : List (List ℕ × X)) (k : List ℕ) (v : X) → from_entries {R = name_cmp} (put name_cmp k v es) ≡ insert (from_entries es) k v
insert_put es k v = same_map name_total name_same _ _ (λ q.
    get-from_entries name_total (put name_cmp k v es) q ∙ find-put name_cmp name_total q k v es
    ∙ sym (get-insert name_total (from_entries es) k v q ∙ ap (cond (eq_by_cmp name_cmp q k) _) (get-from_entries name_total es q)))

found_entry : {X : Type 0} (q : List ℕ) (es : List (List ℕ × X)) → lookup (λ k. is_eq (name_cmp q k)) es ≡ find name_cmp q es
found_entry q [] = refl
found_entry q (e ∷ es) = ap (cond (is_eq (name_cmp q e.0)) _) (found_entry q es)

pub found : {X : Type 0} (q : List ℕ) (es : List (List ℕ × X)) → lookup (λ k. is_eq (name_cmp q k)) es ≡ get (from_entries {R = name_cmp} es) q
found q es = found_entry q es ∙ sym (get-from_entries name_total es q)

same_place : {X : Type 0} (o : Ordering) (e : List ℕ × X) (es : List (List ℕ × X)) (k : List ℕ) (v : X) (us ws : List (List ℕ × X)) → us ≡ ws
    → match_ordering o ((k, v) ∷ e ∷ es) ((e.0, v) ∷ es) (e ∷ us) ≡ by_order o ((k, v) ∷ e ∷ es) ((e.0, v) ∷ es) (e ∷ ws)
same_place o e es k v us ws h = grind (arith, nat_tests)

put_entry : {X : Type 0} (es : List (List ℕ × X)) (k : List ℕ) (v : X) → insert_entry name_cmp es k v ≡ put name_cmp k v es
put_entry [] k v = refl
put_entry (e ∷ es) k v = same_place (name_cmp k e.0) e es k v _ _ (put_entry es k v)

pub added : {X : Type 0} (es us : List (List ℕ × X)) (k : List ℕ) (v : X) → us ≡ insert_entry name_cmp es k v → from_entries {R = name_cmp} us ≡ insert (from_entries es) k v
added es us k v is = ap from_entries is ∙ ap from_entries (put_entry es k v) ∙ insert_put es k v

finds_one : (q : List ℕ) → IsKeyTest (eq_by_cmp name_cmp) (λ k. eq_by_cmp name_cmp q k)
finds_one q x y is = (eq_by_cmp_equiv name_total).congr q x y is

tests_apart : (p q : List ℕ) → eq_by_cmp name_cmp q p ≡ false → AreApart (λ k. eq_by_cmp name_cmp p k) (λ k. eq_by_cmp name_cmp q k)
tests_apart p q not k is = ap (eq_by_cmp name_cmp q) (sym (name_same p k (tie _ is))) ∙ not

module _ {X : Type 0} (p : List ℕ) (es us : List (List ℕ × X)) (kept : KeepsOthers (eq_by_cmp name_cmp) (λ k. eq_by_cmp name_cmp p k) es us) where
  others : (q : List ℕ) → eq_by_cmp name_cmp q p ≡ false → lookup (λ k. eq_by_cmp name_cmp q k) us ≡ lookup (λ k. eq_by_cmp name_cmp q k) es
  unfolding KeepsOthers
  others q not = kept (λ k. eq_by_cmp name_cmp q k) (finds_one q) (tests_apart p q not)

  changed_entry : (q : List ℕ) (w : Option X) → lookup (λ k. eq_by_cmp name_cmp p k) us ≡ w → (q ≡ p) ⊎ (eq_by_cmp name_cmp q p ≡ false)
      → get (from_entries {R = name_cmp} us) q ≡ cond (eq_by_cmp name_cmp q p) w (get (from_entries {R = name_cmp} es) q)
  changed_entry q w here (inl e) = ap (get (from_entries {R = name_cmp} us)) e ∙ sym (found p us) ∙ here
      ∙ sym (ap (λ b. cond b w (get (from_entries {R = name_cmp} es) q)) (tied name_total name_same q p e))
  changed_entry q w here (inr e) = sym (found q us) ∙ others q e ∙ found q es ∙ sym (ap (λ b. cond b w (get (from_entries {R = name_cmp} es) q)) e)

  -- an entry taken out of the search tree
  pub removed : lookup (λ k. eq_by_cmp name_cmp p k) us ≡ None → from_entries {R = name_cmp} us ≡ remove (from_entries {R = name_cmp} es) p
  removed here = same_map name_total name_same _ _ (λ q.
      changed_entry q None here (which_key name_total name_same q p) ∙ sym (get-remove name_total (from_entries es) p q))

  -- the value of an entry written over
  pub put_over : (v : X) → lookup (λ k. eq_by_cmp name_cmp p k) us ≡ Some v → from_entries {R = name_cmp} us ≡ insert (from_entries {R = name_cmp} es) p v
  put_over v here = same_map name_total name_same _ _ (λ q.
      changed_entry q (Some v) here (which_key name_total name_same q p) ∙ sym (get-insert name_total (from_entries es) p v q))

pub there_renumbered : (names : DirNames) (name : List ℕ) (n : ℕ) → IsSome (get names name) → renumbered names name n ≡ insert names name n
there_renumbered names name n is = ap (λ b. if b then insert names name n else names) is

pub lent_there : (lent : Option (MutBor ℕ)) {o : Option ℕ} → option_copied_mut lent ≡ o → IsSome o → IsSome lent
lent_there lent e h = grind (arith, nat_tests)
