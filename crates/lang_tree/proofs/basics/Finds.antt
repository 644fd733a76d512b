-- What a finite map has at a key after a change, and which of its entries there are.
use Rattle.std.proofs.Common.{◌≡◌, Bool, true, false, cond, ◌||◌, List, [], ◌∷◌, map, Some, None, refl, sym, ap, ◌∙◌, ◌⊎◌, inl, inr, arith}
use Rattle.std.proofs.lemmas.Bool.{cases_Bool, or_right}
use Rattle.std.specs.List.{list_any}
use Rattle.std.specs.Ordering.{eq_by_cmp, is_eq}
use Rattle.std.specs.declared.cmp.Ordering.{Ordering}
use Rattle.std.specs.declared.cmp.Ordering.TheVariants.{Equal}
use Rattle.std.specs.Cmp.{IsTotalOrder, tied_itself}
use Rattle.std.specs.FinMap.{FinMap, IsAntisymmetric, get, insert, remove, find, get-insert, get-remove, same_map}
use Rattle.std.proofs.lemmas.Option.{none-some}

equal_of : (o : Ordering) → is_eq o ≡ true → o ≡ Equal
equal_of o h1 = grind arith

module _ {K : Type 0} {R : K → K → Ordering} where
  pub tied : IsTotalOrder R → (x y : K) → x ≡ y → eq_by_cmp R x y ≡ true
  tied o x y e = ap (λ z. eq_by_cmp R z y) e ∙ ap is_eq (tied_itself o y)

  pub same_key : IsAntisymmetric R → (x y : K) → eq_by_cmp R x y ≡ true → x ≡ y
  same_key same x y e = same x y (equal_of (R x y) e)

  pub which_key : IsAntisymmetric R → (x y : K) → (x ≡ y) ⊎ (eq_by_cmp R x y ≡ false)
  which_key same x y = grind (arith, cases_Bool (eq_by_cmp R x y), same_key)

  pub apart : IsAntisymmetric R → (x y : K) → (x ≡ y → ⊥) → eq_by_cmp R x y ≡ false
  apart same x y n = grind (arith, which_key same x y, which_key)

module _ {K X : Type 0} {R : K → K → Ordering} (o : IsTotalOrder R) where
  pub put_here : (m : FinMap R X) (k : K) (v : X) (q : K) → q ≡ k → get (insert m k v) q ≡ Some v
  put_here m k v q e = get-insert o m k v q ∙ ap (λ b. cond b (Some v) (get m q)) (tied o q k e)

  pub gone_here : (m : FinMap R X) (k q : K) → q ≡ k → get (remove m k) q ≡ None
  gone_here m k q e = get-remove o m k q ∙ ap (λ b. cond b None (get m q)) (tied o q k e)

  -- what has a value after a removal had it before
  pub was : (m : FinMap R X) (k q : K) (v : X) → get (remove m k) q ≡ Some v → get m q ≡ Some v
  was m k q v e = by (eq_by_cmp R q k) (sym (get-remove o m k q) ∙ e)
    where
      by : (b : Bool) → cond b None (get m q) ≡ Some v → get m q ≡ Some v
      by b h1 = grind (arith, none-some)

module _ {K X : Type 0} {R : K → K → Ordering} (o : IsTotalOrder R) (same : IsAntisymmetric R) where
  pub look : (m : FinMap R X) (k : K) (v : X) (q : K) → (q ≡ k) ⊎ (get (insert m k v) q ≡ get m q)
  look m k v q = by (which_key same q k)
    where
      by : (q ≡ k) ⊎ (eq_by_cmp R q k ≡ false) → (q ≡ k) ⊎ (get (insert m k v) q ≡ get m q)
      by (inl e) = inl e
      by (inr e) = inr (get-insert o m k v q ∙ ap (λ b. cond b (Some v) (get m q)) e)

  pub keeps : (m : FinMap R X) (k : K) (v : X) (q : K) (x : X) → get m k ≡ None → get m q ≡ Some x → get (insert m k v) q ≡ Some x
  keeps m k v q x free there = grind (arith, look m k v q, look, none-some)

  -- what a removal leaves at another key
  pub stays : (m : FinMap R X) (k q : K) → (q ≡ k → ⊥) → get (remove m k) q ≡ get m q
  stays m k q apart = by (which_key same q k)
    where
      by : (q ≡ k) ⊎ (eq_by_cmp R q k ≡ false) → get (remove m k) q ≡ get m q
      by (inl e) = absurd (apart e)
      by (inr e) = get-remove o m k q ∙ ap (λ b. cond b None (get m q)) e

  -- to take out what isn't there changes nothing
  pub remove_absent : (m : FinMap R X) (k : K) → get m k ≡ None → remove m k ≡ m
  remove_absent m k none = same_map o same (remove m k) m (λ q. by q (which_key same q k))
    where
      by : (q : K) → (q ≡ k) ⊎ (eq_by_cmp R q k ≡ false) → get (remove m k) q ≡ get m q
      by q (inl e) = gone_here o m k q e ∙ sym (ap (get m) e ∙ none)
      by q (inr e) = get-remove o m k q ∙ ap (λ b. cond b None (get m q)) e

  -- what is taken out and put in again is there as it was
  pub put_back : (m : FinMap R X) (k : K) (v : X) → get m k ≡ Some v → insert (remove m k) k v ≡ m
  put_back m k v there = same_map o same (insert (remove m k) k v) m (λ q. by q (which_key same q k))
    where
      by : (q : K) → (q ≡ k) ⊎ (eq_by_cmp R q k ≡ false) → get (insert (remove m k) k v) q ≡ get m q
      by q (inl e) = put_here o (remove m k) k v q e ∙ sym (ap (get m) e ∙ there)
      by q (inr e) = get-insert o (remove m k) k v q ∙ ap (λ b. cond b (Some v) (get (remove m k) q)) e ∙ get-remove o m k q ∙ ap (λ b. cond b None (get m q)) e

  -- and what is put in where nothing was and taken out again leaves no trace
  pub put_out : (m : FinMap R X) (k : K) (v : X) → get m k ≡ None → remove (insert m k v) k ≡ m
  put_out m k v none = same_map o same (remove (insert m k v) k) m (λ q. by q (which_key same q k))
    where
      by : (q : K) → (q ≡ k) ⊎ (eq_by_cmp R q k ≡ false) → get (remove (insert m k v) k) q ≡ get m q
      by q (inl e) = gone_here o (insert m k v) k q e ∙ sym (ap (get m) e ∙ none)
      by q (inr e) = get-remove o (insert m k v) k q ∙ ap (λ b. cond b None (get (insert m k v) q)) e ∙ get-insert o m k v q ∙ ap (λ b. cond b (Some v) (get m q)) e

  -- one entry of a list passes the test
  pub found_any : (test : K → Bool) (es : List (K × X)) (q : K) (v : X) → find R q es ≡ Some v → test q ≡ true → list_any (λ e. test e.0) es ≡ true
  found_any test [] q v e t = absurd (none-some v e)
  found_any test (e ∷ es) q v is t = grind (arith, found_any test es q v, which_key same q e.0, test e.0, which_key, or_right)

  pub any_found : (test : K → Bool) (es : List (K × X)) → list_any (λ e. test e.0) es ≡ true → (q : K) × (v : X) × (find R q es ≡ Some v) × (test q ≡ true)
  any_found test [] t = absurd cc
  any_found test (e ∷ es) t = by (test e.0) refl (any_found test es) t
    where
      later : (b : Bool) (q : K) (v : X) → find R q es ≡ Some v → (w : X) × (cond b (Some e.1) (find R q es) ≡ Some w)
      later true q v is = (e.1, refl)
      later false q v is = (v, is)

      by : (b : Bool) → test e.0 ≡ b → (list_any (λ e. test e.0) es ≡ true → (q : K) × (v : X) × (find R q es ≡ Some v) × (test q ≡ true))
          → (b || list_any (λ e. test e.0) es) ≡ true → (q : K) × (v : X) × (find R q (e ∷ es) ≡ Some v) × (test q ≡ true)
      by true is go t = (e.0, e.1, ap (λ b. cond b (Some e.1) (find R e.0 es)) (tied o e.0 e.0 refl), is)
      by false is go t = let r = go t in let w = later (eq_by_cmp R r.0 e.0) r.0 r.1 r.2 in (r.0, w.0, w.1, r.3)

module _ {K X : Type 0} {R : K → K → Ordering} (o : IsTotalOrder R) where
  -- what is found behind an entry is found with it too
  pub later : (e : K × X) (es : List (K × X)) (k : K) (v : X) → find R k es ≡ Some v → (w : X) × (find R k (e ∷ es) ≡ Some w)
  later e es k v is = by (eq_by_cmp R k e.0)
    where
      by : (b : Bool) → (w : X) × (cond b (Some e.1) (find R k es) ≡ Some w)
      by true = (e.1, refl)
      by false = (v, is)

  pub first_is : (e : K × X) (es : List (K × X)) → find R e.0 (e ∷ es) ≡ Some e.1
  first_is e es = ap (λ b. cond b (Some e.1) (find R e.0 es)) (tied o e.0 e.0 refl)

-- what a list of entries has at a key after each key k became f k
module _ {K X : Type 0} {R : K → K → Ordering} (o : IsTotalOrder R) (f : K → K) where
  -- the one key that comes to y is x
  pub find_moved : (y x : K) (es : List (K × X)) → ((k : K) (v : X) → find R k es ≡ Some v → eq_by_cmp R y (f k) ≡ eq_by_cmp R x k)
      → find R y (map (λ e. (f e.0, e.1)) es) ≡ find R x es
  find_moved y x [] h = refl
  find_moved y x (e ∷ es) h = ap (λ b. cond b (Some e.1) (find R y (map (λ e. (f e.0, e.1)) es))) (h e.0 e.1 (first_is o e es))
      ∙ ap (cond (eq_by_cmp R x e.0) (Some e.1)) (find_moved y x es (λ k v is. let w = later o e es k v is in h k w.0 w.1))

  -- no key comes to y
  pub find_left : (y : K) (es : List (K × X)) → ((k : K) (v : X) → find R k es ≡ Some v → eq_by_cmp R y (f k) ≡ false)
      → find R y (map (λ e. (f e.0, e.1)) es) ≡ None
  find_left y [] h = refl
  find_left y (e ∷ es) h = ap (λ b. cond b (Some e.1) (find R y (map (λ e. (f e.0, e.1)) es))) (h e.0 e.1 (first_is o e es))
      ∙ find_left y es (λ k v is. let w = later o e es k v is in h k w.0 w.1)
