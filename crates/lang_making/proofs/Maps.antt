-- Keys of finite maps, and what a map has at a key after a change of one entry.
use Rattle.std.proofs.Common.{◌≡◌, ℕ, Bool, true, false, cond, T, ◌&&◌, List, [], ◌∷◌, ◌++◌, map, Some, None, refl, sym, ap, ◌∙◌, ◌⊎◌, inl, inr, arith}
use Rattle.std.proofs.lemmas.Bool.{cases_Bool}
use Rattle.std.proofs.lemmas.Option.{none-some}
use Rattle.std.specs.Ordering.{eq_by_cmp, is_eq, is_lt, nat_cmp, ordering_then}
use Rattle.std.specs.declared.cmp.Ordering.{Ordering}
use Rattle.std.specs.declared.cmp.Ordering.TheVariants.{Less, Equal, Greater}
use Rattle.std.specs.Cmp.{Equal-is, IsTotalOrder, tied_itself, nat_cmp_total}
use Rattle.std.specs.Cmp.Lexicographic.{slice_cmp, lists_total}
use Rattle.std.specs.FinMap.{FinMap, IsAntisymmetric, nat_cmp-IsAntisymmetric, slice_cmp-IsAntisymmetric, get, insert, remove, keys, entries, entries_sorted, find, is_sorted, get-entries, get-insert, get-remove}
use Rattle.std.specs.FinMap.Entries.{below_all}
use Rattle.lang_tree.specs.Tree.{Names, path_cmp}
use Rattle.lang_making.proofs.Lists.{In, Apart}

name_total : IsTotalOrder (slice_cmp nat_cmp)
name_total = lists_total nat_cmp_total

pub path_total : IsTotalOrder path_cmp
path_total = lists_total name_total

pub path_same : IsAntisymmetric path_cmp
path_same = slice_cmp-IsAntisymmetric (slice_cmp-IsAntisymmetric nat_cmp-IsAntisymmetric)

module _ {K : Type 0} {R : K → K → Ordering} (o : IsTotalOrder R) (same : IsAntisymmetric R) where
  pub ties : (x y : K) → x ≡ y → eq_by_cmp R x y ≡ true
  ties x y e = ap (λ z. eq_by_cmp R z y) e ∙ ap is_eq (tied_itself o y)

  pub key_or : (x y : K) → (x ≡ y) ⊎ (eq_by_cmp R x y ≡ false)
  key_or x y = by (cases_Bool (eq_by_cmp R x y))
    where
      by : (eq_by_cmp R x y ≡ true) ⊎ (eq_by_cmp R x y ≡ false) → (x ≡ y) ⊎ (eq_by_cmp R x y ≡ false)
      by (inl e) = inl (same x y ((Equal-is (R x y)).0 e))
      by (inr e) = inr e

  pub differs : (x y : K) → (x ≡ y → ⊥) → eq_by_cmp R x y ≡ false
  differs x y apart = by (key_or x y)
    where
      by : (x ≡ y) ⊎ (eq_by_cmp R x y ≡ false) → eq_by_cmp R x y ≡ false
      by (inl e) = absurd (apart e)
      by (inr e) = e

module _ {K X : Type 0} {R : K → K → Ordering} (o : IsTotalOrder R) (same : IsAntisymmetric R) where
  pub put_at : (m : FinMap R X) (k : K) (v : X) (q : K) → q ≡ k → get (insert m k v) q ≡ Some v
  put_at m k v q e = get-insert o m k v q ∙ ap (λ b. cond b (Some v) (get m q)) (ties o same q k e)

  pub put_or : (m : FinMap R X) (k : K) (v : X) (q : K) → (q ≡ k) ⊎ (get (insert m k v) q ≡ get m q)
  put_or m k v q = by (key_or o same q k)
    where
      by : (q ≡ k) ⊎ (eq_by_cmp R q k ≡ false) → (q ≡ k) ⊎ (get (insert m k v) q ≡ get m q)
      by (inl e) = inl e
      by (inr e) = inr (get-insert o m k v q ∙ ap (λ b. cond b (Some v) (get m q)) e)

  pub put_beside : (m : FinMap R X) (k : K) (v : X) (q : K) → (q ≡ k → ⊥) → get (insert m k v) q ≡ get m q
  put_beside m k v q apart = get-insert o m k v q ∙ ap (λ b. cond b (Some v) (get m q)) (differs o same q k apart)

  pub taken_at : (m : FinMap R X) (k q : K) → q ≡ k → get (remove m k) q ≡ None
  taken_at m k q e = get-remove o m k q ∙ ap (λ b. cond b None (get m q)) (ties o same q k e)

  pub taken_or : (m : FinMap R X) (k q : K) → (q ≡ k) ⊎ (get (remove m k) q ≡ get m q)
  taken_or m k q = by (key_or o same q k)
    where
      by : (q ≡ k) ⊎ (eq_by_cmp R q k ≡ false) → (q ≡ k) ⊎ (get (remove m k) q ≡ get m q)
      by (inl e) = inl e
      by (inr e) = inr (get-remove o m k q ∙ ap (λ b. cond b None (get m q)) e)

-- The paths of a tree as the keys of its map.

key_found : (es : List (List (List ℕ) × ℕ)) (p : List (List ℕ)) (n : ℕ) → find path_cmp p es ≡ Some n → In (map (λ e. e.0) es) p
key_found [] p n is = absurd (none-some n is)
key_found (e ∷ es) p n is = by (key_or path_total path_same p e.0) (key_found es p n)
  where
    by : (p ≡ e.0) ⊎ (eq_by_cmp path_cmp p e.0 ≡ false) → (find path_cmp p es ≡ Some n → In (map (λ e. e.0) es) p) → In (map (λ e. e.0) (e ∷ es)) p
    by (inl same) later = inl same
    by (inr other) later = inr (later (sym (ap (λ b. cond b (Some e.1) (find path_cmp p es)) other) ∙ is))

found_key : (es : List (List (List ℕ) × ℕ)) (p : List (List ℕ)) → In (map (λ e. e.0) es) p → (n : ℕ) × (find path_cmp p es ≡ Some n)
found_key [] p e = absurd e
found_key (e ∷ es) p (inl same) = (e.1, ap (λ b. cond b (Some e.1) (find path_cmp p es)) (ties path_total path_same p e.0 same))
found_key (e ∷ es) p (inr later) = by (eq_by_cmp path_cmp p e.0) (found_key es p later)
  where
    by : (b : Bool) → (n : ℕ) × (find path_cmp p es ≡ Some n) → (n : ℕ) × (cond b (Some e.1) (find path_cmp p es) ≡ Some n)
    by true r = (e.1, refl)
    by false r = r

pub path_in : (names : Names) (p : List (List ℕ)) (n : ℕ) → get names p ≡ Some n → In (keys names) p
path_in names p n at = key_found (entries names) p n (sym (get-entries names p) ∙ at)

pub in_paths : (names : Names) (p : List (List ℕ)) → In (keys names) p → (n : ℕ) × (get names p ≡ Some n)
in_paths names p e = let r = found_key (entries names) p e in (r.0, get-entries names p ∙ r.1)

-- each is before all behind it
abbrev pub Rising : List (List (List ℕ)) → Type 0
Rising [] = Unit {0}
Rising (x ∷ xs) = ((y : List (List ℕ)) → In xs y → path_cmp x y ≡ Less) × Rising xs

both : (a b : Bool) → T (a && b) → (T a) × (T b)
both a b h1 = grind arith

less_is : (o : Ordering) → T (is_lt o) → o ≡ Less
less_is Less h = refl
less_is Equal h = absurd h
less_is Greater h = absurd h

above_all : (x : List (List ℕ)) (es : List (List (List ℕ) × ℕ)) → T (below_all path_cmp x es) → (y : List (List ℕ)) → In (map (λ e. e.0) es) y → path_cmp x y ≡ Less
above_all x [] h y e = absurd e
above_all x (e ∷ es) h y (inl is) = ap (path_cmp x) is ∙ less_is (path_cmp x e.0) (both _ _ h).0
above_all x (e ∷ es) h y (inr later) = above_all x es (both _ _ h).1 y later

sorted_rises : (es : List (List (List ℕ) × ℕ)) → T (is_sorted path_cmp es) → Rising (map (λ e. e.0) es)
sorted_rises [] h = tt
sorted_rises (e ∷ es) h = (above_all e.0 es (both _ _ h).0, sorted_rises es (both _ _ h).1)

pub paths_rise : (names : Names) → Rising (keys names)
paths_rise names = sorted_rises (entries names) (entries_sorted names)

-- a path is before the one with a name more
pub longer_later : (up : List (List ℕ)) (name : List ℕ) → path_cmp up (up ++ name ∷ []) ≡ Less
longer_later [] name = refl
longer_later (x ∷ up) name = ap (λ o. ordering_then o (path_cmp up (up ++ name ∷ []))) (tied_itself name_total x) ∙ longer_later up name

equal_less : (o : Ordering) → o ≡ Equal → o ≡ Less → ⊥
equal_less o a b = cc

pub not_less : (x : List (List ℕ)) → path_cmp x x ≡ Less → ⊥
not_less x e = equal_less (path_cmp x x) (tied_itself path_total x) e

pub not_both : (x y : List (List ℕ)) → path_cmp x y ≡ Less → path_cmp y x ≡ Less → ⊥
not_both x y a b = not_less x (path_total.trans x y x a b)

-- what is less than an element is in front of it
pub in_front : (front back : List (List (List ℕ))) (k x : List (List ℕ)) → Rising (front ++ k ∷ back) → In (front ++ k ∷ back) x → path_cmp x k ≡ Less → In front x
in_front [] back k x up (inl is) less = absurd (not_less k (ap (λ y. path_cmp y k) (sym is) ∙ less))
in_front [] back k x up (inr later) less = absurd (not_both k x (up.0 x later) less)
in_front (y ∷ front) back k x up (inl is) less = inl is
in_front (y ∷ front) back k x up (inr later) less = inr (in_front front back k x up.1 later less)

pub rising_apart : (xs : List (List (List ℕ))) → Rising xs → Apart xs
rising_apart [] up = tt
rising_apart (x ∷ xs) up = ((λ e. not_less x (up.0 x e)), rising_apart xs up.1)
