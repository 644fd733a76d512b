-- What the two maps of a tree have at a key after a change of one entry.
use Rattle.std.proofs.Common.{◌≡◌, ℕ, true, false, cond, List, Some, None, refl, ap, ◌∙◌, ◌⊎◌, inl, inr}
use Rattle.std.proofs.lemmas.Bool.{cases_Bool}
use Rattle.std.specs.Ordering.{eq_by_cmp, is_eq}
use Rattle.std.specs.declared.cmp.Ordering.{Ordering}
use Rattle.std.specs.Cmp.{Equal-is, IsTotalOrder, tied_itself, nat_cmp_total}
use Rattle.std.specs.Cmp.Lexicographic.{lists_total}
use Rattle.std.specs.FinMap.{FinMap, IsAntisymmetric, nat_cmp-IsAntisymmetric, slice_cmp-IsAntisymmetric, get, insert, remove, get-insert, get-remove}
use Rattle.lang_tree.specs.Tree.{Names, Nodes, Thing, path_cmp}

path_total : IsTotalOrder path_cmp
path_total = lists_total (lists_total nat_cmp_total)

path_same : IsAntisymmetric path_cmp
path_same = slice_cmp-IsAntisymmetric (slice_cmp-IsAntisymmetric nat_cmp-IsAntisymmetric)

module _ {K : Type 0} {R : K → K → Ordering} (o : IsTotalOrder R) (same : IsAntisymmetric R) where
  tied : (x y : K) → x ≡ y → eq_by_cmp R x y ≡ true
  tied x y e = ap (λ z. eq_by_cmp R z y) e ∙ ap is_eq (tied_itself o y)

  which_key : (x y : K) → (x ≡ y) ⊎ (eq_by_cmp R x y ≡ false)
  which_key x y = by (cases_Bool (eq_by_cmp R x y))
    where
      by : (eq_by_cmp R x y ≡ true) ⊎ (eq_by_cmp R x y ≡ false) → (x ≡ y) ⊎ (eq_by_cmp R x y ≡ false)
      by (inl e) = inl (same x y ((Equal-is (R x y)).0 e))
      by (inr e) = inr e

module _ {K X : Type 0} {R : K → K → Ordering} (o : IsTotalOrder R) (same : IsAntisymmetric R) where
  here : (m : FinMap R X) (k : K) (v : X) → get (insert m k v) k ≡ Some v
  here m k v = get-insert o m k v k ∙ ap (λ b. cond b (Some v) (get m k)) (tied o same k k refl)

  look : (m : FinMap R X) (k : K) (v : X) (q : K) → (q ≡ k) ⊎ (get (insert m k v) q ≡ get m q)
  look m k v q = by (which_key o same q k)
    where
      by : (q ≡ k) ⊎ (eq_by_cmp R q k ≡ false) → (q ≡ k) ⊎ (get (insert m k v) q ≡ get m q)
      by (inl e) = inl e
      by (inr e) = inr (get-insert o m k v q ∙ ap (λ b. cond b (Some v) (get m q)) e)

  gone : (m : FinMap R X) (k : K) → get (remove m k) k ≡ None
  gone m k = get-remove o m k k ∙ ap (λ b. cond b None (get m k)) (tied o same k k refl)

  left : (m : FinMap R X) (k q : K) → (q ≡ k) ⊎ (get (remove m k) q ≡ get m q)
  left m k q = by (which_key o same q k)
    where
      by : (q ≡ k) ⊎ (eq_by_cmp R q k ≡ false) → (q ≡ k) ⊎ (get (remove m k) q ≡ get m q)
      by (inl e) = inl e
      by (inr e) = inr (get-remove o m k q ∙ ap (λ b. cond b None (get m q)) e)

other : {A : Type 0} {P : Type 0} → (P → ⊥) → P ⊎ A → A
other apart (inl p) = absurd (apart p)
other apart (inr a) = a

pub name_here : (names : Names) (p : List (List ℕ)) (n : ℕ) → get (insert names p n) p ≡ Some n
name_here names p n = here path_total path_same names p n

pub name_look : (names : Names) (p : List (List ℕ)) (n : ℕ) (q : List (List ℕ)) → (q ≡ p) ⊎ (get (insert names p n) q ≡ get names q)
name_look names p n q = look path_total path_same names p n q

pub name_gone : (names : Names) (p : List (List ℕ)) → get (remove names p) p ≡ None
name_gone names p = gone path_total path_same names p

pub name_left : (names : Names) (p q : List (List ℕ)) → (q ≡ p) ⊎ (get (remove names p) q ≡ get names q)
name_left names p q = left path_total path_same names p q

pub node_here : (nodes : Nodes) (k : ℕ) (x : Thing) → get (insert nodes k x) k ≡ Some x
node_here nodes k x = here nat_cmp_total nat_cmp-IsAntisymmetric nodes k x

pub node_other : (nodes : Nodes) (k : ℕ) (x : Thing) (n : ℕ) → (n ≡ k → ⊥) → get (insert nodes k x) n ≡ get nodes n
node_other nodes k x n apart = other apart (look nat_cmp_total nat_cmp-IsAntisymmetric nodes k x n)

pub node_stays : (nodes : Nodes) (k n : ℕ) → (n ≡ k → ⊥) → get (remove nodes k) n ≡ get nodes n
node_stays nodes k n apart = other apart (left nat_cmp_total nat_cmp-IsAntisymmetric nodes k n)

pub which_path : (p q : List (List ℕ)) → (p ≡ q) ⊎ (eq_by_cmp path_cmp p q ≡ false)
which_path p q = which_key path_total path_same p q

pub tied_paths : (p q : List (List ℕ)) → p ≡ q → eq_by_cmp path_cmp p q ≡ true
tied_paths p q e = tied path_total path_same p q e
