-- What a finite map has at a key after a change.
use Rattle.std.proofs.Common.{◌≡◌, ℕ, true, false, cond, Some, None, refl, ap, ◌∙◌, ◌⊎◌, inl, inr, arith}
use Rattle.std.proofs.lemmas.Bool.{cases_Bool}
use Rattle.std.specs.Ordering.{eq_by_cmp, is_eq}
use Rattle.std.specs.declared.cmp.Ordering.{Ordering}
use Rattle.std.specs.Cmp.{Equal-is, IsTotalOrder, nat_cmp_total, tied_itself}
use Rattle.std.specs.Cmp.Lexicographic.{lists_total}
use Rattle.std.specs.FinMap.{FinMap, IsAntisymmetric, nat_cmp-IsAntisymmetric, slice_cmp-IsAntisymmetric, get, insert, remove, get-insert, get-remove, same_map}
use Rattle.lang_tree.specs.Tree.{Nodes, Names, Thing, path_cmp}
use Rattle.fs_inodes.proofs.basics.Paths.{Path}

-- any two paths are in order
pub path_total : IsTotalOrder path_cmp
path_total = lists_total (lists_total nat_cmp_total)

-- paths that tie are equal
pub path_same : IsAntisymmetric path_cmp
path_same = slice_cmp-IsAntisymmetric (slice_cmp-IsAntisymmetric nat_cmp-IsAntisymmetric)

module _ {K : Type 0} {R : K → K → Ordering} (o : IsTotalOrder R) (same : IsAntisymmetric R) where
  -- equal keys tie
  pub tied : (x y : K) → x ≡ y → eq_by_cmp R x y ≡ true
  tied x y e = ap (λ z. eq_by_cmp R z y) e ∙ ap is_eq (tied_itself o y)

  -- keys are equal, or their test fails
  pub which_key : (x y : K) → (x ≡ y) ⊎ (eq_by_cmp R x y ≡ false)
  which_key x y = grind (arith, cases_Bool (eq_by_cmp R x y), (Equal-is (R x y)).0)

  module _ {X : Type 0} (m : FinMap R X) (k : K) where
    -- a key that was put in has its value
    pub put_here : (v : X) (q : K) → q ≡ k → get (insert m k v) q ≡ Some v
    put_here v q e = get-insert o m k v q ∙ ap (λ b. cond b (Some v) (get m q)) (tied q k e)

    -- another key has what it had
    pub look : (v : X) (q : K) → (q ≡ k) ⊎ (get (insert m k v) q ≡ get m q)
    look v q = by (which_key q k)
      where
        by : (q ≡ k) ⊎ (eq_by_cmp R q k ≡ false) → (q ≡ k) ⊎ (get (insert m k v) q ≡ get m q)
        by (inl e) = inl e
        by (inr e) = inr (get-insert o m k v q ∙ ap (λ b. cond b (Some v) (get m q)) e)

    -- the same, for a key that is known to be another
    pub put_other : (v : X) (q : K) → (q ≡ k → ⊥) → get (insert m k v) q ≡ get m q
    put_other v q off = grind (arith, look v q, look)

    -- a key that was taken out has nothing
    pub gone_here : (q : K) → q ≡ k → get (remove m k) q ≡ None
    gone_here q e = get-remove o m k q ∙ ap (λ b. cond b None (get m q)) (tied q k e)

    -- another key has what it had
    pub look_left : (q : K) → (q ≡ k) ⊎ (get (remove m k) q ≡ get m q)
    look_left q = by (which_key q k)
      where
        by : (q ≡ k) ⊎ (eq_by_cmp R q k ≡ false) → (q ≡ k) ⊎ (get (remove m k) q ≡ get m q)
        by (inl e) = inl e
        by (inr e) = inr (get-remove o m k q ∙ ap (λ b. cond b None (get m q)) e)

    -- the same, for a key that is known to be another
    pub gone_other : (q : K) → (q ≡ k → ⊥) → get (remove m k) q ≡ get m q
    gone_other q off = grind (arith, look_left q, look_left)

    -- to take out what isn't there changes nothing
    pub remove_absent : get m k ≡ None → remove m k ≡ m
    remove_absent none = same_map o same (remove m k) m (λ q. by q (look_left q))
      where
        by : (q : K) → (q ≡ k) ⊎ (get (remove m k) q ≡ get m q) → get (remove m k) q ≡ get m q
        by q h1 = grind (arith, gone_here)

-- The two maps of a tree.

-- a path that was put in leads to its number
pub name_here : (names : Names) (p : Path) (n : ℕ) → get (insert names p n) p ≡ Some n
name_here names p n = put_here path_total path_same names p n p refl

-- another path leads where it led
pub name_look : (names : Names) (p : Path) (n : ℕ) (q : Path) → (q ≡ p) ⊎ (get (insert names p n) q ≡ get names q)
name_look names p n q = look path_total path_same names p n q

-- a path that was taken out leads nowhere
pub name_gone : (names : Names) (p : Path) → get (remove names p) p ≡ None
name_gone names p = gone_here path_total path_same names p p refl

-- another path leads where it led
pub name_left : (names : Names) (p q : Path) → (q ≡ p) ⊎ (get (remove names p) q ≡ get names q)
name_left names p q = look_left path_total path_same names p q

-- to take out a path that isn't there changes nothing
pub no_name : (names : Names) (p : Path) → get names p ≡ None → remove names p ≡ names
no_name names p none = remove_absent path_total path_same names p none

-- a number that was put in stands for its node
pub node_here : (nodes : Nodes) (k : ℕ) (x : Thing) (n : ℕ) → n ≡ k → get (insert nodes k x) n ≡ Some x
node_here nodes k x n e = put_here nat_cmp_total nat_cmp-IsAntisymmetric nodes k x n e

-- another number stands for what it stood for
pub node_other : (nodes : Nodes) (k : ℕ) (x : Thing) (n : ℕ) → (n ≡ k → ⊥) → get (insert nodes k x) n ≡ get nodes n
node_other nodes k x n off = put_other nat_cmp_total nat_cmp-IsAntisymmetric nodes k x n off

-- a number that was taken out stands for nothing
pub node_gone : (nodes : Nodes) (k n : ℕ) → n ≡ k → get (remove nodes k) n ≡ None
node_gone nodes k n e = gone_here nat_cmp_total nat_cmp-IsAntisymmetric nodes k n e

-- another number stands for what it stood for
pub node_stays : (nodes : Nodes) (k n : ℕ) → (n ≡ k → ⊥) → get (remove nodes k) n ≡ get nodes n
node_stays nodes k n off = gone_other nat_cmp_total nat_cmp-IsAntisymmetric nodes k n off
