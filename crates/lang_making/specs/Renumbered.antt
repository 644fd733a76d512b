-- Two trees that differ in the numbers of their nodes alone. What snapshots keep is no part of it.
use Rattle.std.specs.Prelude.{◌≡◌, ℕ, List, Some, option_map}
use Rattle.std.specs.FinMap.{get}
use Rattle.lang_tree.specs.Tree.{Tree, Thing}

-- The second tree has the paths and the nodes of the first one under other numbers: each node n has number f n there, no two have one, and the root is 1 in both.
pub record IsRenumberedBy (f : ℕ → ℕ) (t u : Tree) : Type 0 where
  pub root : f 1 ≡ 1
  pub one_to_one : (m n : ℕ) (x y : Thing) → get t.nodes m ≡ Some x → get t.nodes n ≡ Some y → f m ≡ f n → m ≡ n
  pub names : (p : List (List ℕ)) → get u.names p ≡ option_map f (get t.names p)
  pub nodes : (n : ℕ) (x : Thing) → get t.nodes n ≡ Some x → get u.nodes (f n) ≡ Some x
  pub all : (k : ℕ) (x : Thing) → get u.nodes k ≡ Some x → (n : ℕ) × (get t.nodes n ≡ Some x) × (f n ≡ k)

-- some other numbers make the one tree of the other
abbrev pub DifferInNumbers : Tree → Tree → Type 0
DifferInNumbers t u = (f : ℕ → ℕ) × IsRenumberedBy f t u
