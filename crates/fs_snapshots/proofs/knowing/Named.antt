-- The number of a snapshot, by its name, where blocks stand for a tree: it is the one that the tree has.
use Rattle.std.proofs.Common.{⊎_elim, ◌≡◌, ◌≢◌, ◌⊎◌, inl, inr, ℕ, zero, suc, ◌+◌, ◌<◌, ◌≤◌, ◌&&◌, Bool, true, false, cond, find, List, get_or, bytes_eq, Option, Some, None, option_map, refl, sym, ap, ap₂, ◌∙◌, arith}
use Rattle.std.proofs.lemmas.Bool.{and_parts, cases_Bool, true≢false, false≢true}
use Rattle.std.proofs.lemmas.Option.{none-some, same_Some}
use Rattle.std.proofs.lemmas.Slice.Eq.{bytes_eq-Decides}
use Rattle.std.specs.List.{range_with_len}
use Rattle.std.specs.FinMap.{get}
use Rattle.base_types.specs.Seal.{Blocks}
use Rattle.base_types.specs.Runs.{run_places}
use Rattle.layout_geometry.specs.Geometry.{Geometry}
use Rattle.layout_bytes.specs.declared.node.Node.{Node}
use Rattle.layout_bytes.specs.SnapshotName.{name_block}
use Rattle.lang_tree.specs.Tree.{Tree, Kept}
use Rattle.crash_stands.specs.Files.{used_node}
use Rattle.crash_stands.specs.Stands.{IsTreeOf}
use Rattle.crash_snapshots.specs.Kept.{is_snapshot}
use Rattle.fs_snapshots.specs.Known.{has_name, snapshot_number}
use Rattle.fs_snapshots.specs.Among.{used_number}
use Rattle.fs_snapshots.specs.Nodes.{one_name, snapshot_kind}

-- A test that one number of a range passes alone finds it, and one that none passes finds none.

only_at : (test : ℕ → Bool) (a n k : ℕ) → a ≤ k → k < a + n → test k ≡ true → ((l : ℕ) → test l ≡ true → l ≡ k) → find test (range_with_len a n) ≡ Some k
only_at test a zero k from upto is alone = absurd (omega (arith, from, upto))
only_at test a (suc n) k from upto is alone = by (cases_Bool (test a)) (λ other. only_at test (a + 1) n k (omega (arith, from, other)) (omega (arith, upto)) is alone)
  where
    by : (test a ≡ true) ⊎ (test a ≡ false) → (a ≢ k → find test (range_with_len (a + 1) n) ≡ Some k) → cond (test a) (Some a) (find test (range_with_len (a + 1) n)) ≡ Some k
    by (inl passes) rest = ap (λ b. cond b (Some a) (find test (range_with_len (a + 1) n))) passes ∙ ap Some (alone a passes)
    by (inr fails) rest = ap (λ b. cond b (Some a) (find test (range_with_len (a + 1) n))) fails ∙ rest (λ e. true≢false (sym is ∙ ap test (sym e) ∙ fails))

none_at : (test : ℕ → Bool) (a n : ℕ) → ((l : ℕ) → test l ≡ false) → find test (range_with_len a n) ≡ None
none_at test a zero all = refl
none_at test a (suc n) all = ap (λ b. cond b (Some a) (find test (range_with_len (a + 1) n))) (all a) ∙ none_at test (a + 1) n all

module _ (g : Geometry) (m : Blocks) (t : Tree) (stands : IsTreeOf g m t) where
  -- what has the name is the tree's snapshot of this name
  names_one : (name : List ℕ) (k : ℕ) (o : Option Node) → used_node g m k ≡ o → has_name m name o ≡ true → (kept : Kept) × (get t.snapshots name ≡ Some kept) × (kept.number ≡ k)
  names_one name k None used is = absurd (false≢true is)
  names_one name k (Some node) used is =
      let parts = and_parts (is_snapshot node.kind) (bytes_eq (m (get_or (run_places node.runs) 0 0)) (name_block name)) is in
      let its = stands.each k node used (snapshot_kind node.kind parts.0) in
      let held = stands.keeps its.0 its.1 its.2 in
      let node_is : held.node ≡ node = same_Some held.node node (sym held.is_node ∙ ap (used_node g m) its.3 ∙ used) in
      let block : m (get_or (run_places node.runs) 0 0) ≡ name_block name = (bytes_eq-Decides (m (get_or (run_places node.runs) 0 0)) (name_block name)).0 parts.1 in
      let name_is : its.0 ≡ name = one_name its.0 name (sym held.named ∙ ap (λ (n : Node). m (get_or (run_places n.runs) 0 0)) node_is ∙ block) in
      (its.1, ap (get t.snapshots) (sym name_is) ∙ its.2, its.3)

  has_it : (name : List ℕ) (kept : Kept) → get t.snapshots name ≡ Some kept → has_name m name (used_node g m kept.number) ≡ true
  has_it name kept at =
      let held = stands.keeps name kept at in
      ap (has_name m name) held.is_node
      ∙ ap₂ (λ x y. x && y) (ap is_snapshot held.kind) ((bytes_eq-Decides (m (get_or (run_places held.node.runs) 0 0)) (name_block name)).1 held.named)

  by_name : (name : List ℕ) (o : Option Kept) → get t.snapshots name ≡ o → snapshot_number g m name ≡ option_map (λ (k : Kept). k.number) o
  by_name name None at = none_at (λ k. has_name m name (used_node g m k)) 1 g.i (λ l. ⊎_elim
      (λ is. let its = names_one name l (used_node g m l) refl is in absurd (none-some its.0 (sym at ∙ its.1)))
      (λ isnt. isnt) (cases_Bool (has_name m name (used_node g m l))))
  by_name name (Some kept) at =
      let held = stands.keeps name kept at in
      let number = used_number g m kept.number held.node held.is_node in
      only_at (λ k. has_name m name (used_node g m k)) 1 g.i kept.number number.0 (omega (arith, number.1)) (has_it name kept at)
      (λ l is. let its = names_one name l (used_node g m l) refl is in sym its.2 ∙ ap (λ (k : Kept). k.number) (same_Some its.0 kept (sym its.1 ∙ at)))

  pub number_is : (name : List ℕ) → snapshot_number g m name ≡ option_map (λ (k : Kept). k.number) (get t.snapshots name)
  number_is name = by_name name (get t.snapshots name) refl
