-- From the root alone all commands are done, and they leave the tree with other numbers.
use Rattle.std.proofs.Common.{◌≡◌, ℕ, ◌≤◌, false, List, [], ◌∷◌, length, map, replicate, Some, option_and_then, option_map, refl, sym, ap, ◌∙◌, ◌⊎◌, inl, inr, arith}
use Rattle.std.proofs.lemmas.Bool.{cases_eq}
use Rattle.std.proofs.lemmas.Option.{none-some}
use Rattle.std.specs.Cmp.{nat_cmp_total}
use Rattle.std.specs.List.{flat_map}
use Rattle.std.specs.Ordering.{nat_cmp}
use Rattle.std.specs.FinMap.{nat_cmp-IsAntisymmetric, get, insert, empty, len, get-empty}
use Rattle.lang_tree.specs.declared.command.Reply.TheVariants.{Ok as Done}
use Rattle.lang_tree.specs.Tree.{Tree, Bounds, Names, Nodes, Thing, Dir, IsSound, HasSmallFiles, path_cmp}
use Rattle.lang_tree.specs.Step.{Session, start}
use Rattle.lang_tree.specs.Run.{Run}
use Rattle.lang_making.specs.Making.{paths_made, path_command, byte_commands, making, HasFewPaths, HasShortNames}
use Rattle.lang_making.specs.Renumbered.{DifferInNumbers}
use Rattle.lang_making.proofs.Lists.{In, Apart}
use Rattle.lang_making.proofs.Maps.{path_total, path_same, put_at, put_or, put_beside}
use Rattle.lang_making.proofs.Order.{in_order}
use Rattle.lang_making.proofs.Numbers.{number_of, met_as, met_here, met_there, few_met}
use Rattle.lang_making.proofs.Steps.{Does, does_join, does_run}
use Rattle.lang_making.proofs.Paths.{Laws, Made, emptied, make_all}
use Rattle.lang_making.proofs.Filling.{begins, all_met, root_filled, fill_all, differ}

-- the root alone is sound
abbrev pub StartIsSound : Type 0
StartIsSound = (limit : Bounds) → 1 ≤ limit.nodes → IsSound limit.nodes (start limit).tree

module _ (laws : Laws) (start_sound : StartIsSound) (limit : Bounds) (most : ℕ) (t : Tree) (ok : IsSound most t) (room : len t.nodes ≤ limit.nodes) where
  abbrev no_names : Names
  no_names = empty

  abbrev no_nodes : Nodes
  no_nodes = empty

  abbrev root : List ℕ
  root = 1 ∷ []

  root_once : Apart root
  root_once = ((λ e. e), tt)

  pub some_number : 1 ≤ limit.nodes
  some_number = let one = few_met root t.nodes root_once has in omega (arith, one, room)
    where
      has : (n : ℕ) → In root n → (x : Thing) × (get t.nodes n ≡ Some x)
      has n (inl e) = (Dir, ap (get t.nodes) e ∙ ok.root_dir)
      has n (inr e) = absurd e

  root_names : (p : List (List ℕ)) → In ([] ∷ []) p → get (insert no_names [] 1) p ≡ option_map (number_of root) (get t.names p)
  root_names p (inl e) = put_at path_total path_same no_names [] 1 p e ∙ sym (ap (option_map (number_of root)) (ap (get t.names) e ∙ ok.root))
  root_names p (inr e) = absurd e

  root_only : (p : List (List ℕ)) (k : ℕ) → get (insert no_names [] 1) p ≡ Some k → In ([] ∷ []) p
  root_only p k at = by (put_or path_total path_same no_names [] 1 p)
    where
      by : (p ≡ []) ⊎ (get (insert no_names [] 1) p ≡ get no_names p) → In ([] ∷ []) p
      by (inl e) = inl e
      by (inr e) = absurd (none-some k (sym (e ∙ get-empty path_cmp p) ∙ at))

  root_nodes : (k : ℕ) → (k ≡ 1) ⊎ (k ≡ 1 → ⊥) → get (insert no_nodes 1 Dir) k ≡ option_and_then (λ n. emptied (get t.nodes n)) (met_as root k)
  root_nodes k (inl e) =
      put_at nat_cmp_total nat_cmp-IsAntisymmetric no_nodes 1 Dir k e
      ∙ sym (ap (option_and_then (λ n. emptied (get t.nodes n))) (met_here 1 k [] e) ∙ ap emptied ok.root_dir)
  root_nodes k (inr apart) =
      put_beside nat_cmp_total nat_cmp-IsAntisymmetric no_nodes 1 Dir k apart ∙ get-empty nat_cmp k
      ∙ sym (ap (option_and_then (λ n. emptied (get t.nodes n))) (met_there 1 k [] apart))

  root_met : (n : ℕ) → In root n → (p : List (List ℕ)) × In ([] ∷ []) p × (get t.names p ≡ Some n)
  root_met n (inl e) = ([], inl refl, ok.root ∙ ap Some (sym e))
  root_met n (inr e) = absurd e

  root_there : (p : List (List ℕ)) (n : ℕ) → In ([] ∷ []) p → get t.names p ≡ Some n → In root n
  root_there p n (inl e) at = inl (same_number n (sym (ap (get t.names) e ∙ ok.root) ∙ at))
    where
      same_number : (n : ℕ) → Some 1 ≡ Some n → n ≡ 1
      same_number n e = cc
  root_there p n (inr e) at = absurd e

  root_made : Made t ([] ∷ []) root (start limit)
  root_made = record {
    sound = start_sound limit some_number;
    bare = refl;
    names = root_names;
    only = root_only;
    nodes = λ k. root_nodes k (cases_eq k 1);
    once = root_once;
    met = root_met;
    there = root_there;
  }

  -- all commands are done
  pub all_done : HasSmallFiles t.nodes → HasFewPaths t.names → HasShortNames limit.layout t.names
      → (end : Session) × Does (start limit) (making t) end × (end.tree.snapshots ≡ empty) × DifferInNumbers t end.tree
  all_done small few short =
      let order = in_order most t ok in
      let a = make_all laws most t ok [] (paths_made t.names) root (start limit) refl root_made order room few short in
      let met = all_met most t ok a.1 a.0 a.3 in
      let b = fill_all most t ok laws.keeps small a.1 met [] (paths_made t.names) (λ n. emptied (get t.nodes n)) a.0 refl order (begins most t ok a.1 a.0 a.3) (root_filled most t ok) in
      let all = does_join (start limit) a.0 b.0 (map (path_command t (paths_made t.names)) (paths_made t.names)) (flat_map (byte_commands t (paths_made t.names)) (paths_made t.names)) a.2 b.2 in
      (b.0, all, b.3.bare, differ most t ok laws.keeps small a.1 met b.1 b.0 b.3 b.4)

  pub tree_made : HasSmallFiles t.nodes → HasFewPaths t.names → HasShortNames limit.layout t.names
      → (end : Session) × Run (λ why. false) (start limit) (making t) (replicate (length (making t)) Done) end × (end.tree.snapshots ≡ empty) × DifferInNumbers t end.tree
  tree_made small few short = let all = all_done small few short in (all.0, does_run (start limit) all.0 (making t) all.1, all.2, all.3)
