-- What a command that moves a path leaves at each path.
use Rattle.std.proofs.Common.{◌≡◌, ℕ, true, false, List, ◌++◌, None, ap, ◌∙◌, arith}
use Rattle.std.specs.FinMap.{get, remove}
use Rattle.lang_tree.specs.declared.command.Cmd.TheVariants.{Rename}
use Rattle.lang_tree.specs.Tree.{Tree, IsSound}
use Rattle.lang_tree.specs.Paths.{is_within}
use Rattle.lang_tree.specs.Names.{renamed}
use Rattle.lang_tree.specs.Walk.{is_same_node}
use Rattle.lang_tree.specs.Conditions.{refusal}
use Rattle.lang_tree.specs.Step.{Session, step, removed}
use Rattle.lang_tree.proofs.basics.Order.{path_total, path_same}
use Rattle.lang_tree.proofs.basics.Strips.{has}
use Rattle.lang_tree.proofs.basics.Finds.{remove_absent}
use Rattle.lang_tree.proofs.walking.Found.{target_apart}
use Rattle.lang_tree.proofs.moves.Renames.{onto_target, onto_source, onto_elsewhere}

pub removed_names : (t : Tree) (path : List (List ℕ)) → (removed t path).names ≡ remove t.names path
removed_names t path = grind (arith, get t.names path, t.names, remove_absent, path_total, path_same)

pub same_node_stays : (s : Session) (from to : List (List ℕ)) → is_same_node s.tree from to ≡ true → (step s (Rename from to)).0 ≡ s
same_node_stays s from to same = grind (arith, refusal s.limit s.tree (Rename from to), s.limit, s.tree)

module _ (s : Session) (from to : List (List ℕ)) (ok : IsSound s.limit.nodes s.tree) (accepted : refusal s.limit s.tree (Rename from to) ≡ None) (other : is_same_node s.tree from to ≡ false) where
  names_after : (step s (Rename from to)).0.tree.names ≡ renamed (remove s.tree.names to) from to
  names_after = grind (arith, s.tree, removed_names)

  at_second : (r : List (List ℕ)) → get (step s (Rename from to)).0.tree.names (to ++ r) ≡ get s.tree.names (from ++ r)
  at_second r = let can = target_apart s.limit.nodes s.tree ok from to s.limit.layout accepted other in ap (λ names. get names (to ++ r)) names_after ∙ onto_target s.tree.names from to can.free can.apart r

  at_first : (r : List (List ℕ)) → get (step s (Rename from to)).0.tree.names (from ++ r) ≡ None
  at_first r =
      let can = target_apart s.limit.nodes s.tree ok from to s.limit.layout accepted other in
      let n = has (get s.tree.names from) can.there in
      ap (λ names. get names (from ++ r)) names_after ∙ onto_source s.tree.names from to can.free can.apart n.0 n.1 r

  at_others : (p : List (List ℕ)) → is_within from p ≡ false → is_within to p ≡ false → get (step s (Rename from to)).0.tree.names p ≡ get s.tree.names p
  at_others p off_from off_to = let can = target_apart s.limit.nodes s.tree ok from to s.limit.layout accepted other in ap (λ names. get names p) names_after ∙ onto_elsewhere s.tree.names from to can.free can.apart p off_from off_to

pub second_is : (s : Session) (from to r : List (List ℕ)) → IsSound s.limit.nodes s.tree → refusal s.limit s.tree (Rename from to) ≡ None → is_same_node s.tree from to ≡ false
    → get (step s (Rename from to)).0.tree.names (to ++ r) ≡ get s.tree.names (from ++ r)
second_is s from to r ok accepted other = at_second s from to ok accepted other r

pub first_gone : (s : Session) (from to r : List (List ℕ)) → IsSound s.limit.nodes s.tree → refusal s.limit s.tree (Rename from to) ≡ None → is_same_node s.tree from to ≡ false
    → get (step s (Rename from to)).0.tree.names (from ++ r) ≡ None
first_gone s from to r ok accepted other = at_first s from to ok accepted other r

pub others_stay : (s : Session) (from to p : List (List ℕ)) → IsSound s.limit.nodes s.tree → refusal s.limit s.tree (Rename from to) ≡ None → is_same_node s.tree from to ≡ false
    → is_within from p ≡ false → is_within to p ≡ false → get (step s (Rename from to)).0.tree.names p ≡ get s.tree.names p
others_stay s from to p ok accepted other off_from off_to = at_others s from to ok accepted other p off_from off_to
