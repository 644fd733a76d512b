-- The sync points of a run by other moments: as many, with the same trees; and where the same moments have come, the same points have begun, and the same ones are promised.
use Rattle.std.proofs.Common.{◌≡◌, ℕ, ◌+◌, ◌≤◌, max, nat_le, Bool, true, false, if◌then◌else◌, ◌&&◌, List, [], ◌∷◌, ◌++◌, map, slice_get, Option, None, Some, refl, sym, ap, ap₂, ◌∙◌, subst}
use Rattle.std.proofs.lemmas.Option.{none-some, same_Some, slice_get-map}
use Rattle.std.specs.Prelude.{option_map}
use Rattle.base_types.specs.Seal.{Blocks}
use Rattle.lang_tree.specs.declared.command.Cmd.{Cmd}
use Rattle.lang_tree.specs.declared.command.Reply.{Reply}
use Rattle.lang_tree.specs.Points.{Point, after_reply, begun_by, floor, is_sync, may_have_written, points_after, points_of, promised_by, top}
use Rattle.lang_tree.specs.Step.{Session}
use Rattle.lang_tree.specs.Tree.{Tree}
use Rattle.crash_stands.specs.Stands.{StandsFor}
use Rattle.cmd_session.specs.Crashes.{StandsForOne}
use Rattle.cmd_mirror.proofs.Moments.{Agree}

pub same_floor : (own : ℕ → ℕ) (k at : ℕ) (replies : List Reply) (moments : List ℕ) → Agree own k at moments → floor k replies (map own moments) ≡ floor at replies moments
same_floor own k at [] moments a = refl
same_floor own k at (reply ∷ replies) [] a = refl
same_floor own k at (reply ∷ replies) (m ∷ ms) a = ap₂ max (ap (λ v. if v then promised_by reply else 0) a.0) (same_floor own k at replies ms a.1)

-- the point that one command makes, before those of later ones
begun_first : (v : Bool) (t : Tree) (k at own_from from : ℕ) (xs ys : List Point) → nat_le own_from k ≡ nat_le from at → begun_by k xs ≡ begun_by at ys
    → begun_by k ((if v then record { tree = t; begun = own_from } ∷ [] else []) ++ xs) ≡ begun_by at ((if v then record { tree = t; begun = from } ∷ [] else []) ++ ys)
begun_first true t k at own_from from xs ys first rest = ap₂ (λ (w : Bool) (n : ℕ). (if w then 1 else 0) + n) first rest
begun_first false t k at own_from from xs ys first rest = rest

pub same_top : (own : ℕ → ℕ) (k at : ℕ) (s : Session) (from : ℕ) (cmds : List Cmd) (replies : List Reply) (moments : List ℕ) → nat_le (own from) k ≡ nat_le from at → Agree own k at moments
    → top k s (own from) cmds replies (map own moments) ≡ top at s from cmds replies moments
same_top own k at s from [] replies moments first a = refl
same_top own k at s from (cmd ∷ cmds) [] moments first a = refl
same_top own k at s from (cmd ∷ cmds) (reply ∷ replies) [] first a = refl
same_top own k at s from (cmd ∷ cmds) (reply ∷ replies) (m ∷ ms) first a =
    begun_first (is_sync cmd && (s.changed && may_have_written reply)) s.tree k at (own from) from
    (points_after (after_reply s cmd reply) (own m) cmds replies (map own ms)) (points_after (after_reply s cmd reply) m cmds replies ms) first
    (same_top own k at (after_reply s cmd reply) m cmds replies ms a.0 a.1)

abbrev tree_of : Point → Tree
tree_of p = p.tree

trees_first : (v : Bool) (t : Tree) (own_from from : ℕ) (xs ys : List Point) → map tree_of xs ≡ map tree_of ys
    → map tree_of ((if v then record { tree = t; begun = own_from } ∷ [] else []) ++ xs) ≡ map tree_of ((if v then record { tree = t; begun = from } ∷ [] else []) ++ ys)
trees_first true t own_from from xs ys rest = ap (λ ts. t ∷ ts) rest
trees_first false t own_from from xs ys rest = rest

same_trees : (own : ℕ → ℕ) (s : Session) (from : ℕ) (cmds : List Cmd) (replies : List Reply) (moments : List ℕ)
    → map tree_of (points_after s (own from) cmds replies (map own moments)) ≡ map tree_of (points_after s from cmds replies moments)
same_trees own s from [] replies moments = refl
same_trees own s from (cmd ∷ cmds) [] moments = refl
same_trees own s from (cmd ∷ cmds) (reply ∷ replies) [] = refl
same_trees own s from (cmd ∷ cmds) (reply ∷ replies) (m ∷ ms) =
    trees_first (is_sync cmd && (s.changed && may_have_written reply)) s.tree (own from) from
    (points_after (after_reply s cmd reply) (own m) cmds replies (map own ms)) (points_after (after_reply s cmd reply) m cmds replies ms)
    (same_trees own (after_reply s cmd reply) m cmds replies ms)

-- a point with this tree
from_map : (o : Option Point) (t : Tree) → option_map tree_of o ≡ Some t → (p : Point) × (o ≡ Some p) × (p.tree ≡ t)
from_map None t e = absurd (none-some t e)
from_map (Some p) t e = (p, refl, same_Some p.tree t e)

-- of lists of points with the same trees
point_of : (xs ys : List Point) (i : ℕ) (p : Point) → map tree_of xs ≡ map tree_of ys → slice_get ys i ≡ Some p → (q : Point) × (slice_get xs i ≡ Some q) × (q.tree ≡ p.tree)
point_of xs ys i p same at = from_map (slice_get xs i) p.tree
    (sym (slice_get-map tree_of xs i) ∙ ap (λ (ts : List Tree). slice_get ts i) same ∙ slice_get-map tree_of ys i ∙ ap (option_map tree_of) at)

-- an image that stands for one of the points stands for the same one by the other moments
pub same_point : (own : ℕ → ℕ) (n : ℕ) (img : Blocks) (s : Session) (from : ℕ) (cmds : List Cmd) (replies : List Reply) (moments : List ℕ) (low high own_low own_high : ℕ) → own_low ≡ low → own_high ≡ high
    → StandsForOne n img (points_of s from cmds replies moments) low high → StandsForOne n img (points_of s (own from) cmds replies (map own moments)) own_low own_high
same_point own n img s from cmds replies moments low high own_low own_high is_low is_high one =
    let at = point_of (points_of s (own from) cmds replies (map own moments)) (points_of s from cmds replies moments) one.number one.point
    (ap (λ ts. s.tree ∷ ts) (same_trees own s from cmds replies moments)) one.is in
    record {
      number = one.number;
      point = at.0;
      from = subst (λ l. l ≤ one.number) (sym is_low) one.from;
      upto = subst (λ h. one.number ≤ h) (sym is_high) one.upto;
      is = at.1;
      stands = subst (λ (t : Tree). StandsFor n img t) (sym at.2) one.stands;
    }
