use Rattle.std.proofs.Common.{◌≡◌, ◌∙◌, ap, sym, subst, rules}
use Rattle.fs_memtree.specs.Kept.{map_of, tree_of}
use Rattle.fs_memtree.specs.Snapshots.{snapshots_of}
use Rattle.fs_memtree.specs.Serving.{IsSoundState, first_state, session_of, whole_tree}
use Rattle.fs_memtree.proofs.maps.TreeOf.{aside}
use Rattle.fs_memtree.proofs.serving.Kept.{first_sound, first_session}
use Rattle.fs_memtree.proofs.serving.Served.{small_tree}
use Rattle.fs_memtree.proofs.plain.PlainTree.new.Goals as goal

pub invariant_of-result : goal.invariant_of-result
invariant_of-result c =
    let is : c.in_ok-state.state ≡ first_state c.args.nodes c.args.layout = search rules in
    subst IsSoundState (sym is) (first_sound c.the_maps_are_lawful.ensures c.args.nodes c.args.layout c.requires)

pub returns-clause-start : goal.returns-clause-start
returns-clause-start c =
    let is : c.in_ok-state.state ≡ first_state c.args.nodes c.args.layout = search rules in
    ap session_of is ∙ first_session c.the_maps_are_lawful.ensures c.args.nodes c.args.layout c.requires

pub returns-clause-sound : goal.returns-clause-sound
returns-clause-sound c =
    let k = (invariant_of-result c).kept in
    let s = c.in_ok-state.state in
    c.the_maps_are_lawful.ensures.sound s.limit (map_of s.nodes) (whole_tree s) (aside s.limit (map_of s.nodes) (tree_of s.nodes) (snapshots_of s.kept) k.map)

pub returns-clause-snapshots : goal.returns-clause-snapshots
returns-clause-snapshots c = (invariant_of-result c).snapshots

pub returns-clause-small : goal.returns-clause-small
returns-clause-small c =
    let k = (invariant_of-result c).kept in
    let s = c.in_ok-state.state in
    small_tree s.limit (map_of s.nodes) (whole_tree s) (aside s.limit (map_of s.nodes) (tree_of s.nodes) (snapshots_of s.kept) k.map) k.small
