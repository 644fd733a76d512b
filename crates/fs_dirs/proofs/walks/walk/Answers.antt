use Rattle.std.proofs.Common.{◌≡◌, IfOk, subst}
use Rattle.lang_tree.specs.Tree.{Tree}
use Rattle.crash_stands.specs.Inodes.{inodes_of}
use Rattle.crash_stands.specs.Maps.{IsMapOf}
use Rattle.fs_inodes.specs.Lookups.{walk_on}
use Rattle.fs_dirs.proofs.walks.walk.Goals as goal

pub returns-clause-end : goal.returns-clause-end
returns-clause-end g c = λ told.
    let s = g.S.Blocks.state c.args.blocks.now in
    let m = inodes_of s.books.geom.layout (g.N.Nodes.nodes s c.args.files.now).files in
    subst (λ p. IfOk c.walk_names.result (λ end. (t : Tree) → IsMapOf s.books.geom.i m t → end ≡ walk_on m 1 p)) c.names.ensures (c.walk_names.ensures.end told)
