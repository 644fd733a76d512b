use Rattle.std.proofs.Common.{◌+◌, false, length, sym, ap, ◌∙◌, subst}
use Rattle.engine_blocks.specs.State.{Bookkeeping}
use Rattle.crash_stands.specs.Inodes.{inodes_of}
use Rattle.fs_check.specs.Looked.{AreSeen, seen}
use Rattle.fs_check.specs.Slots.{WentBy, WentUpTo}
use Rattle.fs_check.proofs.Going.{went_more}
use Rattle.fs_check.proofs.Looking.{looks_more, read_stays, same_files}
use Rattle.fs_check.proofs.Wholes.{whole_list}
use Rattle.fs_check.proofs.directories.check_directories.Goals as goal

pub check_node-requires-clause-read : goal.check_node-requires-clause-read
check_node-requires-clause-read g c =
    let looks = c.loop-dir.invariant.looks in
    read_stays g.S.Blocks.tells _ _ _ _ looks (c.laws.ensures.stays false c.args.blocks.now c.loop-dir.blocks looks) c.requires.read

pub check_node-requires-clause-seen : goal.check_node-requires-clause-seen
check_node-requires-clause-seen g c = λ tells.
    subst (λ f. AreSeen f c.args.nodes.now) (sym (same_files _ _ (c.laws.ensures.same false c.args.blocks.now c.loop-dir.blocks c.loop-dir.invariant.looks tells))) (c.requires.seen tells)

pub loop-dir-preserved : goal.loop-dir-preserved
loop-dir-preserved g c =
    let s = g.S.Blocks.state c.args.blocks.now in
    let t = g.S.Blocks.state c.loop-dir.blocks in
    let u = g.S.Blocks.state c.check_node.new.blocks in
    let nodes = c.args.nodes.now in
    let dir = c.loop-dir.dir in
    let items = c.loop-dir.named.items in
    let new = c.check_node.new.named in
    let same = c.check_node.auto.named ∙ ap length c.deref_mut.ensures.value in
    let whole = whole_list c.loop-dir.named.len new items c.loop-dir.named.ok.0 (same ∙ sym c.loop-dir.named.ok.0) in
    record {
      looks = looks_more g.S.Blocks.tells false s t u c.loop-dir.invariant.looks c.in_ok-check_node.ensures.looks;
      count = ap length whole ∙ same ∙ c.loop-dir.invariant.count;
      went = λ tells.
          subst (λ xs. WentUpTo nodes (inodes_of s.books.geom.layout (g.N.Nodes.nodes s c.args.files.now).files) (dir + 1) xs) (sym whole)
          (went_more s.books.geom.layout (g.N.Nodes.nodes s c.args.files.now).files nodes dir items new (c.requires.seen tells) c.loop-dir.auto.dir same (c.loop-dir.invariant.went tells)
          (subst (λ f. WentBy nodes (inodes_of s.books.geom.layout f) dir (seen nodes dir) items new) (same_files _ _ (c.laws.ensures.same false c.args.blocks.now c.loop-dir.blocks c.loop-dir.invariant.looks tells))
          (subst (λ (b : Bookkeeping). WentBy nodes (inodes_of b.geom.layout (g.N.Nodes.nodes t c.args.files.now).files) dir (seen nodes dir) items new) c.loop-dir.invariant.looks.books
          (subst (λ xs. WentBy nodes (inodes_of t.books.geom.layout (g.N.Nodes.nodes t c.args.files.now).files) dir (seen nodes dir) xs new) c.deref_mut.ensures.value (c.in_ok-check_node.ensures.went tells)))));
    }
