use Rattle.std.proofs.Common.{refl, get_or}
use Rattle.fs_files.proofs.finishing.Frees.{still_set, one_freed}
use Rattle.fs_files.proofs.finish.free_all.Goals as goal

pub free-requires-clause-marked : goal.free-requires-clause-marked
free-requires-clause-marked g c =
    let i = c.loop-b.b-index in
    λ tells. still_set g.S.Blocks.tells (g.S.Blocks.state c.args.blocks.now) (g.S.Blocks.state c.loop-b.blocks) c.args.list.now i (get_or c.args.list.now i 0) c.loop-b.invariant c.loop-b-test.true refl (c.requires.blocks i 0 c.loop-b-test.true).below (c.requires.once tells) tells (c.requires.marked tells i 0 c.loop-b-test.true)

pub loop-b-preserved : goal.loop-b-preserved
loop-b-preserved g c =
    let i = c.loop-b.b-index in
    one_freed g.S.Blocks.tells (g.S.Blocks.state c.args.blocks.now) (g.S.Blocks.state c.loop-b.blocks) (g.S.Blocks.state c.free.new.self) c.args.list.now i (get_or c.args.list.now i 0) c.loop-b.invariant c.loop-b-test.true refl (c.requires.blocks i 0 c.loop-b-test.true).below c.free.ensures.books c.free.ensures.map c.free.ensures.disk
