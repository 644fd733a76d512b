use Rattle.fs_files.proofs.finishing.Frees.{AreFreedUpTo}
use Rattle.fs_files.proofs.finish.free_all.Given as goal

abbrev pub invariant-loop-b : goal.invariant-loop-b
invariant-loop-b g l = AreFreedUpTo g.S.Blocks.tells (g.S.Blocks.state l.fn.blocks) (g.S.Blocks.state l.blocks) l.list l.b-index
