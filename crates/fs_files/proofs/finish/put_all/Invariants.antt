use Rattle.fs_files.proofs.finishing.Puts.{ArePutUpTo}
use Rattle.fs_files.proofs.finish.put_all.Given as goal

abbrev pub invariant-loop : goal.invariant-loop
invariant-loop g l = ArePutUpTo g.S.Blocks.tells l.fn.fresh (g.S.Blocks.state l.fn.blocks) (g.S.Blocks.state l.blocks) l.fn.changes l.changes l.counter
