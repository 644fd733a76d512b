use Rattle.fs_check.proofs.sound.Bitmap.{ReadsTo}
use Rattle.fs_check.proofs.blocks.read_bitmap.Given as goal

abbrev pub invariant-loop-k : goal.invariant-loop-k
invariant-loop-k g l = ReadsTo g.S.Blocks.tells l.geom (g.S.Blocks.state l.fn.blocks) (g.S.Blocks.state l.blocks) l.into l.k
