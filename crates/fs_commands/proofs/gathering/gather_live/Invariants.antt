use Rattle.std.proofs.Common.{IsTrue}
use Rattle.fs_commands.proofs.gathered.Tables.{GathersTo}
use Rattle.fs_commands.proofs.gathering.gather_live.Given as goal

abbrev pub invariant-loop-slot : goal.invariant-loop-slot
invariant-loop-slot g l = GathersTo (IsTrue g.S.Blocks.tells) g.S.Blocks.tells (g.S.Blocks.state l.fn.blocks) (g.S.Blocks.state l.blocks) (g.S.Blocks.state l.fn.blocks).map l.slot l.found
