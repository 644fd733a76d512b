use Rattle.std.proofs.Common.{◌≡◌, ℕ, IsTrue, drop, length}
use Rattle.engine_blocks.specs.Crashes.{Advances}
use Rattle.fs_commands.specs.Opened.{blocks_in}
use Rattle.fs_log.specs.Causes.{AsksToTrim}
use Rattle.fs_log.specs.Open.{state_in}
use Rattle.fs_log.specs.Trimming.{TrimsTo}
use Rattle.fs_log.specs.Ways.{Way}
use Rattle.fs_log.proofs.log.AppLog.trim.Given as goal

abbrev pub invariant-loop-alloc : goal.invariant-loop-alloc
invariant-loop-alloc g l =
    (IsTrue g.S.Blocks.tells → TrimsTo g.S.Blocks.state l.number l.fn.self l.self) × (l.self.next ≡ l.fn.self.next) × (l.self.kept ≡ l.fn.self.kept)
    × (IsTrue g.S.Blocks.tells → Advances (state_in g.S.Blocks.state l.fn.self) (state_in g.S.Blocks.state l.self))
    × ((at : ℕ) × (l.self.firsts ≡ drop at l.fn.self.firsts))
    × (IsTrue g.S.Blocks.tells → Way g.S.Blocks.tells g.S.Blocks.state (AsksToTrim l.fn.self l.number) (blocks_in l.fn.self.fs) (blocks_in l.self.fs))
    × (l.self.most ≡ l.fn.self.most)

abbrev pub decreases-loop-alloc : goal.decreases-loop-alloc
decreases-loop-alloc g l = length l.self.firsts
