use Rattle.crash_plain_recovery.proofs.Replays.{AreReplayed}
use Rattle.crash_plain_recovery.proofs.replay.replayed.Given as goal

-- the blocks before this one are replayed
abbrev pub invariant-loop-number : goal.invariant-loop-number
invariant-loop-number l = AreReplayed l.geom l.image l.run l.number l.blocks.items
