use Rattle.std.proofs.Common.{◌≡◌, ◌≤◌, length, drop, Some}
use Rattle.base_types.specs.Seal.{blocks_of}
use Rattle.layout_journal.specs.Run.{otherwise, covered_by, replayed}
use Rattle.crash_plain_recovery.proofs.replay.replay_block.Given as goal

-- what the records from here on leave on top of the block is what all of them leave
abbrev pub invariant-loop-each : goal.invariant-loop-each
invariant-loop-each l = (l.each-index ≤ length l.run)
    × (otherwise (covered_by l.geom (blocks_of l.image) (Some l.block) (drop l.each-index l.run) l.number) (blocks_of l.image l.number) ≡ replayed l.geom (blocks_of l.image) l.run l.number)
