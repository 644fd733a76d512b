use Rattle.base_types.specs.Seal.{blocks_of}
use Rattle.crash_record.specs.Found.{IsFront}
use Rattle.crash_plain_recovery.proofs.run.recoverable_run.Given as goal

-- so many ring places are left
abbrev pub decreases-loop-run : goal.decreases-loop-run
decreases-loop-run l = l.left

-- the records so far are a front of the run
abbrev pub invariant-loop-run : goal.invariant-loop-run
invariant-loop-run l = IsFront (blocks_of l.image) l.header l.run l.place l.left
