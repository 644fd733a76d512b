use Rattle.std.proofs.Common.{◌≤◌, length, take, IsTrue}
use Rattle.lang_log.specs.History.{History}
use Rattle.fs_log.specs.Keeping.{Keeps}
use Rattle.fs_log.specs.Open.{state_in}
use Rattle.example_queue.specs.Queue.{with_jobs}
use Rattle.example_queue.proofs.queue.take_batch.Given as goal

-- so many jobs were appended
abbrev pub invariant-loop-place : goal.invariant-loop-place
invariant-loop-place g l = record {
  keeps : IsTrue g.S.Blocks.tells → (h : History) → Keeps h (state_in g.S.Blocks.state l.fn.log) → Keeps (with_jobs (take l.place l.jobs) h) (state_in g.S.Blocks.state l.log);
  upto : l.place ≤ length l.jobs;
}
