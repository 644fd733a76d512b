use Rattle.std.proofs.Common.{◌≡◌, ◌≤◌, map, take}
use Rattle.std.specs.Prelude.{vec_capacity}
use Rattle.disk_memory.specs.Crash.{first_fate}
use Rattle.disk_memory.proofs.crash.fates_at_first.Given as goal

abbrev pub invariant-loop-place : goal.invariant-loop-place
invariant-loop-place l = (l.fates.items ≡ map (λ e. first_fate e l.all) (take l.place l.log.events)) × (l.moment ≤ vec_capacity l.fates)
