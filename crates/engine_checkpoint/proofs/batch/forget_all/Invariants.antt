use Rattle.std.proofs.Common.{take, map}
use Rattle.engine_running.specs.States.{Forgets}
use Rattle.engine_checkpoint.specs.Agree.{home_ticket}
use Rattle.engine_checkpoint.proofs.batch.forget_all.Given as goal

abbrev pub invariant-loop-write : goal.invariant-loop-write
invariant-loop-write l = record { so_far : Forgets (map home_ticket (take l.write-index l.home)) l.fn.notes l.notes }
