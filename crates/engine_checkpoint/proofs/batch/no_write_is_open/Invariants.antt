use Rattle.std.proofs.Common.{◌≡◌, drop, map}
use Rattle.engine_notes.specs.Notes.{none_open}
use Rattle.engine_checkpoint.specs.Agree.{home_ticket}
use Rattle.engine_checkpoint.proofs.batch.no_write_is_open.Given as goal

abbrev pub invariant-loop-write : goal.invariant-loop-write
invariant-loop-write l = record { rest : none_open (map home_ticket l.home) l.notes.notes ≡ none_open (map home_ticket (drop l.write-index l.home)) l.notes.notes }
