use Rattle.engine_mount.specs.Mount.{settled_on}
use Rattle.engine_mount.proofs.Founds.{idle_gives, refused_says}
use Rattle.engine_mount.proofs.found.run_on.Goals as goal

pub returns-in-Ok-clause-found : goal.returns-in-Ok-clause-found
returns-in-Ok-clause-found g c = λ tells idle. c.in-Ok.ensures.found (settled_on (g.D.Disk.state c.args.disk.now)) (idle_gives c.a_read_gives_what_was_written_last.ensures.idle g.D.Disk.tells (g.D.Disk.state c.args.disk.now) tells idle)

pub returns-in-Err-clause-refused : goal.returns-in-Err-clause-refused
returns-in-Err-clause-refused g c = λ tells idle. refused_says (g.D.Disk.state c.args.disk.now) (g.D.Disk.state c.find_run.new.disk) c.in-Err.why c.refusal_of.result c.refusal_of.ensures (c.find_run.ensures.reads.log tells)
    (c.in-Err.ensures.refused (settled_on (g.D.Disk.state c.args.disk.now)) (idle_gives c.a_read_gives_what_was_written_last.ensures.idle g.D.Disk.tells (g.D.Disk.state c.args.disk.now) tells idle))
