use Rattle.disk_mirror.specs.MirrorOf.{state_of}
use Rattle.cmd_image.specs.Lent.{disk_of}
use Rattle.cmd_mirror.proofs.Begins.{runs_over}
use Rattle.cmd_mirror.proofs.mirrored.run_over.Goals as goal

pub returns-clause-runs : goal.returns-clause-runs
returns-clause-runs g c = λ first second begin.
    runs_over g.B.Bay.tells first second (state_of (λ lent. g.B.D.Disk.state (disk_of lent)) (λ lent. g.B.D.Disk.state (disk_of lent)) c.args.mirror) (state_of (λ lent. g.B.D.Disk.state (disk_of lent)) (λ lent. g.B.D.Disk.state (disk_of lent)) c.run_disk-left.result.disk)
    (g.B.D.Disk.state (disk_of c.part.result.first)) (g.B.D.Disk.state (disk_of c.part.result.second)) c.run_disk-left.result.marks.items c.part.result.first_marks.items c.part.result.second_marks.items c.run_disk-left.result.answer c.part.result.answer
    (record { left = g.S.Source.remaining c.args.input.now; source_faults = g.S.Source.faults c.args.input.now; taken = g.K.Sink.taken c.args.out.now; sink_faults = g.K.Sink.faults c.args.out.now })
    (record { left = g.S.Source.remaining c.run_disk-left.new.input; source_faults = g.S.Source.faults c.run_disk-left.new.input; taken = g.K.Sink.taken c.run_disk-left.new.out; sink_faults = g.K.Sink.faults c.run_disk-left.new.out })
    c.run_disk-left.ensures.comes c.part.ensures.goes begin
