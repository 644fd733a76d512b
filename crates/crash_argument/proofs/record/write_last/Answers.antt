use Rattle.crash_argument.proofs.pipe.RecordSteps.{recorded}
use Rattle.crash_argument.proofs.record.write_last.Goals as goal

pub returns-clause-recorded : goal.returns-clause-recorded
returns-clause-recorded g c = λ tells s l p w m t floor tickets new may is bytes safe under.
    recorded c.the_journal_is_lawful.ensures s (g.D.Disk.state c.args.disk.now) (g.D.Disk.state c.write.new.self) l p w m t floor c.write.ensures.spends.same.base new may safe c.args.block c.args.bytes.now tickets c.write.result is bytes (c.write.ensures.log tells) under
