use Rattle.crash_argument.proofs.pipe.RecordSteps.{progress_ring}
use Rattle.crash_argument.proofs.record.write_part.Goals as goal

pub returns-clause-under_way : goal.returns-clause-under_way
returns-clause-under_way g c = λ tells s l p w m t floor i laid tickets new may some lt is bytes safe under.
    progress_ring c.the_journal_is_lawful.ensures s (g.D.Disk.state c.args.disk.now) (g.D.Disk.state c.write.new.self) l p w m t floor c.write.ensures.spends.same.base new may safe c.args.block i laid c.args.bytes.now tickets c.write.result some lt is bytes (c.write.ensures.log tells) under
