use Rattle.cmd_mirror.proofs.CopySteps.{copies_none, copies_stretch}
use Rattle.cmd_mirror.proofs.copying.copy_stretch.Goals as goal

pub returns-in-Err : goal.returns-in-Err
returns-in-Err g c =
    copies_none g.D.Disk.tells c.args.first c.args.count c.send_stretch.new.tickets c.in-Err.fault (g.D.Disk.state c.args.original.now) (g.D.Disk.state c.send_stretch.new.original) (g.D.Disk.state c.args.copy.now) (g.D.Disk.state c.send_stretch.new.copy) c.in-Err.ensures

pub returns : goal.returns
returns g c =
    copies_stretch c.calls_in_a_row_spend_together.ensures g.D.Disk.tells c.args.first c.args.count c.send_stretch.new.tickets c.wait_for_stretch.result (g.D.Disk.state c.args.original.now) (g.D.Disk.state c.send_stretch.new.original) (g.D.Disk.state c.args.copy.now) (g.D.Disk.state c.send_stretch.new.copy)
    (g.D.Disk.state c.wait_for_stretch.new.copy) c.in_default.ensures c.wait_for_stretch.ensures
