use Rattle.std.proofs.Common.{◌+◌, arith, rules}
use Rattle.std.proofs.lemmas.List.{length-set}
use Rattle.cmd_mirror.proofs.CopySteps.{bytes_read, sends_none, sends_one, sends_unread, sends_unwritten}
use Rattle.cmd_mirror.proofs.copying.send_stretch.Goals as goal

pub loop-i-init : goal.loop-i-init
loop-i-init g c = record { upto = omega arith; room = search rules; sends = sends_none g.D.Disk.tells c.args.first c.args.tickets.now (g.D.Disk.state c.args.original.now) (g.D.Disk.state c.args.copy.now) }

pub returns-in_default : goal.returns-in_default
returns-in_default g c =
    sends_unread c.calls_in_a_row_spend_together.ensures g.D.Disk.tells c.args.first c.loop-i.i c.loop-i.tickets (g.D.Disk.state c.args.original.now) (g.D.Disk.state c.loop-i.original) (g.D.Disk.state c.args.copy.now) (g.D.Disk.state c.loop-i.copy) c.loop-i.invariant.sends
    c.args.count (omega (arith, c.loop-i-test.true)) (g.D.Disk.state c.read.new.self) c.in_default.ensures.spends c.in_default.ensures.log

pub returns-in_default-write : goal.returns-in_default-write
returns-in_default-write g c =
    sends_unwritten c.calls_in_a_row_spend_together.ensures g.D.Disk.tells c.args.first c.loop-i.i c.loop-i.tickets (g.D.Disk.state c.args.original.now) (g.D.Disk.state c.loop-i.original) (g.D.Disk.state c.args.copy.now) (g.D.Disk.state c.loop-i.copy) c.loop-i.invariant.sends
    (g.D.Disk.state c.read.new.self) c.in-Ok.ensures.spends c.in-Ok.ensures.log c.read.new.into
    (bytes_read g.D.Disk.tells (g.D.Disk.state c.args.original.now) (g.D.Disk.state c.loop-i.original) (c.args.first + c.loop-i.i) c.read.new.into c.loop-i.invariant.sends.reads c.loop-i.invariant.sends.unwritten c.in-Ok.ensures.reads) c.in_default-write.field-0 c.args.count (g.D.Disk.state c.write.new.self) (omega (arith, c.loop-i-test.true)) c.in_default-write.ensures.spends c.in_default-write.ensures.log c.in_default-write.ensures.cause

pub loop-i-preserved : goal.loop-i-preserved
loop-i-preserved g c =
    let laws = c.an_event_changes_one_block.ensures in
    record {
      upto = omega (arith, c.loop-i-test.true);
      room = omega (arith, c.loop-i.invariant.room, length-set c.loop-i.tickets c.loop-i.i c.in-Ok-write.ticket);
      sends = sends_one c.calls_in_a_row_spend_together.ensures g.D.Disk.tells c.args.first c.loop-i.i c.loop-i.tickets (g.D.Disk.state c.args.original.now) (g.D.Disk.state c.loop-i.original) (g.D.Disk.state c.args.copy.now) (g.D.Disk.state c.loop-i.copy) c.loop-i.invariant.sends
          (g.D.Disk.state c.read.new.self) c.in-Ok.ensures.spends c.in-Ok.ensures.log c.read.new.into
          (bytes_read g.D.Disk.tells (g.D.Disk.state c.args.original.now) (g.D.Disk.state c.loop-i.original) (c.args.first + c.loop-i.i) c.read.new.into c.loop-i.invariant.sends.reads c.loop-i.invariant.sends.unwritten c.in-Ok.ensures.reads) (record { wrote = laws.wrote; noticed = laws.noticed; elsewhere = laws.wrote_elsewhere }) (omega (arith, c.loop-i-test.true, c.loop-i.invariant.room)) c.in-Ok-write.ticket
          (g.D.Disk.state c.write.new.self) c.in-Ok-write.ensures.spends c.in-Ok-write.ensures.log;
    }
