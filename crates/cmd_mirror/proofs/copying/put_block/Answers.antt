use Rattle.cmd_mirror.proofs.CopySteps.{puts, puts_unheard, puts_unwritten}
use Rattle.cmd_mirror.proofs.copying.put_block.Goals as goal

pub returns-in_default : goal.returns-in_default
returns-in_default g c = λ from from_now reads log bytes.
    puts_unwritten c.calls_in_a_row_spend_together.ensures g.D.Disk.tells c.args.b c.args.block.now from from_now (g.D.Disk.state c.args.copy.now) (g.D.Disk.state c.write.new.self) reads log bytes c.in_default.field-0 c.in_default.ensures.spends c.in_default.ensures.log c.in_default.ensures.cause

pub returns-in_default-wait : goal.returns-in_default-wait
returns-in_default-wait g c = λ from from_now reads log bytes.
    let laws = c.an_event_changes_one_block.ensures in
    puts_unheard c.calls_in_a_row_spend_together.ensures g.D.Disk.tells c.args.b c.args.block.now from from_now (g.D.Disk.state c.args.copy.now) (g.D.Disk.state c.write.new.self) reads log bytes
    (record { wrote = laws.wrote; noticed = laws.noticed; elsewhere = laws.wrote_elsewhere }) c.in-Ok.ticket c.in-Ok.ensures.spends c.in-Ok.ensures.log (g.D.Disk.state c.wait.new.self) c.wait.ensures.log c.in_default-wait.ensures.spends c.in_default-wait.ensures.cause

pub returns : goal.returns
returns g c = λ from from_now reads log bytes.
    let laws = c.an_event_changes_one_block.ensures in
    puts c.calls_in_a_row_spend_together.ensures g.D.Disk.tells c.args.b c.args.block.now from from_now (g.D.Disk.state c.args.copy.now) (g.D.Disk.state c.write.new.self) reads log bytes
    (record { wrote = laws.wrote; noticed = laws.noticed; elsewhere = laws.wrote_elsewhere }) c.in-Ok.ticket c.in-Ok.ensures.spends c.in-Ok.ensures.log (g.D.Disk.state c.wait.new.self) c.wait.ensures.log c.in-Ok-wait.ensures.spends c.in-Ok-wait.ensures.noticed
