use Rattle.std.proofs.Common.{◌≡◌, ℕ, Ok, arith, subst}
use Rattle.cmd_mirror.specs.Copies.{WaitsForStretch}
use Rattle.cmd_mirror.proofs.CopySteps.{waits_failed, waits_none, waits_one}
use Rattle.cmd_mirror.proofs.copying.wait_for_stretch.Goals as goal

pub loop-i-init : goal.loop-i-init
loop-i-init g c = record { upto = omega arith; waits = waits_none g.D.Disk.tells c.args.count c.args.tickets.now (g.D.Disk.state c.args.copy.now) }

pub returns-in_default : goal.returns-in_default
returns-in_default g c =
    waits_failed c.calls_in_a_row_spend_together.ensures g.D.Disk.tells c.loop-i.i c.args.count c.args.tickets.now (g.D.Disk.state c.args.copy.now) (g.D.Disk.state c.loop-i.copy) c.loop-i.invariant.waits c.loop-i-test.true (g.D.Disk.state c.wait.new.self) c.wait.ensures.log c.args.count
    (omega (arith, c.loop-i-test.true)) c.in_default.ensures.spends c.in_default.ensures.cause

pub loop-i-preserved : goal.loop-i-preserved
loop-i-preserved g c =
    let laws = c.an_event_changes_one_block.ensures in
    record {
      upto = omega (arith, c.loop-i-test.true);
      waits = waits_one c.calls_in_a_row_spend_together.ensures g.D.Disk.tells c.loop-i.i c.args.count c.args.tickets.now (g.D.Disk.state c.args.copy.now) (g.D.Disk.state c.loop-i.copy) c.loop-i.invariant.waits c.loop-i-test.true (g.D.Disk.state c.wait.new.self) c.wait.ensures.log
          (record { wrote = laws.wrote; noticed = laws.noticed; elsewhere = laws.wrote_elsewhere }) c.in-Ok.ensures.spends c.in-Ok.ensures.noticed;
    }

pub returns : goal.returns
returns g c =
    let all : c.loop-i.i ≡ c.args.count = omega (arith, c.loop-i.invariant.upto, c.loop-i-test.false) in
    subst (λ (n : ℕ). WaitsForStretch g.D.Disk.tells n c.args.count c.args.tickets.now (Ok tt) (g.D.Disk.state c.args.copy.now) (g.D.Disk.state c.loop-i.copy)) all c.loop-i.invariant.waits
