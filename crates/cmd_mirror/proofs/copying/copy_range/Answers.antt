use Rattle.std.proofs.Common.{◌+◌, ◌≡◌, ◌≤◌, Err, ℕ, Ok, arith, rules, subst}
use Rattle.cmd_mirror.specs.Copies.{CopiesPart}
use Rattle.cmd_mirror.proofs.CopySteps.{part_none, part_then, part_to}
use Rattle.cmd_mirror.proofs.copying.copy_range.Goals as goal

pub loop-first-init : goal.loop-first-init
loop-first-init g c = record { from = omega arith; upto = c.requires.order; part = part_none g.D.Disk.tells c.args.start (g.D.Disk.state c.args.original.now) (g.D.Disk.state c.args.copy.now) }

pub loop-first-preserved : goal.loop-first-preserved
loop-first-preserved g c =
    let so_far = c.loop-first.invariant in
    let upto : c.loop-first.first + c.min-count.result ≤ c.args.end = search rules in
    record {
      from = omega (arith, so_far.from);
      upto = upto;
      part = part_then c.calls_in_a_row_spend_together.ensures g.D.Disk.tells c.args.start c.loop-first.first (c.loop-first.first + c.min-count.result) (Ok tt) (g.D.Disk.state c.args.original.now) (g.D.Disk.state c.loop-first.original) (g.D.Disk.state c.copy_stretch.new.original)
          (g.D.Disk.state c.args.copy.now) (g.D.Disk.state c.loop-first.copy) (g.D.Disk.state c.copy_stretch.new.copy) so_far.from (omega arith) so_far.part c.in_default.ensures;
    }

pub returns-in-Err : goal.returns-in-Err
returns-in-Err g c =
    let so_far = c.loop-first.invariant in
    let upto : c.loop-first.first + c.min-count.result ≤ c.args.end = search rules in
    part_to g.D.Disk.tells c.args.start (c.loop-first.first + c.min-count.result) c.args.start c.args.end c.in-Err.fault (g.D.Disk.state c.args.original.now) (g.D.Disk.state c.copy_stretch.new.original) (g.D.Disk.state c.args.copy.now) (g.D.Disk.state c.copy_stretch.new.copy) (omega arith) upto
    (part_then c.calls_in_a_row_spend_together.ensures g.D.Disk.tells c.args.start c.loop-first.first (c.loop-first.first + c.min-count.result) (Err c.in-Err.fault) (g.D.Disk.state c.args.original.now) (g.D.Disk.state c.loop-first.original) (g.D.Disk.state c.copy_stretch.new.original)
    (g.D.Disk.state c.args.copy.now) (g.D.Disk.state c.loop-first.copy) (g.D.Disk.state c.copy_stretch.new.copy) so_far.from (omega arith) so_far.part c.in-Err.ensures)

pub returns : goal.returns
returns g c =
    let all : c.loop-first.first ≡ c.args.end = omega (arith, c.loop-first.invariant.upto, c.loop-first-test.false) in
    subst (λ (n : ℕ). CopiesPart g.D.Disk.tells c.args.start n (Ok tt) (g.D.Disk.state c.args.original.now) (g.D.Disk.state c.loop-first.original) (g.D.Disk.state c.args.copy.now) (g.D.Disk.state c.loop-first.copy)) all c.loop-first.invariant.part
