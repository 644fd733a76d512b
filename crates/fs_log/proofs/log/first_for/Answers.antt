use Rattle.std.proofs.Common.{◌≡◌, ◌+◌, ◌-◌, arith}
use Rattle.fs_log.proofs.Getting.{last_found, none_yet}
use Rattle.fs_log.proofs.log.first_for.Goals as goal

pub returns-then-firsts-left : goal.returns-then-firsts-left
returns-then-firsts-left c =
    last_found c.args.number c.args.firsts.now c.loop-left.left (c.loop-left.left - 1) (omega (arith, c.loop-left-test.true)) c.loop-left.invariant.0 c.loop-left.invariant.1 (omega (arith, c.if-firsts-left.true))

pub loop-left-preserved : goal.loop-left-preserved
loop-left-preserved c = (
  omega (arith, c.loop-left.invariant.0),
  none_yet c.args.number c.args.firsts.now c.loop-left.left (c.loop-left.left - 1) (omega (arith, c.loop-left-test.true)) c.loop-left.invariant.0 c.loop-left.invariant.1 (omega (arith, c.if-firsts-left.false)),
)
