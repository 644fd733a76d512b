use Rattle.std.proofs.Common.{arith}
use Rattle.lang_log.proofs.Digits.{too_great}
use Rattle.lang_log.proofs.names.number_in.Goals as goal

pub returns-then-from-number-clause-none : goal.returns-then-from-number-clause-none
returns-then-from-number-clause-none c = λ _ low.
    too_great c.args.bytes.now c.loop-byte.number c.loop-byte.byte-index 0 c.loop-byte-test.true c.loop-byte.invariant.0
    (omega (arith, c.if-from-number.true, c.saturating_sub.ensures, c.from.ensures, c.from-in-loop-byte.ensures)) low
