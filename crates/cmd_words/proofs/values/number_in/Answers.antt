use Rattle.std.proofs.Common.{arith}
use Rattle.cmd_words.proofs.Texts.{number_read, number_not_read}
use Rattle.cmd_words.proofs.values.number_in.Goals as goal

pub returns-in_default : goal.returns-in_default
returns-in_default c = number_not_read c.args.low c.args.high c.args.text.now c.in_default.field-0 c.in_default.ensures.value.0 (omega (arith, c.ranges.high.fits))

pub returns-then-number-high : goal.returns-then-number-high
returns-then-number-high c = number_read c.args.low c.args.high c.in-Ok.number c.args.text.now c.in-Ok.ensures.value.0 c.if-low-number.true c.if-number-high.true
