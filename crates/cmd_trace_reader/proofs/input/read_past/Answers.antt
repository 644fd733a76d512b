-- One byte more came.
use Rattle.std.proofs.Common.{arith}
use Rattle.cmd_trace_reader.proofs.Pulling.{past}
use Rattle.cmd_trace_reader.proofs.input.read_past.Goals as goal

pub returns-in-Ok-clause-past : goal.returns-in-Ok-clause-past
returns-in-Ok-clause-past g c = λ first lines a.
    past first _ _ c.in-Ok.field-0 c.pull.new.into lines c.pull.auto.into (omega (arith, c.in-Ok.field-0-test.1)) (omega (arith, c.in-Ok.ensures.bound.0, c.pull.auto.into)) c.in-Ok.ensures.bytes.0 a
