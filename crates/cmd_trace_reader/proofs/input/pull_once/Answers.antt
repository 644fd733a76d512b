-- What was pulled is taken.
use Rattle.std.proofs.Common.{arith}
use Rattle.cmd_trace_reader.specs.declared.input.TraceRefusal.TheVariants.{NoMemory}
use Rattle.cmd_trace_reader.proofs.Pulling.{brought, lost, pull_refused}
use Rattle.cmd_trace_reader.proofs.input.pull_once.Goals as goal

pub returns-in_err-take_all-clause-brings : goal.returns-in_err-take_all-clause-brings
returns-in_err-take_all-clause-brings g c = λ first count fits a.
    pull_refused first _ count _ NoMemory c.from_residual.result c.from_residual.ensures.1
    (lost first _ _ count c.in-Ok.count c.pull.new.into c.args.lines.now (omega (arith, c.in-Ok.ensures.bound.0, c.pull.auto.into)) (omega (arith, fits, c.pull.auto.into)) c.in-Ok.ensures.bytes.0 a)

pub returns-clause-brings : goal.returns-clause-brings
returns-clause-brings g c = λ first count fits a.
    (brought first _ _ count c.in-Ok.count c.pull.new.into c.args.lines.now _ (omega (arith, c.in-Ok.ensures.bound.0, c.pull.auto.into)) (omega (arith, fits, c.pull.auto.into)) c.in-Ok.ensures.bytes.0 c.in_ok-take_all.ensures a, λ none. c.in-Ok.ensures.bytes.1 none (omega (arith, c.requires.some, c.pull.auto.into)))
