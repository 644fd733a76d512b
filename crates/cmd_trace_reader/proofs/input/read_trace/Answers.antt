-- What the whole reading tells.
use Rattle.cmd_trace_reader.proofs.Pulling.{at_first, trace_refused, finished, refused_at}
use Rattle.cmd_trace_reader.proofs.input.read_trace.Goals as goal

pub returns-in_err-read_all-clause-tells : goal.returns-in_err-read_all-clause-tells
returns-in_err-read_all-clause-tells g c =
    trace_refused _ _ c.in_err-read_all.field-0.0 c.from_residual-in_err-read_all.result c.from_residual-in_err-read_all.ensures.1 (c.in_err-read_all.ensures.reads _ (at_first _ _ c.new-lines.ensures))

pub returns-in-Ok-clause-tells : goal.returns-in-Ok-clause-tells
returns-in-Ok-clause-tells g c = finished _ _ _ c.into_trace.result _ (c.in_ok-read_all.ensures.reads _ (at_first _ _ c.new-lines.ensures)) c.into_trace.ensures c.in-Ok.is

pub returns-clause-tells : goal.returns-clause-tells
returns-clause-tells g c = refused_at _ _ _ c.into_trace.result _ (c.in_ok-read_all.ensures.reads _ (at_first _ _ c.new-lines.ensures)) c.into_trace.ensures c.in-Err.is
