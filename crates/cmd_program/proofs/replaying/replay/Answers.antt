-- The run ends by what is told of the input.
use Rattle.std.proofs.Common.{Result, sym, subst}
use Rattle.cmd_trace.specs.Contents.{Contents}
use Rattle.cmd_trace_reader.specs.declared.input.TraceRefusal.{TraceRefusal}
use Rattle.cmd_program.specs.Replaying.{EndsReading}
use Rattle.cmd_program.proofs.replaying.replay.Goals as goal

pub returns-in-Err-clause-replays : goal.returns-in-Err-clause-replays
returns-in-Err-clause-replays g c = λ bay. record {
  told = c.read_trace.result;
  tells = c.read_trace.ensures.tells;
  ends = subst (λ (told : Result Contents TraceRefusal). EndsReading c.args.moment c.args.choice.now told c.end_reading.result (g.K.Sink.taken c.args.out.now) (g.K.Sink.taken c.end_reading.new.out))
      (sym c.in-Err.is) (c.end_reading.ensures.ends c.args.moment c.args.choice.now);
}
