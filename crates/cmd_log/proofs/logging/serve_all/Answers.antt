use Rattle.std.proofs.Common.{Ok, ap, ◌∙◌}
use Rattle.cmd_log.proofs.Reading.{first_serving, next_counts, next_ends, next_serving, next_smaller, next_stop_counts, next_stops, none_counted, none_read_by}
use Rattle.cmd_log.proofs.logging.serve_all.Goals as goal

pub returns-in_err-reader-clause-runs : goal.returns-in_err-reader-clause-runs
returns-in_err-reader-clause-runs g c = λ first h. none_read_by g.D.Disk.tells first _ _ _ _ c.from_residual.result c.from_residual.ensures.1 h

pub returns-in_err-reader-clause-counts : goal.returns-in_err-reader-clause-counts
returns-in_err-reader-clause-counts g c = none_counted _ c.from_residual.result c.from_residual.ensures.1

pub loop-reader-init : goal.loop-reader-init
loop-reader-init g c = (
  c.requires.most,
  first_serving g.D.Disk.tells _ _ c.in_ok-reader.reader _ (record { first = c.all_calls_were_given.ensures.first; end = c.all_calls_were_given.ensures.end; whole = c.all_calls_were_given.ensures.whole; front = c.all_calls_were_given.ensures.front }) c.in_ok-reader.ensures,
)

pub serve_next-requires : goal.serve_next-requires
serve_next-requires g c = record { most = c.loop-reader.invariant.0 }

pub loop-reader-preserved : goal.loop-reader-preserved
loop-reader-preserved g c = (c.serve_next.ensures.most, next_serving _ _ _ _ _ _ _ _ c.loop-reader.invariant.1 _ _ _ _ c.serve_next.result c.serve_next.ensures.turns c.serve_next.ensures.source c.serve_next.ensures.sink c.serve_next.ensures.rises (c.in_ok-ending.was ∙ ap Ok c.in_default.is) c.serve_next.ensures.gives c.serve_next.ensures.marks)

pub loop-reader-smaller : goal.loop-reader-smaller
loop-reader-smaller g c = next_smaller _ _ _ _ _ _ _ _ c.loop-reader.invariant.1 _ _ _ _ c.serve_next.result c.serve_next.ensures.turns c.serve_next.ensures.source c.serve_next.ensures.sink c.serve_next.ensures.rises (c.all_calls_were_given.ensures.few _ _ _ c.loop-reader.invariant.1.gives.given) (c.in_ok-ending.was ∙ ap Ok c.in_default.is) c.serve_next.ensures.marks

pub returns-in-Some-clause-runs : goal.returns-in-Some-clause-runs
returns-in-Some-clause-runs g c = λ first h. next_ends _ _ _ _ _ _ _ _ c.loop-reader.invariant.1 _ _ _ _ c.serve_next.result c.serve_next.ensures.turns c.serve_next.ensures.source c.serve_next.ensures.sink c.serve_next.ensures.rises c.in-Some.ending (c.in_ok-ending.was ∙ ap Ok c.in-Some.is) first h

pub returns-in-Some-clause-counts : goal.returns-in-Some-clause-counts
returns-in-Some-clause-counts g c = next_counts _ _ _ _ _ _ _ _ c.loop-reader.invariant.1 _ _ _ _ c.serve_next.result c.serve_next.ensures.turns c.serve_next.ensures.source c.serve_next.ensures.sink c.serve_next.ensures.rises c.in-Some.ending (c.in_ok-ending.was ∙ ap Ok c.in-Some.is)

pub returns-in_err-ending-clause-runs : goal.returns-in_err-ending-clause-runs
returns-in_err-ending-clause-runs g c = λ first h. next_stops _ _ _ _ _ _ _ _ c.loop-reader.invariant.1 _ _ _ _ c.serve_next.result c.serve_next.ensures.turns c.serve_next.ensures.source c.serve_next.ensures.sink c.serve_next.ensures.rises c.in_err-ending.field-0.0 c.from_residual-in_err-ending.result c.in_err-ending.was c.from_residual-in_err-ending.ensures.1 first h

pub returns-in_err-ending-clause-counts : goal.returns-in_err-ending-clause-counts
returns-in_err-ending-clause-counts g c = next_stop_counts _ _ _ _ _ _ _ _ c.loop-reader.invariant.1 _ _ _ _ c.serve_next.result c.serve_next.ensures.turns c.serve_next.ensures.source c.serve_next.ensures.sink c.serve_next.ensures.rises c.in_err-ending.field-0.0 c.from_residual-in_err-ending.result c.in_err-ending.was c.from_residual-in_err-ending.ensures.1
