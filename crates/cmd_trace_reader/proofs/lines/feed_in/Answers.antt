use Rattle.std.proofs.Common.{rules, tests, ◌==◌}
use Rattle.std.proofs.lemmas.Iterator.Search.{position_from_yields_List}
use Rattle.std.proofs.lemmas.Iterator.{YieldsList-from_slice}
use Rattle.cmd_trace_reader.proofs.lines.feed_in.Goals as goal

pub returns-clause-first : goal.returns-clause-first
returns-clause-first c = position_from_yields_List (λ b. b == 10) _ _ c.position.result c.position.ensures.ran (YieldsList-from_slice _ c.iter.ensures.rest) (λ x b q k. search (rules, tests))
