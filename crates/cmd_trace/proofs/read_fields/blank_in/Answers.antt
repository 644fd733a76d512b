use Rattle.std.proofs.Common.{rules, tests}
use Rattle.std.proofs.lemmas.Iterator.Search.{position_from_yields_List}
use Rattle.std.proofs.lemmas.Iterator.{YieldsList-from_slice}
use Rattle.cmd_trace.specs.ReadFields.{is_blank}
use Rattle.cmd_trace.proofs.read_fields.blank_in.Goals as goal

pub returns-clause-first : goal.returns-clause-first
returns-clause-first c = position_from_yields_List is_blank _ _ c.position.result c.position.ensures.ran (YieldsList-from_slice _ c.iter.ensures.rest) (λ x b q k. search (rules, tests))
