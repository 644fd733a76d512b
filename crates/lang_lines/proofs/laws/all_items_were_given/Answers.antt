-- What is behind the bytes that were pulled adds items alone.
use Rattle.lang_lines.proofs.Few.{few_given}
use Rattle.lang_lines.proofs.Giving.{gives_first}
use Rattle.lang_lines.proofs.laws.all_items_were_given.Goals as goal

pub returns-clause-front : goal.returns-clause-front
returns-clause-front g c = gives_first g.P.LineParser.bad g.P.LineParser.says

-- no more than lines
pub returns-clause-few : goal.returns-clause-few
returns-clause-few g c = few_given g.P.LineParser.bad g.P.LineParser.says
