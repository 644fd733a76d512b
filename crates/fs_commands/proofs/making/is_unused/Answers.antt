use Rattle.fs_commands.proofs.naming.Least.{none_there}
use Rattle.fs_commands.proofs.making.is_unused.Goals as goal

pub returns-clause-unused : goal.returns-clause-unused
returns-clause-unused g c = λ told unused. none_there _ c.in_ok-facts.facts c.is_none.result (c.in_ok-facts.ensures.facts told) c.is_none.ensures unused
