use Rattle.crash_stands.proofs.Holding.{unused, least}
use Rattle.crash_stands.proofs.snapshots.unused_numbers_are_those_of_no_node.Goals as goal

pub returns-clause-unused : goal.returns-clause-unused
returns-clause-unused c = λ g m t is. let law = c.numbers_of_snapshots_are_in_the_map.ensures in unused g m t is law.number law.name

pub returns-clause-least : goal.returns-clause-least
returns-clause-least c = λ g m t is. let law = c.numbers_of_snapshots_are_in_the_map.ensures in least g m t is law.number law.name
