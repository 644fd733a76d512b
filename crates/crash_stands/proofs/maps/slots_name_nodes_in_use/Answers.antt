use Rattle.crash_stands.proofs.NamedSlots.{never_root, names_used, names_once}
use Rattle.crash_stands.proofs.maps.slots_name_nodes_in_use.Goals as goal

pub returns-clause-root : goal.returns-clause-root
returns-clause-root c = never_root

pub returns-clause-used : goal.returns-clause-used
returns-clause-used c = names_used

pub returns-clause-once : goal.returns-clause-once
returns-clause-once c = names_once
