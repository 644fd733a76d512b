use Rattle.crash_stands.proofs.UsedNodes.{used_within, used_kind_is, used_data, used_count}
use Rattle.crash_stands.proofs.maps.a_node_in_use_has_data_blocks.Goals as goal

pub returns-clause-number : goal.returns-clause-number
returns-clause-number c = used_within

pub returns-clause-kind : goal.returns-clause-kind
returns-clause-kind c = used_kind_is

pub returns-clause-within : goal.returns-clause-within
returns-clause-within c = used_data

pub returns-clause-count : goal.returns-clause-count
returns-clause-count c = used_count
