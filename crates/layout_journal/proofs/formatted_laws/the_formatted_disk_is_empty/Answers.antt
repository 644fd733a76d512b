use Rattle.std.proofs.Common.{refl, arith}
use Rattle.base_types.specs.LayoutLaws.{node_in_table}
use Rattle.layout_journal.proofs.Formatted.{bit_is_first, zeros_before, root_there, zeros_behind, block_is_whole}
use Rattle.layout_journal.proofs.formatted_laws.the_formatted_disk_is_empty.Goals as goal

pub returns-clause-bits : goal.returns-clause-bits
returns-clause-bits c = λ g b fits within. bit_is_first g b ((c.geometries_are_within_limits.ensures g).0 fits) within

pub returns-clause-zeros : goal.returns-clause-zeros
returns-clause-zeros c = λ g b fits from.
    let is = (c.geometries_are_within_limits.ensures g).0 fits in
    zeros_behind g b (omega (arith, from, node_in_table g.layout g.i 1 is.whole_blocks (omega arith) (omega (arith, is.least_nodes))))

pub returns-clause-journal : goal.returns-clause-journal
returns-clause-journal c = λ g b low high. zeros_before g b (omega (arith, low)) high

pub returns-clause-root : goal.returns-clause-root
returns-clause-root c = λ g. root_there g _ refl

pub returns-clause-nodes : goal.returns-clause-nodes
returns-clause-nodes c = λ g b low. zeros_behind g b low

pub returns-clause-whole : goal.returns-clause-whole
returns-clause-whole c = block_is_whole
