use Rattle.crash_stands.proofs.OneMap.{map_of_blocks, node_reads, numbers_within}
use Rattle.crash_stands.proofs.maps.blocks_have_a_map.Goals as goal

pub returns-clause-map : goal.returns-clause-map
returns-clause-map c = map_of_blocks

pub returns-clause-reads : goal.returns-clause-reads
returns-clause-reads c = node_reads

pub returns-clause-within : goal.returns-clause-within
returns-clause-within c = numbers_within
