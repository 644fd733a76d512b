use Rattle.disk_memory.proofs.settled_places.PendingCells.{pending_of_cells}
use Rattle.disk_memory.proofs.laws.pending_writes_are_those_of_the_cells.Goals as goal

pub returns : goal.returns
returns c = pending_of_cells c.settled_is_the_newest_noticed.ensures.noticed c.settled_is_the_newest_noticed.ensures.none
