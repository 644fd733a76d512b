use Rattle.disk_memory.proofs.log_rows.RowSearch.{absent}
use Rattle.disk_memory.proofs.log.place_in.Goals as goal

pub returns-clause-none : goal.returns-clause-none
returns-clause-none c = rw c.ok.ensures.value (absent c.args.row.now c.args.number c.binary_search.result c.binary_search.ensures.position c.requires)
