use Rattle.std.proofs.Common.{◌∙◌}
use Rattle.disk_memory.proofs.log_rows.RowSearch.{found_is_accepted}
use Rattle.disk_memory.proofs.log.Log.is_accepted.Goals as goal

pub returns : goal.returns
returns c = c.is_some.ensures ∙ found_is_accepted c.args.self.now.events c.args.ticket c.index_of.result c.index_of.ensures.there c.index_of.ensures.none
