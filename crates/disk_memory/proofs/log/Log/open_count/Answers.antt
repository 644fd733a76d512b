use Rattle.std.proofs.Common.{◌∙◌, ap, length}
use Rattle.disk_memory.specs.Log.{LogState, open_tickets}
use Rattle.disk_memory.proofs.log_rows.RowOpen.{open_length}
use Rattle.disk_memory.proofs.log.Log.open_count.Goals as goal

pub returns : goal.returns
returns c = c.len.ensures ∙ open_length c.self.inside.events.events c.self.inside.unnoticed.members c.self.invariant.open_are ∙ ap (λ (s : LogState). length (open_tickets s.events)) c.self.view_is
