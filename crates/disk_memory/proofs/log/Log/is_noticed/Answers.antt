use Rattle.std.proofs.Common.{◌∙◌, ap, not, ◌-◌}
use Rattle.std.specs.List.{slice_get}
use Rattle.disk_contract.specs.Cell.{is_noticed}
use Rattle.disk_memory.specs.Log.{LogState, tickets}
use Rattle.disk_memory.proofs.log_rows.RowOpen.{noticed_by_number}
use Rattle.disk_memory.proofs.log.Log.is_noticed.Goals as goal

pub returns : goal.returns
returns c =
    let at = ap (λ (s : LogState). slice_get (tickets s.events) (c.number_of.result - 1)) c.self.view_is ∙ c.number_of.ensures.ticket in
    ap not c.has.ensures ∙ noticed_by_number c.self.inside.events.events c.self.inside.unnoticed.members c.number_of.result c.args.ticket c.self.invariant.open_are c.number_of.ensures.above at
    ∙ ap (λ (s : LogState). is_noticed c.args.ticket s.events) c.self.view_is
