use Rattle.std.proofs.Common.{◌∙◌, ap, sym, arith}
use Rattle.std.specs.List.{slice_get}
use Rattle.disk_memory.specs.Log.{LogState, open_tickets}
use Rattle.disk_memory.proofs.log_rows.RowOpen.{open_none, open_number, open_some}
use Rattle.disk_memory.proofs.log.Log.open_at.Goals as goal

pub returns-in_err-number : goal.returns-in_err-number
returns-in_err-number c =
    c.from_residual.ensures ∙ sym (open_none c.self.inside.events.events c.self.inside.unnoticed.members c.args.place c.self.invariant.open_are (sym c.in_err-number.ensures))
    ∙ ap (λ (s : LogState). slice_get (open_tickets s.events) c.args.place) c.self.view_is

pub overflow_sub-number : goal.overflow_sub-number
overflow_sub-number c =
    let bounds = open_number c.self.inside.events.events c.self.inside.unnoticed.members c.self.inside.tickets.items c.args.place c.in_ok-number.number c.self.invariant.open_are c.self.invariant.row_is (sym c.in_ok-number.ensures) in
    omega arith

pub index-requires : goal.index-requires
index-requires c =
    let bounds = open_number c.self.inside.events.events c.self.inside.unnoticed.members c.self.inside.tickets.items c.args.place c.in_ok-number.number c.self.invariant.open_are c.self.invariant.row_is (sym c.in_ok-number.ensures) in
    omega arith

pub returns : goal.returns
returns c =
    open_some c.self.inside.events.events c.self.inside.unnoticed.members c.self.inside.tickets.items c.args.place c.in_ok-number.number c.index.result.now c.self.invariant.open_are c.self.invariant.row_is
    (sym c.in_ok-number.ensures) c.index.ensures
    ∙ ap (λ (s : LogState). slice_get (open_tickets s.events) c.args.place) c.self.view_is
