use Rattle.std.proofs.Common.{◌≡◌, ◌-◌, Some, sym, subst, arith}
use Rattle.std.specs.List.{slice_get}
use Rattle.disk_contract.specs.Disk.{IsOpen}
use Rattle.disk_memory.specs.Log.{LogState, tickets}
use Rattle.disk_memory.proofs.log_rows.AddKept.{room_for_notice, kept_notice}
use Rattle.disk_memory.proofs.log.Log.add_notice.Goals as goal

pub push_noticed-requires : goal.push_noticed-requires
push_noticed-requires c =
    let number = c.number_of-number.result in
    let is_open = subst (λ (s : LogState). IsOpen c.args.ticket s.events) (sym c.self.view_is) c.requires in
    let at = subst (λ (s : LogState). slice_get (tickets s.events) (number - 1) ≡ Some c.args.ticket) (sym c.self.view_is) c.number_of-number.ensures.ticket in
    room_for_notice c.self.invariant c.args.ticket number is_open at

pub invariant_of-self : goal.invariant_of-self
invariant_of-self c =
    let number = c.number_of-number.result in
    let is_open = subst (λ (s : LogState). IsOpen c.args.ticket s.events) (sym c.self.view_is) c.requires in
    let at = subst (λ (s : LogState). slice_get (tickets s.events) (number - 1) ≡ Some c.args.ticket) (sym c.self.view_is) c.number_of-number.ensures.ticket in
    rw (c.push_noticed.ensures, c.take_out.ensures.state)
    (kept_notice c.self.invariant c.args.ticket number is_open c.number_of-number.ensures.above at (omega arith))
