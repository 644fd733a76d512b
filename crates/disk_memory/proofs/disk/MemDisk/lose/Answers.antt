use Rattle.std.proofs.Common.{◌≡◌, ◌<◌, ◌+◌, true, nat_lt, length, Bool, ◌&&◌, ap₂, subst, sym, rules}
use Rattle.disk_contract.specs.declared.event.Event.TheVariants.{Lost}
use Rattle.disk_memory.specs.declared.calls.DiskCall.TheVariants.{Write}
use Rattle.disk_memory.specs.Log.{LogState, write_count}
use Rattle.disk_memory.specs.MemDisk.{IsDisk, GoesAsKnown, is_listed}
use Rattle.disk_memory.proofs.disk_calls.LastDisks.{disk_lost}
use Rattle.disk_memory.proofs.disk_calls.Manners.{counts_fault, goes_event}
use Rattle.disk_memory.proofs.disk.MemDisk.lose.Goals as goal

pub invariant_of-self : goal.invariant_of-self
invariant_of-self c =
    let d = c.self.inside in
    let low : c.args.b < length d.base = search rules in
    let some : 0 < d.log.ready = search rules in
    let counted : 0 < d.faults = search rules in
    let room : nat_lt (write_count d.log.events) d.log.room ≡ true = search rules in
    let listed : is_listed Write (write_count d.log.events + 1) d.fails.items ≡ true = search rules in (
      subst (λ log. IsDisk d.base log d.last.items) (sym c.add_lost.ensures) (disk_lost d.base d.log d.last.items c.args.b c.args.from.now low some c.self.invariant.0),
      subst (λ (log : LogState). GoesAsKnown log.room log.events d.notices d.fails.items d.read_faults d.polls d.known) (sym c.add_lost.ensures)
          (goes_event d.log.room d.log.events d.notices d.fails.items d.read_faults d.polls d.known (Lost c.args.b c.args.from.now) (λ rule. ap₂ (λ (v w : Bool). v && w) room listed) c.self.invariant.1),
      counts_fault d.known d.faults c.add_lost.new.self.events counted,
    )
