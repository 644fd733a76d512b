use Rattle.std.proofs.Common.{◌≡◌, ◌<◌, ◌+◌, true, false, nat_lt, length, slice_set, Bool, not, ◌&&◌, ap, ap₂, subst, refl, sym, rules}
use Rattle.disk_contract.specs.declared.event.Event.TheVariants.{Wrote}
use Rattle.disk_memory.specs.declared.calls.DiskCall.TheVariants.{Write}
use Rattle.disk_memory.specs.Log.{LogState, write_count}
use Rattle.disk_memory.specs.MemDisk.{CountsLost, IsDisk, GoesAsKnown, is_listed}
use Rattle.disk_memory.proofs.disk_calls.LastDisks.{disk_wrote}
use Rattle.disk_memory.proofs.disk_calls.Manners.{counts_quiet, goes_event}
use Rattle.disk_memory.proofs.disk.MemDisk.accept.Goals as goal

pub invariant_of-self : goal.invariant_of-self
invariant_of-self c =
    let d = c.self.inside in
    let place = c.len.result + 1 in
    let low : c.args.b < length d.base = search rules in
    let some : 0 < d.log.ready = search rules in
    let room : nat_lt (write_count d.log.events) d.log.room ≡ true = search rules in
    let unlisted : is_listed Write (write_count d.log.events + 1) d.fails.items ≡ false = search rules in
    let at : place ≡ length d.log.events + 1 = ap (λ n. n + 1) c.len.ensures in (
      subst (λ log. IsDisk d.base log (slice_set d.last.items c.args.b place)) (sym c.add_write-ticket.ensures.state)
          (disk_wrote d.base d.log d.last.items c.add_write-ticket.result c.args.b place c.args.from.now low some at c.self.invariant.0),
      subst (λ (log : LogState). GoesAsKnown log.room log.events d.notices d.fails.items d.read_faults d.polls d.known) (sym c.add_write-ticket.ensures.state)
          (goes_event d.log.room d.log.events d.notices d.fails.items d.read_faults d.polls d.known (Wrote c.add_write-ticket.result c.args.b c.args.from.now) (λ rule. ap₂ (λ (v w : Bool). v && not w) room unlisted) c.self.invariant.1),
      subst (λ (log : LogState). CountsLost d.known d.faults log.events) (sym c.add_write-ticket.ensures.state)
          (counts_quiet d.known d.faults d.log.events (Wrote c.add_write-ticket.result c.args.b c.args.from.now) refl c.self.invariant.2),
    )
