use Rattle.std.proofs.Common.{refl, subst, sym}
use Rattle.disk_contract.specs.declared.event.Event.TheVariants.{Noticed}
use Rattle.disk_memory.specs.Log.{LogState}
use Rattle.disk_memory.specs.MemDisk.{CountsLost, IsDisk, GoesAsKnown}
use Rattle.disk_memory.proofs.disk_calls.LastDisks.{disk_noticed}
use Rattle.disk_memory.proofs.disk_calls.Manners.{counts_quiet, goes_event}
use Rattle.disk_memory.proofs.disk.MemDisk.note.Goals as goal

pub invariant_of-self : goal.invariant_of-self
invariant_of-self c =
    let d = c.self.inside in (
      subst (λ log. IsDisk d.base log d.last.items) (sym c.add_notice.ensures) (disk_noticed d.base d.log d.last.items c.args.ticket c.self.invariant.0),
      subst (λ (log : LogState). GoesAsKnown log.room log.events d.notices d.fails.items d.read_faults d.polls d.known) (sym c.add_notice.ensures)
          (goes_event d.log.room d.log.events d.notices d.fails.items d.read_faults d.polls d.known (Noticed c.args.ticket) (λ rule. tt) c.self.invariant.1),
      subst (λ (log : LogState). CountsLost d.known d.faults log.events) (sym c.add_notice.ensures) (counts_quiet d.known d.faults d.log.events (Noticed c.args.ticket) refl c.self.invariant.2),
    )
