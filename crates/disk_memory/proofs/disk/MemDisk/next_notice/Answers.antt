use Rattle.std.proofs.Common.{◌≡◌, ℕ, sym, subst, rules}
use Rattle.base_types.specs.Counts.{next_count}
use Rattle.disk_memory.specs.declared.rule.Notices.{Notices}
use Rattle.disk_memory.specs.MemDisk.{GoesAsKnown, turned}
use Rattle.disk_memory.proofs.disk_calls.Manners.{goes_polled}
use Rattle.disk_memory.proofs.disk.MemDisk.next_notice.Goals as goal

pub invariant_of-self : goal.invariant_of-self
invariant_of-self c =
    let d = c.self.inside in
    let counted : c.saturating_add-self-inside.result ≡ next_count d.polls = search rules in
    let turns : c.next.new.self ≡ turned d.notices = c.next.ensures.state in (
      c.self.invariant.0,
      subst (λ (n : ℕ). GoesAsKnown d.log.room d.log.events c.next.new.self d.fails.items d.read_faults n d.known) (sym counted)
          (subst (λ (k : Notices). GoesAsKnown d.log.room d.log.events k d.fails.items d.read_faults (next_count d.polls) d.known) (sym turns)
          (goes_polled d.log.room d.log.events d.notices d.fails.items d.read_faults d.polls d.known c.self.invariant.1)),
      c.self.invariant.2,
    )
