use Rattle.std.proofs.Common.{take, IsTrue}
use Rattle.std.specs.List.{list_all}
use Rattle.disk_memory.specs.Choice.{is_pending}
use Rattle.disk_memory.specs.Settled.{AreFates}
use Rattle.disk_memory.proofs.crash.fates.Given as goal

abbrev pub invariant-loop-named : goal.invariant-loop-named
invariant-loop-named l = AreFates (take l.moment l.log.events) l.choice.all (take l.named-index l.named-items) l.fates.items × IsTrue (list_all (λ n. is_pending (take l.moment l.log.events) n.write) (take l.named-index l.named-items))
