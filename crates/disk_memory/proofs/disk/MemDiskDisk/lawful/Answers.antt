use Rattle.std.proofs.Common.{◌^◌, subst}
use Rattle.disk_contract.specs.Lawful.{IsSoundDisk}
use Rattle.disk_memory.specs.MemDisk.{MemDiskState, state_of}
use Rattle.disk_memory.proofs.disk_calls.Manners.{known_counts, known_goes, known_reads}
use Rattle.disk_memory.proofs.log_rows.Events.{events_within}
use Rattle.disk_memory.proofs.disk.MemDiskDisk.lawful.Goals as goal

pub returns : goal.returns
returns c = λ tells. subst (λ (d : MemDiskState). IsSoundDisk (state_of d)) c.self.view_is (record {
  blocks = c.lawful-2.ensures.whole;
  log = record { lawful = c.lawful.ensures.lawful; events = events_within (2 ^ 32) _ _ c.lawful.ensures.whole c.self.invariant.0.within };
  manner = known_goes c.self.inside.log.room c.self.inside.log.events c.self.inside.notices c.self.inside.fails.items c.self.inside.read_faults c.self.inside.polls c.self.inside.known c.self.invariant.1;
  reads = known_reads c.self.inside.log.room c.self.inside.log.events c.self.inside.notices c.self.inside.fails.items c.self.inside.read_faults c.self.inside.polls c.self.inside.known c.self.invariant.1;
  counted = known_counts c.self.inside.log.room c.self.inside.fails.items c.self.inside.known c.self.inside.faults c.self.inside.log.events c.self.invariant.2;
})
