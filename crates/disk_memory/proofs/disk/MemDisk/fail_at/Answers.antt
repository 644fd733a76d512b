use Rattle.std.proofs.Common.{◌≡◌, ◌==◌, ◌&&◌, None, length, if◌then◌else◌, rules}
use Rattle.disk_memory.proofs.disk_calls.Manners.{counts_at_first, goes_at_first}
use Rattle.disk_memory.proofs.disk.MemDisk.fail_at.Goals as goal

pub invariant_of-self : goal.invariant_of-self
invariant_of-self c =
    let d = c.self.inside in
    let is : c.known_at_first-known.result ≡ (if (length d.log.events == 0) && ((d.polls == 0) && (d.read_faults == 0)) then d.known else None) = search rules in
    (c.self.invariant.0, goes_at_first d.log.room d.log.events d.notices d.fails.items _ d.read_faults d.polls d.known _ is c.self.invariant.1, counts_at_first d.log.events d.polls d.read_faults d.faults d.known _ is)
