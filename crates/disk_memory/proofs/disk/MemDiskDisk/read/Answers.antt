use Rattle.std.proofs.Common.{◌≡◌, true, rules}
use Rattle.disk_memory.specs.declared.calls.DiskCall.TheVariants.{Read}
use Rattle.disk_memory.specs.MemDisk.{is_listed, next_call}
use Rattle.disk_memory.proofs.disk_calls.Manners.{goes_unread}
use Rattle.disk_memory.proofs.disk.MemDiskDisk.read.Goals as goal

pub invariant_of-self : goal.invariant_of-self
invariant_of-self c =
    let d = c.self.inside in
    let listed : is_listed Read (next_call Read c.args.self.now) c.args.self.now.fails ≡ true = search rules in
    let own : is_listed Read (next_call Read c.args.self.now) d.fails.items ≡ true = search rules in
    (c.self.invariant.0, goes_unread d.log.room d.log.events d.notices d.fails.items d.read_faults d.polls d.known (next_call Read c.args.self.now) _ own c.self.invariant.1, c.self.invariant.2)
