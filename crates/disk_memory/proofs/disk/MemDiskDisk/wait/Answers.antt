use Rattle.std.proofs.Common.{◌≡◌, inr, true, ◌++◌, [], ◌∷◌, sym, subst, rules}
use Rattle.disk_contract.specs.declared.event.Event.TheVariants.{Noticed}
use Rattle.disk_contract.specs.Disk.{IsOpen}
use Rattle.disk_contract.specs.Manner.{HasFailedBy}
use Rattle.disk_memory.specs.declared.calls.DiskCall.TheVariants.{Wait}
use Rattle.disk_memory.specs.MemDisk.{MemDiskState, is_listed, manner_of, next_call}
use Rattle.disk_memory.proofs.disk_calls.Manners.{wait_stalls}
use Rattle.disk_memory.proofs.disk_calls.CallNotices.{noticed_now, one_notice}
use Rattle.disk_memory.proofs.disk.MemDiskDisk.wait.Goals as goal

pub returns-then-not-is_noticed-clause-log : goal.returns-then-not-is_noticed-clause-log
returns-then-not-is_noticed-clause-log c =
    let is : IsOpen c.args.ticket c.args.self.now.log = search rules in
    let more : c.note.new.self.log ≡ c.args.self.now.log ++ Noticed c.args.ticket ∷ [] = search rules in
    one_notice c.args.ticket c.args.self.now.log c.note.new.self.log is more

pub returns-then-not-is_noticed-clause-noticed : goal.returns-then-not-is_noticed-clause-noticed
returns-then-not-is_noticed-clause-noticed c =
    let more : c.note.new.self.log ≡ c.args.self.now.log ++ Noticed c.args.ticket ∷ [] = search rules in
    noticed_now c.args.ticket c.args.self.now.log c.note.new.self.log more

pub returns-then-listed-clause-reason : goal.returns-then-listed-clause-reason
returns-then-listed-clause-reason c = λ given.
    let d = c.self.inside in
    let listed : is_listed Wait (next_call Wait c.args.self.now) d.fails.items ≡ true = search rules in
    subst (λ (n : MemDiskState). HasFailedBy (manner_of n) n.log) (sym c.fault.ensures.state) (inr (inr (wait_stalls d.log.room d.fails.items d.known (next_call Wait c.args.self.now) listed)))

pub returns-then-listed-clause-stalls : goal.returns-then-listed-clause-stalls
returns-then-listed-clause-stalls c = λ given.
    let d = c.self.inside in
    let listed : is_listed Wait (next_call Wait c.args.self.now) d.fails.items ≡ true = search rules in
    subst (λ (v : MemDiskState). (manner_of v).stalls ≡ true) c.self.view_is (wait_stalls d.log.room d.fails.items d.known (next_call Wait c.args.self.now) listed)
