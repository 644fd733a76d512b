use Rattle.std.proofs.Common.{rules}
use Rattle.disk_file.specs.Notices.{StaysOver}
use Rattle.disk_file.proofs.Overs.{low_over}
use Rattle.disk_file.proofs.notices.Notices.next.Goals as goal

-- the ticket that was passed was over already
pub loop-self-preserved : goal.loop-self-preserved
loop-self-preserved c =
    let inv = c.loop-self.invariant in
    let back : StaysOver c.pass.new.self c.loop-self.self = search rules in
    (λ t over. c.pass.ensures.stays t (inv.0 t over), λ t over. inv.1 t (back t over), λ t low. inv.1 t (back t (low_over c.pass.new.self t low)))
