use Rattle.std.proofs.Common.{ℕ, ◌+◌, ◌∙◌, ap}
use Rattle.disk_mirror.proofs.Causes.{causes_told}
use Rattle.disk_mirror.proofs.Made.{made_log}
use Rattle.disk_mirror.proofs.mirror.Mirror.causes.Goals as goal

pub returns-clause-own : goal.returns-clause-own
returns-clause-own g c =
    let m = c.args.self.now in
    causes_told (g.A.Disk.state m.a.disk) (g.B.Disk.state m.b.disk) m.a.live m.b.live m.order _ m.causes m.roomed

pub returns-clause-count : goal.returns-clause-count
returns-clause-count g c =
    let m = c.args.self.now in
    ap (λ (n : ℕ). n + m.order.room) (made_log (g.A.Disk.state m.a.disk).log (g.B.Disk.state m.b.disk).log m.order.events) ∙ m.roomed
