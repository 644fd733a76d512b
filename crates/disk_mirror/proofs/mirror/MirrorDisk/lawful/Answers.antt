use Rattle.std.proofs.lemmas.Bool.{and_parts}
use Rattle.disk_mirror.proofs.Sound.{sound}
use Rattle.disk_mirror.proofs.mirror.MirrorDisk.lawful.Goals as goal

pub returns : goal.returns
returns g c = λ tells.
    let m = c.args.self.now in
    sound (g.A.Disk.state m.a.disk) (g.B.Disk.state m.b.disk) m.a.live m.b.live m.a.end m.b.end m.order _ (c.lawful.ensures (and_parts g.A.Disk.tells g.B.Disk.tells tells).0) (m.told tells) m.roomed c.few.ensures.room m.counted
