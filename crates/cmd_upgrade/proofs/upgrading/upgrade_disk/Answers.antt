-- The image was mounted and its tree made again, or not mounted.
use Rattle.std.proofs.Common.{None}
use Rattle.engine_store.specs.StoreOf.{state_of}
use Rattle.cmd_image.specs.Lent.{disk_of}
use Rattle.cmd_upgrade.proofs.Opened.{just_mounted}
use Rattle.cmd_upgrade.proofs.Returned.{nothing_comes, shown_only_mounted}
use Rattle.cmd_upgrade.proofs.upgrading.upgrade_disk.Goals as goal

pub returns-in-Ok-clause-left : goal.returns-in-Ok-clause-left
returns-in-Ok-clause-left g c =
    let first = g.B.D.Disk.state (disk_of c.args.disk) in
    c.upgrade_store.ensures.left first (just_mounted g.B.Bay.tells first (state_of (λ lent. g.B.D.Disk.state (disk_of lent)) c.in-Ok.store) c.in-Ok.ensures.mounted c.in-Ok.ensures.begins c.in-Ok.ensures.numbers)

pub returns-in-Ok-clause-comes : goal.returns-in-Ok-clause-comes
returns-in-Ok-clause-comes g c =
    let first = g.B.D.Disk.state (disk_of c.args.disk) in
    c.upgrade_store.ensures.comes first (just_mounted g.B.Bay.tells first (state_of (λ lent. g.B.D.Disk.state (disk_of lent)) c.in-Ok.store) c.in-Ok.ensures.mounted c.in-Ok.ensures.begins c.in-Ok.ensures.numbers)

pub returns-in-Err-clause-left : goal.returns-in-Err-clause-left
returns-in-Err-clause-left g c = shown_only_mounted g.B.Bay.tells (g.B.D.Disk.state (disk_of c.args.disk)) (g.B.D.Disk.state (disk_of c.in-Err.disk)) c.in-Err.why (c.in-Err.ensures.refused None)

pub returns-in-Err-clause-comes : goal.returns-in-Err-clause-comes
returns-in-Err-clause-comes g c =
    nothing_comes g.B.Bay.tells c.args.other.now c.args.geom.now (g.B.D.Disk.state (disk_of c.args.disk)) (g.B.D.Disk.state (disk_of c.in-Err.disk)) c.in-Err.why c.of_image.result (g.B.Bay.state c.args.bay.now)
    c.of_image.ensures c.in-Err.ensures.silent (c.in-Err.ensures.refused None)
