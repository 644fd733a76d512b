-- What came of the bay, and all that follows from that.
use Rattle.std.proofs.Common.{Err, Result, sym, subst}
use Rattle.cmd_image.specs.Lent.{disk_of}
use Rattle.cmd_image.specs.Shared.{fresh}
use Rattle.cmd_upgrade.specs.declared.refusal.UpgradeRefusal.{UpgradeRefusal}
use Rattle.cmd_upgrade.specs.Upgrades.{UpgradesTo}
use Rattle.cmd_upgrade.proofs.Both.{says_all}
use Rattle.cmd_upgrade.proofs.Handing.{opens_no_image, upgrades_image}
use Rattle.cmd_upgrade.proofs.upgrading.upgrade.Goals as goal

pub upgrade_disk-disk-requires-clause-fresh : goal.upgrade_disk-disk-requires-clause-fresh
upgrade_disk-disk-requires-clause-fresh g c = fresh (λ lent. g.B.D.Disk.state (disk_of lent)) g.B.Bay.tells c.args.name.now c.in-Ok.disk (g.B.Bay.state c.args.bay.now) (g.B.Bay.state c.open_lent.new.bay) c.in-Ok.ensures

pub returns-in-Ok-clause-leaves : goal.returns-in-Ok-clause-leaves
returns-in-Ok-clause-leaves g c =
    let tells = g.B.Bay.tells in
    let name = c.args.name.now in
    let other = c.args.other.now in
    let geom = c.args.geom.now in
    let old = g.B.Bay.state c.args.bay.now in
    let new = g.B.Bay.state c.hand_back.new.bay in
    (says_all tells name other geom c.requires.apart c.hand_back.result old new
    (subst (λ (r : Result (Unit {0}) UpgradeRefusal). UpgradesTo tells name other geom r old new) (sym c.hand_back.ensures.2)
    (upgrades_image (λ lent. g.B.D.Disk.state (disk_of lent)) tells name other geom c.in-Ok.disk (g.B.D.Disk.state (disk_of c.upgrade_disk-disk.result.0)) c.upgrade_disk-disk.result.1 c.hand_back.ensures.0 old (g.B.Bay.state c.open_lent.new.bay)
    (g.B.Bay.state c.upgrade_disk-disk.new.bay) new c.in-Ok.ensures c.upgrade_disk-disk.ensures.left c.upgrade_disk-disk.ensures.comes c.hand_back.ensures.1))).leaves

pub returns-in-Ok-clause-room : goal.returns-in-Ok-clause-room
returns-in-Ok-clause-room g c =
    let tells = g.B.Bay.tells in
    let name = c.args.name.now in
    let other = c.args.other.now in
    let geom = c.args.geom.now in
    let old = g.B.Bay.state c.args.bay.now in
    let new = g.B.Bay.state c.hand_back.new.bay in
    (says_all tells name other geom c.requires.apart c.hand_back.result old new
    (subst (λ (r : Result (Unit {0}) UpgradeRefusal). UpgradesTo tells name other geom r old new) (sym c.hand_back.ensures.2)
    (upgrades_image (λ lent. g.B.D.Disk.state (disk_of lent)) tells name other geom c.in-Ok.disk (g.B.D.Disk.state (disk_of c.upgrade_disk-disk.result.0)) c.upgrade_disk-disk.result.1 c.hand_back.ensures.0 old (g.B.Bay.state c.open_lent.new.bay)
    (g.B.Bay.state c.upgrade_disk-disk.new.bay) new c.in-Ok.ensures c.upgrade_disk-disk.ensures.left c.upgrade_disk-disk.ensures.comes c.hand_back.ensures.1))).room

pub returns-in-Ok-clause-others : goal.returns-in-Ok-clause-others
returns-in-Ok-clause-others g c =
    let tells = g.B.Bay.tells in
    let name = c.args.name.now in
    let other = c.args.other.now in
    let geom = c.args.geom.now in
    let old = g.B.Bay.state c.args.bay.now in
    let new = g.B.Bay.state c.hand_back.new.bay in
    (says_all tells name other geom c.requires.apart c.hand_back.result old new
    (subst (λ (r : Result (Unit {0}) UpgradeRefusal). UpgradesTo tells name other geom r old new) (sym c.hand_back.ensures.2)
    (upgrades_image (λ lent. g.B.D.Disk.state (disk_of lent)) tells name other geom c.in-Ok.disk (g.B.D.Disk.state (disk_of c.upgrade_disk-disk.result.0)) c.upgrade_disk-disk.result.1 c.hand_back.ensures.0 old (g.B.Bay.state c.open_lent.new.bay)
    (g.B.Bay.state c.upgrade_disk-disk.new.bay) new c.in-Ok.ensures c.upgrade_disk-disk.ensures.left c.upgrade_disk-disk.ensures.comes c.hand_back.ensures.1))).others

pub returns-in-Ok-clause-comes : goal.returns-in-Ok-clause-comes
returns-in-Ok-clause-comes g c =
    let tells = g.B.Bay.tells in
    let name = c.args.name.now in
    let other = c.args.other.now in
    let geom = c.args.geom.now in
    let old = g.B.Bay.state c.args.bay.now in
    let new = g.B.Bay.state c.hand_back.new.bay in
    (says_all tells name other geom c.requires.apart c.hand_back.result old new
    (subst (λ (r : Result (Unit {0}) UpgradeRefusal). UpgradesTo tells name other geom r old new) (sym c.hand_back.ensures.2)
    (upgrades_image (λ lent. g.B.D.Disk.state (disk_of lent)) tells name other geom c.in-Ok.disk (g.B.D.Disk.state (disk_of c.upgrade_disk-disk.result.0)) c.upgrade_disk-disk.result.1 c.hand_back.ensures.0 old (g.B.Bay.state c.open_lent.new.bay)
    (g.B.Bay.state c.upgrade_disk-disk.new.bay) new c.in-Ok.ensures c.upgrade_disk-disk.ensures.left c.upgrade_disk-disk.ensures.comes c.hand_back.ensures.1))).comes

pub returns-in-Err-clause-room : goal.returns-in-Err-clause-room
returns-in-Err-clause-room g c =
    let tells = g.B.Bay.tells in
    let name = c.args.name.now in
    let other = c.args.other.now in
    let geom = c.args.geom.now in
    let old = g.B.Bay.state c.args.bay.now in
    let new = g.B.Bay.state c.open_lent.new.bay in
    (says_all tells name other geom c.requires.apart (Err c.of_bay.result) old new
    (subst (λ (why : UpgradeRefusal). UpgradesTo tells name other geom (Err why) old new) (sym c.of_bay.ensures) (opens_no_image (λ lent. g.B.D.Disk.state (disk_of lent)) tells name other geom c.in-Err.fault old new c.in-Err.ensures))).room

pub returns-in-Err-clause-others : goal.returns-in-Err-clause-others
returns-in-Err-clause-others g c =
    let tells = g.B.Bay.tells in
    let name = c.args.name.now in
    let other = c.args.other.now in
    let geom = c.args.geom.now in
    let old = g.B.Bay.state c.args.bay.now in
    let new = g.B.Bay.state c.open_lent.new.bay in
    (says_all tells name other geom c.requires.apart (Err c.of_bay.result) old new
    (subst (λ (why : UpgradeRefusal). UpgradesTo tells name other geom (Err why) old new) (sym c.of_bay.ensures) (opens_no_image (λ lent. g.B.D.Disk.state (disk_of lent)) tells name other geom c.in-Err.fault old new c.in-Err.ensures))).others

pub returns-in-Err-clause-comes : goal.returns-in-Err-clause-comes
returns-in-Err-clause-comes g c =
    let tells = g.B.Bay.tells in
    let name = c.args.name.now in
    let other = c.args.other.now in
    let geom = c.args.geom.now in
    let old = g.B.Bay.state c.args.bay.now in
    let new = g.B.Bay.state c.open_lent.new.bay in
    (says_all tells name other geom c.requires.apart (Err c.of_bay.result) old new
    (subst (λ (why : UpgradeRefusal). UpgradesTo tells name other geom (Err why) old new) (sym c.of_bay.ensures) (opens_no_image (λ lent. g.B.D.Disk.state (disk_of lent)) tells name other geom c.in-Err.fault old new c.in-Err.ensures))).comes
