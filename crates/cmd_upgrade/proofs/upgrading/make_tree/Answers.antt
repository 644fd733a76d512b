-- The new disk was opened, filled and handed back, or not opened.
use Rattle.std.proofs.Common.{Err, Result, arith, sym, subst}
use Rattle.engine_store.specs.StoreOf.{state_of}
use Rattle.fs_commands.specs.Opened.{blocks_in}
use Rattle.cmd_image.specs.Lent.{disk_of}
use Rattle.cmd_image.specs.Makes.{IsFormattedImage}
use Rattle.cmd_image.specs.Shared.{fresh}
use Rattle.cmd_upgrade.specs.declared.refusal.UpgradeRefusal.{UpgradeRefusal}
use Rattle.cmd_upgrade.specs.Filled.{MakesTree}
use Rattle.cmd_upgrade.proofs.Handing.{begun_image, fills_new, opens_no_new}
use Rattle.cmd_upgrade.proofs.Keeping.{stays_here}
use Rattle.cmd_upgrade.proofs.upgrading.make_tree.Goals as goal

pub fill_disk-disk-requires : goal.fill_disk-disk-requires
fill_disk-disk-requires g c = record { fresh = fresh (λ lent. g.B.D.Disk.state (disk_of lent)) g.B.Bay.tells c.args.other.now c.in-Ok.disk (g.B.Bay.state c.args.bay.now) (g.B.Bay.state c.open_lent.new.bay) c.in-Ok.ensures }

pub returns-in-Ok-clause-comes : goal.returns-in-Ok-clause-comes
returns-in-Ok-clause-comes g c = λ first t looked whole formatted.
    let image = state_of (λ lent. g.B.D.Disk.state (disk_of lent)) (blocks_in c.fill_disk-disk.new.image) in
    let old = g.B.Bay.state c.args.bay.now in
    let opened = g.B.Bay.state c.open_lent.new.bay in
    let new = g.B.Bay.state c.hand_back.new.bay in
    let name = c.args.other.now in
    subst (λ (r : Result (Unit {0}) UpgradeRefusal). MakesTree g.B.Bay.tells name c.args.geom.now t image r old new) (sym c.hand_back.ensures.2)
    (fills_new (λ lent. g.B.D.Disk.state (disk_of lent)) g.B.Bay.tells name c.args.geom.now t image c.in-Ok.disk (g.B.D.Disk.state (disk_of c.fill_disk-disk.result.0)) c.fill_disk-disk.result.1 c.hand_back.ensures.0 old opened new c.in-Ok.ensures
    (c.fill_disk-disk.ensures.fills first t looked whole (λ told. begun_image (old.kept name) (g.B.D.Disk.state (disk_of c.in-Ok.disk)) (IsFormattedImage c.args.geom.now) (c.in-Ok.ensures.disk told) (formatted told)))
    c.hand_back.ensures.1)

pub returns-in-Err-clause-comes : goal.returns-in-Err-clause-comes
returns-in-Err-clause-comes g c = λ first t looked whole formatted.
    let image = state_of (λ lent. g.B.D.Disk.state (disk_of lent)) (blocks_in c.args.image.now) in
    subst (λ (why : UpgradeRefusal). MakesTree g.B.Bay.tells c.args.other.now c.args.geom.now t image (Err why) (g.B.Bay.state c.args.bay.now) (g.B.Bay.state c.open_lent.new.bay)) (sym c.of_bay.ensures)
    (opens_no_new (λ lent. g.B.D.Disk.state (disk_of lent)) g.B.Bay.tells c.args.other.now c.args.geom.now t image c.in-Err.fault (g.B.Bay.state c.args.bay.now) (g.B.Bay.state c.open_lent.new.bay) c.in-Err.ensures)

pub returns-in-Err-clause-stays : goal.returns-in-Err-clause-stays
returns-in-Err-clause-stays g c = λ told first t looked. looked

pub returns-in-Err-clause-keeps : goal.returns-in-Err-clause-keeps
returns-in-Err-clause-keeps g c = stays_here g.B.Bay.tells (state_of (λ lent. g.B.D.Disk.state (disk_of lent)) (blocks_in c.args.image.now))

pub returns-in-Err-clause-raises : goal.returns-in-Err-clause-raises
returns-in-Err-clause-raises g c = omega arith
