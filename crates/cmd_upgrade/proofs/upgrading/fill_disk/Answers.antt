-- The new disk was mounted and filled, or not mounted.
use Rattle.std.proofs.Common.{None, arith}
use Rattle.engine_store.specs.StoreOf.{state_of}
use Rattle.fs_commands.specs.Opened.{blocks_in}
use Rattle.cmd_image.specs.Lent.{disk_of}
use Rattle.cmd_upgrade.proofs.Keeping.{stays_here}
use Rattle.cmd_upgrade.proofs.Opened.{just_mounted}
use Rattle.cmd_upgrade.proofs.Returned.{unopened_new}
use Rattle.cmd_upgrade.proofs.upgrading.fill_disk.Goals as goal

pub returns-in-Ok-clause-fills : goal.returns-in-Ok-clause-fills
returns-in-Ok-clause-fills g c = λ first t looked whole formatted.
    let begun = g.B.D.Disk.state (disk_of c.args.disk) in
    c.fill_store.ensures.fills begun first t (just_mounted g.B.Bay.tells begun (state_of (λ lent. g.B.D.Disk.state (disk_of lent)) c.in-Ok.store) c.in-Ok.ensures.mounted c.in-Ok.ensures.begins c.in-Ok.ensures.numbers) c.requires.fresh.nothing looked whole formatted

pub returns-in-Err-clause-fills : goal.returns-in-Err-clause-fills
returns-in-Err-clause-fills g c = λ first t looked whole formatted.
    unopened_new g.B.Bay.tells t (state_of (λ lent. g.B.D.Disk.state (disk_of lent)) (blocks_in c.args.image.now)) c.args.geom.now (g.B.D.Disk.state (disk_of c.args.disk)) (g.B.D.Disk.state (disk_of c.in-Err.disk)) formatted
    c.an_image_has_one_answer.ensures.spent c.in-Err.why c.of_new.result c.of_new.ensures c.in-Err.ensures.silent (c.in-Err.ensures.refused None)

pub returns-in-Err-clause-stays : goal.returns-in-Err-clause-stays
returns-in-Err-clause-stays g c = λ told first t looked. looked

pub returns-in-Err-clause-keeps : goal.returns-in-Err-clause-keeps
returns-in-Err-clause-keeps g c = stays_here g.B.Bay.tells (state_of (λ lent. g.B.D.Disk.state (disk_of lent)) (blocks_in c.args.image.now))

pub returns-in-Err-clause-raises : goal.returns-in-Err-clause-raises
returns-in-Err-clause-raises g c = omega arith
