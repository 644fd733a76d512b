-- The disk of the log began as the formatted one, so its image is that of the crash.
use Rattle.std.proofs.Common.{ℕ, Ok, sym, subst}
use Rattle.disk_memory.specs.Choice.{GivesImage}
use Rattle.disk_memory.specs.Log.{AreWithin}
use Rattle.disk_memory.specs.MemDisk.{MemDiskState}
use Rattle.cmd_replay.proofs.CrashImages.{leaves, within}
use Rattle.cmd_replay.proofs.replaying.crash_image.Goals as goal

pub of_log-requires-clause-within : goal.of_log-requires-clause-within
of_log-requires-clause-within c = subst (λ (n : ℕ). AreWithin n c.args.log.items) (sym c.in_ok-image.ensures.size) (within c.args.geom.now.n c.args.log.items c.requires.events)

pub returns-clause-image : goal.returns-clause-image
returns-clause-image c =
    leaves c.args.geom.now c.in_ok-image.image c.args.log.items c.args.moment c.args.choice.now c.in_ok-chosen.chosen c.in_ok-image.ensures.size c.in_ok-image.ensures.blocks
    (subst (λ (d : MemDiskState). GivesImage d.base d.log c.args.moment c.args.choice.now (Ok c.in_ok-chosen.chosen)) c.in_ok-disk.ensures c.in_ok-chosen.ensures.image)
