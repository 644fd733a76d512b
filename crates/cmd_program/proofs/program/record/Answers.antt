-- Where no memory is found before the mount has ended, nothing is written.
use Rattle.std.proofs.Common.{subst}
use Rattle.cmd_host.specs.Disks.{setting_on}
use Rattle.cmd_host.specs.Mounting.{Mounts}
use Rattle.cmd_host.specs.declared.mounting.Mounted.{Mounted}
use Rattle.cmd_program.proofs.ProgramLemmas.{never_begun}
use Rattle.cmd_program.proofs.program.record.Goals as goal

pub returns-in-Err-clause-records : goal.returns-in-Err-clause-records
returns-in-Err-clause-records g c = never_begun (setting_on c.args.geom.now c.args.behaviour.now) _ _ _ _

pub returns-in-Ok-Failed-clause-records : goal.returns-in-Ok-Failed-clause-records
returns-in-Ok-Failed-clause-records g c = c.tell_failed_mount.ensures.records (setting_on c.args.geom.now c.args.behaviour.now).manner _ _ (subst (λ (x : Mounted). Mounts (setting_on c.args.geom.now c.args.behaviour.now) x) c.in-Ok-Failed.field-0-is c.in-Ok-Failed.ensures)

pub record_on-requires : goal.record_on-requires
record_on-requires g c = record { opened = ((setting_on c.args.geom.now c.args.behaviour.now).manner, subst (λ (x : Mounted). Mounts (setting_on c.args.geom.now c.args.behaviour.now) x) c.in-Ok-Opened.field-0-is c.in-Ok-Opened.ensures) }

pub returns-in-Ok-Opened-clause-records : goal.returns-in-Ok-Opened-clause-records
returns-in-Ok-Opened-clause-records g c = c.record_on.ensures.records (setting_on c.args.geom.now c.args.behaviour.now).manner (subst (λ (x : Mounted). Mounts (setting_on c.args.geom.now c.args.behaviour.now) x) c.in-Ok-Opened.field-0-is c.in-Ok-Opened.ensures)
