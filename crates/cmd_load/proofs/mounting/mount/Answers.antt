-- What the host says of the session and of its disk.
use Rattle.std.proofs.Common.{refl, sym, subst}
use Rattle.disk_memory.specs.MemDisk.{state_of as disk_state}
use Rattle.engine_store.specs.StoreOf.{state_of}
use Rattle.fs_commands.specs.Opened.{blocks_in}
use Rattle.cmd_host.specs.Behaving.{Setting}
use Rattle.cmd_host.specs.Disks.{setting_on}
use Rattle.cmd_host.specs.Mounting.{Mounts}
use Rattle.cmd_host.specs.declared.mounting.Mounted.{Mounted}
use Rattle.cmd_load.specs.Serving.{Serves}
use Rattle.cmd_load.specs.Summary.{at_first}
use Rattle.cmd_load.proofs.Mounts.{never_failed, opened}
use Rattle.cmd_load.proofs.mounting.mount.Goals as goal

pub returns-in-Ok-Opened-clause-serves : goal.returns-in-Ok-Opened-clause-serves
returns-in-Ok-Opened-clause-serves c =
    let set : Setting = setting_on c.geom.result c.behaviour.result in
    subst (λ fs. Serves at_first 0 (state_of disk_state (blocks_in fs))) (sym c.into_files.ensures.same)
    (opened c.args.seed c.geom.result c.behaviour.result c.geom.ensures c.behaviour.ensures (state_of disk_state (blocks_in c.in-Ok-Opened.served))
    (subst (λ (x : Mounted). Mounts set x) c.in-Ok-Opened.field-0-is c.in-Ok-Opened.ensures))

pub returns-in-Ok-Opened-clause-stands : goal.returns-in-Ok-Opened-clause-stands
returns-in-Ok-Opened-clause-stands c = c.into_files.ensures.follows.stands refl

pub unreachable-requires : goal.unreachable-requires
unreachable-requires c =
    let set : Setting = setting_on c.geom.result c.behaviour.result in
    never_failed c.args.seed c.geom.result c.behaviour.result c.geom.ensures c.behaviour.ensures (disk_state c.in-Ok-Failed.field-0-0)
    (subst (λ (x : Mounted). Mounts set x) c.in-Ok-Failed.field-0-is c.in-Ok-Failed.ensures)
