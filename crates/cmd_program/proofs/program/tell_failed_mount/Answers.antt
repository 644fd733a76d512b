-- What is told of a mount that failed.
use Rattle.std.proofs.Common.{refl}
use Rattle.cmd_program.proofs.ProgramLemmas.{tells_disk, head_broke}
use Rattle.cmd_program.proofs.program.tell_failed_mount.Goals as goal

pub returns-in-Err-clause-records : goal.returns-in-Err-clause-records
returns-in-Err-clause-records g c = λ m left source failed.
    let front = c.in-Err.ensures.front in
    head_broke (record { shape = c.args.geom.now; manner = m }) c.args.disk.now left _ _ source front.0 c.lawful.ensures.limits (c.the_formatted_disk_stands_for_the_root.ensures.image c.args.geom.now c.lawful.ensures.fits) failed front.1

pub returns-in-Ok-clause-records : goal.returns-in-Ok-clause-records
returns-in-Ok-clause-records g c = λ m left source failed.
    tells_disk (record { shape = c.args.geom.now; manner = m }) c.args.disk.now _ left _ _ _ source _ _ _ c.lawful.ensures.limits (c.the_formatted_disk_stands_for_the_root.ensures.image c.args.geom.now c.lawful.ensures.fits) failed refl c.in-Ok.ensures.all c.tell.ensures.told
