use Rattle.std.proofs.Common.{true, false, refl, ◌∙◌}
use Rattle.disk_mirror.specs.MirrorOf.{first_in, second_in, state_of}
use Rattle.cmd_image.specs.Lent.{disk_of}
use Rattle.cmd_mirror.specs.Sides.{first_course, second_course}
use Rattle.cmd_mirror.proofs.Begins.{along, both_tell, parts}
use Rattle.cmd_mirror.proofs.mirrored.part.Goals as goal

pub returns-in-Ok-clause-goes : goal.returns-in-Ok-clause-goes
returns-in-Ok-clause-goes g c = λ room.
    let m = c.args.left.disk in
    parts (λ lent. g.B.D.Disk.state (disk_of lent)) g.B.Bay.tells true (first_course m) (second_course m) (state_of (λ lent. g.B.D.Disk.state (disk_of lent)) (λ lent. g.B.D.Disk.state (disk_of lent)) m) (first_in m) (second_in m)
    c.into_disks-first.result.0 c.into_disks-first.result.1 c.args.left.marks.items c.in-Ok.first_marks.items c.in-Ok.second_marks.items c.args.left.answer c.of_run.result c.into_disks-first.ensures.0 c.into_disks-first.ensures.1
    c.a_disk_of_a_mirror_goes_back.ensures refl c.alike.ensures.size (λ t. c.moments.ensures.first (both_tell g.B.Bay.tells t)) (λ t. c.moments.ensures.second (both_tell g.B.Bay.tells t)) c.causes.ensures.first c.causes.ensures.second
    room c.causes.ensures.own (along (first_course m) (g.B.D.Disk.state (disk_of (first_in m))) c.in-Ok.first_marks.items c.as_slice.result.now c.args.left.marks.items c.in-Ok.ensures.first c.as_slice.ensures.value)
    (along (second_course m) (g.B.D.Disk.state (disk_of (second_in m))) c.in-Ok.second_marks.items c.as_slice.result.now c.args.left.marks.items c.in-Ok.ensures.second c.as_slice.ensures.value) c.of_run.ensures

pub returns-clause-goes : goal.returns-clause-goes
returns-clause-goes g c = λ room.
    let m = c.args.left.disk in
    parts (λ lent. g.B.D.Disk.state (disk_of lent)) g.B.Bay.tells false (first_course m) (second_course m) (state_of (λ lent. g.B.D.Disk.state (disk_of lent)) (λ lent. g.B.D.Disk.state (disk_of lent)) m) (first_in m) (second_in m)
    c.into_disks-first.result.0 c.into_disks-first.result.1 c.args.left.marks.items c.new.result.items c.new-in-Err.result.items c.args.left.answer c.of_run-in-Err.result c.into_disks-first.ensures.0 c.into_disks-first.ensures.1
    c.a_disk_of_a_mirror_goes_back.ensures refl c.alike.ensures.size (λ t. c.moments.ensures.first (both_tell g.B.Bay.tells t)) (λ t. c.moments.ensures.second (both_tell g.B.Bay.tells t)) c.causes.ensures.first c.causes.ensures.second
    room c.causes.ensures.own c.new.ensures.items c.new-in-Err.ensures.items (c.of_run-in-Err.ensures ∙ c.without_marks.ensures)
