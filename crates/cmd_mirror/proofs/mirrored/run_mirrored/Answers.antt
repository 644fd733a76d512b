use Rattle.std.proofs.Common.{Err, ap}
use Rattle.cmd_image.specs.Lent.{disk_of}
use Rattle.cmd_image.specs.Refusals.{run_refusal_of_bay}
use Rattle.cmd_image.specs.Runs.{Streams}
use Rattle.cmd_mirror.specs.declared.refusal.MirroredRefusal.{MirroredRefusal}
use Rattle.cmd_mirror.specs.declared.refusal.MirroredRefusal.TheVariants.{Run}
use Rattle.cmd_mirror.proofs.Lends.{SaysUnmirrored, lent_one, no_mirror_by, opened_state, opens_both, refused_state, unmirrored_by}
use Rattle.cmd_mirror.proofs.RunBays.{SaysMirrored, says_mirrored_by}
use Rattle.cmd_mirror.proofs.mirrored.run_mirrored.Given.{Over}
use Rattle.cmd_mirror.proofs.mirrored.run_mirrored.Goals as goal
use Rattle.cmd_mirror.proofs.mirrored.run_mirrored.Goals.{After-close_both, After-drop-marks-in-Err, After-drop-marks-in-Err-mirror_of}

-- One disk was handed out.

refused : (g : Over) (c : After-drop-marks-in-Err g) → SaysUnmirrored g.B.Bay.tells c.args.name.now c.args.other.now (Err c.into.result) (g.B.Bay.state c.args.bay.now) (g.B.Bay.state c.close_unused.new.bay)
    (record { left = g.S.Source.remaining c.args.input.now; source_faults = g.S.Source.faults c.args.input.now; taken = g.K.Sink.taken c.args.out.now; sink_faults = g.K.Sink.faults c.args.out.now })
refused g c = unmirrored_by g.B.Bay.tells c.args.name.now c.args.other.now (Err c.into.result) (Run (run_refusal_of_bay c.in-Err.fault)) (g.B.Bay.state c.args.bay.now) (g.B.Bay.state c.close_unused.new.bay) _ (ap (λ (why : MirroredRefusal). Err why) c.into.ensures)
    (lent_one g.B.Bay.tells c.args.name.now c.args.other.now (g.B.D.Disk.state (disk_of c.in_ok-first.first)) c.in-Err.fault c.close_unused.ensures.0 (g.B.Bay.state c.args.bay.now) (g.B.Bay.state c.open_lent.new.bay) (g.B.Bay.state c.open_lent-2.new.bay) (g.B.Bay.state c.close_unused.new.bay) _
    (opened_state (λ lent. g.B.D.Disk.state (disk_of lent)) g.B.Bay.tells c.args.name.now c.in_ok-first.first (g.B.Bay.state c.args.bay.now) (g.B.Bay.state c.open_lent.new.bay) c.in_ok-first.ensures)
    (refused_state (λ lent. g.B.D.Disk.state (disk_of lent)) g.B.Bay.tells c.args.other.now c.in-Err.fault (g.B.Bay.state c.open_lent.new.bay) (g.B.Bay.state c.open_lent-2.new.bay) c.in-Err.ensures) c.close_unused.ensures.1)

pub returns-in-Err-clause-reason : goal.returns-in-Err-clause-reason
returns-in-Err-clause-reason g c = (refused g c).reason

-- Two disks were handed out, and made no mirror.

apart : (g : Over) (c : After-drop-marks-in-Err-mirror_of g) → SaysUnmirrored g.B.Bay.tells c.args.name.now c.args.other.now c.close_both-in-Err-mirror_of.result (g.B.Bay.state c.args.bay.now) (g.B.Bay.state c.close_both-in-Err-mirror_of.new.bay)
    (record { left = g.S.Source.remaining c.args.input.now; source_faults = g.S.Source.faults c.args.input.now; taken = g.K.Sink.taken c.args.out.now; sink_faults = g.K.Sink.faults c.args.out.now })
apart g c = let both = c.in-Err-mirror_of.both in
    no_mirror_by g.B.Bay.tells c.args.name.now c.args.other.now (g.B.D.Disk.state (disk_of c.in_ok-first.first)) (g.B.D.Disk.state (disk_of both.first)) (g.B.D.Disk.state (disk_of c.in-Ok.second)) (g.B.D.Disk.state (disk_of both.second)) both.first_marks.items both.second_marks.items both.answer
    c.close_both-in-Err-mirror_of.result (g.B.Bay.state c.args.bay.now) (g.B.Bay.state c.open_lent-2.new.bay) (g.B.Bay.state c.close_both-in-Err-mirror_of.new.bay) _
    (opens_both (λ lent. g.B.D.Disk.state (disk_of lent)) g.B.Bay.tells c.args.name.now c.args.other.now c.in_ok-first.first c.in-Ok.second (g.B.Bay.state c.args.bay.now) (g.B.Bay.state c.open_lent.new.bay) (g.B.Bay.state c.open_lent-2.new.bay) c.in_ok-first.ensures c.in-Ok.ensures)
    c.in-Err-mirror_of.ensures.empty.0 c.in-Err-mirror_of.ensures.empty.1 c.in-Err-mirror_of.ensures.none c.close_both-in-Err-mirror_of.ensures.0 c.close_both-in-Err-mirror_of.ensures.1
    (λ t. (c.lawful.ensures t).reads) (λ t. (c.lawful-in-Err-mirror_of.ensures t).reads)

pub returns-in-Err-mirror_of-clause-comes : goal.returns-in-Err-mirror_of-clause-comes
returns-in-Err-mirror_of-clause-comes g c = (apart g c).comes

pub returns-in-Err-mirror_of-clause-cause : goal.returns-in-Err-mirror_of-clause-cause
returns-in-Err-mirror_of-clause-cause g c = (apart g c).cause

pub returns-in-Err-mirror_of-clause-reason : goal.returns-in-Err-mirror_of-clause-reason
returns-in-Err-mirror_of-clause-reason g c = (apart g c).reason

-- A script was run over the mirror of two disks.

-- what is known of the input and of the output, before and after
before : (g : Over) (c : After-close_both g) → Streams
before g c = record { left = g.S.Source.remaining c.args.input.now; source_faults = g.S.Source.faults c.args.input.now; taken = g.K.Sink.taken c.args.out.now; sink_faults = g.K.Sink.faults c.args.out.now }

after : (g : Over) (c : After-close_both g) → Streams
after g c = record { left = g.S.Source.remaining c.run_over-both.new.input; source_faults = g.S.Source.faults c.run_over-both.new.input; taken = g.K.Sink.taken c.run_over-both.new.out; sink_faults = g.K.Sink.faults c.run_over-both.new.out }

whole : (g : Over) (c : After-close_both g) → SaysMirrored g.B.Bay.tells c.args.name.now c.args.other.now c.close_both.result (g.B.Bay.state c.args.bay.now) (g.B.Bay.state c.close_both.new.bay) (before g c) (after g c)
unfolding before after
whole g c = let both = c.run_over-both.result in
    let begin = c.in-Ok-mirror_of.ensures.made in
    says_mirrored_by g.B.Bay.tells c.args.name.now c.args.other.now c.requires (g.B.D.Disk.state (disk_of c.in_ok-first.first)) (g.B.D.Disk.state (disk_of both.first)) (g.B.D.Disk.state (disk_of c.in-Ok.second)) (g.B.D.Disk.state (disk_of both.second)) both.first_marks.items both.second_marks.items both.answer
    (g.B.Bay.state c.args.bay.now) (g.B.Bay.state c.open_lent-2.new.bay) (g.B.Bay.state c.close_both.new.bay) (before g c) (after g c) c.close_both.result
    (opens_both (λ lent. g.B.D.Disk.state (disk_of lent)) g.B.Bay.tells c.args.name.now c.args.other.now c.in_ok-first.first c.in-Ok.second (g.B.Bay.state c.args.bay.now) (g.B.Bay.state c.open_lent.new.bay) (g.B.Bay.state c.open_lent-2.new.bay) c.in_ok-first.ensures c.in-Ok.ensures)
    begin.alike (c.run_over-both.ensures.runs (g.B.D.Disk.state (disk_of c.in_ok-first.first)) (g.B.D.Disk.state (disk_of c.in-Ok.second)) begin) c.close_both.ensures.0 c.close_both.ensures.1

pub returns-in-Ok-mirror_of-clause-comes : goal.returns-in-Ok-mirror_of-clause-comes
unfolding before after
returns-in-Ok-mirror_of-clause-comes g c = (whole g c).comes

pub returns-in-Ok-mirror_of-clause-cause : goal.returns-in-Ok-mirror_of-clause-cause
unfolding before after
returns-in-Ok-mirror_of-clause-cause g c = (whole g c).cause

pub returns-in-Ok-mirror_of-clause-reason : goal.returns-in-Ok-mirror_of-clause-reason
unfolding before after
returns-in-Ok-mirror_of-clause-reason g c = (whole g c).reason
