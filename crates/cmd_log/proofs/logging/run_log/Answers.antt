use Rattle.std.proofs.Common.{Bool, inl, Result, subst, sym, ◌∙◌, ap}
use Rattle.base_types.specs.Counts.{after_call}
use Rattle.cmd_image.specs.Lent.{disk_of}
use Rattle.cmd_image.specs.declared.ending.Ending.{Ending}
use Rattle.cmd_image.specs.Runs.{Streams}
use Rattle.cmd_log.specs.declared.refusal.LogRunRefusal.{LogRunRefusal}
use Rattle.cmd_image.specs.Shared.{fresh}
use Rattle.cmd_log.proofs.LogBays.{LogsBay, logs_bay, unasked_by, unlent_by}
use Rattle.cmd_log.proofs.logging.run_log.Given.{Over}
use Rattle.cmd_log.proofs.logging.run_log.Goals as goal
use Rattle.cmd_log.proofs.logging.run_log.Goals.{After-close_log}

-- what is known of the input and of the output, before and after
before : (g : Over) (c : After-close_log g) → Streams
before g c = record { left = g.S.Source.remaining c.args.input.now; source_faults = g.S.Source.faults c.args.input.now; taken = g.K.Sink.taken c.args.out.now; sink_faults = g.K.Sink.faults c.args.out.now }

after : (g : Over) (c : After-close_log g) → Streams
after g c = record { left = g.S.Source.remaining c.log_disk-left.new.input; source_faults = g.S.Source.faults c.log_disk-left.new.input; taken = g.K.Sink.taken c.log_disk-left.new.out; sink_faults = g.K.Sink.faults c.log_disk-left.new.out }

-- all that is said of the disk that was handed out
whole : (g : Over) (c : After-close_log g) → LogsBay g.B.Bay.tells c.args.name.now c.log_disk-left.result.answer c.close_log.result (g.B.Bay.state c.args.bay.now) (g.B.Bay.state c.close_log.new.bay) (before g c) (after g c)
unfolding before after
whole g c =
    let close = c.close_log.ensures in
    subst (λ (r : Result Ending LogRunRefusal). LogsBay g.B.Bay.tells c.args.name.now c.log_disk-left.result.answer r (g.B.Bay.state c.args.bay.now) (g.B.Bay.state c.close_log.new.bay) (before g c) (after g c)) (sym close.2)
    (logs_bay (λ lent. g.B.D.Disk.state (disk_of lent)) g.B.Bay.tells c.args.name.now (g.B.Bay.state c.args.bay.now) (g.B.Bay.state c.open_lent.new.bay) (g.B.Bay.state c.close_log.new.bay) c.in_ok-disk.disk c.log_disk-left.result.disk c.log_disk-left.result.marks.items
    (before g c) (after g c) c.in_ok-disk.ensures (λ t. (c.lawful.ensures t).reads) c.log_disk-left.result.answer close.0 c.log_disk-left.ensures.comes close.1)

pub returns-clause-comes : goal.returns-clause-comes
unfolding before after
returns-clause-comes g c = (whole g c).comes

pub returns-clause-cause : goal.returns-clause-cause
unfolding before after
returns-clause-cause g c = (whole g c).cause

pub returns-clause-reason : goal.returns-clause-reason
unfolding before after
returns-clause-reason g c = (whole g c).reason

pub returns-clause-counts : goal.returns-clause-counts
unfolding before after
returns-clause-counts g c =
    let counts = c.log_disk-left.ensures.counts in
    record { source = counts.source; rises = counts.rises; sink = counts.sink ∙ ap (λ (b : Bool). after_call b (g.K.Sink.faults c.args.out.now)) (sym (whole g c).pushing) }

pub returns-clause-unread : goal.returns-clause-unread
unfolding before after
returns-clause-unread g c = λ is. c.log_disk-left.ensures.unread (sym (whole g c).opened ∙ is)

pub returns-clause-silent : goal.returns-clause-silent
unfolding before after
returns-clause-silent g c = λ is. c.log_disk-left.ensures.silent (sym (whole g c).said ∙ is)

pub log_disk-left-requires-clause-fresh : goal.log_disk-left-requires-clause-fresh
log_disk-left-requires-clause-fresh g c = fresh (λ lent. g.B.D.Disk.state (disk_of lent)) g.B.Bay.tells c.args.name.now c.in_ok-disk.disk (g.B.Bay.state c.args.bay.now) (g.B.Bay.state c.open_lent.new.bay) c.in_ok-disk.ensures

pub returns-in_err-marks-clause-comes : goal.returns-in_err-marks-clause-comes
returns-in_err-marks-clause-comes g c = (unasked_by g.B.Bay.tells c.from_residual.result c.args.name.now (g.B.Bay.state c.args.bay.now) _ c.from_residual.ensures.1).comes

pub returns-in_err-marks-clause-cause : goal.returns-in_err-marks-clause-cause
returns-in_err-marks-clause-cause g c = (unasked_by g.B.Bay.tells c.from_residual.result c.args.name.now (g.B.Bay.state c.args.bay.now) (record { left = g.S.Source.remaining c.args.input.now; source_faults = g.S.Source.faults c.args.input.now; taken = g.K.Sink.taken c.args.out.now; sink_faults = g.K.Sink.faults c.args.out.now }) c.from_residual.ensures.1).cause

pub returns-in_err-marks-clause-reason : goal.returns-in_err-marks-clause-reason
returns-in_err-marks-clause-reason g c = λ t is. inl ((unasked_by g.B.Bay.tells c.from_residual.result c.args.name.now (g.B.Bay.state c.args.bay.now) (record { left = g.S.Source.remaining c.args.input.now; source_faults = g.S.Source.faults c.args.input.now; taken = g.K.Sink.taken c.args.out.now; sink_faults = g.K.Sink.faults c.args.out.now }) c.from_residual.ensures.1).reason t is)

pub returns-in_err-marks-clause-counts : goal.returns-in_err-marks-clause-counts
returns-in_err-marks-clause-counts g c = (unasked_by g.B.Bay.tells c.from_residual.result c.args.name.now (g.B.Bay.state c.args.bay.now) _ c.from_residual.ensures.1).counts

pub returns-in_err-disk-clause-comes : goal.returns-in_err-disk-clause-comes
returns-in_err-disk-clause-comes g c = (unlent_by (λ lent. g.B.D.Disk.state (disk_of lent)) g.B.Bay.tells c.from_residual-in_err-disk.result c.args.name.now c.in_err-disk.field-0.0 (g.B.Bay.state c.args.bay.now) (g.B.Bay.state c.open_lent.new.bay) _ c.from_residual-in_err-disk.ensures.1 c.in_err-disk.ensures).comes

pub returns-in_err-disk-clause-cause : goal.returns-in_err-disk-clause-cause
returns-in_err-disk-clause-cause g c = (unlent_by (λ lent. g.B.D.Disk.state (disk_of lent)) g.B.Bay.tells c.from_residual-in_err-disk.result c.args.name.now c.in_err-disk.field-0.0 (g.B.Bay.state c.args.bay.now) (g.B.Bay.state c.open_lent.new.bay) (record { left = g.S.Source.remaining c.args.input.now; source_faults = g.S.Source.faults c.args.input.now; taken = g.K.Sink.taken c.args.out.now; sink_faults = g.K.Sink.faults c.args.out.now }) c.from_residual-in_err-disk.ensures.1 c.in_err-disk.ensures).cause

pub returns-in_err-disk-clause-reason : goal.returns-in_err-disk-clause-reason
returns-in_err-disk-clause-reason g c = λ t is. inl ((unlent_by (λ lent. g.B.D.Disk.state (disk_of lent)) g.B.Bay.tells c.from_residual-in_err-disk.result c.args.name.now c.in_err-disk.field-0.0 (g.B.Bay.state c.args.bay.now) (g.B.Bay.state c.open_lent.new.bay) (record { left = g.S.Source.remaining c.args.input.now; source_faults = g.S.Source.faults c.args.input.now; taken = g.K.Sink.taken c.args.out.now; sink_faults = g.K.Sink.faults c.args.out.now }) c.from_residual-in_err-disk.ensures.1 c.in_err-disk.ensures).reason t is)

pub returns-in_err-disk-clause-counts : goal.returns-in_err-disk-clause-counts
returns-in_err-disk-clause-counts g c = (unlent_by (λ lent. g.B.D.Disk.state (disk_of lent)) g.B.Bay.tells c.from_residual-in_err-disk.result c.args.name.now c.in_err-disk.field-0.0 (g.B.Bay.state c.args.bay.now) (g.B.Bay.state c.open_lent.new.bay) _ c.from_residual-in_err-disk.ensures.1 c.in_err-disk.ensures).counts
