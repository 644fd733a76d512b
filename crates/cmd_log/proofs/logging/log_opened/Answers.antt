use Rattle.std.proofs.Common.{ap, Result, sym, ◌∙◌}
use Rattle.base_types.specs.Counts.{after_call}
use Rattle.fs_commands.specs.Opened.{blocks_in}
use Rattle.cmd_image.specs.declared.ending.Ending.{Ending}
use Rattle.cmd_log.specs.declared.refusal.LogRunRefusal.{LogRunRefusal}
use Rattle.cmd_log.specs.Logs.{log_fails_pushing}
use Rattle.cmd_log.proofs.Finishing.{opened_by, ran_back}
use Rattle.cmd_log.proofs.logging.log_opened.Goals as goal

pub returns-clause-comes : goal.returns-clause-comes
returns-clause-comes g c = λ first h.
    ran_back g.D.Disk.state g.D.Disk.tells first c.into_parts-store.result.0 (blocks_in c.serve_all-ended.new.running.logged.fs) c.into_parts-store.result.1.items c.serve_all-ended.new.running.marks.items c.disk_back.result c.serve_all-ended.result c.answer_for.result _ _
    c.disk_back.ensures.size c.disk_back.ensures.disk c.into_parts-store.ensures.store (ap (λ v. v.items) c.into_parts-store.ensures.marks) c.answer_for.ensures (c.serve_all-ended.ensures.runs first h)

pub returns-clause-counts : goal.returns-clause-counts
returns-clause-counts g c =
    let counts = c.serve_all-ended.ensures.counts in
    record { source = counts.source; rises = counts.rises; sink = counts.sink ∙ ap (λ (a : Result Ending LogRunRefusal). after_call (log_fails_pushing a) (g.K.Sink.faults c.args.out.now)) (sym c.answer_for.ensures) }

pub returns-clause-opened : goal.returns-clause-opened
returns-clause-opened g c = (opened_by c.serve_all-ended.result c.answer_for.result c.answer_for.ensures).0

pub returns-clause-said : goal.returns-clause-said
returns-clause-said g c = (opened_by c.serve_all-ended.result c.answer_for.result c.answer_for.ensures).1
