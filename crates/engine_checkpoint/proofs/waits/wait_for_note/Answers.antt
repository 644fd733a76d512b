-- The ticket isn't open any more, so it is noticed, as it is expected.
use Rattle.std.proofs.Common.{◌≡◌, ◌∙◌, true, refl, ap, sym}
use Rattle.engine_notes.specs.Notes.{is_open}
use Rattle.engine_checkpoint.proofs.HeardRecords.{hears_as, hears_nothing}
use Rattle.engine_checkpoint.proofs.Hears.{heard_at}
use Rattle.engine_checkpoint.proofs.Spent.{on_ok}
use Rattle.engine_checkpoint.proofs.waits.wait_for_note.Goals as goal

pub returns-in-Some-clause-noticed : goal.returns-in-Some-clause-noticed
returns-in-Some-clause-noticed g c = on_ok c.wait_where_open.result c.wait_where_open.ensures.closed
    (λ closed n is. heard_at c.args.pipeline.now.notes.notes c.wait_where_open.new.pipeline.notes.notes c.args.at c.in-Some.note n (sym c.get.ensures ∙ c.in-Some.is) is c.wait_where_open.ensures.hears.tickets closed)

pub returns-in-Some-clause-only : goal.returns-in-Some-clause-only
returns-in-Some-clause-only g c = λ tells alone. hears_as (λ u. is_open u c.args.pipeline.now.notes.notes ≡ true) (λ u. (u ≡ c.in-Some.note.ticket) × (is_open c.in-Some.note.ticket c.args.pipeline.now.notes.notes ≡ true)) c.wait_where_open.result (g.D.Disk.state c.args.disk.now).log (g.D.Disk.state c.wait_where_open.new.disk).log c.wait_where_open.new.pipeline.notes.notes
    (λ u own. ap (λ t. is_open t c.args.pipeline.now.notes.notes) own.0 ∙ own.1) (c.wait_where_open.ensures.only tells alone)

pub returns-in-None-clause-only : goal.returns-in-None-clause-only
returns-in-None-clause-only g c = λ tells alone. hears_nothing (λ u. is_open u c.args.pipeline.now.notes.notes ≡ true) _ _ _ c.args.pipeline.now.notes.notes refl
