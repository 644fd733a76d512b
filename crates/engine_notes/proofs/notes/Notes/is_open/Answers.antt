-- The note of the ticket tells, or there is none.
use Rattle.std.proofs.Common.{ap, ◌∙◌, refl, arith}
use Rattle.std.proofs.lemmas.Bool.Decides.{nat_tests}
use Rattle.engine_notes.specs.Notes.{Expected, is_open}
use Rattle.engine_notes.proofs.Open.{open_at, closed}
use Rattle.engine_notes.proofs.notes.Notes.is_open.Goals as goal

pub returns-in-Some : goal.returns-in-Some
returns-in-Some c = grind (arith, nat_tests, open_at)

pub returns-in-None : goal.returns-in-None
returns-in-None c = closed c.args.ticket c.self.inside.notes.items (c.in-None.ensures.none refl) ∙ ap (λ (e : Expected). is_open c.args.ticket e.notes) c.self.view_is
