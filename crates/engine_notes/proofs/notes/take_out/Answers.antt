-- The ticket goes from where the search says, or is nowhere.
use Rattle.std.proofs.Common.{◌≡◌, OnSome, Some, Option, sym, subst, ◌∙◌, arith}
use Rattle.std.proofs.lemmas.Bool.Decides.{nat_tests}
use Rattle.std.proofs.lemmas.Bool.{false≢true}
use Rattle.engine_notes.specs.declared.notes.Note.{Note}
use Rattle.engine_notes.proofs.Rising.{new_note, taken_out, none_out, lacks}
use Rattle.engine_notes.proofs.notes.take_out.Goals as goal

-- what holds where one was taken out holds
held : (P : Type 0) (r : Option Note) (n : Note) → r ≡ Some n → OnSome r P → P
held P r n e h = subst (λ (q : Option Note). OnSome q P) e h

pub returns-then-is_at-clause-items : goal.returns-then-is_at-clause-items
returns-then-is_at-clause-items c = grind (arith, nat_tests, held, new_note, taken_out)

pub returns-else-is_at-clause-items : goal.returns-else-is_at-clause-items
returns-else-is_at-clause-items c = none_out c.args.ticket c.args.notes.now.items (lacks c.args.ticket c.args.notes.now.items c.place_of-at.result c.requires c.place_of-at.ensures.below c.place_of-at.ensures.above (λ n is same. false≢true (sym c.if-is_at.false ∙ c.is_at.ensures.other n is same)))
