-- The ticket is there, or goes where the search says.
use Rattle.std.proofs.Common.{◌≡◌, OnOk, Ok, Result, sym, subst, ◌∙◌}
use Rattle.std.proofs.lemmas.Bool.{false≢true}
use Rattle.engine_notes.proofs.Rising.{put_new, put_again}
use Rattle.engine_notes.proofs.notes.put_in.Goals as goal

pub returns-then-is_at-clause-items : goal.returns-then-is_at-clause-items
returns-then-is_at-clause-items c =
    let there = c.is_at.ensures.there c.if-is_at.true in
    put_again c.args.ticket c.args.notes.now.items c.place_of-at.result there.1 c.place_of-at.ensures.below there.2

-- what holds on success holds
held : {A E : Type 0} (P : Type 0) (r : Result A E) (a : A) → r ≡ Ok a → OnOk r P → P
held {A = A} {E = E} P r a e h = subst (λ (q : Result A E). OnOk q P) e h

pub returns-clause-items : goal.returns-clause-items
returns-clause-items c = held _ c.insert.result _ c.unwrap.ensures c.insert.ensures.items
    ∙ put_new c.args.ticket c.args.notes.now.items c.place_of-at.result c.place_of-at.ensures.bound.1 c.place_of-at.ensures.below c.place_of-at.ensures.above (λ n is same. false≢true (sym c.if-is_at.false ∙ c.is_at.ensures.other n is same))
