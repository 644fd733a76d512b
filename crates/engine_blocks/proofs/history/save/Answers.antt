use Rattle.std.proofs.Common.{◌≡◌, ◌∙◌, ◌+◌, ◌++◌, ◌∷◌, [], sym, subst, ap, arith, length, slice_set, slice_index}
use Rattle.engine_blocks.specs.History.{points_of, AreSaved}
use Rattle.engine_blocks.proofs.Histories.{points_kept, points_stay, saves_one}
use Rattle.engine_blocks.proofs.history.save.Goals as goal

pub returns-then-places-b-clause-points : goal.returns-then-places-b-clause-points
returns-then-places-b-clause-points c = λ now starts x is upto.
    points_stay c.args.saved.now.items now starts c.args.last (slice_index c.args.places.now c.args.b) c.args.b x c.if-places-b.true (c.requires.saves.since c.args.b c.if-places-b.true) upto

pub returns-clause-points : goal.returns-clause-points
returns-clause-points c = λ now starts x is upto.
    ap (λ ss. points_of ss (slice_set now c.args.b x) starts) c.push_reserved.ensures.items
    ∙ points_kept c.args.saved.now.items now starts c.args.b x c.args.block.now is (λ p low. omega (arith, upto p low, c.requires.saves.last_in))

pub returns-clause-saves : goal.returns-clause-saves
returns-clause-saves c =
    let saved = c.args.saved.now.items in
    let more = saved ++ record { block = c.args.b; bytes = c.args.block.now } ∷ [] in
    let count : c.len.result ≡ length saved + 1 = omega (arith, c.len.ensures, c.push_reserved.ensures.len, c.args.saved.now.ok) in
    subst (λ ss. AreSaved ss c.args.last (slice_set c.args.places.now c.args.b c.len.result)) (sym c.push_reserved.ensures.items)
    (subst (λ n. AreSaved more c.args.last (slice_set c.args.places.now c.args.b n)) (sym count)
    (saves_one saved c.args.last c.args.b c.args.block.now c.args.places.now c.requires.within c.requires.saves))
