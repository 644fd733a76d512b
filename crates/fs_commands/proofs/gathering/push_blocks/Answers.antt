use Rattle.std.proofs.Common.{◌≡◌, ◌+◌, ◌++◌, ◌∷◌, [], suc, take, sym, ap, ◌∙◌, take-suc, append_assoc, arith}
use Rattle.std.proofs.lemmas.Option.{get_or_from_slice_get}
use Rattle.fs_commands.proofs.gathering.push_blocks.Goals as goal

pub loop-i-preserved : goal.loop-i-preserved
loop-i-preserved c =
    let bs = c.args.blocks.now in
    let i = c.loop-i.i in
    c.in-Ok.ensures.items ∙ ap (λ xs. xs ++ (c.place.result ∷ [])) c.loop-i.invariant ∙ append_assoc c.args.list.now.items (take i bs) (c.place.result ∷ [])
    ∙ ap (λ b. c.args.list.now.items ++ (take i bs ++ (b ∷ []))) (sym (get_or_from_slice_get bs i c.place.result 0 c.place.ensures))
    ∙ ap (λ xs. c.args.list.now.items ++ xs) (sym (ap (λ n. take n bs) {x = i + 1} {y = suc i} (omega arith) ∙ take-suc bs i 0 (omega (arith, c.loop-i-test.true, c.count-i-end.ensures.value))))
