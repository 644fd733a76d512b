use Rattle.std.proofs.Common.{[], ◌∷◌, set, true, refl, sym, ◌∙◌, subst, arith, inl, inr}
use Rattle.std.proofs.lemmas.List.{append-nil}
use Rattle.fs_check.specs.Marks.{Marks}
use Rattle.fs_check.proofs.Marking.{marks_new}
use Rattle.fs_check.proofs.reach.mark.Goals as goal

pub returns-in_ok-push : goal.returns-in_ok-push
returns-in_ok-push c =
    let n = c.args.node in
    subst (λ q. Marks c.args.nodes.now (n ∷ []) c.args.marks.now (set c.args.marks.now n true) c.args.queue.now.items q) (sym c.in_ok-push.ensures.items)
    (marks_new c.args.nodes.now n c.args.marks.now c.args.queue.now.items (n ∷ []) (omega arith) c.if-marks-place.false (λ _. refl) (inr ((c.in-Directory.field-0, sym c.seen.ensures ∙ c.in-Directory.is), refl)))

pub returns-in_default : goal.returns-in_default
returns-in_default c =
    let n = c.args.node in
    subst (λ q. Marks c.args.nodes.now (n ∷ []) c.args.marks.now (set c.args.marks.now n true) c.args.queue.now.items q) (append-nil c.args.queue.now.items)
    (marks_new c.args.nodes.now n c.args.marks.now c.args.queue.now.items [] (omega arith) c.if-marks-place.false (λ d. absurd (c.in_default.not-Directory d.0 (c.seen.ensures ∙ d.1))) (inl refl))
