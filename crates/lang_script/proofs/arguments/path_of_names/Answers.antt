use Rattle.std.proofs.Common.{◌≡◌, ◌∙◌, ap, refl, rules, [], ◌∷◌, ◌++◌, get_or, false}
use Rattle.base_types.specs.Name.{is_name}
use Rattle.lang_script.proofs.Steps.{part_more, unlawful_part}
use Rattle.lang_script.proofs.arguments.path_of_names.Goals as goal

pub returns-in_default : goal.returns-in_default
returns-in_default c =
    let found : is_name (get_or c.args.parts.now c.loop-part.part-index record { ref_ptr = (0, 0); now = [] }).now ≡ false = search (rules, c.in_default.ensures.found) in
    rw (unlawful_part c.args.parts.now c.loop-part.part-index record { ref_ptr = (0, 0); now = [] } c.loop-part-test.true found) refl

pub loop-part-preserved : goal.loop-part-preserved
loop-part-preserved c =
    let kept = part_more c.args.parts.now c.loop-part.part-index record { ref_ptr = (0, 0); now = [] } c.loop-part.names.items
    c.loop-part-test.true c.loop-part.invariant.0 c.loop-part.invariant.1 (c.in-Some.ensures.found.0 refl) in
    (c.in_ok-push.ensures.items ∙ ap (λ x. c.loop-part.names.items ++ x ∷ []) c.in-Some.ensures.value ∙ kept.0, kept.1)
