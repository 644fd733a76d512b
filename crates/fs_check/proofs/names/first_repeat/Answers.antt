use Rattle.std.proofs.Common.{◌≡◌, true, get_or, take, sym, ap, ◌∙◌, subst, ◌⊎◌}
use Rattle.std.specs.BTreeSet.{contains}
use Rattle.std.specs.Ordering.{nat_cmp}
use Rattle.std.specs.Cmp.Lexicographic.{slice_cmp}
use Rattle.std.proofs.lemmas.Bool.{not-false, not-true}
use Rattle.std.proofs.lemmas.List.{take_more}
use Rattle.std.proofs.lemmas.Option.{slice_get-get_or}
use Rattle.layout_bytes.specs.declared.slot.Slot.{Slot}
use Rattle.fs_check.specs.Slots.{HasNames}
use Rattle.fs_check.proofs.Distinct.{repeats, names_more, keeps_on, came_from}
use Rattle.fs_check.proofs.names.first_repeat.Goals as goal

pub returns-then-not-branch-clause-repeats : goal.returns-then-not-branch-clause-repeats
returns-then-not-branch-clause-repeats c =
    let slots = c.args.slots.now in
    let place = c.loop-place.place in
    let s : Slot = get_or slots place c.index-slots-place.result in
    let has = contains (slice_cmp nat_cmp) c.loop-place.names in
    repeats slots place s has (slice_get-get_or slots place c.index-slots-place.result c.loop-place-test.true) c.loop-place.invariant
    (ap has (sym c.copy.ensures) ∙ not-false (has c.copy.result) (sym c.in_ok-insert.ensures.added ∙ c.if-not-branch.true))

pub loop-place-preserved : goal.loop-place-preserved
loop-place-preserved c =
    let slots = c.args.slots.now in
    let place = c.loop-place.place in
    let s : Slot = get_or slots place c.index-slots-place.result in
    let has = contains (slice_cmp nat_cmp) c.loop-place.names in
    let new = contains (slice_cmp nat_cmp) c.insert.new.self in
    let same : c.copy.result ≡ s.name = c.copy.ensures in
    subst (λ xs. HasNames xs new) (sym (take_more slots place c.index-slots-place.result c.loop-place-test.true))
    (names_more (take place slots) s has new c.loop-place.invariant
    (ap has (sym same) ∙ not-true (has c.copy.result) (sym c.in_ok-insert.ensures.added ∙ c.if-not-branch.false))
    (ap new (sym same) ∙ c.in_ok-insert.ensures.updates.1)
    (λ q e. c.in_ok-insert.ensures.updates.0 q ∙ keeps_on _ (has q) e)
    (λ q e. subst (λ k. (has q ≡ true) ⊎ (k ≡ q)) same (came_from c.copy.result q (has q) (sym (c.in_ok-insert.ensures.updates.0 q) ∙ e))))
