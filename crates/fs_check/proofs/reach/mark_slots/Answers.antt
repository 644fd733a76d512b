use Rattle.std.proofs.Common.{[], ◌∷◌, get_or, take, sym, subst}
use Rattle.std.proofs.lemmas.List.{map_more}
use Rattle.layout_bytes.specs.declared.slot.Slot.{Slot}
use Rattle.fs_check.specs.Marks.{Marks, targets}
use Rattle.fs_check.proofs.Marking.{marks_more}
use Rattle.fs_check.proofs.reach.mark_slots.Goals as goal

pub loop-place-preserved : goal.loop-place-preserved
loop-place-preserved c =
    let slots = c.args.slots.now in
    let place = c.loop-place.place in
    let s : Slot = get_or slots place c.index-slots-place.result in
    subst (λ ns. Marks c.args.nodes.now ns c.args.marks.now c.mark.new.marks c.args.queue.now.items c.mark.new.queue.items) (sym (map_more (λ (t : Slot). t.node) slots place c.index-slots-place.result c.loop-place-test.true))
    (marks_more c.args.nodes.now (targets (take place slots)) (s.node ∷ []) c.args.marks.now c.loop-place.marks c.mark.new.marks c.args.queue.now.items c.loop-place.queue.items c.mark.new.queue.items c.loop-place.invariant c.in_ok-mark.ensures)
