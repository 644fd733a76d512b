use Rattle.std.proofs.Common.{get_or, take, set, sym, ◌∙◌, subst, arith, length-set}
use Rattle.std.proofs.lemmas.List.{take_more}
use Rattle.std.proofs.lemmas.Option.{slice_get-get_or, slice_get_within}
use Rattle.layout_bytes.specs.declared.slot.Slot.{Slot}
use Rattle.fs_check.specs.Slots.{AreCounted}
use Rattle.fs_check.proofs.Counting.{count_more, names_more}
use Rattle.fs_check.proofs.counts.count_slots.Goals as goal

pub loop-place-preserved : goal.loop-place-preserved
loop-place-preserved c =
    let slots = c.args.slots.now in
    let place = c.loop-place.place in
    let s : Slot = get_or slots place c.index-slots-place.result in
    record {
      same = length-set c.loop-place.named s.node c.saturating_add.result ∙ c.loop-place.invariant.same;
      counted = subst (λ xs. AreCounted xs c.args.named.now (set c.loop-place.named s.node c.saturating_add.result)) (sym (take_more slots place c.index-slots-place.result c.loop-place-test.true))
          (count_more (take place slots) c.args.named.now c.loop-place.named s c.saturating_add.result c.loop-place.invariant.same c.loop-place.invariant.counted (omega (arith, c.in_ok-check_number.ensures.inside, c.requires)) (omega (arith, c.saturating_add.ensures)));
      names = names_more c.args.nodes.now slots place s (slice_get-get_or slots place c.index-slots-place.result c.loop-place-test.true) c.loop-place.invariant.names c.in_ok-check_number.ensures.good;
    }

pub returns-clause-names : goal.returns-clause-names
returns-clause-names c = λ i s h. c.loop-place.invariant.names i s (omega (arith, slice_get_within c.args.slots.now i s h, c.loop-place-test.false)) h
