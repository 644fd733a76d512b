use Rattle.std.proofs.Common.{Some, sym, ap, ◌∙◌, arith}
use Rattle.base_types.specs.LayoutLaws.{directory_holds}
use Rattle.fs_check.proofs.Joined.{push_more, push_none}
use Rattle.fs_check.proofs.slots.push_slots.Goals as goal

pub loop-place-preserved : goal.loop-place-preserved
loop-place-preserved c = λ long.
    push_more c.args.layout c.args.bytes.now c.args.into.now.items c.loop-place.into.items c.loop-place.place c.in-Some.slot (c.loop-place.invariant long)
    (sym (c.slot_at.ensures (omega (arith, long, directory_holds c.args.layout c.loop-place.place c.args.entries c.loop-place-test.true))) ∙ c.in-Some.is)
    ∙ ap Some (sym c.in_ok-push.ensures.items)

pub returns-in_default : goal.returns-in_default
returns-in_default c = λ long.
    push_none c.args.layout c.args.bytes.now c.loop-place.place c.args.entries c.loop-place-test.true
    (sym (c.slot_at.ensures (omega (arith, long, directory_holds c.args.layout c.loop-place.place c.args.entries c.loop-place-test.true))) ∙ c.in_default.is)
