use Rattle.std.proofs.Common.{subst, ap, ◌∙◌, arith}
use Rattle.base_types.specs.Layouts.{slot_block, slots_before}
use Rattle.base_types.specs.LayoutLaws.{slot_from, slot_upto}
use Rattle.fs_dirs.specs.Reading.{BeginsBlock}
use Rattle.fs_dirs.proofs.reading.BlockSlots.{begins_block}
use Rattle.fs_dirs.proofs.changing.first_of.Goals as goal

pub returns-clause-begins : goal.returns-clause-begins
returns-clause-begins c =
    subst (λ n. BeginsBlock c.args.layout n) {x = slots_before c.args.layout (slot_block c.args.layout c.args.place)} (omega (arith, slot_from c.args.layout c.args.place, c.slots_before.ensures ∙ ap (slots_before c.args.layout) c.slot_block.ensures, c.ranges.place.fits))
    (begins_block c.args.layout c.args.place)

pub returns-clause-from : goal.returns-clause-from
returns-clause-from c = omega (arith, slot_from c.args.layout c.args.place, c.slots_before.ensures ∙ ap (slots_before c.args.layout) c.slot_block.ensures, c.ranges.place.fits)

pub returns-clause-upto : goal.returns-clause-upto
returns-clause-upto c = omega (arith, slot_from c.args.layout c.args.place, slot_upto c.args.layout c.args.place, c.slots_before.ensures ∙ ap (slots_before c.args.layout) c.slot_block.ensures, c.ranges.place.fits)
