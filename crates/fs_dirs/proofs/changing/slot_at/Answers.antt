use Rattle.std.proofs.Common.{◌≡◌, ◌+◌, ◌-◌, ◌≤◌, length, slice_get, subst, sym, ap, ◌∙◌, arith}
use Rattle.std.specs.Prelude.{IfSome}
use Rattle.base_types.specs.Layouts.{longest_name, slots_in_block}
use Rattle.layout_geometry.specs.Geometry.{Geometry}
use Rattle.layout_directory.specs.Directory.{ReadAs}
use Rattle.fs_dirs.specs.Reading.{BeginsBlock, slots_from}
use Rattle.fs_dirs.proofs.reading.Parts.{part_length, part_is}
use Rattle.fs_dirs.proofs.changing.slot_at.Goals as goal

pub read_slots-requires-clause-begins : goal.read_slots-requires-clause-begins
read_slots-requires-clause-begins g c = subst (λ k. BeginsBlock k c.first_of-first.result) (c.layout-layout.ensures ∙ ap (λ (h : Geometry). h.layout) c.geom.ensures) c.first_of-first.ensures.begins

pub returns-clause-slot : goal.returns-clause-slot
returns-clause-slot g c = λ told slots is low.
    let l = (g.S.Blocks.state c.args.blocks.now).books.geom.layout in
    let same : c.layout-layout.result ≡ l = c.layout-layout.ensures ∙ ap (λ (h : Geometry). h.layout) c.geom.ensures in
    let first = c.first_of-first.result in
    let few = ap (λ k. slots_in_block k) same in
    c.slot_in.ensures.slot (slots_from l first slots) (omega (arith, low, part_length (slots_in_block l) first slots, c.first_of-first.ensures.from, c.first_of-first.ensures.upto, few))
    (subst (λ k. ReadAs k c.read_slots.new.into (slots_from l first slots)) (sym same) (c.in_ok-read_slots.ensures.slots told slots (record { dir = c.args.dir.now.number; is = is; blocks = c.requires.opened.blocks told })))
    ∙ part_is (slots_in_block l) first slots (c.args.place - first) (omega (arith, c.first_of-first.ensures.from, c.first_of-first.ensures.upto, few))
    ∙ ap (slice_get slots) {x = first + (c.args.place - first)} {y = c.args.place} (omega (arith, c.first_of-first.ensures.from))

pub returns-clause-short : goal.returns-clause-short
returns-clause-short g c = subst (λ k. IfSome c.slot_in.result (λ s. length s.name ≤ longest_name k)) (c.layout-layout.ensures ∙ ap (λ (h : Geometry). h.layout) c.geom.ensures) c.slot_in.ensures.short
