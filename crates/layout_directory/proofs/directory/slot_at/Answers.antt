-- The slot's place in its block is its place among the joined bytes.
use Rattle.std.proofs.Common.{◌≡◌, ◌+◌, ◌-◌, [], slice_index_or, take, drop, arith, ◌∙◌, ap, ap₂}
use Rattle.base_types.specs.LayoutLaws.{slot_place_is, slot_size_is}
use Rattle.base_types.specs.Layouts.{slot_size, slot_block, slot_byte}
use Rattle.layout_directory.proofs.Written.{slot_in_block}
use Rattle.layout_directory.proofs.directory.slot_at.Goals as goal

pub returns : goal.returns
returns c =
    let l = c.args.layout in
    let size : c.slot_byte-at.result + c.slot_length.result - c.slot_byte-at.result ≡ slot_size l = omega (arith, c.slot_length.ensures) in
    ap₂ (λ n at. take n (drop at (slice_index_or c.args.dir.now c.slot_block-block.result []))) size c.slot_byte-at.ensures
    ∙ ap (λ b. take (slot_size l) (drop (slot_byte l c.args.place) (slice_index_or c.args.dir.now b []))) c.slot_block-block.ensures
    ∙ slot_in_block l c.args.dir.now c.args.place c.told-dir c.requires

pub bounds-dir-block : goal.bounds-dir-block
bounds-dir-block c =
    let l = c.args.layout in
    omega (arith, c.requires, c.slot_block-block.ensures, slot_place_is l c.args.place, slot_size_is l)
