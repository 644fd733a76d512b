use Rattle.std.proofs.Common.{◌≡◌, ◌+◌, ◌-◌, ◌≤◌, min, length, false, Some, sym, ap, ap₂, ◌∙◌, subst, arith}
use Rattle.base_types.specs.Layouts.{directory_bytes, slots_before, slots_held, slots_in_block}
use Rattle.base_types.specs.LayoutLaws.{next_slots_before}
use Rattle.layout_geometry.specs.Geometry.{Geometry}
use Rattle.layout_bytes.specs.Slot.{slots_in}
use Rattle.engine_blocks.specs.State.{Bookkeeping}
use Rattle.fs_check.specs.Slots.{AppendsSlots}
use Rattle.fs_files.specs.Nodes.{AreWholeSlots}
use Rattle.fs_check.proofs.Joined.{all_read, enough, in_block, read_more, read_none}
use Rattle.fs_check.proofs.Looking.{looks_more, same_files}
use Rattle.fs_check.proofs.slots.read_slots.Goals as goal

pub read_at-requires-clause-look : goal.read_at-requires-clause-look
read_at-requires-clause-look g c =
    let looks = c.loop-block.invariant.looks in
    record {
      going = ap (λ (b : Bookkeeping). b.stopped) looks.books ∙ c.requires.read.going;
      from = c.requires.above_zero;
      upto = omega (arith, c.requires.in_table, ap (λ (b : Bookkeeping). b.geom.i) looks.books);
      may = c.laws.ensures.stays false c.args.blocks.now c.loop-block.blocks looks c.requires.read.may;
    }

pub read_at-requires-clause-used : goal.read_at-requires-clause-used
read_at-requires-clause-used g c = λ tells.
    let used = c.requires.used tells in
    (used.0, ap (λ f. f c.args.node) (same_files _ _ (c.laws.ensures.same false c.args.blocks.now c.loop-block.blocks c.loop-block.invariant.looks tells)) ∙ used.1)

pub returns-then-not-branch-clause-slots : goal.returns-then-not-branch-clause-slots
returns-then-not-branch-clause-slots g c = λ tells x at dir long.
    let s = g.S.Blocks.state c.args.blocks.now in
    let l = s.books.geom.layout in
    let lay : c.layout-layout.result ≡ l = c.layout-layout.ensures ∙ ap (λ (h : Geometry). h.layout) c.geom.ensures in
    let block = c.loop-block.block in
    let now = ap (λ f. f c.args.node) (same_files _ _ (c.laws.ensures.same false c.args.blocks.now c.loop-block.blocks c.loop-block.invariant.looks tells)) ∙ at in
    let whole : AreWholeSlots l c.args.size = subst (AreWholeSlots l) long (c.laws.ensures.slots tells c.requires.read.may c.args.node x at dir) in
    let bytes = c.as_slice.ensures ∙ c.in_ok-bytes.ensures.bytes tells x now in
    let few : c.min-entries.result ≡ in_block l c.args.size whole block =
    c.min-entries.ensures ∙ ap₂ (λ m n. min m n) (c.loop-block.invariant.left ∙ ap (λ k. slots_held k c.args.size - slots_before k block) lay) (c.from.ensures ∙ c.slots_in_block.ensures ∙ ap slots_in_block lay) in
    let pushed = subst (λ n. AppendsSlots c.in_ok-push_slots.field-0 (slots_in l n c.as_slice.result.now) c.loop-block.slots.items c.push_slots.new.into.items) few
    (subst (λ k. AppendsSlots c.in_ok-push_slots.field-0 (slots_in k c.min-entries.result c.as_slice.result.now) c.loop-block.slots.items c.push_slots.new.into.items) lay
    (c.in_ok-push_slots.ensures (subst (λ n. n ≤ length c.as_slice.result.now) (sym (ap₂ directory_bytes lay few)) (enough l c.args.size whole x.bytes c.as_slice.result.now block long bytes)))) in
    sym (read_none l c.args.size whole x.bytes c.as_slice.result.now block c.loop-block-test.true bytes
    (subst (λ b. AppendsSlots b (slots_in l (in_block l c.args.size whole block) c.as_slice.result.now) c.loop-block.slots.items c.push_slots.new.into.items) c.if-not-branch.true pushed))

pub returns-clause-slots : goal.returns-clause-slots
returns-clause-slots g c = λ tells x at dir long.
    let s = g.S.Blocks.state c.args.blocks.now in
    let l = s.books.geom.layout in
    let lay : c.layout-layout.result ≡ l = c.layout-layout.ensures ∙ ap (λ (h : Geometry). h.layout) c.geom.ensures in
    let whole : AreWholeSlots l c.args.size = subst (AreWholeSlots l) long (c.laws.ensures.slots tells c.requires.read.may c.args.node x at dir) in
    sym (all_read l c.args.size whole x.bytes c.loop-block.block c.loop-block.slots.items (omega (arith, c.loop-block-test.false))
    (subst (λ k. slots_in k (min (slots_before k c.loop-block.block) (slots_held k c.args.size)) x.bytes ≡ Some c.loop-block.slots.items) lay (c.loop-block.invariant.slots tells x at dir long)))

pub loop-block-preserved : goal.loop-block-preserved
loop-block-preserved g c = record {
  looks = looks_more g.S.Blocks.tells false (g.S.Blocks.state c.args.blocks.now) (g.S.Blocks.state c.loop-block.blocks) (g.S.Blocks.state c.read_at.new.blocks) c.loop-block.invariant.looks c.in_ok-bytes.ensures.looks;
  left = omega (arith, c.loop-block.invariant.left, c.min-entries.ensures, c.from.ensures, c.slots_in_block.ensures, next_slots_before c.layout-layout.result c.loop-block.block);
  slots = λ tells x at dir long.
      let s = g.S.Blocks.state c.args.blocks.now in
      let l = s.books.geom.layout in
      let lay : c.layout-layout.result ≡ l = c.layout-layout.ensures ∙ ap (λ (h : Geometry). h.layout) c.geom.ensures in
      let block = c.loop-block.block in
      let now = ap (λ f. f c.args.node) (same_files _ _ (c.laws.ensures.same false c.args.blocks.now c.loop-block.blocks c.loop-block.invariant.looks tells)) ∙ at in
      let whole : AreWholeSlots l c.args.size = subst (AreWholeSlots l) long (c.laws.ensures.slots tells c.requires.read.may c.args.node x at dir) in
      let bytes = c.as_slice.ensures ∙ c.in_ok-bytes.ensures.bytes tells x now in
      let few : c.min-entries.result ≡ in_block l c.args.size whole block =
      c.min-entries.ensures ∙ ap₂ (λ m n. min m n) (c.loop-block.invariant.left ∙ ap (λ k. slots_held k c.args.size - slots_before k block) lay) (c.from.ensures ∙ c.slots_in_block.ensures ∙ ap slots_in_block lay) in
      let pushed = subst (λ n. AppendsSlots c.in_ok-push_slots.field-0 (slots_in l n c.as_slice.result.now) c.loop-block.slots.items c.push_slots.new.into.items) few
      (subst (λ k. AppendsSlots c.in_ok-push_slots.field-0 (slots_in k c.min-entries.result c.as_slice.result.now) c.loop-block.slots.items c.push_slots.new.into.items) lay
      (c.in_ok-push_slots.ensures (subst (λ n. n ≤ length c.as_slice.result.now) (sym (ap₂ directory_bytes lay few)) (enough l c.args.size whole x.bytes c.as_slice.result.now block long bytes)))) in
      subst (λ k. slots_in k (min (slots_before k (block + 1)) (slots_held k c.args.size)) x.bytes ≡ Some c.push_slots.new.into.items) (sym lay)
      (read_more l c.args.size whole x.bytes c.as_slice.result.now block c.loop-block.slots.items c.push_slots.new.into.items c.loop-block-test.true bytes
      (subst (λ k. slots_in k (min (slots_before k block) (slots_held k c.args.size)) x.bytes ≡ Some c.loop-block.slots.items) lay (c.loop-block.invariant.slots tells x at dir long))
      (subst (λ b. AppendsSlots b (slots_in l (in_block l c.args.size whole block) c.as_slice.result.now) c.loop-block.slots.items c.push_slots.new.into.items) c.if-not-branch.false pushed));
}
