use Rattle.std.proofs.Common.{◌≡◌, ◌+◌, ◌-◌, min, false, All, sym, subst, ap, ◌∙◌, arith}
use Rattle.base_types.specs.Layouts.{slots_in_block}
use Rattle.layout_geometry.specs.Geometry.{Geometry}
use Rattle.layout_directory.specs.Directory.{ReadAs}
use Rattle.engine_blocks.specs.State.{Bookkeeping}
use Rattle.engine_blocks.specs.Puts.{IsData}
use Rattle.fs_dirs.specs.Reading.{BeginsBlock, HasSought, slots_from}
use Rattle.fs_dirs.proofs.reading.BlockSlots.{begins_first}
use Rattle.fs_dirs.proofs.reading.Looks.{looks_none, read_stays, same_layout}
use Rattle.fs_dirs.proofs.reading.Searches.{entries_are, found_in_block, sought_more, read_entries, finds_end}
use Rattle.fs_dirs.proofs.lookup.search.Goals as goal

pub loop-first-init : goal.loop-first-init
loop-first-init g c =
    let s = g.S.Blocks.state c.args.blocks.now in
    record {
      looks = looks_none g.S.Blocks.tells s;
      begins = begins_first s.books.geom.layout;
      misses = λ told slots has many k s low at. absurd (omega (arith, low));
    }

pub read_slots-requires-clause-read : goal.read_slots-requires-clause-read
read_slots-requires-clause-read g c =
    let looks = c.loop-first.invariant.looks in
    record {
      read = read_stays g.S.Blocks.tells false _ _ looks _ _ (c.laws.ensures.stays false c.args.blocks.now c.loop-first.blocks looks) c.requires.read.read;
      inside = subst (λ (b : Bookkeeping). All (IsData b.geom) c.args.node.now) (sym looks.books) c.requires.read.inside;
    }

pub read_slots-requires-clause-begins : goal.read_slots-requires-clause-begins
read_slots-requires-clause-begins g c = subst (λ k. BeginsBlock k c.loop-first.first) (sym (same_layout g.S.Blocks.tells false _ _ c.loop-first.invariant.looks)) c.loop-first.invariant.begins

pub returns-in-Some-clause-found : goal.returns-in-Some-clause-found
returns-in-Some-clause-found g c = λ told slots has many.
    let l = (g.S.Blocks.state c.args.blocks.now).books.geom.layout in
    let same : c.layout-layout.result ≡ l = c.layout-layout.ensures ∙ ap (λ (h : Geometry). h.layout) c.geom.ensures in
    let most : c.slots_in_block-most.result ≡ slots_in_block l = c.slots_in_block-most.ensures ∙ ap (λ k. slots_in_block k) same in
    found_in_block c.a_name_has_its_first_place.ensures.first c.a_name_has_its_first_place.ensures.missing c.a_name_stands_at_its_place.ensures.found l slots c.args.name.now c.loop-first.first c.in-Some.found
    (omega (arith, c.in-Some.ensures.low, c.min-entries.ensures, most)) (c.loop-first.invariant.misses told slots has many)
    (c.in-Some.ensures.finds (slots_from l c.loop-first.first slots) (entries_are l slots c.args.count c.loop-first.first c.min-entries.result many (c.min-entries.ensures ∙ ap (min (c.args.count - c.loop-first.first)) most))
    (subst (λ k. ReadAs k c.read_slots.new.into (slots_from l c.loop-first.first slots)) (sym same)
    (read_entries l (g.S.Blocks.state c.loop-first.blocks).books.geom.layout _ _ c.loop-first.first c.args.node.now c.read_slots.new.into slots (same_layout g.S.Blocks.tells false _ _ c.loop-first.invariant.looks) (c.laws.ensures.same false c.args.blocks.now c.loop-first.blocks c.loop-first.invariant.looks told)
    has (c.in_ok-read_slots.ensures.slots told))))

pub loop-first-preserved : goal.loop-first-preserved
loop-first-preserved g c =
    let l = (g.S.Blocks.state c.args.blocks.now).books.geom.layout in
    let same : c.layout-layout.result ≡ l = c.layout-layout.ensures ∙ ap (λ (h : Geometry). h.layout) c.geom.ensures in
    let most : c.slots_in_block-most.result ≡ slots_in_block l = c.slots_in_block-most.ensures ∙ ap (λ k. slots_in_block k) same in
    subst (λ n. HasSought g.S.Blocks.tells (g.S.Blocks.state c.args.blocks.now) (g.S.Blocks.state c.read_slots.new.blocks) (g.N.Nodes.nodes (g.S.Blocks.state c.args.blocks.now) c.args.files.now) c.args.node.now c.args.count c.args.name.now (c.loop-first.first + n))
    (sym most)
    (sought_more c.a_name_has_its_first_place.ensures.first c.a_name_has_its_first_place.ensures.missing c.a_name_stands_at_its_place.ensures.found g.S.Blocks.tells (g.S.Blocks.state c.args.blocks.now)
    (g.S.Blocks.state c.loop-first.blocks) (g.S.Blocks.state c.read_slots.new.blocks) _ c.args.node.now c.args.count c.args.name.now c.loop-first.first c.loop-first.invariant c.in_ok-read_slots.ensures.looks
    (λ told slots has many. c.in-None.ensures.finds (slots_from l c.loop-first.first slots) (entries_are l slots c.args.count c.loop-first.first c.min-entries.result many (c.min-entries.ensures ∙ ap (min (c.args.count - c.loop-first.first)) most))
    (subst (λ k. ReadAs k c.read_slots.new.into (slots_from l c.loop-first.first slots)) (sym same)
    (read_entries l (g.S.Blocks.state c.loop-first.blocks).books.geom.layout _ _ c.loop-first.first c.args.node.now c.read_slots.new.into slots (same_layout g.S.Blocks.tells false _ _ c.loop-first.invariant.looks) (c.laws.ensures.same false c.args.blocks.now c.loop-first.blocks c.loop-first.invariant.looks told)
    has (c.in_ok-read_slots.ensures.slots told)))))

pub returns-clause-found : goal.returns-clause-found
returns-clause-found g c = λ told slots has many.
    finds_end slots c.args.name.now c.args.count c.loop-first.first many c.loop-first-test.false (c.loop-first.invariant.misses told slots has many)
