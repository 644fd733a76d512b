use Rattle.std.proofs.Common.{◌≡◌, ◌+◌, ◌-◌, min, false, All, sym, subst, ap, ◌∙◌, append-nil}
use Rattle.base_types.specs.Layouts.{slots_in_block}
use Rattle.layout_geometry.specs.Geometry.{Geometry}
use Rattle.layout_directory.specs.Directory.{ReadAs}
use Rattle.engine_blocks.specs.State.{Bookkeeping}
use Rattle.engine_blocks.specs.Puts.{IsData}
use Rattle.fs_dirs.specs.Reading.{BeginsBlock, HasListed, slots_from}
use Rattle.fs_dirs.proofs.reading.BlockSlots.{begins_first}
use Rattle.fs_dirs.proofs.reading.Looks.{looks_none, read_stays, same_layout}
use Rattle.fs_dirs.proofs.reading.Listings.{block_more, all_listed}
use Rattle.fs_dirs.proofs.reading.Searches.{entries_are, read_entries}
use Rattle.fs_dirs.proofs.listing.push_slots.Goals as goal

pub loop-first-init : goal.loop-first-init
loop-first-init g c =
    let s = g.S.Blocks.state c.args.blocks.now in
    record {
      looks = looks_none g.S.Blocks.tells s;
      begins = begins_first s.books.geom.layout;
      listed = λ told slots has many. sym (append-nil c.args.into.now.items);
    }

pub read_slots-requires-clause-read : goal.read_slots-requires-clause-read
read_slots-requires-clause-read g c =
    let looks = c.loop-first.invariant.looks in
    record {
      read = read_stays g.S.Blocks.tells false _ _ looks _ _ (c.laws.ensures.stays false c.args.blocks.now c.loop-first.blocks looks) c.requires.read.read;
      inside = subst (λ (b : Bookkeeping). All (IsData b.geom) c.args.node.now) (sym looks.books) c.requires.read.inside;
    }

pub read_slots-requires-clause-begins : goal.read_slots-requires-clause-begins
read_slots-requires-clause-begins g c = subst (λ k. BeginsBlock k c.loop-first.first) (sym (same_layout g.S.Blocks.tells false _ _ c.loop-first.invariant.looks)) c.loop-first.invariant.begins

pub loop-first-preserved : goal.loop-first-preserved
loop-first-preserved g c =
    let l = (g.S.Blocks.state c.args.blocks.now).books.geom.layout in
    let same : c.layout-layout.result ≡ l = c.layout-layout.ensures ∙ ap (λ (h : Geometry). h.layout) c.geom.ensures in
    let most : c.slots_in_block-most.result ≡ slots_in_block l = c.slots_in_block-most.ensures ∙ ap (λ k. slots_in_block k) same in
    subst (λ n. HasListed g.S.Blocks.tells (g.S.Blocks.state c.args.blocks.now) (g.S.Blocks.state c.read_slots.new.blocks) (g.N.Nodes.nodes (g.S.Blocks.state c.args.blocks.now) c.args.files.now) c.args.node.now c.args.count (c.loop-first.first + n) c.args.into.now.items c.push_block.new.into.items)
    (sym most)
    (block_more g.S.Blocks.tells (g.S.Blocks.state c.args.blocks.now) (g.S.Blocks.state c.loop-first.blocks) (g.S.Blocks.state c.read_slots.new.blocks) _ c.args.node.now c.args.count c.loop-first.first c.args.into.now.items c.loop-first.into.items c.push_block.new.into.items
    c.loop-first.invariant c.in_ok-read_slots.ensures.looks
    (λ told slots has many. c.in_ok-push_block.ensures (slots_from l c.loop-first.first slots) (entries_are l slots c.args.count c.loop-first.first c.min-entries.result many (c.min-entries.ensures ∙ ap (min (c.args.count - c.loop-first.first)) most))
    (subst (λ k. ReadAs k c.read_slots.new.into (slots_from l c.loop-first.first slots)) (sym same)
    (read_entries l (g.S.Blocks.state c.loop-first.blocks).books.geom.layout _ _ c.loop-first.first c.args.node.now c.read_slots.new.into slots (same_layout g.S.Blocks.tells false _ _ c.loop-first.invariant.looks) (c.laws.ensures.same false c.args.blocks.now c.loop-first.blocks c.loop-first.invariant.looks told)
    has (c.in_ok-read_slots.ensures.slots told)))))

pub returns-clause-slots : goal.returns-clause-slots
returns-clause-slots g c = λ told slots has many.
    all_listed slots c.args.into.now.items c.loop-first.into.items c.args.count c.loop-first.first many c.loop-first-test.false (c.loop-first.invariant.listed told slots has many)
