use Rattle.std.proofs.Common.{ap, ◌∙◌}
use Rattle.base_types.specs.Layouts.{slot_block}
use Rattle.layout_geometry.specs.Geometry.{Geometry}
use Rattle.crash_stands.specs.Inodes.{ADir}
use Rattle.fs_dirs.proofs.reading.Kinds.{node_of_inode, dir_kind}
use Rattle.fs_dirs.proofs.reading.BlockSlots.{block_slots}
use Rattle.fs_dirs.proofs.block.read_slots.Goals as goal

pub returns-clause-slots : goal.returns-clause-slots
returns-clause-slots g c = λ told slots has.
    let l = (g.S.Blocks.state c.args.blocks.now).books.geom.layout in
    let r = node_of_inode l ((g.N.Nodes.nodes (g.S.Blocks.state c.args.blocks.now) c.args.files.now).files has.dir) (ADir slots) has.is in
    let whole = c.laws.ensures.slots told c.requires.read.read.may has.dir r.file r.is (dir_kind l r.file slots r.reads) in
    block_slots l c.args.first c.slot_block.result r.file.bytes c.read_block.new.into slots (c.slot_block.ensures ∙ ap (λ k. slot_block k c.args.first) (c.layout-layout.ensures ∙ ap (λ (h : Geometry). h.layout) c.geom.ensures)) c.requires.begins
    (c.slots_follow_the_bytes.ensures.count l r.file slots r.reads whole)
    (λ place s. c.slots_follow_the_bytes.ensures.read l r.file slots place s r.reads)
    (c.in_ok-read_block.ensures.bytes told has.dir r.file r.is has.blocks)
