use Rattle.std.proofs.Common.{◌≡◌, false, ℕ, ◌+◌, ◌-◌, ◌≤◌, length, ap, ap₂, subst, ◌∙◌, arith}
use Rattle.base_types.specs.Layouts.{nodes_in_block}
use Rattle.layout_geometry.specs.Geometry.{Geometry, IsGeometry}
use Rattle.crash_stands.specs.Places.{dirs_from, table_blocks}
use Rattle.fs_files.specs.Places.{looks_more}
use Rattle.fs_snapshots.specs.Tables.{nodes_in}
use Rattle.fs_snapshots.proofs.GoneThrough.{table_more, too_many}
use Rattle.fs_snapshots.proofs.kept_nodes.KeptNodes.read.Goals as goal

pub returns-then-total-room-clause-wrong : goal.returns-then-total-room-clause-wrong
returns-then-total-room-clause-wrong g c = λ tells why parts.
    let s = g.S.Blocks.state c.args.blocks.now in
    let limits = subst IsGeometry c.geom-geom.ensures c.lawful.ensures.limits in
    let count : c.data_start.result - c.table_start.result ≡ table_blocks s.books.geom =
    ap₂ (λ (a b : ℕ). a - b) c.data_start.ensures c.table_start.ensures ∙ ap table_blocks c.geom-geom.ensures in
    let sub = c.in-Some.ensures in
    let long : 1 + table_blocks s.books.geom ≤ length c.args.places = omega (arith, count, sub.0, c.count.ensures.value) in
    let room : c.in-Some.room + (1 + table_blocks s.books.geom) ≡ length c.args.places = omega (arith, count, sub.0, sub.1, c.count.ensures.value) in
    too_many g.S.Blocks.tells s (g.S.Blocks.state c.read_block_at.new.blocks) c.args.places (c.loop-slot.slot + 1) (c.loop-slot.total + c.dirs_in-total.result) c.in-Some.room c.push_reserved.new.self.items limits
    (table_more g.S.Blocks.tells s (g.S.Blocks.state c.loop-slot.blocks) (g.S.Blocks.state c.read_block_at.new.blocks) c.args.places c.loop-slot.slot c.loop-slot.total c.dirs_in-total.result c.loop-slot.before.items c.push_reserved.new.self.items c.read_block_at.new.into
    limits c.loop-slot.invariant.0 (omega (arith, count, c.loop-slot-test.true)) long c.requires.whole c.in_ok-read_block_at.ensures.looks c.in_ok-read_block_at.ensures.block
    (c.dirs_in-total.ensures.value ∙ ap (dirs_from c.geom-geom.result.layout (nodes_in c.geom-geom.result c.read_block_at.new.into) 1) (c.nodes_in_block-nodes.ensures ∙ ap nodes_in_block c.layout.ensures) ∙ ap (λ (x : Geometry). dirs_from x.layout (nodes_in x c.read_block_at.new.into) 1 (nodes_in_block x.layout)) c.geom-geom.ensures) c.push_reserved.ensures.items)
    (omega (arith, c.if-total-room.true)) room tells parts

pub returns-then-total-room-clause-looks : goal.returns-then-total-room-clause-looks
returns-then-total-room-clause-looks g c =
    looks_more g.S.Blocks.tells false (g.S.Blocks.state c.args.blocks.now) (g.S.Blocks.state c.loop-slot.blocks) (g.S.Blocks.state c.read_block_at.new.blocks) c.loop-slot.invariant.0.looks c.in_ok-read_block_at.ensures.looks

pub loop-slot-preserved : goal.loop-slot-preserved
loop-slot-preserved g c =
    let s = g.S.Blocks.state c.args.blocks.now in
    let limits = subst IsGeometry c.geom-geom.ensures c.lawful.ensures.limits in
    let count : c.data_start.result - c.table_start.result ≡ table_blocks s.books.geom =
    ap₂ (λ (a b : ℕ). a - b) c.data_start.ensures c.table_start.ensures ∙ ap table_blocks c.geom-geom.ensures in
    let sub = c.in-Some.ensures in
    let long : 1 + table_blocks s.books.geom ≤ length c.args.places = omega (arith, count, sub.0, c.count.ensures.value) in (
      table_more g.S.Blocks.tells s (g.S.Blocks.state c.loop-slot.blocks) (g.S.Blocks.state c.read_block_at.new.blocks) c.args.places c.loop-slot.slot c.loop-slot.total c.dirs_in-total.result c.loop-slot.before.items c.push_reserved.new.self.items c.read_block_at.new.into
          limits c.loop-slot.invariant.0 (omega (arith, count, c.loop-slot-test.true)) long c.requires.whole c.in_ok-read_block_at.ensures.looks c.in_ok-read_block_at.ensures.block
          (c.dirs_in-total.ensures.value ∙ ap (dirs_from c.geom-geom.result.layout (nodes_in c.geom-geom.result c.read_block_at.new.into) 1) (c.nodes_in_block-nodes.ensures ∙ ap nodes_in_block c.layout.ensures) ∙ ap (λ (x : Geometry). dirs_from x.layout (nodes_in x c.read_block_at.new.into) 1 (nodes_in_block x.layout)) c.geom-geom.ensures) c.push_reserved.ensures.items,
      omega (arith, c.if-total-room.false),
      omega (arith, c.push_reserved.ensures.capacity, c.loop-slot.invariant.2),
    )
