use Rattle.std.proofs.Common.{◌<◌, sym, subst, arith}
use Rattle.std.proofs.lemmas.Result.{on_ok_weaker}
use Rattle.fs_files.specs.Content.{fails_reading}
use Rattle.fs_files.specs.Effects.{LooksAndSettles}
use Rattle.fs_files.specs.Shared.{is_kept}
use Rattle.fs_files.proofs.calling.Opens.{edge_data, grown_data, room_got}
use Rattle.fs_files.proofs.calling.WriteLooks.{settles_none, then_looks}
use Rattle.fs_files.proofs.write.make_room.Goals as goal

pub copy_edges-requires-clause-data : goal.copy_edges-requires-clause-data
copy_edges-requires-clause-data g c =
    grown_data (g.S.Blocks.state c.grow.new.blocks).books c.args.lo c.args.hi c.args.node.now c.grow.new.node c.args.draft.now c.grow.new.draft (g.S.Blocks.state c.args.blocks.now).books.geom c.in_ok-grow.ensures.settles.pipeline.geom c.requires.data c.in_ok-grow.ensures.grows

pub copy_edges-requires-clause-first : goal.copy_edges-requires-clause-first
copy_edges-requires-clause-first g c =
    edge_data (is_kept c.args.draft.now.kept) c.args.lo (g.S.Blocks.state c.grow.new.blocks).books c.args.lo c.args.hi c.args.node.now c.grow.new.node c.args.draft.now c.grow.new.draft (g.S.Blocks.state c.args.blocks.now).books.geom c.edge-first.result
    c.in_ok-grow.ensures.settles.pipeline.geom c.requires.data c.in_ok-grow.ensures.grows c.edge-first.ensures

pub copy_edges-requires-clause-last : goal.copy_edges-requires-clause-last
copy_edges-requires-clause-last g c =
    edge_data (is_kept c.args.draft.now.kept) c.args.hi (g.S.Blocks.state c.grow.new.blocks).books c.args.lo c.args.hi c.args.node.now c.grow.new.node c.args.draft.now c.grow.new.draft (g.S.Blocks.state c.args.blocks.now).books.geom c.edge-last.result
    c.in_ok-grow.ensures.settles.pipeline.geom c.requires.data c.in_ok-grow.ensures.grows c.edge-last.ensures

pub returns-clause-room : goal.returns-clause-room
returns-clause-room g c =
    let some : 0 < c.args.need = omega (arith, c.if-need-eq0.false) in
    on_ok_weaker c.copy_edges.result (λ copies.
    room_got g.S.Blocks.tells (g.S.Blocks.state c.grow.new.blocks).books (g.S.Blocks.state c.copy_edges.new.blocks).books (g.S.Blocks.state c.args.blocks.now).map (g.S.Blocks.state c.grow.new.blocks).map
    c.args.lo c.args.hi c.args.node.now c.grow.new.node c.args.draft.now c.grow.new.draft c.copy_edges.new.draft c.edge-first.result c.edge-last.result c.copy_edges.ensures.looks.books c.in_ok-grow.ensures.settles.map
    (omega (arith, some, c.requires.need)) (c.requires.once some) c.edge-first.ensures c.edge-last.ensures c.in_ok-grow.ensures.grows copies) c.copy_edges.ensures.copies

pub returns-clause-settles : goal.returns-clause-settles
returns-clause-settles g c =
    let tells = g.S.Blocks.tells in
    let s = g.S.Blocks.state c.args.blocks.now in
    let u = g.S.Blocks.state c.copy_edges.new.blocks in
    subst (λ b. LooksAndSettles tells (fails_reading c.copy_edges.result) b s u) (sym (settles_none c.copy_edges.result c.copy_edges.ensures.refused))
    (then_looks g.S.Blocks.state tells c.calls_compose.ensures.advances c.calls_compose.ensures.rests (fails_reading c.copy_edges.result) c.args.blocks.now c.grow.new.blocks c.copy_edges.new.blocks c.in_ok-grow.ensures.settles c.copy_edges.ensures.looks)
