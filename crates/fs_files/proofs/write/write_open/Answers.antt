use Rattle.std.proofs.Common.{◌≡◌, ◌+◌, length, min, sym, subst, arith}
use Rattle.std.proofs.lemmas.Result.{on_ok_weaker}
use Rattle.fs_files.specs.Content.{fails_reading}
use Rattle.fs_files.specs.Effects.{LooksAndSettles}
use Rattle.fs_files.specs.Writing.{HasRoom}
use Rattle.fs_files.proofs.calling.Opens.{room_count, room_data, wrote}
use Rattle.fs_files.proofs.calling.WriteLooks.{settles_none, then_looks}
use Rattle.fs_files.proofs.write.write_open.Goals as goal
use Rattle.fs_files.proofs.write.write_open.Goals.{In_ok-make_room}

module _ (g : _) (c : In_ok-make_room g) where
  room : HasRoom g.S.Blocks.tells (g.S.Blocks.state c.make_room.new.blocks).books (g.S.Blocks.state c.args.blocks.now).map (min c.args.offset c.args.node.now.size) (c.args.offset + length c.args.bytes.now) c.args.node.now c.make_room.new.node c.args.draft.now c.make_room.new.draft
  room = subst (λ lo. HasRoom g.S.Blocks.tells (g.S.Blocks.state c.make_room.new.blocks).books (g.S.Blocks.state c.args.blocks.now).map lo (c.args.offset + length c.args.bytes.now) c.args.node.now c.make_room.new.node c.args.draft.now c.make_room.new.draft) low c.in_ok-make_room.ensures.room
    where
      low : c.min-lo.result ≡ min c.args.offset c.args.node.now.size
      low = omega (arith, c.min-lo.ensures)

pub write_behind-requires-clause-data : goal.write_behind-requires-clause-data
write_behind-requires-clause-data g c =
    room_data g.S.Blocks.tells (g.S.Blocks.state c.make_room.new.blocks).books (g.S.Blocks.state c.args.blocks.now).map (min c.args.offset c.args.node.now.size) (c.args.offset + length c.args.bytes.now) c.args.node.now c.make_room.new.node c.args.draft.now c.make_room.new.draft
    (g.S.Blocks.state c.args.blocks.now).books.geom c.in_ok-make_room.ensures.settles.pipeline.geom c.requires.open.«data» (room g (goal.at.write_behind-requires-clause-data g c).In_ok-make_room)

pub write_behind-requires-clause-within : goal.write_behind-requires-clause-within
write_behind-requires-clause-within g c =
    let count = room_count g.S.Blocks.tells (g.S.Blocks.state c.make_room.new.blocks).books (g.S.Blocks.state c.args.blocks.now).map (min c.args.offset c.args.node.now.size) (c.args.offset + length c.args.bytes.now) c.args.node.now c.make_room.new.node c.args.draft.now c.make_room.new.draft (room g (goal.at.write_behind-requires-clause-within g c).In_ok-make_room) in
    omega (arith, count, c.count-held.ensures.value)

pub returns-clause-writes : goal.returns-clause-writes
returns-clause-writes g c =
    on_ok_weaker c.write_behind.result (λ fills.
    wrote g.S.Blocks.tells (g.S.Blocks.state c.make_room.new.blocks).books (g.S.Blocks.state c.write_behind.new.blocks).books (g.S.Blocks.state c.args.blocks.now).map (g.S.Blocks.state c.make_room.new.blocks).map c.args.offset c.count-held.result c.args.bytes.now c.args.node.now c.make_room.new.node c.args.draft.now c.make_room.new.draft c.write_behind.new.draft
    c.write_behind.ensures.looks.books c.in_ok-make_room.ensures.settles.map c.count-held.ensures.value (room g (goal.at.returns-clause-writes g c).In_ok-make_room) fills) c.write_behind.ensures.fills

pub returns-clause-settles : goal.returns-clause-settles
returns-clause-settles g c =
    let tells = g.S.Blocks.tells in
    let s = g.S.Blocks.state c.args.blocks.now in
    let u = g.S.Blocks.state c.write_behind.new.blocks in
    subst (λ b. LooksAndSettles tells (fails_reading c.write_behind.result) b s u) (sym (settles_none c.write_behind.result c.write_behind.ensures.refused))
    (then_looks g.S.Blocks.state tells c.calls_compose.ensures.advances c.calls_compose.ensures.rests (fails_reading c.write_behind.result) c.args.blocks.now c.make_room.new.blocks c.write_behind.new.blocks c.in_ok-make_room.ensures.settles c.write_behind.ensures.looks)
