use Rattle.std.proofs.Common.{◌-◌, sym, ap, ◌∙◌, arith}
use Rattle.crash_stands.specs.Bounds.{bounds_of}
use Rattle.fs_session.proofs.rooms.Nodes.{marked_in_use}
use Rattle.fs_session.proofs.standing.Marks.{inodes_count}
use Rattle.fs_session.proofs.live.as_many_blocks_are_marked_as_the_tree_has.Goals as goal

pub returns-clause-live : goal.returns-clause-live
returns-clause-live g c = λ s f tells h alone.
    let state = g.S.Blocks.state s in
    let t = h.tree in
    inodes_count c.slots_follow_the_bytes.ensures.count c.a_file_reads_as_itself.ensures.parts state.books.geom state.map t.sound (c.without_snapshots_nothing_is_shared.ensures.tree state.books.geom state.map f.tree t alone) t.inodes t.read state.books.marked (g.met.S.Blocks.is_told s tells).bits
    ∙ sym (c.the_map_gives_the_figures.ensures.blocks (bounds_of state.books.geom) t.inodes f.tree t.map)

pub returns-clause-left : goal.returns-clause-left
returns-clause-left g c = λ s f tells h alone.
    ap (λ n. (g.S.Blocks.state s).books.area - n - (g.S.Blocks.state s).books.running.held) (returns-clause-live g c s f tells h alone)

pub returns-clause-room : goal.returns-clause-room
returns-clause-room g c = λ s f tells h.
    omega (arith, marked_in_use (g.S.Blocks.state s) (g.met.S.Blocks.is_told s tells).bits h.tree.sound (record { each = c.what_is_known_of_snapshots_is_so.ensures.each; named = c.what_is_known_of_snapshots_is_so.ensures.named }) f.tree h.tree, (g.met.S.Blocks.is_sound s).area)
