use Rattle.std.proofs.Common.{◌+◌, length, slice_get, sym, ap, ◌∙◌}
use Rattle.lang_tree.specs.Conditions.{least_unused}
use Rattle.lang_tree.specs.Figures.{snapshot_blocks}
use Rattle.lang_tree.specs.Tree.{Bounds}
use Rattle.crash_stands.specs.Files.{used_node}
use Rattle.crash_stands.specs.Places.{table_blocks}
use Rattle.crash_snapshots.specs.Places.{all_dirs}
use Rattle.fs_session.specs.Commands.{places_of}
use Rattle.fs_session.proofs.rooms.Shared.{are_alone, is_shared}
use Rattle.fs_session.proofs.rooms.SnapshotBlocks.{snapshot_has, snapshot_needs}
use Rattle.fs_session.proofs.snapshots.counts_tell_what_is_shared.Goals as goal

pub returns-clause-shared : goal.returns-clause-shared
returns-clause-shared g c = λ s f counts k i h tells.
    let state = g.S.Blocks.state s in
    is_shared (record { each = c.what_is_known_of_snapshots_is_so.ensures.each; named = c.what_is_known_of_snapshots_is_so.ensures.named }) state.books.geom state.map f.tree h.tree counts tells (slice_get (places_of state k) i)

pub returns-clause-alone : goal.returns-clause-alone
returns-clause-alone g c = λ s f counts name k h known at.
    let state = g.S.Blocks.state s in
    are_alone (record { each = c.what_is_known_of_snapshots_is_so.ensures.each; named = c.what_is_known_of_snapshots_is_so.ensures.named }) state.books.geom state.map f.tree h.tree
    (c.a_tree_that_stands_is_sound.ensures.snapshots state.books.geom state.map f.tree h.tree) counts known name k at

pub returns-clause-least : goal.returns-clause-least
returns-clause-least g c = λ s f h.
    let state = g.S.Blocks.state s in
    ap (λ (b : Bounds). least_unused b.nodes f.tree) h.limit ∙ c.unused_numbers_are_those_of_no_node.ensures.least state.books.geom state.map f.tree h.tree

pub returns-clause-blocks : goal.returns-clause-blocks
returns-clause-blocks g c = λ s f name k h at.
    let state = g.S.Blocks.state s in
    snapshot_has c.slots_follow_the_bytes.ensures.count c.the_map_gives_the_figures.ensures.directories state.books.geom state.map f.tree h.tree c.a_sound_snapshot_is_whole.ensures.bytes name k at
    ∙ ap (λ (b : Bounds). snapshot_blocks b k.names) (sym h.limit)

pub returns-clause-live : goal.returns-clause-live
returns-clause-live g c = λ s f h.
    let state = g.S.Blocks.state s in
    ap (λ (b : Bounds). snapshot_blocks b f.tree.names) h.limit
    ∙ snapshot_needs c.slots_follow_the_bytes.ensures.count c.the_map_gives_the_figures.ensures.directories state.books.geom state.map f.tree h.tree
    ∙ ap (λ (b : Bounds). 1 + (table_blocks state.books.geom + length (all_dirs (used_node state.books.geom state.map) 1 b.nodes))) (sym h.limit)
