use Rattle.std.proofs.Common.{◌≡◌, ◌+◌, ◌++◌, ap, ◌∙◌, arith}
use Rattle.base_types.specs.Layouts.{node_size, nodes_in_block, rank_byte}
use Rattle.crash_snapshots.specs.Places.{places_of_dir}
use Rattle.fs_snapshots.specs.Known.{file_blocks, node_blocks}
use Rattle.fs_snapshots.specs.Tables.{nodes_in}
use Rattle.fs_commands.proofs.gathered.Tables.{block_next}
use Rattle.fs_commands.proofs.gathering.gather_block.Goals as goal

pub loop-r-preserved : goal.loop-r-preserved
loop-r-preserved c = record {
  files = block_next c.args.geom.now c.args.table.now file_blocks c.loop-r.r c.rank_byte-at.result (c.rank_byte-at.result + c.node_length.result) c.args.found.now.files.items c.loop-r.found.files.items c.gather_node.new.found.files.items (c.rank_byte-at.ensures ∙ ap (λ l. rank_byte l c.loop-r.r) c.layout-layout.ensures) (ap (λ n. c.rank_byte-at.result + n) (c.node_length.ensures ∙ ap node_size c.layout-layout.ensures)) c.loop-r.invariant.files c.in_ok-gather_node.ensures.files;
  dirs = block_next c.args.geom.now c.args.table.now places_of_dir c.loop-r.r c.rank_byte-at.result (c.rank_byte-at.result + c.node_length.result) c.args.found.now.dirs.items c.loop-r.found.dirs.items c.gather_node.new.found.dirs.items (c.rank_byte-at.ensures ∙ ap (λ l. rank_byte l c.loop-r.r) c.layout-layout.ensures) (ap (λ n. c.rank_byte-at.result + n) (c.node_length.ensures ∙ ap node_size c.layout-layout.ensures)) c.loop-r.invariant.dirs c.in_ok-gather_node.ensures.dirs;
  «data» = λ all. c.in_ok-gather_node.ensures.«data» (c.loop-r.invariant.«data» all);
  dirs_data = λ all. c.in_ok-gather_node.ensures.dirs_data (c.loop-r.invariant.dirs_data all);
}

pub returns-clause-files : goal.returns-clause-files
returns-clause-files c = c.loop-r.invariant.files ∙ ap (λ n. c.args.found.now.files.items ++ node_blocks (λ r. file_blocks (nodes_in c.args.geom.now c.args.table.now r)) n) {x = c.loop-r.r} {y = nodes_in_block c.args.geom.now.layout}
    (omega (arith, c.loop-r-test.false, c.loop-r.auto.r-end, c.nodes_in_block-r-end.ensures, ap nodes_in_block c.layout-layout.ensures))

pub returns-clause-dirs : goal.returns-clause-dirs
returns-clause-dirs c = c.loop-r.invariant.dirs ∙ ap (λ n. c.args.found.now.dirs.items ++ node_blocks (λ r. places_of_dir (nodes_in c.args.geom.now c.args.table.now r)) n) {x = c.loop-r.r} {y = nodes_in_block c.args.geom.now.layout}
    (omega (arith, c.loop-r-test.false, c.loop-r.auto.r-end, c.nodes_in_block-r-end.ensures, ap nodes_in_block c.layout-layout.ensures))
