use Rattle.std.proofs.Common.{◌≡◌, ◌++◌, All}
use Rattle.crash_snapshots.specs.Places.{places_of_dir}
use Rattle.engine_blocks.specs.Puts.{IsData}
use Rattle.fs_snapshots.specs.Known.{file_blocks, node_blocks}
use Rattle.fs_snapshots.specs.Tables.{nodes_in}
use Rattle.fs_commands.proofs.gathering.gather_block.Given as goal

abbrev pub invariant-loop-r : goal.invariant-loop-r
invariant-loop-r l = record {
  files : l.found.files.items ≡ l.fn.found.files.items ++ node_blocks (λ r. file_blocks (nodes_in l.geom l.table r)) l.r;
  dirs : l.found.dirs.items ≡ l.fn.found.dirs.items ++ node_blocks (λ r. places_of_dir (nodes_in l.geom l.table r)) l.r;
  «data» : All (IsData l.geom) l.fn.found.files.items → All (IsData l.geom) l.found.files.items;
  dirs_data : All (IsData l.geom) l.fn.found.dirs.items → All (IsData l.geom) l.found.dirs.items;
}
