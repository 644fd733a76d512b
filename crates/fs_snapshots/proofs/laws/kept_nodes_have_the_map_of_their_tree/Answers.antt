use Rattle.lang_tree.specs.Tree.{kept_tree}
use Rattle.crash_stands.specs.Inodes.{inodes_of}
use Rattle.crash_stands.specs.Kept.{kept_files}
use Rattle.fs_snapshots.proofs.laws.kept_nodes_have_the_map_of_their_tree.Goals as goal

pub returns : goal.returns
returns c = λ g m places k keeps.
    c.a_map_is_of_one_tree.ensures.alike g.i keeps.inodes (inodes_of g.layout (kept_files g m places)) (kept_tree k) (c.files_have_one_map.ensures.one g.layout (kept_files g m places) keeps.inodes keeps.read) keeps.map
