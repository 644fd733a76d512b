use Rattle.crash_stands.specs.Files.{files_of}
use Rattle.crash_stands.specs.Inodes.{inodes_of}
use Rattle.fs_session.proofs.laws.blocks_have_the_map_of_their_tree.Goals as goal

pub returns : goal.returns
returns c = record {
  map = λ g m t h.
      c.blocks_have_a_map.ensures.map g m (inodes_of g.layout (files_of g m)) t (c.files_have_one_map.ensures.read g.layout (files_of g m) (λ k file is. c.blocks_have_a_map.ensures.reads g m t k file h is)) h;
}
