use Rattle.crash_stands.proofs.Holding.{sound_snapshots}
use Rattle.crash_stands.proofs.SoundTree.{is_sound}
use Rattle.crash_stands.proofs.laws.a_tree_that_stands_is_sound.Goals as goal

pub returns : goal.returns
returns c = record {
  sound = λ g m t is. is_sound g.i is.inodes t is.map;
  snapshots = sound_snapshots;
}
