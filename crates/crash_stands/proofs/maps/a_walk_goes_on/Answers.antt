use Rattle.crash_stands.proofs.SoundTree.{walk_end}
use Rattle.crash_stands.proofs.maps.a_walk_goes_on.Goals as goal

pub returns : goal.returns
returns c = record { last = walk_end }
