use Rattle.crash_stands.proofs.Root.{root_is_map}
use Rattle.crash_stands.proofs.OneMap.{one_tree, alike}
use Rattle.crash_stands.proofs.SoundTree.{is_sound}
use Rattle.crash_stands.proofs.maps.a_map_is_of_one_tree.Goals as goal

pub returns-clause-one : goal.returns-clause-one
returns-clause-one c = one_tree

pub returns-clause-sound : goal.returns-clause-sound
returns-clause-sound c = is_sound

pub returns-clause-alike : goal.returns-clause-alike
returns-clause-alike c = alike

pub returns-clause-root : goal.returns-clause-root
returns-clause-root c = root_is_map
