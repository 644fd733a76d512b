use Rattle.fs_inodes.specs.Changes.{slot_of}
use Rattle.fs_inodes.proofs.slots.Slots.{finds}
use Rattle.fs_inodes.proofs.slots.NamePlaces.{place_found, place_missing, in_its_place}
use Rattle.fs_inodes.proofs.places.a_name_stands_at_its_place.Goals as goal

pub returns-clause-found : goal.returns-clause-found
returns-clause-found c = place_found

pub returns-clause-missing : goal.returns-clause-missing
returns-clause-missing c = place_missing

pub returns-clause-only : goal.returns-clause-only
returns-clause-only c = λ slots place node name distinct at. finds slots place (slot_of node name) distinct at

pub returns-clause-in_place : goal.returns-clause-in_place
returns-clause-in_place c = in_its_place
