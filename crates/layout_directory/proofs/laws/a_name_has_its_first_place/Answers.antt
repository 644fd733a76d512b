use Rattle.layout_directory.proofs.Places.{there, first, missing}
use Rattle.layout_directory.proofs.laws.a_name_has_its_first_place.Goals as goal

pub returns : goal.returns
returns c = record { there = there; first = first; missing = missing }
