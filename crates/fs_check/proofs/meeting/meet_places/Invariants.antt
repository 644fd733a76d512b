use Rattle.base_types.specs.Seal.{Blocks, blocks_of}
use Rattle.fs_check.specs.Meeting.{AreBits, HasMet, HasPlaces}
use Rattle.fs_check.proofs.meeting.meet_places.Given as goal

abbrev pub invariant-loop-i : goal.invariant-loop-i
invariant-loop-i l = (m : Blocks) → AreBits l.geom m l.bits → HasPlaces l.geom m l.node l.places → HasMet l.geom m l.node 0 (blocks_of l.fn.met) → HasMet l.geom m l.node l.i (blocks_of l.met)
