use Rattle.std.proofs.Common.{◌≤◌, ◌+◌, take, map}
use Rattle.engine_checkpoint.specs.Batch.{AreAt}
use Rattle.engine_checkpoint.specs.Kept.{of_sure, payloads_in}
use Rattle.engine_checkpoint.specs.Newest.{spot_count, spot_room}
use Rattle.engine_checkpoint.proofs.batch.find_newest.Given as goal

abbrev pub invariant-loop-at : goal.invariant-loop-at
invariant-loop-at l = record {
  so_far : AreAt (map of_sure (take l.at l.records.items)) l.newest;
  count : spot_count l.newest ≤ payloads_in (map of_sure (take l.at l.records.items));
  spare : spot_room l.fn.newest ≤ spot_room l.newest + payloads_in (map of_sure (take l.at l.records.items));
}
