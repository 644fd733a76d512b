use Rattle.std.proofs.Common.{◌≡◌, ◌≤◌, ℕ, take, if◌then◌else◌, None}
use Rattle.crash_argument.specs.HomeTest.{is_one_of}
use Rattle.engine_checkpoint.specs.Newest.{spot_of, spot_count, spot_room}
use Rattle.engine_checkpoint.proofs.newest.Newest.take_all_out.Given as goal

abbrev pub invariant-loop-block : goal.invariant-loop-block
invariant-loop-block l = record {
  at : (b : ℕ) → spot_of l.self b ≡ (if is_one_of b (take l.block-index l.blocks) then None else spot_of l.fn.self b);
  count : spot_count l.self ≤ spot_count l.fn.self;
  spare : spot_room l.fn.self ≤ spot_room l.self;
}
