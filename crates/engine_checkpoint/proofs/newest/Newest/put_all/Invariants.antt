use Rattle.std.proofs.Common.{◌≡◌, ◌≤◌, ◌+◌, ℕ, length, drop}
use Rattle.engine_checkpoint.specs.Newest.{spot_of, spot_count, spot_room, spot_or, spot_in}
use Rattle.engine_checkpoint.proofs.newest.Newest.put_all.Given as goal

abbrev pub invariant-loop-at : goal.invariant-loop-at
invariant-loop-at l = record {
  upto : l.at ≤ length l.payloads;
  at : (b : ℕ) → spot_of l.self b ≡ spot_or (spot_in l.number l.at (drop l.at l.payloads) b) (spot_of l.fn.self b);
  count : spot_count l.self + l.at ≤ spot_count l.fn.self + length l.payloads;
  spare : spot_room l.fn.self + l.at ≤ spot_room l.self + length l.payloads;
}
