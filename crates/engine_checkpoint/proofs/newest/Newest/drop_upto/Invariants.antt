use Rattle.std.proofs.Common.{◌≡◌, ◌≤◌, ◌&&◌, ℕ, take, if◌then◌else◌, None}
use Rattle.engine_checkpoint.specs.Newest.{spot_of, spot_count, spot_room, has_block, is_upto}
use Rattle.engine_checkpoint.proofs.newest.Newest.drop_upto.Given as goal

abbrev pub invariant-loop-put : goal.invariant-loop-put
invariant-loop-put l = record {
  at : (b : ℕ) → spot_of l.self b ≡ (if has_block b (take l.put-index l.payloads) && is_upto l.number (spot_of l.fn.self b) then None else spot_of l.fn.self b);
  count : spot_count l.self ≤ spot_count l.fn.self;
  spare : spot_room l.fn.self ≤ spot_room l.self;
}
