use Rattle.std.proofs.Common.{◌≡◌, ◌+◌, ◌≤◌, length, drop}
use Rattle.base_types.specs.Seal.{blocks_of}
use Rattle.layout_journal.specs.Run.{payload_from}
use Rattle.crash_plain_recovery.proofs.replay.replay_payload.Given as goal

-- the payloads from here on decide, and the block is as it was
abbrev pub invariant-loop-index : goal.invariant-loop-index
invariant-loop-index l = (l.index ≤ length l.payloads) × (l.block ≡ l.fn.block)
    × (payload_from l.geom (blocks_of l.image) (l.first + l.index) (drop l.index l.payloads) l.number ≡ payload_from l.geom (blocks_of l.image) l.first l.payloads l.number)
