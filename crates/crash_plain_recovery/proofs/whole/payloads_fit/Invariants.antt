use Rattle.std.proofs.Common.{◌≡◌, ◌+◌, ◌≤◌, length, drop}
use Rattle.base_types.specs.Seal.{blocks_of}
use Rattle.crash_record.specs.Found.{payloads_fit}
use Rattle.crash_plain_recovery.proofs.whole.payloads_fit.Given as goal

-- the payloads from here on decide
abbrev pub invariant-loop-index : goal.invariant-loop-index
invariant-loop-index l = (l.index ≤ length l.payloads) × (payloads_fit l.geom (blocks_of l.image) (l.first + l.index) (drop l.index l.payloads) ≡ payloads_fit l.geom (blocks_of l.image) l.first l.payloads)
