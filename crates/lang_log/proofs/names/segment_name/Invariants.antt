use Rattle.std.proofs.Common.{◌≡◌, ◌<◌, ◌≤◌, ◌++◌, length, drop}
use Rattle.lang_log.specs.Names.{digits}
use Rattle.lang_log.proofs.names.segment_name.Given as goal

abbrev pub invariant-loop-place : goal.invariant-loop-place
invariant-loop-place l = (digits 10 l.first ≡ digits l.place l.rest ++ drop l.place l.digits) × (l.place ≤ 10) × (l.rest < 4294967296) × (length l.digits ≡ 10)

abbrev pub decreases-loop-place : goal.decreases-loop-place
decreases-loop-place l = l.place
