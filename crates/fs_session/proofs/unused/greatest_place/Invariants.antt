use Rattle.std.proofs.Common.{◌<◌, length}
use Rattle.fs_session.proofs.unused.greatest_place.Given as goal

abbrev pub invariant-loop-place : goal.invariant-loop-place
invariant-loop-place l = l.greatest < length l.numbers
