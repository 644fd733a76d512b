use Rattle.std.proofs.Common.{◌≡◌, ◌==◌, take}
use Rattle.layout_bytes.specs.Bytes.{are_zeros}
use Rattle.layout_bytes.proofs.fields.are_zeros.Given as goal

-- so far all bytes are zero exactly where the greatest one is
abbrev pub invariant-loop-byte : goal.invariant-loop-byte
invariant-loop-byte l = (l.greatest == 0) ≡ are_zeros (take l.byte-index l.bytes)
