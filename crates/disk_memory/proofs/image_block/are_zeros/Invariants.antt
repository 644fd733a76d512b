use Rattle.std.proofs.Common.{◌≡◌, ◌==◌, ℕ, take}
use Rattle.std.specs.List.{list_all}
use Rattle.disk_memory.proofs.image_block.are_zeros.Given as goal

-- so far all bytes are zero exactly where the greatest one is
abbrev pub invariant-loop-byte : goal.invariant-loop-byte
invariant-loop-byte l = (l.greatest == 0) ≡ list_all (λ (b : ℕ). b == 0) (take l.byte-index l.bytes)
