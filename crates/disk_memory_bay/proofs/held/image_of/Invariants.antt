use Rattle.std.proofs.Common.{◌≡◌, length, take}
use Rattle.disk_memory_bay.proofs.held.image_of.Given as goal

-- the first blocks are the image's already
abbrev pub invariant-loop-b : goal.invariant-loop-b
invariant-loop-b l = (length l.image ≡ length l.blocks) × (take l.b l.image ≡ take l.b l.blocks)
