use Rattle.std.proofs.Common.{◌≡◌, ◌≤◌, length, take}
use Rattle.std.specs.Prelude.{vec_capacity}
use Rattle.disk_memory.proofs.image.Image.to_blocks.Given as goal

abbrev pub invariant-loop-block : goal.invariant-loop-block
invariant-loop-block l = (l.blocks.items ≡ take l.block-index l.self) × (length l.self ≤ vec_capacity l.blocks)
