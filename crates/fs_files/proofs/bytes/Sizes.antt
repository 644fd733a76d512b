-- How many blocks so many bytes fill.
use Rattle.std.proofs.Common.{ℕ, ◌+◌, ◌*◌, ◌≤◌, ◌<◌, arith}
use Rattle.fs_files.specs.Bytes.{blocks_for}

-- the bytes are within the blocks, and less than a block's bytes are left there
pub blocks_hold : (size : ℕ) → (size ≤ 1024 * blocks_for size) × (1024 * blocks_for size < size + 1024)
blocks_hold size = (omega arith, omega arith)

-- more bytes fill as many blocks or more
pub blocks_rise : (less size : ℕ) → less ≤ size → blocks_for less ≤ blocks_for size
blocks_rise less size rises = omega arith
