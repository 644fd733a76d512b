-- The choice of blocks to take, among those that may be taken now.
use Rattle.std.specs.Prelude.{◌≡◌, ⊤, ℕ, ◌<◌, ◌≤◌, List, length, take}
use Rattle.engine_blocks.specs.declared.refusals.LowestRefusal.{LowestRefusal}
use Rattle.engine_blocks.specs.declared.refusals.LowestRefusal.TheVariants.{Short, DiskFault, NoMemory}
use Rattle.engine_blocks.specs.State.{Bookkeeping, reusable_blocks, MayBeTaken}

-- these are the n least numbers that may be taken now, which may be taken together
pub record AreLeast (n : ℕ) (k : Bookkeeping) (found : List ℕ) : Type 0 where
  pub enough : n ≤ length (reusable_blocks k)
  pub least : found ≡ take n (reusable_blocks k)
  pub takeable : MayBeTaken k.geom k.reusable found

-- why they weren't given: there are fewer now, or there was no memory
abbrev pub LeastRefused : ℕ → Bookkeeping → LowestRefusal → Type 0
LeastRefused n k (Short need reusable) = (need ≡ n) × (reusable ≡ length (reusable_blocks k)) × (reusable < n)
LeastRefused n k DiskFault = ⊥
LeastRefused n k NoMemory = ⊤
