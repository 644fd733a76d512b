-- One disk lags behind another: what a crash may leave of it, a crash may leave of the other too.
use Rattle.std.specs.Prelude.{◌≡◌, ℕ, ◌<◌, List, ◌∷◌, ◌++◌, map}
use Rattle.base_types.specs.Seal.{Blocks}
use Rattle.disk_contract.specs.declared.event.Event.{Event}
use Rattle.disk_contract.specs.Cell.{Cell, Write, cell_of, IsWritten}

-- what a block may hold that isn't torn, the oldest first: its settled content, and its pending writes
abbrev pub bytes_in : Write → List ℕ
bytes_in w = w.bytes

abbrev pub chain : Cell → List (List ℕ)
chain c = c.settled ∷ map bytes_in c.pending

-- what the second cell may hold are the last of those that the first one may
pub record Trails (m a : Cell) : Type 0 where
  pub over : List (List ℕ)
  pub is : chain m ≡ over ++ chain a

-- of n blocks: a disk that began with the same blocks lags behind these events of another, and wrote all that they wrote
pub record LagsBehind (n : ℕ) (base : Blocks) (log : List Event) (began : Blocks) (events : List Event) : Type 0 where
  pub alike : (b : ℕ) → b < n → began b ≡ base b
  pub cells : (b : ℕ) → b < n → Trails (cell_of base log b) (cell_of began events b)
  pub written : (x : List ℕ) → IsWritten x log → IsWritten x events
