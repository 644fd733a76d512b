-- Where the blocks of each node lie on the disk of a run. It is described in docs/CRASHES.md.
use Rattle.std.specs.Prelude.{◌≡◌, ℕ, List}
use Rattle.base_types.specs.Seal.{Blocks}
use Rattle.disk_contract.specs.declared.event.Event.{Event}
use Rattle.layout_geometry.specs.Geometry.{Geometry}
use Rattle.crash_argument.specs.Ledger.{HoldsUnder, issued}
use Rattle.fs_files.specs.Calls.{places_of}

-- The image that has all that was issued among these events holds a map in which each node has these blocks, in order.
pub record LiesAt (g : Geometry) (base : Blocks) (log : List Event) (places : ℕ → List ℕ) : Type 0 where
  pub map : Blocks
  pub held : HoldsUnder g.n g (issued base log) map
  pub nodes : (k : ℕ) → places_of g map k ≡ places k
