-- What is made for a store as a disk is mounted, and the ledger with which it begins. It is described in docs/STORE.md.
use Rattle.std.specs.Prelude.{◌≡◌, ℕ, List, []}
use Rattle.base_types.specs.Seal.{Blocks, blocks_of}
use Rattle.disk_contract.specs.declared.event.Event.{Event}
use Rattle.disk_contract.specs.Cell.{cell_of}
use Rattle.disk_contract.specs.Disk.{State}
use Rattle.layout_geometry.specs.Geometry.{Geometry}
use Rattle.layout_journal.specs.declared.header.Header.{Header}
use Rattle.layout_journal.specs.Ring.{RingPlaces}
use Rattle.crash_argument.specs.Ledger.{Ledger, cells_of, next_number}
use Rattle.crash_argument.specs.Points.{IsMounted, ledger_at_mount}
use Rattle.engine_running.specs.Running.{IsEmpty}
use Rattle.engine_reuse.specs.Calls.{with_bitmap}
use Rattle.engine_checkpoint.specs.declared.pipeline.Pipeline.{Pipeline}
use Rattle.engine_checkpoint.specs.Agree.{PipelineAgrees}
use Rattle.engine_checkpoint.specs.Index.{IndexIsRight}
use Rattle.engine_checkpoint.specs.Kept.{places_taken}
use Rattle.engine_checkpoint.specs.Order.{IsInOrder, HasRoom}
use Rattle.engine_checkpoint.specs.Steps.{HasNoRecord}
use Rattle.engine_books.specs.Books.{TransactionBooks}
use Rattle.engine_books.specs.Kept.{AreKept}
use Rattle.engine_books.specs.Point.{BeganAt, HasBitmap}

-- the ledger with which a store begins on a disk that was mounted under this header
abbrev pub first_ledger : State → Geometry → ℕ → Header → Ledger
first_ledger d g slot h = ledger_at_mount (cells_of d) g slot h

-- the map that it has before the next record: what was written last to each block
abbrev pub first_map : State → Geometry → ℕ → Header → Blocks
first_map d g slot h = (first_ledger d g slot h).map_before (next_number (first_ledger d g slot h))

-- a pipeline without a record that goes with each disk that was mounted under this header, as long as its ring is empty
pub record IsNewPipeline (g : Geometry) (slot : ℕ) (h : Header) (v : Pipeline) : Type 0 where
  pub none : HasNoRecord g h slot v
  pub order : IsInOrder v
  pub room : HasRoom v
  pub index : IndexIsRight v
  pub taken : places_taken v ≡ 0
  pub agrees : (base : Blocks) (log : List Event) (ring : RingPlaces) → IsMounted (cell_of base log) g slot h → ring ≡ record { geom = g; next = h.at; taken = 0 } → PipelineAgrees base log (ledger_at_mount (cell_of base log) g slot h) v ring [] []

-- books with an empty transaction, which begins at each map that has their bitmap, and in which no block waits
pub record AreNewBooks (g : Geometry) (v : TransactionBooks) : Type 0 where
  pub kept : AreKept v
  pub geom : v.geom ≡ g
  pub empty : IsEmpty v.changes
  pub dead : v.dead ≡ with_bitmap g (blocks_of v.bitmap)
  pub begins : (last : Blocks) → HasBitmap v last → BeganAt v last

-- an empty ring, whose first record will begin at the first place
abbrev pub empty_ring : Geometry → RingPlaces
empty_ring g = record { geom = g; next = 0; taken = 0 }
