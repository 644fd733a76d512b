-- A batch whose checkpoint writes are made: its blocks are written ascending, each that the test names. It is described in docs/PIPELINE.md.
use Rattle.std.specs.Prelude.{◌≡◌, ℕ, ◌+◌, List, [], ◌∷◌, take, drop, Option, None, Result, Ok, Err}
use Rattle.base_types.specs.Seal.{Blocks}
use Rattle.disk_contract.specs.declared.event.Event.{Event}
use Rattle.disk_contract.specs.declared.disk.DiskFault.{DiskFault}
use Rattle.disk_contract.specs.Cell.{cell_of}
use Rattle.crash_argument.specs.Ledger.{Ledger}
use Rattle.crash_argument.specs.Steps.{NoneIsBeingWritten}
use Rattle.crash_argument.specs.HomeTest.{AreFreedBy, goes_home}
use Rattle.crash_argument.specs.OnePending.{HasOnePending, MayWriteAllFresh}
use Rattle.crash_argument.specs.PipelineData.{PipelineData, DataAgree, with_home}
use Rattle.engine_running.specs.declared.put.Put.{Put}
use Rattle.crash_argument.specs.Points.{MountedSession, IsSafe}
use Rattle.engine_checkpoint.specs.Agree.{HomeIsSent}

-- the bytes of the checkpoint write that a block is to have
abbrev pub home_of : Ledger → PipelineData → List (List ℕ) → ℕ → Option (List ℕ)
home_of l p freed b = goes_home None (take p.batch (drop p.placed l.records)) (take p.batch (drop p.placed freed)) b

-- what is kept while the batch's blocks are written; the batch ends with the last sure record, and the blocks that the running transaction took may be written fresh
pub record HomeState (base : Blocks) (log : List Event) (l : Ledger) (p : PipelineData) (freed : List (List ℕ)) (taken : List ℕ) : Type 0 where
  pub agree : DataAgree base log l p
  pub freed_by : AreFreedBy l freed
  pub ends : l.header.start + p.placed + p.batch ≡ l.header.sure + 1
  pub idle : NoneIsBeingWritten (cell_of base log) l
  pub one : HasOnePending base log l p []
  pub sent : HomeIsSent l.geom log p.home
  pub free : MayWriteAllFresh log l p taken

-- one above the last block of a row, or this number
abbrev pub sent_behind : ℕ → List Put → ℕ
sent_behind n [] = n
sent_behind n (q ∷ qs) = sent_behind (q.block + 1) qs

-- the data as these checkpoint writes are made and all below this block is sent
abbrev pub with_homes : PipelineData → List (ℕ × ℕ) → ℕ → PipelineData
with_homes p homes n = record p { home = homes; sent = n }

-- after a checkpoint write: the block is sent, with its ticket; or the disk is safe all the same
abbrev pub HomeWritten : MountedSession → Ledger → PipelineData → List (List ℕ) → List ℕ → ℕ → ℕ → ℕ → Result ℕ DiskFault → Blocks → List Event → Type 0
HomeWritten s l p freed taken t floor b (Ok ticket) base new = IsSafe s base new l t floor × HomeState base new l (with_home p b ticket) freed taken
HomeWritten s l p freed taken t floor b (Err e) base new = IsSafe s base new l t floor
