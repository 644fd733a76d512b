-- What a checkpoint write asks for, from the test and the data.
use Rattle.std.proofs.Common.{◌≡◌, ◌≢◌, ℕ, ◌<◌, ◌≤◌, List, [], ◌∷◌, length, Result, Ok, Err, IsErr, arith}
use Rattle.std.proofs.lemmas.Bool.Decides.{nat_tests}
use Rattle.std.proofs.lemmas.Nat.{mod_below}
use Rattle.std.proofs.lemmas.Option.{none-some}
use Rattle.std.proofs.lemmas.Bool.{false≢true}
use Rattle.base_types.specs.Seal.{Blocks}
use Rattle.disk_contract.specs.declared.event.Event.{Event}
use Rattle.disk_contract.specs.declared.disk.DiskFault.{DiskFault}
use Rattle.crash_argument.specs.Points.{MountedSession, IsSafe}
use Rattle.engine_checkpoint.specs.HomeState.{HomeWritten}
use Rattle.layout_geometry.specs.Geometry.{Geometry, ring_block, bitmap_start}
use Rattle.crash_argument.specs.Ledger.{Ledger, WrittenRecord}
use Rattle.crash_argument.specs.PipelineData.{PipelineData, NeedsCheckpoint}

-- a block behind the journal is no ring place
pub no_place : (g : Geometry) (b : ℕ) → 0 < g.j → bitmap_start g ≤ b → (place : ℕ) → ring_block g place ≢ b
no_place g b some low place same = grind (arith, nat_tests, mod_below)

-- a batch that covers a block isn't empty
pub not_empty : (l : Ledger) (ws : List WrittenRecord) (b n : ℕ) (x : List ℕ) → length ws ≡ n → NeedsCheckpoint l ws b x → n ≡ 0 → ⊥
not_empty l [] b n x e needs none = none-some x needs.covered
not_empty l (w ∷ ws) b n x e needs none = omega (arith, e, none)

-- where the write failed, a safe disk is what is asked for
pub home_failed : (s : MountedSession) (l : Ledger) (p : PipelineData) (freed : List (List ℕ)) (taken : List ℕ) (t floor b : ℕ) (r : Result ℕ DiskFault) (base : Blocks) (new : List Event) → IsErr r → IsSafe s base new l t floor → HomeWritten s l p freed taken t floor b r base new
home_failed s l p freed taken t floor b (Ok ticket) base new e safe = absurd (false≢true e)
home_failed s l p freed taken t floor b (Err f) base new e safe = safe
