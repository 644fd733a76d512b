-- The disk of the least geometry after its first mount.
use Rattle.std.proofs.Common.{◌≡◌, ◌≢◌, ℕ, ◌==◌, true, refl, ap}
use Rattle.std.proofs.lemmas.Bool.{ne_eqb, cond-false}
use Rattle.disk_contract.specs.Cell.{Cell, cell_of, settle, from_ticket}
use Rattle.layout_geometry.specs.Geometry.{geometry_fits}
use Rattle.layout_journal.specs.Formatted.{formatted}
use Rattle.crash_example.specs.FirstRecord.{least}
use Rattle.crash_argument.specs.Formatted.{mount_events}
use Rattle.crash_argument.specs.Ledger.{latest}

-- the least geometry is one
pub least_fits : geometry_fits least ≡ true
unfolding geometry_fits
least_fits = refl

-- the mount wrote the header of slot 1 alone
pub others_stay : (ticket b : ℕ) → 1 ≢ b → latest (cell_of (formatted least) (mount_events least ticket) b) ≡ formatted least b
others_stay ticket b apart = ap (λ (c : Cell). latest (settle c (from_ticket ticket c.pending))) (cond-false (1 == b) _ _ (ne_eqb 1 b apart))
