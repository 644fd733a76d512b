-- Which points are sure on the disk of a recording: the session's numbers are those of its points.
use Rattle.std.proofs.Common.{◌≡◌, ◌↔◌, ℕ, List, refl, arith}
use Rattle.disk_contract.specs.declared.event.Event.{Event}
use Rattle.layout_geometry.specs.Geometry.{Geometry}
use Rattle.layout_journal.specs.Formatted.{formatted}
use Rattle.engine_store.specs.SessionView.{IsSure, Starts}
use Rattle.cmd_host.specs.Behaving.{session_by}
use Rattle.cmd_record.specs.Behaving.{IsSureBy, StartsBy}

-- In a recording a point is sure where the newest header at rest makes sure the record of its number.
pub sure_by : (g : Geometry) (mounted : ℕ) (front : List Event) (p : ℕ) → IsSure (session_by g mounted) (formatted g) front p ↔ IsSureBy g front p
sure_by g mounted front p = (
  λ is. record { header = is.header; newest = is.newest; upto = omega (arith, is.upto, first) },
  λ is. record { header = is.header; newest = is.newest; upto = omega (arith, is.upto, first) },
)
  where
    first : (session_by g mounted).first ≡ 1
    first = refl

pub starts_by : (g : Geometry) (mounted : ℕ) (front : List Event) (number : ℕ) → Starts (session_by g mounted) (formatted g) front number ↔ StartsBy g front number
starts_by g mounted front number = (
  λ is. record { header = is.header; newest = is.newest; is = is.is },
  λ is. record { header = is.header; newest = is.newest; is = is.is },
)
