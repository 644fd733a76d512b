-- What is known of crashes in a session, from its disk's base and log. It is described in docs/CRASH-SAFETY.md.
use Rattle.std.specs.Prelude.{◌≡◌, ℕ, ◌≤◌, List, length, take, Some}
use Rattle.base_types.specs.Seal.{Blocks}
use Rattle.disk_contract.specs.declared.event.Event.{Event}
use Rattle.disk_contract.specs.Cell.{cell_of}
use Rattle.disk_contract.specs.Crash.{IsHonest}
use Rattle.layout_journal.specs.declared.header.Header.{Header}
use Rattle.crash_argument.specs.Ledger.{HoldsUnder, issued}
use Rattle.crash_argument.specs.Points.{MountedSession, IsPoint, records_told}
use Rattle.engine_checkpoint.specs.Serving.{IsNewestAtRest}
use Rattle.engine_blocks.specs.State.{Bookkeeping, Counts, CrashView, RecordsView, State}
use Rattle.engine_store.specs.Store.{point_of}

-- a crash at some moment from t on may leave this honest image
pub record LeftImage (s : MountedSession) (base : Blocks) (log : List Event) (t : ℕ) (img : Blocks) : Type 0 where
  pub moment : ℕ
  pub from : t ≤ moment
  pub within : moment ≤ length log
  pub honest : IsHonest s.geom.n base (take moment log) img

-- the newest header at rest makes the point sure
pub record IsSure (s : MountedSession) (base : Blocks) (log : List Event) (p : ℕ) : Type 0 where
  pub header : Header
  pub newest : IsNewestAtRest s.geom.n (cell_of base log) header
  pub upto : p ≤ point_of s.first header.sure

-- the newest header at rest starts with the record of this number
pub record Starts (s : MountedSession) (base : Blocks) (log : List Event) (number : ℕ) : Type 0 where
  pub header : Header
  pub newest : IsNewestAtRest s.geom.n (cell_of base log) header
  pub is : header.start ≡ number

-- Of its records the log's commit blocks tell since the mount, and those before the start of the newest header at rest are released.
abbrev pub records_of : MountedSession → Blocks → RecordsView
records_of s base = record { told = λ front. Some (records_told s front); starts = λ front number. ∥ Starts s base front number ∥₁ }

-- Base and log are the disk's, and the points are the session's: of each, some moment has it. An image holds a map under a header of the session's geometry, that in which all that was issued stands as well.
abbrev pub crash_of : MountedSession → Blocks → List Event → (ℕ → ℕ → Type 0) → CrashView
crash_of s base log awaits = record {
  base = base;
  log = log;
  is_point = λ p m. ∥ IsPoint s base log p m ∥₁;
  left_since = λ t img. LeftImage s base log t img;
  holds = λ img m. HoldsUnder s.geom.n s.geom img m;
  issued = λ m. HoldsUnder s.geom.n s.geom (issued base log) m;
  awaits = awaits;
  sure = λ front p. ∥ IsSure s base front p ∥₁;
  records = records_of s base;
}

-- the whole: a bookkeeping, counts and a map, with this view of crashes, in which points wait for these tickets
abbrev pub state_of : MountedSession → Bookkeeping → Counts → Blocks → Blocks → List Event → (ℕ → ℕ → Type 0) → State
state_of s k c m base log awaits = record { books = k; counts = c; map = m; crash = crash_of s base log awaits }
