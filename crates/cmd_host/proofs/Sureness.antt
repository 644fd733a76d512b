-- Which points are sure on disks that began alike, and with which record their headers start.
use Rattle.std.proofs.Common.{◌≡◌, ℕ, ◌-◌, ◌<◌, ◌≤◌, List, [], sym, ap, ◌∙◌, arith}
use Rattle.base_types.specs.Seal.{Blocks}
use Rattle.disk_contract.specs.declared.event.Event.{Event}
use Rattle.disk_contract.specs.Cell.{Cell, after_all, cell_of}
use Rattle.layout_journal.specs.declared.header.Header.{Header}
use Rattle.layout_journal.specs.Layout.{header_of}
use Rattle.crash_argument.specs.Points.{MountedSession}
use Rattle.engine_checkpoint.specs.Serving.{IsNewestAtRest}
use Rattle.engine_store.specs.SessionView.{IsSure, Starts}

-- A newest header at rest is one on each disk whose first two blocks are alike.

newest_alike : (n : ℕ) (cells other : ℕ → Cell) (h : Header) → ((b : ℕ) → b < 2 → other b ≡ cells b) → IsNewestAtRest n cells h → IsNewestAtRest n other h
newest_alike n cells other h same x = record {
  slot = x.slot;
  is_slot = x.is_slot;
  rests = ap (λ (c : Cell). c.pending) (same x.slot x.is_slot) ∙ x.rests;
  stands = ap (λ (c : Cell). header_of n c.settled) (same x.slot x.is_slot) ∙ x.stands;
  other = λ k rests stands. x.other k (ap (λ (c : Cell). c.pending) (sym second) ∙ rests) (ap (λ (c : Cell). header_of n c.settled) (sym second) ∙ stands);
}
  where
    second : other (1 - x.slot) ≡ cells (1 - x.slot)
    second = same (1 - x.slot) (omega arith)

cells_alike : (base other : Blocks) (front : List Event) (b : ℕ) → base b ≡ other b → cell_of other front b ≡ cell_of base front b
cells_alike base other front b same = ap (λ (x : List ℕ). after_all b (record { settled = x; pending = [] }) front) (sym same)

-- A disk that began with such blocks below its number of them is as sure, and starts with the same record.
module _ (s : MountedSession) (room : 2 ≤ s.geom.n) (base other : Blocks) (same : (b : ℕ) → b < s.geom.n → base b ≡ other b) (front : List Event) where
  newest_then : (h : Header) → IsNewestAtRest s.geom.n (cell_of base front) h → IsNewestAtRest s.geom.n (cell_of other front) h
  newest_then h = newest_alike s.geom.n (cell_of base front) (cell_of other front) h (λ b low. cells_alike base other front b (same b (omega (arith, low, room))))

  pub sure_then : (p : ℕ) → IsSure s base front p → IsSure s other front p
  sure_then p is = record { header = is.header; newest = newest_then is.header is.newest; upto = is.upto }

  pub starts_then : (number : ℕ) → Starts s base front number → Starts s other front number
  starts_then number is = record { header = is.header; newest = newest_then is.header is.newest; is = is.is }
