-- A session begins with what was settled as its journal was opened.
use Rattle.std.proofs.Common.{◌≡◌, ◌≢◌, ℕ, ◌+◌, ◌<◌, ◌≤◌, List, [], length, sym, ◌∙◌, ap, subst, arith}
use mathlib.Core.Path.{fun_ext}
use Rattle.base_types.specs.Seal.{Blocks}
use Rattle.disk_contract.specs.declared.event.Event.{Event}
use Rattle.disk_contract.specs.Cell.{cell_of}
use Rattle.disk_contract.specs.Disk.{State}
use Rattle.layout_geometry.specs.Geometry.{Geometry, bitmap_start}
use Rattle.layout_journal.specs.declared.header.Header.{Header}
use Rattle.layout_journal.specs.Run.{live_part}
use Rattle.crash_argument.specs.JournalLaws.{JournalLaws}
use Rattle.crash_argument.specs.Ledger.{latest, last_of}
use Rattle.crash_argument.specs.Opening.{settled, AddsWaited}
use Rattle.crash_argument.specs.Mounting.{HasBegun}
use Rattle.crash_argument.specs.Points.{IsMounted, IsPoint, IsSafe, session_at_mount, ledger_at_mount}
use Rattle.crash_argument.proofs.theorem.Core.{live_part_same, live_from}
use Rattle.crash_argument.proofs.mount.Mounted.{mounted_safe, safe_last, no_points}
use Rattle.crash_argument.proofs.mount.OpeningSteps.{other_left}

-- point 0 is what was settled before the header, which went into a slot
pub begins_with : JournalLaws → (base : Blocks) (log new : List Event) (g : Geometry) (slot beside : ℕ) (h : Header) (x : List ℕ) → beside < 2 → ((b : ℕ) → (cell_of base log b).pending ≡ []) → AddsWaited beside x log new → IsMounted (cell_of base new) g slot h
    → IsPoint (session_at_mount g h new) base new 0 (live_part g (settled (cell_of base log)))
begins_with laws base log new g slot beside h x low idle w mounted =
    subst (λ (m : Blocks). IsPoint (session_at_mount g h new) base new 0 m) (sym same)
    (subst (λ (p : ℕ). IsPoint (session_at_mount g h new) base new p (live_part g (λ b. latest (cell_of base new b)))) (no_points g h new)
    (safe_last (session_at_mount g h new) base new (ledger_at_mount (cell_of base new) g slot h) (length new) 0 (mounted_safe laws base new g slot h mounted)))
  where
    apart : (j b : ℕ) → j + 2 ≤ b → beside ≢ b
    apart j b le e = omega arith

    as_it_was : (b : ℕ) → bitmap_start g ≤ b → latest (cell_of base new b) ≡ settled (cell_of base log) b
    as_it_was b from = let k = other_left base log new beside b x w (apart g.j b from) (idle b) in ap (last_of (cell_of base new b).settled) k.idle ∙ k.settled

    same : live_part g (settled (cell_of base log)) ≡ live_part g (λ b. latest (cell_of base new b))
    same = fun_ext (λ b. live_part_same g (settled (cell_of base log)) (λ c. latest (cell_of base new c)) mounted.shape (λ c live. as_it_was c (live_from g (settled (cell_of base log)) c live)) b)

-- so with the same base the session has begun
pub has_begun : (d : State) (base : Blocks) (g : Geometry) (slot : ℕ) (h : Header) (m : Blocks) → d.base ≡ base → IsMounted (cell_of base d.log) g slot h
    → IsSafe (session_at_mount g h d.log) base d.log (ledger_at_mount (cell_of base d.log) g slot h) (length d.log) 0 → IsPoint (session_at_mount g h d.log) base d.log 0 m → HasBegun d g slot h (length d.log) m
has_begun d base g slot h m same mounted safe point = record {
  mounted = subst (λ (b : Blocks). IsMounted (cell_of b d.log) g slot h) (sym same) mounted;
  safe = subst (λ (b : Blocks). IsSafe (session_at_mount g h d.log) b d.log (ledger_at_mount (cell_of b d.log) g slot h) (length d.log) 0) (sym same) safe;
  point = subst (λ (b : Blocks). IsPoint (session_at_mount g h d.log) b d.log 0 m) (sym same) point;
}
