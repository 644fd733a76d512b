-- A mounted disk begins with point 0; and the last point is what has been issued.
use Rattle.std.proofs.Common.{◌≡◌, inl, ℕ, ◌+◌, ◌-◌, ◌<◌, ◌≤◌, List, [], length, map, take, refl, sym, ◌∙◌, ap, subst, arith}
use Rattle.std.proofs.lemmas.List.{take_all, drop_all}
use Rattle.std.specs.List.{filter}
use Rattle.base_types.specs.Seal.{Blocks}
use Rattle.disk_contract.specs.declared.event.Event.{Event}
use Rattle.disk_contract.specs.Cell.{cell_of}
use Rattle.layout_geometry.specs.Geometry.{Geometry}
use Rattle.layout_journal.specs.declared.header.Header.{Header}
use Rattle.layout_journal.specs.Run.{commit_says, live_part}
use Rattle.crash_argument.specs.JournalLaws.{JournalLaws}
use Rattle.crash_argument.specs.Ledger.{Ledger, HoldsUnder, IsConsistentWith, all_say, issued, next_number}
use Rattle.crash_argument.specs.Points.{MountedSession, IsMounted, IsPoint, HasPoints, StandsBetween, IsSafe, commits, commits_told, is_from, points_in, ledger_at_mount, session_at_mount}
use Rattle.crash_argument.proofs.steps.PointSteps.{begins, issued_holds}
use Rattle.crash_argument.proofs.steps.WindowSteps.{between_start}

-- all of a log's events
whole : (log : List Event) → take (length log) log ≡ log
whole log = take_all (length log) log (omega arith)

-- a session begins without points behind it
pub no_points : (g : Geometry) (h : Header) (log : List Event) → points_in (session_at_mount g h log) log ≡ 0
no_points g h log = ap (commits g h.epoch) (drop_all (length log) log (omega arith))

-- point 0 is what the disk holds as its mount ends
first_point : (base : Blocks) (log : List Event) (g : Geometry) (h : Header) (m : Blocks) → HoldsUnder g.n g (issued base log) m → IsPoint (session_at_mount g h log) base log 0 m
first_point base log g h m held = record {
  moment = length log;
  at = record { within = omega arith; count = ap (points_in (session_at_mount g h log)) (whole log) ∙ no_points g h log; just = inl (refl, refl) };
  held = subst (λ (l : List Event). HoldsUnder g.n g (issued base l) m) (sym (whole log)) held;
}

-- a mounted disk is safe, with point 0 as its floor
pub mounted_safe : JournalLaws → (base : Blocks) (log : List Event) (g : Geometry) (slot : ℕ) (h : Header) → IsMounted (cell_of base log) g slot h
    → IsSafe (session_at_mount g h log) base log (ledger_at_mount (cell_of base log) g slot h) (length log) 0
mounted_safe laws base log g slot h mounted = record {
  keeps = keeps;
  points = points;
  low = omega arith;
  window = subst (λ (t : ℕ). StandsBetween (session_at_mount g h log) base log (length log) t (next_number l - h.start)) {x = h.start - h.start} {y = 0} (omega arith) (between_start laws (session_at_mount g h log) base log l keeps points);
}
  where
    l : Ledger
    l = ledger_at_mount (cell_of base log) g slot h

    keeps : IsConsistentWith base log l
    keeps = begins base log g slot h mounted

    points : HasPoints (session_at_mount g h log) base log l
    points = record {
      geom = refl;
      epoch = refl;
      first = omega arith;
      late = omega arith;
      count = omega (arith, no_points g h log);
      told = λ n from. ap (λ es. filter (is_from n) (commits_told g h.epoch es)) (drop_all (length log) log (omega arith)) ∙ sym (ap (λ ws. map (commit_says h.epoch) (all_say ws)) (drop_all (n - h.start) [] (omega arith)));
      each = λ n low high. subst (λ (p : ℕ). IsPoint (session_at_mount g h log) base log p (live_part g (l.map_before n))) (sym (omega arith)) (first_point base log g h (live_part g (l.map_before n)) (issued_holds laws base log l keeps));
      noticed = λ p some le. absurd (omega arith);
    }

-- what has been issued to a safe disk holds the newest map
pub safe_holds : JournalLaws → (s : MountedSession) (base : Blocks) (log : List Event) (l : Ledger) (t floor : ℕ) → IsSafe s base log l t floor → HoldsUnder l.geom.n l.geom (issued base log) (live_part l.geom (l.map_before (next_number l)))
safe_holds laws s base log l t floor safe = issued_holds laws base log l safe.keeps

-- the last point counts the commit blocks of the session
pub safe_last : (s : MountedSession) (base : Blocks) (log : List Event) (l : Ledger) (t floor : ℕ) → IsSafe s base log l t floor → IsPoint s base log (points_in s log) (live_part l.geom (l.map_before (next_number l)))
safe_last s base log l t floor safe =
    subst (λ (p : ℕ). IsPoint s base log p (live_part l.geom (l.map_before (next_number l)))) (omega (arith, safe.points.count, safe.points.count))
    (safe.points.each (next_number l) safe.keeps.known (omega arith))
