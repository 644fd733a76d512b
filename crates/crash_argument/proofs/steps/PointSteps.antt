-- Laws of sync points.
use Rattle.std.proofs.Common.{◌≡◌, ◌⊎◌, inl, inr, ⊎_elim, ℕ, ◌+◌, ◌-◌, ◌<◌, ◌≤◌, List, [], ◌∷◌, ◌++◌, length, take, drop, slice_get, Some, None, refl, sym, ◌∙◌, ap, subst, arith, length-append, length-drop}
use Rattle.std.proofs.lemmas.List.{take-append-le, drop-append-le, drop_all}
use Rattle.std.proofs.Math.Seq.{take-length, take-append-add}
use Rattle.std.proofs.lemmas.Bool.{cases_lt}
use Rattle.std.proofs.lemmas.Option.{none-some}
use Rattle.base_types.specs.Seal.{Blocks}
use Rattle.disk_contract.specs.declared.event.Event.{Event}
use Rattle.disk_contract.specs.declared.event.Event.TheVariants.{Wrote, Lost, Noticed}
use Rattle.disk_contract.specs.Cell.{cell_of}
use Rattle.layout_geometry.specs.Geometry.{Geometry}
use Rattle.layout_journal.specs.declared.header.Header.{Header}
use Rattle.layout_journal.specs.Layout.{header_of, commit_of}
use Rattle.layout_journal.specs.Run.{otherwise, live_part}
use Rattle.crash_argument.specs.JournalLaws.{JournalLaws}
use Rattle.crash_argument.specs.Ledger.{Ledger, WrittenRecord, HoldsUnder, IsConsistentWith, IsStanding, issued, latest, cover, next_number, from_start}
use Rattle.crash_argument.specs.Points.{MountedSession, commits, points_in, IsPoint, IsMounted, ledger_at_mount}
use Rattle.crash_argument.proofs.log.Adds.{stands_settled}
use Rattle.crash_argument.proofs.log.Lists.{first_or_none, get_drop, get_behind, empty_parts}
use Rattle.crash_argument.proofs.theorem.Core.{Stands}
use Rattle.crash_argument.proofs.theorem.Images.{issued_faithful}
use Rattle.crash_argument.proofs.theorem.Stands.{Reached, reached}

-- the commit blocks of two logs, one behind the other
pub commits-append : (g : Geometry) (epoch : ℕ) (xs ys : List Event) → commits g epoch (xs ++ ys) ≡ commits g epoch xs + commits g epoch ys
commits-append g epoch [] ys = omega arith
commits-append g epoch (Wrote t b x ∷ xs) ys = omega (arith, commits-append g epoch xs ys)
commits-append g epoch (Lost b x ∷ xs) ys = omega (arith, commits-append g epoch xs ys)
commits-append g epoch (Noticed t ∷ xs) ys = commits-append g epoch xs ys

-- the points of a log that goes on since the mount
pub points_in-append : (s : MountedSession) (xs ys : List Event) → s.mounted ≤ length xs → points_in s (xs ++ ys) ≡ points_in s xs + commits s.geom s.epoch ys
points_in-append s xs ys late = ap (commits s.geom s.epoch) (drop-append-le s.mounted xs ys late) ∙ commits-append s.geom s.epoch (drop s.mounted xs) ys

-- a point of a log is one of each log with the same events up to its moment
point_moves : (s : MountedSession) (base : Blocks) (log new : List Event) (p : ℕ) (m : Blocks) (i : IsPoint s base log p m) → take i.moment log ≡ take i.moment new → take (i.moment - 1) log ≡ take (i.moment - 1) new → i.moment ≤ length new → IsPoint s base new p m
point_moves s base log new p m i same shorter within = record {
  moment = i.moment;
  at = record {
    within = within;
    count = ap (points_in s) (sym same) ∙ i.at.count;
    just = ⊎_elim inl (λ q. inr (q.0, omega (arith, ap (points_in s) shorter, q.1))) i.at.just;
  };
  held = subst (λ (l : List Event). HoldsUnder s.geom.n s.geom (issued base l) m) same i.held;
}

-- so a point is for ever
pub point_stays : (s : MountedSession) (base : Blocks) (log more : List Event) (p : ℕ) (m : Blocks) → IsPoint s base log p m → IsPoint s base (log ++ more) p m
point_stays s base log more p m i = point_moves s base log (log ++ more) p m i (sym (take-append-le i.moment log more i.at.within)) (sym (take-append-le (i.moment - 1) log more (omega (arith, i.at.within)))) (omega (arith, i.at.within, length-append log more))

-- what was issued holds the newest map
pub issued_holds : JournalLaws → (base : Blocks) (log : List Event) (l : Ledger) → IsConsistentWith base log l → HoldsUnder l.geom.n l.geom (issued base log) (live_part l.geom (l.map_before (next_number l)))
issued_holds laws base log l k = last (reached laws base log l (issued base log) k (issued_faithful base log l k))
  where
    all_stand : (h : Header) (st : IsStanding l h) (i : ℕ) (w : WrittenRecord) → slice_get l.records i ≡ Some w → Stands l (issued base log) h w
    all_stand h st i w is = record { ring = (k.each i w is).ring; fresh = λ late j e at. (k.each i w is).fresh (omega (arith, (k.headers.fits h st).sure_grows, late)) j e at }

    last : Reached l (issued base log) → HoldsUnder l.geom.n l.geom (issued base log) (live_part l.geom (l.map_before (next_number l)))
    last r =
        let f = k.headers.fits r.header r.standing in
        let empty : r.bad ≡ [] = ⊎_elim (λ e. e) (λ f. absurd (r.stops f.0 f.1 (all_stand r.header r.standing _ f.0 (behind r f.0 f.1)))) (first_or_none r.bad) in
        let all : r.header.start + length r.good ≡ next_number l = omega (arith, f.start, f.sure, f.last, ap (λ (ws : List WrittenRecord). length ws) r.split, length-append r.good r.bad, ap (λ (ws : List WrittenRecord). length ws) empty, length-drop {A = WrittenRecord} (r.header.start - l.header.start) l.records) in
        subst (λ n. HoldsUnder l.geom.n l.geom (issued base log) (live_part l.geom (l.map_before n))) all r.held
      where
        behind : (r : Reached l (issued base log)) (w : WrittenRecord) → slice_get r.bad 0 ≡ Some w → slice_get l.records (r.header.start - l.header.start + length r.good) ≡ Some w
        behind r w is = sym (get_drop (r.header.start - l.header.start) l.records (length r.good)) ∙ ap (λ (ws : List WrittenRecord). slice_get ws (length r.good)) r.split ∙ ap (slice_get (r.good ++ r.bad)) (omega arith) ∙ get_behind r.good r.bad 0 ∙ is

-- a commit block was written just now: the map of its point is the newest
pub point_made : JournalLaws → (s : MountedSession) (base : Blocks) (log : List Event) (e : Event) (l : Ledger) (p : ℕ) → s.geom ≡ l.geom → s.mounted ≤ length log → points_in s log ≡ p → commits s.geom s.epoch (e ∷ []) ≡ 1
    → IsConsistentWith base (log ++ e ∷ []) l → IsPoint s base (log ++ e ∷ []) (p + 1) (live_part l.geom (l.map_before (next_number l)))
point_made laws s base log e l p geom late before one k =
    let len : length (log ++ e ∷ []) ≡ length log + 1 = length-append log (e ∷ []) in
    record {
      moment = length (log ++ e ∷ []);
      at = record {
        within = omega arith;
        count = ap (points_in s) (take-length (log ++ e ∷ [])) ∙ points_in-append s log (e ∷ []) late ∙ omega arith;
        just = inr (omega (arith, late, len), omega (arith, ap (points_in s) (shorter log e), before));
      };
      held = subst (λ (lg : List Event). HoldsUnder s.geom.n s.geom (issued base lg) (live_part l.geom (l.map_before (next_number l)))) (sym (take-length (log ++ e ∷ [])))
          (subst (λ (g : Geometry). HoldsUnder g.n g (issued base (log ++ e ∷ [])) (live_part l.geom (l.map_before (next_number l)))) (sym geom) (issued_holds laws base (log ++ e ∷ []) l k));
    }
  where
    shorter : (xs : List Event) (y : Event) → take (length (xs ++ y ∷ []) - 1) (xs ++ y ∷ []) ≡ xs
    shorter xs y = ap (λ n. take n (xs ++ y ∷ [])) (omega (arith, length-append xs (y ∷ []))) ∙ take-append-le (length xs) xs (y ∷ []) (omega arith) ∙ take-length xs

-- a session begins with its ledger
pub begins : (base : Blocks) (log : List Event) (g : Geometry) (slot : ℕ) (h : Header) → IsMounted (cell_of base log) g slot h → IsConsistentWith base log (ledger_at_mount (cell_of base log) g slot h)
begins base log g slot h m = record {
  headers = record {
    is_slot = m.is_slot;
    durable = m.stands;
    alone = m.idle slot;
    other = λ x k st is. inl (m.other k (ap (header_of g.n) (sym (stands_settled _ x (m.idle (1 - slot)) st)) ∙ is));
    newer = λ k e. absurd (none-some k e);
    fits = λ k st. ⊎_elim (λ e. subst (λ (f : Header). Rattle.crash_argument.specs.Ledger.FitsRecords (ledger_at_mount (cell_of base log) g slot h) f) (sym e) fits) (λ e. absurd (none-some k e)) st;
  };
  each = λ k w is. cc;
  numbers = record {
    commit = λ p x c st is e from. absurd (omega (arith, m.no_commit p c (ap (commit_of g) (sym (stands_settled _ x (m.idle _) st)) ∙ is), e));
    descriptor = λ p x d w st is e from got. cc;
  };
  shape = m.shape;
  ring = m.ring;
  known = omega arith;
  home = record {
    map = λ k good bad b st split sure live. ap (λ o. otherwise o (latest (cell_of base log b))) (nothing k good bad b split);
    laid = λ k good bad b st split sure live none. inl (m.idle b);
  };
}
  where
    dropped : (n : ℕ) → drop {A = WrittenRecord} n [] ≡ []
    dropped n = drop_all n [] (omega arith)

    nothing : (k : Header) (good bad : List WrittenRecord) (b : ℕ) → from_start (ledger_at_mount (cell_of base log) g slot h) k ≡ good ++ bad → cover None good b ≡ None
    nothing k good bad b split = ap (λ (ws : List WrittenRecord). cover None ws b) (empty_parts good bad (sym (dropped (k.start - h.start)) ∙ split)).0

    fits : Rattle.crash_argument.specs.Ledger.FitsRecords (ledger_at_mount (cell_of base log) g slot h) h
    fits = record {
      epoch = refl;
      geom = m.geom;
      let_in = λ c. absurd (Rattle.std.proofs.lemmas.Bool.both_ways h.closed m.not_closed c);
      place = ap (λ n. Rattle.layout_journal.specs.Run.place_after g.j h.at (Rattle.crash_argument.specs.Ledger.all_say (take n []))) {x = 0} {y = h.start - h.start} (omega arith);
      start = omega arith;
      sure_grows = omega arith;
      sure = omega (arith, m.empty);
      last = omega (arith, m.empty);
      known = omega (arith, m.empty);
      consecutive = subst (λ (ws : List WrittenRecord). Rattle.layout_journal.specs.Run.AreConsecutive g.j h.start h.at (Rattle.crash_argument.specs.Ledger.all_say ws)) (sym (dropped (h.start - h.start))) tt;
      within = omega (arith, ap (λ (ws : List WrittenRecord). Rattle.layout_journal.specs.Run.all_places (Rattle.crash_argument.specs.Ledger.all_say ws)) (dropped (h.start - h.start)));
    }

-- no point comes back from a longer log
pub point_was : (s : MountedSession) (base : Blocks) (log more : List Event) (p : ℕ) (m : Blocks) → s.mounted ≤ length log → p ≤ points_in s log → IsPoint s base (log ++ more) p m → IsPoint s base log p m
point_was s base log more p m late old i = ⊎_elim (λ beyond. absurd (outside beyond)) inside (cases_lt (length log) i.moment)
  where
    inside : i.moment ≤ length log → IsPoint s base log p m
    inside le = point_moves s base (log ++ more) log p m i (take-append-le i.moment log more le) (take-append-le (i.moment - 1) log more (omega arith)) le

    reach : (k : ℕ) → length log ≤ k → points_in s log ≤ points_in s (take k (log ++ more))
    reach k le =
        let parts : take k (log ++ more) ≡ log ++ take (k - length log) more = ap (λ n. take n (log ++ more)) (omega arith) ∙ take-append-add log more (k - length log) in
        omega (arith, ap (points_in s) parts, points_in-append s log (take (k - length log) more) late)

    outside : length log < i.moment → ⊥
    outside lt = ⊎_elim (λ q. omega (arith, q.1)) (λ q. omega (arith, q.1, reach (i.moment - 1) (omega arith))) i.at.just
