-- Points of which all is noticed: they stay so, and what a ledger knows is at most what the log says.
use Rattle.std.proofs.Common.{◌≡◌, ◌⊎◌, inl, ⊎_elim, ℕ, ◌+◌, ◌-◌, ◌<◌, ◌≤◌, List, [], ◌∷◌, ◌++◌, length, take, drop, slice_get, Some, refl, sym, ◌∙◌, ap, subst, arith, length-append, take-append-drop, take-take}
use Rattle.std.proofs.Math.Seq.{take-length}
use Rattle.std.proofs.lemmas.Bool.{cases_lt}
use Rattle.crash_argument.proofs.log.Lists.{whole_list, get_some}
use Rattle.std.proofs.lemmas.List.{take-append-le}
use Rattle.base_types.specs.Seal.{Blocks}
use Rattle.disk_contract.specs.declared.event.Event.{Event}
use Rattle.disk_contract.specs.Cell.{cell_of}
use Rattle.layout_geometry.specs.Geometry.{Geometry, ring_block}
use Rattle.layout_journal.specs.Run.{IsWhole}
use Rattle.crash_argument.specs.JournalLaws.{JournalLaws}
use Rattle.crash_argument.specs.Ledger.{Ledger, WrittenRecord, IsConsistentWith, FitsRecords, issued, from_start}
use Rattle.crash_argument.specs.Points.{MountedSession, IsNoticedPoint, IsKnown, IsSafe, session_header}
use Rattle.crash_argument.specs.Steps.{AreNoticed}
use Rattle.crash_argument.proofs.theorem.Core.{stands_whole}
use Rattle.crash_argument.proofs.theorem.Images.{issued_faithful}
use Rattle.crash_argument.proofs.steps.HeaderSteps.{number_at}

-- what is noticed stays so
pub noticed_stays : (s : MountedSession) (base : Blocks) (log more : List Event) (p : ℕ) → IsNoticedPoint s base log p → IsNoticedPoint s base (log ++ more) p
noticed_stays s base log more p n =
    let same : take n.moment (log ++ more) ≡ take n.moment log = take-append-le n.moment log more n.upto in
    record {
      moment = n.moment;
      from = n.from;
      upto = omega (arith, n.upto, length-append log more);
      says = n.says;
      number = n.number;
      whole = subst (λ (l : List Event). IsWhole (issued base l) (session_header s) n.says) (sym same) n.whole;
      ring = λ i lt. ap (λ (l : List Event). (cell_of base l (ring_block s.geom (n.says.place + i))).pending) same ∙ n.ring i lt;
      fresh = λ i e is. ap (λ (l : List Event). (cell_of base l e.block).pending) same ∙ n.fresh i e is;
    }

-- once all records before a number are noticed, their points are
pub all_noticed : JournalLaws → (s : MountedSession) (base : Blocks) (log : List Event) (l : Ledger) (number : ℕ) → IsConsistentWith base log l → s.geom ≡ l.geom → s.epoch ≡ l.epoch → s.mounted ≤ length log → s.first ≤ l.known
    → AreNoticed (cell_of base log) l number → ((p : ℕ) → 0 < p → p ≤ l.known - s.first → IsNoticedPoint s base log p)
    → (p : ℕ) → 0 < p → p ≤ number - s.first → IsNoticedPoint s base log p
all_noticed laws s base log l number k geom epoch late first n old p some le = ⊎_elim new (old p some) (cases_lt (l.known - s.first) p)
  where
    fits : FitsRecords l l.header
    fits = k.headers.fits l.header (inl refl)

    all : take (length log) log ≡ log
    all = take-length log

    new : l.known - s.first < p → IsNoticedPoint s base log p
    new past = of (s.first + p - 1 - l.header.start) (get_some l.records (s.first + p - 1 - l.header.start) (omega (arith, past, le, n.upto, first, fits.sure, fits.known, some)))
        (omega (arith, past, fits.sure, fits.known, some))
      where
        of : (i : ℕ) → (w : WrittenRecord) × (slice_get l.records i ≡ Some w) → l.header.start + i + 1 ≡ s.first + p → IsNoticedPoint s base log p
        of i q is =
            let number_is : q.0.says.number ≡ l.header.start + i = number_at l.geom.j l.header.start l.header.at (from_start l l.header) i q.0 fits.consecutive (ap (λ (ws : List WrittenRecord). slice_get ws i) (whole_list l) ∙ q.1) in
            let low : q.0.says.number < number = omega (arith, number_is, is, le, some) in
            let unsure : l.header.sure < q.0.says.number = omega (arith, number_is, is, past, fits.known) in
            let each = k.each i q.0 q.1 in
            record {
              moment = length log;
              from = late;
              upto = omega arith;
              says = q.0.says;
              number = omega (arith, number_is, is);
              whole = subst (λ (lg : List Event). IsWhole (issued base lg) (session_header s) q.0.says) (sym all)
                  (stands_whole laws (cell_of base log) l (issued base log) (issued_faithful base log l k) (session_header s) q.0 geom epoch each.spelled (record { ring = each.ring; fresh = λ late j e at. each.fresh unsure j e at }));
              ring = λ j lt. ap (λ (lg : List Event). (cell_of base lg (ring_block s.geom (q.0.says.place + j))).pending) all ∙ ap (λ (g : Geometry). (cell_of base log (ring_block g (q.0.says.place + j))).pending) geom ∙ n.ring i j q.0 q.1 low lt;
              fresh = λ j e at. ap (λ (lg : List Event). (cell_of base lg e.block).pending) all ∙ n.fresh i j q.0 e q.1 low unsure at;
            }

-- what a ledger knows is at most what the log says at that moment
pub known_at_most : (s : MountedSession) (base : Blocks) (log more : List Event) (l : Ledger) (t floor p : ℕ) → IsSafe s base log l t floor → IsKnown s base (log ++ more) (length log) p → l.known - s.first ≤ p
known_at_most s base log more l t floor p safe known = ⊎_elim (λ gt. absurd (known.not_next (subst (λ (lg : List Event). IsNoticedPoint s base lg (p + 1)) (sym front) (safe.points.noticed (p + 1) (omega arith) (omega (arith, gt)))))) (λ le. le) (cases_lt p (l.known - s.first))
  where
    front : take (length log) (log ++ more) ≡ log
    front = take-append-le (length log) log more (omega arith) ∙ take-length log

-- and that never falls
pub known_grows : (s : MountedSession) (base : Blocks) (log : List Event) (k i p q : ℕ) → k ≤ i → IsKnown s base log k p → IsKnown s base log i q → p ≤ q
known_grows s base log k i p q le before now = ⊎_elim (λ gt. absurd (now.not_next (subst (λ (lg : List Event). IsNoticedPoint s base lg (q + 1)) parts (noticed_stays s base (take k log) (drop k (take i log)) (q + 1) (before.upto (q + 1) (omega arith) (omega (arith, gt))))))) (λ low. low) (cases_lt q p)
  where
    parts : take k log ++ drop k (take i log) ≡ take i log
    parts = ap (λ (lg : List Event). lg ++ drop k (take i log)) (sym (take-take k i log le)) ∙ take-append-drop k (take i log)
