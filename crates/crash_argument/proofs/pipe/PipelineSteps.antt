-- The steps of what a session's data say: a notice, records that become durable, a batch that is at home, a header that is durable, and the header that may be written.
use Rattle.std.proofs.Common.{◌≡◌, ◌⊎◌, inl, inr, ⊎_elim, ℕ, zero, suc, ◌+◌, ◌-◌, ◌%◌, ◌<◌, ◌≤◌, nat_le, ◌==◌, Bool, true, false, if◌then◌else◌, IsTrue, List, [], ◌∷◌, ◌++◌, length, take, drop, slice_get, Some, None, refl, sym, ◌∙◌, ap, subst, arith, length-append, length-drop, append_assoc}
use Rattle.std.proofs.lemmas.Bool.{cases_lt, cases_Bool, false≢true, eqb-true, lt-leb, cond-true, cond-false}
use Rattle.std.proofs.lemmas.Option.{none-some, same_Some}
use Rattle.base_types.specs.Seal.{Blocks}
use Rattle.disk_contract.specs.declared.event.Event.{Event}
use Rattle.disk_contract.specs.declared.event.Event.TheVariants.{Noticed}
use Rattle.disk_contract.specs.Cell.{Cell, Write, cell_of, IsNoticed}
use Rattle.crash_argument.proofs.log.Events.{cell_of-append}
use Rattle.layout_geometry.specs.Geometry.{data_start}
use Rattle.layout_journal.specs.declared.header.Header.{Header}
use Rattle.layout_journal.specs.Layout.{header_of}
use Rattle.layout_journal.specs.Run.{Record, places, all_places, place_after, AreConsecutive, is_live}
use Rattle.crash_argument.specs.Ledger.{Ledger, WrittenRecord, IsConsistentWith, FitsRecords, from_start, next_number, all_say, cover, latest, last_of}
use Rattle.crash_argument.specs.Steps.{AreNoticed, with_known, IsDurable, with_durable_header, MayWriteHeader, MayWriteInPlace}
use Rattle.crash_argument.specs.LastWrites.{HasTickets, IsDead, is_among}
use Rattle.crash_argument.specs.PipelineData.{PipelineData, DataAgree, IsSettledIn, StaysLive, LeavesAlone, AllNoticed, AreAllNoticed, AreNewlyNoticed, IsHomeNoticed, with_placed, with_durable, still_waiting, next_header}
use Rattle.crash_argument.proofs.log.Lists.{whole_list, get_some, get_drop, front_get, get_behind, say_append, say_length, places_append, place_after-append}
use Rattle.crash_argument.proofs.log.Tickets.{noticed_done, done_notice}
use Rattle.crash_argument.proofs.log.LastWrites.{last_stays}
use Rattle.crash_argument.proofs.steps.HeaderSteps.{cover-parts, leave_or_decide, alone_leaves, count}
use Rattle.crash_argument.proofs.pipe.Agree.{knows_with, knows_under}
use Rattle.crash_argument.proofs.pipe.InPlace.{numbered, within, home_may}
use Rattle.crash_argument.proofs.theorem.Core.{live_from, live_below}
use Rattle.std.proofs.lemmas.List.{drop-append-le, take-append-drop}
use Rattle.std.proofs.Math.Seq.{take-append_seam, drop-append_seam}

-- a ticket among noticed ones is noticed
among_noticed : (log : List Event) (ts : List ℕ) (t : ℕ) → AllNoticed log ts → IsTrue (is_among ts t) → IsNoticed t log
among_noticed log [] t all is = absurd (false≢true is)
among_noticed log (u ∷ ts) t all is = by (u == t) refl (λ e. among_noticed log ts t all.1 e) is
  where
    by : (v : Bool) → (u == t) ≡ v → (IsTrue (is_among ts t) → IsNoticed t log) → IsTrue (if v then true else is_among ts t) → IsNoticed t log
    by true e rest h = subst (λ k. IsNoticed k log) (eqb-true u t e) all.0
    by false e rest h = rest h

module _ (base : Blocks) (log : List Event) (l : Ledger) (keeps : IsConsistentWith base log l) (p : PipelineData) (k : DataAgree base log l p) where
  -- a notice
  tickets_stay : (t : ℕ) (w : WrittenRecord) (ts : List ℕ) → HasTickets log l w ts → HasTickets (log ++ Noticed t ∷ []) l w ts
  tickets_stay t w ts h = record {
    ring = λ i lt. let o = h.ring i lt in (o.0, o.1, last_stays log (Noticed t ∷ []) _ o.0 _ tt o.2);
    fresh = λ late i e at. let o = h.fresh late i e at in (o.0, o.1, last_stays log (Noticed t ∷ []) _ o.0 _ tt o.2);
  }

  -- all that the data say holds on after it
  pub knows_notice : (t : ℕ) → DataAgree base (log ++ Noticed t ∷ []) l p
  knows_notice t = knows_with k (log ++ Noticed t ∷ []) p.tickets p.home p.sent p.waiting k.count (λ i w ts is at from. tickets_stay t w ts (k.tickets i w ts is at from))
      (λ h e. let o = k.pending h e in record { number = o.number; bytes = o.bytes; is_ticket = o.is_ticket; reads = o.reads; last = last_stays log (Noticed t ∷ []) _ o.number _ tt o.last })
      (λ b x sent covered on. let o = k.home b x sent covered on in (o.0, o.1, o.2, last_stays log (Noticed t ∷ []) b o.1 x tt o.3))
      (λ b x covered on. subst (λ (c : Cell). IsSettledIn c x) (sym (cell_of-append base log (Noticed t ∷ []) b)) (done_notice t (cell_of base log b) x (k.at_home b x covered on))) k.waiting

  -- records of which all is noticed
  ticket_of : (i : ℕ) (w : WrittenRecord) → slice_get l.records i ≡ Some w → (ts : List ℕ) × (slice_get p.tickets i ≡ Some ts)
  ticket_of i w is = get_some p.tickets i (omega (arith, k.count, within base log l keeps k.new i w is))

  -- once the tickets of the records before a number are noticed, these records are: of those that are known already nothing need be asked
  pub newly_noticed : (number : ℕ) → l.known ≤ number → number ≤ next_number l → AreNewlyNoticed log l p number → AreNoticed (cell_of base log) l number
  newly_noticed number from upto all = record {
    from = from;
    upto = upto;
    ring = λ i j w is low lt. ⊎_elim (λ old. (keeps.each i w is).intact old j lt)
        (λ new. let ts = ticket_of i w is in let o = (k.tickets i w ts.0 is ts.1 new).ring j lt in (noticed_done base log _ o.0 _ o.2 (among_noticed log ts.0 o.0 (all i w ts.0 is ts.1 new low) o.1)).pending)
        (cases_lt w.says.number l.known);
    fresh = λ i j w e is low late at. ⊎_elim (λ old. (keeps.each i w is).intact_fresh late old j e at)
        (λ new. let ts = ticket_of i w is in let o = (k.tickets i w ts.0 is ts.1 new).fresh late j e at in (noticed_done base log _ o.0 _ o.2 (among_noticed log ts.0 o.0 (all i w ts.0 is ts.1 new low) o.1)).pending)
        (cases_lt w.says.number l.known);
  }

  -- so they are where all tickets are noticed
  pub durable_noticed : (number : ℕ) → l.known ≤ number → number ≤ next_number l → AreAllNoticed log l p number → AreNoticed (cell_of base log) l number
  durable_noticed number from upto all = newly_noticed number from upto (λ i w ts is at new. all i w ts is at)

  -- and what the data say holds on when they are known
  pub knows_known : (number : ℕ) → l.known ≤ number → DataAgree base log (with_known l number) p
  knows_known number from =
      knows_under k l.next number p.pending from (λ h e. let o = k.pending h e in record { number = o.number; bytes = o.bytes; is_ticket = o.is_ticket; reads = o.reads; last = o.last }) k.not_pending k.is_batch.from

  -- where the records of the batch stand
  pub in_batch : (i : ℕ) (w : WrittenRecord) → slice_get l.records i ≡ Some w → l.header.start + length k.placed ≤ w.says.number → w.says.number < l.header.start + length k.placed + length k.batch → slice_get k.batch (i - length k.placed) ≡ Some w
  in_batch i w is from upto =
      let number = numbered base log l keeps k.new i w is in
      let at : slice_get (k.placed ++ (k.batch ++ k.rest)) (length k.placed + (i - length k.placed)) ≡ Some w = ap (slice_get (k.placed ++ (k.batch ++ k.rest))) (omega (arith, number, from)) ∙ ap (λ (ws : List WrittenRecord). slice_get ws i) (sym k.is_batch.split) ∙ is in
      front_get k.batch k.rest (i - length k.placed) w (omega (arith, number, from, upto)) (sym (get_behind k.placed (k.batch ++ k.rest) (i - length k.placed)) ∙ at)

  -- the batch is at home
  pub knows_placed : l.geom.n ≤ p.sent → IsHomeNoticed log p.home → DataAgree base log l (with_placed p)
  knows_placed sent noticed = record {
    count = k.count;
    tickets = k.tickets;
    pending = k.pending;
    not_pending = k.not_pending;
    new = k.new;
    placed = k.placed ++ k.batch;
    batch = [];
    rest = k.rest;
    is_batch = record {
      split = k.is_batch.split ∙ sym (append_assoc k.placed k.batch k.rest);
      sure = omega (arith, k.is_batch.sure, length-append k.placed k.batch);
      from = λ h st. omega (arith, k.is_batch.from h st, length-append k.placed k.batch);
    };
    placed_is = length-append k.placed k.batch ∙ omega (arith, k.placed_is, k.batch_is);
    batch_is = refl;
    home = λ b x low covered on. absurd (none-some x covered);
    at_home = λ b x covered on.
        let both : cover (cover None k.placed b) k.batch b ≡ Some x = sym (cover-parts k.placed k.batch None b) ∙ covered in
        let ends : l.header.start + length (k.placed ++ k.batch) ≡ l.header.start + length k.placed + length k.batch = omega (arith, length-append k.placed k.batch) in
        let on_end = subst (λ n. StaysLive l n b) ends on in
        ⊎_elim (λ alone. k.at_home b x (sym (alone_leaves k.batch b (cover None k.placed b) alone) ∙ both) (record {
          live = on.live;
          alone = λ i w is from upto. ⊎_elim (λ inside. alone (i - length k.placed) w (in_batch i w is from inside)) (λ behind. on_end.alone i w is behind upto) (cases_lt w.says.number (l.header.start + length k.placed + length k.batch));
        }))
        (λ decides. let o = k.home b x (omega (arith, sent, live_below l.geom (l.map_before (l.header.sure + 1)) b on.live)) (sym (decides (cover None k.placed b)) ∙ both) on_end in noticed_done base log b o.1 x o.3 (noticed o.0 b o.1 o.2))
        (leave_or_decide k.batch b);
    next_place = k.next_place;
    taken = k.taken;
    waiting = k.waiting;
  }

  -- a block that no record from a number on names is live after it where it is live later
  live_down : (d n b : ℕ) → l.header.start ≤ n → n + d ≤ next_number l → ((i : ℕ) (w : WrittenRecord) → slice_get l.records i ≡ Some w → n ≤ w.says.number → w.says.number < n + d → LeavesAlone w b) → IsTrue (is_live l.geom (l.map_before (n + d)) b) → IsTrue (is_live l.geom (l.map_before n) b)
  live_down zero n b low high alone live = subst (λ q. IsTrue (is_live l.geom (l.map_before q) b)) (omega arith) live
  live_down (suc d) n b low high alone live =
      let w = get_some l.records (n - l.header.start) (omega (arith, low, high)) in
      let number : w.0.says.number ≡ n = omega (arith, numbered base log l keeps k.new (n - l.header.start) w.0 w.1, low) in
      let rest = live_down d (n + 1) b (omega (arith, low)) (omega (arith, high)) (λ i v is from upto. alone i v is (omega (arith, from)) (omega (arith, upto))) (subst (λ q. IsTrue (is_live l.geom (l.map_before q) b)) (omega arith) live) in
      let one = alone (n - l.header.start) w.0 w.1 (omega (arith, number)) (omega (arith, number)) in
      subst (λ q. IsTrue (is_live l.geom (l.map_before q) b)) number (k.new.kept (n - l.header.start) b w.0 w.1 one.paid one.fresh (subst (λ q. IsTrue (is_live l.geom (l.map_before q) b)) (omega (arith, number)) rest))

  -- a block that is dead now and doesn't wait is dead from the durable `sure` on: it may serve again
  pub reusable_dead : (b : ℕ) → data_start l.geom ≤ b → is_live l.geom (l.map_before (next_number l)) b ≡ false → ((i r : ℕ) → ¬ (slice_get p.waiting i ≡ Some (b, r))) → IsDead l b
  reusable_dead b high now none n from upto = ⊎_elim (λ live. let o = k.waiting.each b n high from upto live now in absurd (none o.0 o.1 o.2)) (λ dead. dead) (cases_Bool (is_live l.geom (l.map_before n) b))

  -- a block of the batch that lives on may be written home, while the batch ends with the last sure record
  pub home_write_may : (b : ℕ) (x : List ℕ) → l.header.start + length k.placed + length k.batch ≡ l.header.sure + 1 → cover None k.batch b ≡ Some x → IsTrue (is_live l.geom (l.map_before (l.header.sure + 1)) b) → MayWriteInPlace (cell_of base log) l b
  home_write_may b x ends covered live = home_may base log l keeps k.new k.placed k.batch k.rest b x (live_from l.geom (l.map_before (l.header.sure + 1)) b live) k.is_batch ends covered live

  -- the header that was written last is durable once its ticket is noticed
  pub header_durable : (h : Header) (t : ℕ) → l.next ≡ Some h → p.pending ≡ Some t → IsNoticed t log → IsDurable (cell_of base log) l h
  header_durable h t e is noticed =
      let o = k.pending h e in
      let same : t ≡ o.number = same_Some _ _ (sym is ∙ o.is_ticket) in
      let done = noticed_done base log (1 - l.slot) o.number o.bytes o.last (subst (λ n. IsNoticed n log) same noticed) in
      record { next = e; settled = ap (header_of l.geom.n) done.settled ∙ o.reads; alone = done.pending }

  module _ (h : Header) (d : IsDurable (cell_of base log) l h) where
    -- a header that is now durable fits the records
    fit : FitsRecords l h
    fit = keeps.headers.fits h (inr d.next)

    -- so many records it releases
    abbrev gone : ℕ
    gone = h.start - l.header.start

    -- all of them are at home
    gone_placed : gone ≤ length k.placed
    gone_placed = omega (arith, k.is_batch.from h (inr d.next), fit.start)

    -- a record from its start on was one before
    older : (i : ℕ) (w : WrittenRecord) → slice_get (from_start l h) i ≡ Some w → slice_get l.records (gone + i) ≡ Some w
    older i w is = sym (get_drop gone l.records i) ∙ is

    -- and one that was numbered from its start on is one still
    newer : (i : ℕ) (w : WrittenRecord) → slice_get l.records i ≡ Some w → h.start ≤ w.says.number → slice_get (from_start l h) (i - gone) ≡ Some w
    newer i w is from = get_drop gone l.records (i - gone) ∙ ap (slice_get l.records) (omega (arith, from, fit.start, numbered base log l keeps k.new i w is)) ∙ is

    -- what stays live under it stayed live before
    lives_back : (n b : ℕ) → h.start ≤ n → n ≤ l.header.sure + 1 → StaysLive (with_durable_header l h) n b → StaysLive l n b
    lives_back n b low high on = record {
      live = live_down (h.sure - l.header.sure) (l.header.sure + 1) b (omega (arith, fit.start, low, high)) (omega (arith, fit.sure_grows, fit.last))
          (λ i w is from upto. on.alone (i - gone) w (newer i w is (omega (arith, low, high, from))) (omega (arith, high, from)) (omega (arith, upto, fit.sure_grows)))
          (subst (λ q. IsTrue (is_live l.geom (l.map_before q) b)) (omega (arith, fit.sure_grows)) on.live);
      alone = λ i w is from upto. on.alone (i - gone) w (newer i w is (omega (arith, low, from))) from (omega (arith, upto, fit.sure_grows));
    }

    -- what the records say, parted at its start
    parts : all_say l.records ≡ all_say (take gone l.records) ++ all_say (from_start l h)
    parts = ap all_say (sym (take-append-drop gone l.records)) ∙ say_append (take gone l.records) (drop gone l.records)

    -- a pair past its `sure` waits on
    still_in : (ws : List (ℕ × ℕ)) (i b r : ℕ) → slice_get ws i ≡ Some (b, r) → h.sure < r → (q : ℕ) × (slice_get (still_waiting h.sure ws) q ≡ Some (b, r))
    still_in [] i b r e late = cc
    still_in ((c, s) ∷ ws) zero b r e late =
        let pair : ◌≡◌ {A = ℕ × ℕ} (c, s) (b, r) = cc in
        let same : s ≡ r = ap (λ (q : ℕ × ℕ). q.1) pair in
        (0, ap (λ (l : List (ℕ × ℕ)). slice_get l 0) (cond-false (nat_le s h.sure) (still_waiting h.sure ws) ((c, s) ∷ still_waiting h.sure ws) (lt-leb s h.sure (omega (arith, late, same)))) ∙ e)
    still_in ((c, s) ∷ ws) (suc i) b r e late =
        let rest = still_in ws i b r e late in
        ⊎_elim (λ gone. (rest.0, ap (λ (l : List (ℕ × ℕ)). slice_get l rest.0) (cond-true (nat_le s h.sure) (still_waiting h.sure ws) ((c, s) ∷ still_waiting h.sure ws) gone) ∙ rest.1))
        (λ stays. (suc rest.0, ap (λ (l : List (ℕ × ℕ)). slice_get l (suc rest.0)) (cond-false (nat_le s h.sure) (still_waiting h.sure ws) ((c, s) ∷ still_waiting h.sure ws) stays) ∙ rest.1)) (cases_Bool (nat_le s h.sure))

    -- records before its start are released, those up to its `sure` are sure, and blocks that these freed serve again
    pub knows_turned : DataAgree base log (with_durable_header l h) (with_durable p l h)
    knows_turned = record {
      count = length-drop gone p.tickets ∙ ap (λ n. n - gone) k.count ∙ sym (length-drop gone l.records);
      tickets = λ i w ts is at from. let o = k.tickets (gone + i) w ts (older i w is) (sym (get_drop gone p.tickets i) ∙ at) from in record { ring = o.ring; fresh = λ late j e there. o.fresh (omega (arith, late, fit.sure_grows)) j e there };
      pending = λ g e. absurd (none-some g e);
      not_pending = λ e. refl;
      new = record {
        live = λ i j w e is late at. k.new.live (gone + i) j w e (older i w is) (omega (arith, late, fit.sure_grows)) at;
        dead = λ i j n w e is from upto at. k.new.dead (gone + i) j n w e (older i w is) (omega (arith, from, fit.sure_grows)) upto at;
        paid = λ i b w y is payload. k.new.paid (gone + i) b w y (older i w is) payload;
        kept = λ i b w is none unnamed live. k.new.kept (gone + i) b w (older i w is) none unnamed live;
      };
      placed = drop gone k.placed;
      batch = k.batch;
      rest = k.rest;
      is_batch = record {
        split = ap (λ (ws : List WrittenRecord). drop gone ws) k.is_batch.split ∙ drop-append-le gone k.placed (k.batch ++ k.rest) gone_placed;
        sure = omega (arith, k.is_batch.sure, fit.sure_grows, fit.start, gone_placed, length-drop gone k.placed);
        from = λ g st. ⊎_elim (λ e. omega (arith, ap (λ (f : Header). f.start) e)) (λ e. absurd (none-some g e)) st;
      };
      placed_is = length-drop gone k.placed ∙ ap (λ n. n - gone) k.placed_is;
      batch_is = k.batch_is;
      home = λ b x sent covered on.
          let same : h.start + length (drop gone k.placed) + length k.batch ≡ l.header.start + length k.placed + length k.batch = omega (arith, fit.start, gone_placed, length-drop gone k.placed) in
          k.home b x sent covered (lives_back (l.header.start + length k.placed + length k.batch) b (omega (arith, fit.start, gone_placed)) k.is_batch.sure (subst (λ n. StaysLive (with_durable_header l h) n b) same on));
      at_home = λ b x covered on.
          let same : h.start + length (drop gone k.placed) ≡ l.header.start + length k.placed = omega (arith, fit.start, gone_placed, length-drop gone k.placed) in
          k.at_home b x (whole b x covered) (lives_back (l.header.start + length k.placed) b (omega (arith, fit.start, gone_placed)) (omega (arith, k.is_batch.sure)) (subst (λ n. StaysLive (with_durable_header l h) n b) same on));
      next_place = k.next_place ∙ ap (place_after l.geom.j l.header.at) parts ∙ place_after-append l.geom.j l.header.at (all_say (take gone l.records)) (all_say (from_start l h)) ∙ ap (λ q. place_after l.geom.j q (all_say (from_start l h))) (sym fit.place);
      taken = ap (λ n. n - all_places (all_say (take gone l.records))) (k.taken ∙ ap all_places parts ∙ places_append (all_say (take gone l.records)) (all_say (from_start l h))) ∙ minus (all_places (all_say (take gone l.records))) (all_places (all_say (from_start l h)));
      waiting = record {
        each = λ b n high from upto live dead.
            let o = k.waiting.each b n high (omega (arith, from, fit.sure_grows)) (omega (arith, upto, count base log l keeps h d)) live (subst (λ q. is_live l.geom (l.map_before q) b ≡ false) (count base log l keeps h d) dead) in
            let s = still_in p.waiting o.0 b o.1 o.2 (omega (arith, from, o.3)) in
            (s.0, o.1, s.1, o.3);
      };
    }
      where
        minus : (a b : ℕ) → a + b - a ≡ b
        minus a b = omega arith

        whole : (b : ℕ) (x : List ℕ) → cover None (drop gone k.placed) b ≡ Some x → cover None k.placed b ≡ Some x
        whole b x covered = ap (λ (ws : List WrittenRecord). cover None ws b) (sym (take-append-drop gone k.placed)) ∙ cover-parts (take gone k.placed) (drop gone k.placed) None b
            ∙ ⊎_elim (λ alone. absurd (none-some x (sym (alone_leaves (drop gone k.placed) b None alone) ∙ covered))) (λ decides. decides (cover None (take gone k.placed) b) ∙ covered) (leave_or_decide (drop gone k.placed) b)

  -- the header that is written next may be
  module _ (x : List ℕ) (alone : l.next ≡ None) (reads : header_of l.geom.n x ≡ Some (next_header l (length k.placed))) where
    -- the durable header fits the records
    own : FitsRecords l l.header
    own = keeps.headers.fits l.header (inl refl)

    -- the records from there on
    abbrev later : List WrittenRecord
    later = drop (l.header.start + length k.placed - l.header.start) l.records

    -- these are the batch and the rest
    later_is : later ≡ k.batch ++ k.rest
    later_is = ap (λ n. drop n l.records) (omega arith) ∙ ap (λ (ws : List WrittenRecord). drop (length k.placed) ws) k.is_batch.split ∙ drop-append_seam k.placed (k.batch ++ k.rest)

    -- and those before are the placed ones
    front_is : take (length k.placed) l.records ≡ k.placed
    front_is = ap (λ (ws : List WrittenRecord). take (length k.placed) ws) k.is_batch.split ∙ take-append_seam k.placed (k.batch ++ k.rest)

    -- what all say, parted there
    says : all_say l.records ≡ all_say k.placed ++ all_say (k.batch ++ k.rest)
    says = ap all_say k.is_batch.split ∙ say_append k.placed (k.batch ++ k.rest)

    -- what comes behind a front of consecutive records is consecutive
    behind : (j n q : ℕ) (xs ys : List Record) → AreConsecutive j n q (xs ++ ys) → AreConsecutive j (n + length xs) (place_after j q xs) ys
    behind j n q [] ys c = subst (λ m. AreConsecutive j m q ys) (omega arith) c
    behind j n q (r ∷ xs) ys c = subst (λ m. AreConsecutive j m (place_after j ((q + places r) % j) xs) ys) (omega arith) (behind j (n + 1) ((q + places r) % j) xs ys c.2)

    -- the next header fits the records
    fits_next : FitsRecords l (next_header l (length k.placed))
    fits_next = record {
      epoch = refl;
      geom = refl;
      let_in = λ c. absurd (false≢true c);
      start = omega arith;
      sure_grows = omega (arith, own.known);
      sure = omega (arith, own.known, k.is_batch.sure);
      last = omega (arith, own.known, keeps.known);
      known = omega (arith, own.known);
      place = ap (λ n. place_after l.geom.j l.header.at (all_say (take n l.records))) (sym (omega arith));
      consecutive = subst (λ (ws : List WrittenRecord). AreConsecutive l.geom.j (l.header.start + length k.placed) (place_after l.geom.j l.header.at (all_say (take (length k.placed) l.records))) (all_say ws)) (sym later_is)
          (subst (λ (ws : List WrittenRecord). AreConsecutive l.geom.j (l.header.start + length k.placed) (place_after l.geom.j l.header.at (all_say ws)) (all_say (k.batch ++ k.rest))) (sym front_is)
          (subst (λ n. AreConsecutive l.geom.j (l.header.start + n) (place_after l.geom.j l.header.at (all_say k.placed)) (all_say (k.batch ++ k.rest))) (say_length k.placed)
          (behind l.geom.j l.header.start l.header.at (all_say k.placed) (all_say (k.batch ++ k.rest)) (subst (λ (rs : List Record). AreConsecutive l.geom.j l.header.start l.header.at rs) (ap all_say (whole_list l) ∙ says) own.consecutive))));
      within = omega (arith, own.within, ap (λ (ws : List WrittenRecord). all_places (all_say ws)) (whole_list l), ap all_places says, places_append (all_say k.placed) (all_say (k.batch ++ k.rest)), ap (λ (ws : List WrittenRecord). all_places (all_say ws)) later_is);
    }

    -- a list is parted at a length in one way
    same_front : (xs ys us vs : List WrittenRecord) → xs ++ ys ≡ us ++ vs → length xs ≡ length us → (xs ≡ us) × (ys ≡ vs)
    same_front [] ys [] vs e len = (refl, e)
    same_front [] ys (u ∷ us) vs e len = absurd (omega arith)
    same_front (x ∷ xs) ys [] vs e len = absurd (omega arith)
    same_front (x ∷ xs) ys (u ∷ us) vs e len =
        let head : x ≡ u = cc in
        let tail : xs ++ ys ≡ us ++ vs = cc in
        let rest = same_front xs ys us vs tail (omega arith) in
        (ap (λ (w : WrittenRecord). w ∷ xs) head ∙ ap (λ (ws : List WrittenRecord). u ∷ ws) rest.0, rest.1)

    -- what only the placed ones cover is at home
    next_placed : (before good bad : List WrittenRecord) (b : ℕ) → l.records ≡ before ++ (good ++ bad) → length before ≡ l.header.start + length k.placed - l.header.start → l.known ≤ l.header.start + length k.placed + length good
        → IsTrue (is_live l.geom (l.map_before (l.header.start + length k.placed + length good)) b) → (y : List ℕ) → cover None good b ≡ None → cover None (before ++ good) b ≡ Some y → (latest (cell_of base log b) ≡ y) × ((cell_of base log b).pending ≡ [])
    next_placed before good bad b split len known live y none covered =
        let parts = same_front before (good ++ bad) k.placed (k.batch ++ k.rest) (sym split ∙ k.is_batch.split) (len ∙ omega arith) in
        let both : cover (cover None before b) good b ≡ Some y = sym (cover-parts before good None b) ∙ covered in
        ⊎_elim (λ all.
        let at : cover None k.placed b ≡ Some y = ap (λ (ws : List WrittenRecord). cover None ws b) (sym parts.0) ∙ sym (alone_leaves good b (cover None before b) all) ∙ both in
        let inside = λ (i : ℕ) (w : WrittenRecord) (is : slice_get l.records i ≡ Some w) (from : l.header.start + length k.placed ≤ w.says.number) (upto : w.says.number < l.header.start + length k.placed + length good). all (i - length before) w (in_good before good bad split i w is (omega (arith, len, from, numbered base log l keeps k.new i w is)) (omega (arith, len, upto, numbered base log l keeps k.new i w is))) in
        let ends : l.header.start + length k.placed + length good ≤ next_number l = omega (arith, len, ap (λ (ws : List WrittenRecord). length ws) split, length-append before (good ++ bad), length-append good bad) in
        let done = k.at_home b y at (record {
          live = live_down (l.header.start + length k.placed + length good - (l.header.sure + 1)) (l.header.sure + 1) b (omega (arith, k.is_batch.sure)) (omega (arith, known, own.known, ends))
              (λ i w is from upto. inside i w is (omega (arith, from, k.is_batch.sure)) (omega (arith, upto, known, own.known))) (subst (λ q. IsTrue (is_live l.geom (l.map_before q) b)) (omega (arith, known, own.known)) live);
          alone = λ i w is from upto. inside i w is from (omega (arith, upto, known, own.known));
        }) in
        (ap (λ (ws : List Write). last_of (cell_of base log b).settled ws) done.pending ∙ done.settled, done.pending))
        (λ decides. absurd (none-some y (sym none ∙ sym (decides (cover None before b)) ∙ both)))
        (leave_or_decide good b)
      where
        in_good : (before good bad : List WrittenRecord) → l.records ≡ before ++ (good ++ bad) → (i : ℕ) (w : WrittenRecord) → slice_get l.records i ≡ Some w → length before ≤ i → i < length before + length good → slice_get good (i - length before) ≡ Some w
        in_good before good bad split i w is from upto = front_get good bad (i - length before) w (omega (arith, from, upto)) (sym (get_behind before (good ++ bad) (i - length before)) ∙ ap (slice_get (before ++ (good ++ bad))) (omega (arith, from)) ∙ ap (λ (ws : List WrittenRecord). slice_get ws i) (sym split) ∙ is)

    -- so it may be written
    pub next_header_may : MayWriteHeader (cell_of base log) l x (next_header l (length k.placed))
    next_header_may = record { alone = alone; reads = reads; newer = omega arith; fits = fits_next; placed = next_placed }
