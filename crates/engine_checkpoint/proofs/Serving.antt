-- Which freed blocks serve again, by the disk's log: those that a step gave up are those on which nothing is pending, of those whose record the newest header at rest makes sure.
use Rattle.std.proofs.Common.{◌≡◌, ◌⊎◌, inl, inr, ⊎_elim, ℕ, zero, suc, ◌+◌, ◌-◌, ◌<◌, ◌≤◌, ◌==◌, ◌||◌, ◌&&◌, not, nat_le, Bool, true, false, List, [], ◌∷◌, ◌++◌, length, map, slice_get, Option, Some, None, option_map, Ok, refl, sym, ◌∙◌, ap, subst, arith}
use Rattle.std.proofs.lemmas.Bool.Decides.{nat_tests}
use Rattle.std.proofs.lemmas.Bool.{eqb-true, false≢true, le-leb, cond-true, cond-false, or_left}
use Rattle.std.proofs.lemmas.Option.{none-some, same_Some, slice_get_within}
use Rattle.std.proofs.lemmas.List.Folds.{list_any-append}
use Rattle.base_types.specs.Seal.{Blocks}
use Rattle.disk_contract.specs.declared.disk.DiskFault.{DiskFault}
use Rattle.disk_contract.specs.declared.event.Event.{Event}
use Rattle.disk_contract.specs.Cell.{Cell, cell_of, IsNoticed}
use Rattle.layout_geometry.specs.Geometry.{Geometry, data_start}
use Rattle.layout_journal.specs.declared.header.Header.{Header}
use Rattle.layout_journal.specs.Ring.{RingPlaces}
use Rattle.layout_journal.specs.Run.{is_live}
use Rattle.crash_argument.specs.Ledger.{Ledger, WrittenRecord, IsConsistentWith}
use Rattle.crash_argument.specs.OnePending.{IsFreshInNew, IsIdle, IsOnItsWay}
use Rattle.engine_notes.specs.declared.notes.Note.{Note}
use Rattle.engine_notes.specs.Notes.{is_expected, is_noticed, is_open}
use Rattle.engine_reuse.specs.Numbers.{is_among}
use Rattle.engine_reuse.specs.Dead.{DeadBlocks, AreSound, block_of}
use Rattle.engine_reuse.specs.Calls.{is_given_up, with_released}
use Rattle.engine_checkpoint.specs.declared.pipeline.HomeWrite.{HomeWrite}
use Rattle.engine_checkpoint.specs.declared.pipeline.Pending.{Pending}
use Rattle.engine_checkpoint.specs.declared.pipeline.Pipeline.{Pipeline}
use Rattle.engine_checkpoint.specs.Advance.{MayServe}
use Rattle.engine_checkpoint.specs.Agree.{PipelineAgrees, IsSentTo, data_of, header_in, home_pair, ticket_in}
use Rattle.engine_checkpoint.specs.Serving.{IsNewestAtRest, ServesByLog, is_at_rest}
use Rattle.engine_checkpoint.specs.Turns.{BatchAdds, HeaderAdds, going_home, is_batch_due}
use Rattle.engine_checkpoint.specs.Waits.{HearsAll}
use Rattle.engine_checkpoint.proofs.Expected.{with_old}
use Rattle.engine_checkpoint.proofs.PendingCells.{noticed_rests, open_is_pending}
use Rattle.engine_checkpoint.proofs.Serves.{pair_among}
use Rattle.engine_checkpoint.proofs.Taking.{home_at}

-- Open checkpoint writes.

-- a write to the block is listed, and open
abbrev IsGoing : Pipeline → ℕ → Type 0
IsGoing v b = (k : ℕ) × (h : HomeWrite) × (slice_get v.home.items k ≡ Some h) × (h.block ≡ b) × (is_open h.ticket v.notes.notes ≡ true)

going_has : (b : ℕ) (hs : List HomeWrite) (notes : List Note) → is_among b (going_home hs notes) ≡ true → (k : ℕ) × (h : HomeWrite) × (slice_get hs k ≡ Some h) × (h.block ≡ b) × (is_open h.ticket notes ≡ true)
going_has b [] notes is = absurd (false≢true is)
going_has b (h ∷ hs) notes is = by (is_open h.ticket notes) refl (going_has b hs notes)
  where
    more : (is_among b (going_home hs notes) ≡ true → (k : ℕ) × (g : HomeWrite) × (slice_get hs k ≡ Some g) × (g.block ≡ b) × (is_open g.ticket notes ≡ true)) → is_among b (going_home hs notes) ≡ true → (k : ℕ) × (g : HomeWrite) × (slice_get (h ∷ hs) k ≡ Some g) × (g.block ≡ b) × (is_open g.ticket notes ≡ true)
    more rest at = let r = rest at in (suc r.0, r.1, r.2, r.3, r.4)

    by : (v : Bool) → is_open h.ticket notes ≡ v → (is_among b (going_home hs notes) ≡ true → (k : ℕ) × (g : HomeWrite) × (slice_get hs k ≡ Some g) × (g.block ≡ b) × (is_open g.ticket notes ≡ true)) → (k : ℕ) × (g : HomeWrite) × (slice_get (h ∷ hs) k ≡ Some g) × (g.block ≡ b) × (is_open g.ticket notes ≡ true)
    by false closed rest = more rest (sym (ap (is_among b) (cond-false (is_open h.ticket notes) (h.block ∷ going_home hs notes) (going_home hs notes) closed)) ∙ is)
    by true opens rest = own (h.block == b) refl (sym (ap (is_among b) (cond-true (is_open h.ticket notes) (h.block ∷ going_home hs notes) (going_home hs notes) opens)) ∙ is)
      where
        own : (v : Bool) → (h.block == b) ≡ v → (h.block == b || is_among b (going_home hs notes)) ≡ true → (k : ℕ) × (g : HomeWrite) × (slice_get (h ∷ hs) k ≡ Some g) × (g.block ≡ b) × (is_open g.ticket notes ≡ true)
        own true same at = (0, h, refl, eqb-true h.block b same, opens)
        own false other at = more rest (sym (ap (λ v. v || is_among b (going_home hs notes)) other) ∙ at)

opens_both : (e n : Bool) → e ≡ true → not n ≡ true → (e && not n) ≡ true
opens_both true n e f = f
opens_both false n e f = absurd (false≢true e)

-- what was going home is so still once a batch and a header may have been written
module _ {A B : Type 0} (batch header : Bool) (q : A) (r : B) (w x y : Pipeline) (ring : RingPlaces) (is : is_batch_due w ≡ batch) (none : w.batch ≡ 0 → w.home.items ≡ []) (begins : BatchAdds {A = A} {E = DiskFault} batch (Ok q) w x) (adds : HeaderAdds {A = B} {E = DiskFault} header (Ok r) x y ring) where
  pub goes_on : (b : ℕ) → is_among b (going_home w.home.items w.notes.notes) ≡ true → IsGoing y b
  goes_on b going = grind (arith, nat_tests, going_has, opens_both, with_old)

  pub header_stays : y.header ≡ w.header
  header_stays = grind (arith, nat_tests)

-- What the log says.

module _ (base : Blocks) (log : List Event) (l : Ledger) (y : Pipeline) (ring : RingPlaces) (waiting : List (ℕ × ℕ)) (taken : List ℕ) (keeps : IsConsistentWith base log l) (a : PipelineAgrees base log l y ring waiting taken) (knows : HearsAll log y) where
  -- an open ticket isn't noticed
  not_noticed : (t : ℕ) → is_open t y.notes.notes ≡ true → ¬ IsNoticed t log
  not_noticed t opens came = grind (arith, nat_tests)

  -- the durable header is the newest one at rest, where the ticket of the pending one is open
  pub newest_rests : ((q : Pending) → y.next ≡ Some q → is_open q.ticket y.notes.notes ≡ true) → IsNewestAtRest l.geom.n (cell_of base log) l.header
  newest_rests opens = record {
    slot = l.slot;
    is_slot = keeps.headers.is_slot;
    rests = keeps.headers.alone;
    stands = keeps.headers.durable;
    other = λ k rests stands. ⊎_elim (λ older. older) (λ pending. absurd (never k rests pending)) (keeps.headers.other (cell_of base log (1 - l.slot)).settled k (inl refl) stands);
  }
    where
      never : (k : Header) → (cell_of base log (1 - l.slot)).pending ≡ [] → l.next ≡ Some k → ⊥
      never k rests pending = by y.next refl
        where
          by : (o : Option Pending) → y.next ≡ o → ⊥
          by None none = none-some k (sym (ap (option_map header_in) none) ∙ sym a.next ∙ pending)
          by (Some q) is =
              let p = a.agree.pending k pending in
              let own : q.ticket ≡ p.number = same_Some q.ticket p.number (sym (ap (option_map ticket_in) is) ∙ p.is_ticket) in
              open_is_pending base log (1 - l.slot) p.number p.bytes p.last (subst (λ n. ¬ IsNoticed n log) own (not_noticed q.ticket (opens q is))) rests

  -- to a block that goes home a write is pending
  going_pends : (b : ℕ) → IsGoing y b → (cell_of base log b).pending ≡ [] → ⊥
  going_pends b g rests = by (a.sent g.0 b g.1.ticket (listed g.1 g.2 g.3))
    where
      listed : (h : HomeWrite) → slice_get y.home.items g.0 ≡ Some h → h.block ≡ b → slice_get (map home_pair y.home.items) g.0 ≡ Some (b, h.ticket)
      listed h at own = at_map y.home.items g.0 h at ∙ ap (λ n. Some (n, h.ticket)) own
        where
          at_map : (hs : List HomeWrite) (k : ℕ) (h : HomeWrite) → slice_get hs k ≡ Some h → slice_get (map home_pair hs) k ≡ Some (h.block, h.ticket)
          at_map [] k h is = absurd (none-some h is)
          at_map (g ∷ hs) zero h is = ap (λ (x : HomeWrite). Some (home_pair x)) (same_Some g h is)
          at_map (g ∷ hs) (suc k) h is = at_map hs k h is

      by : IsNoticed g.1.ticket log ⊎ IsSentTo l.geom log b g.1.ticket → ⊥
      by (inl came) = not_noticed g.1.ticket g.4 came
      by (inr sent) = open_is_pending base log b g.1.ticket sent.bytes sent.last (not_noticed g.1.ticket g.4) rests

module _ (base : Blocks) (log : List Event) (l : Ledger) (y : Pipeline) (ring : RingPlaces) (served : DeadBlocks) (taken : List ℕ) (keeps : IsConsistentWith base log l) (a : PipelineAgrees base log l y ring served.waiting taken) (serves : MayServe l y served) (sound : AreSound served) (served_geom : served.geom ≡ l.geom)
    (numbers : (k : ℕ) (u : WrittenRecord) → slice_get l.records k ≡ Some u → u.says.number ≡ l.header.start + k)
    (waits : (v : DeadBlocks) (b : ℕ) → AreSound v → is_among b (map block_of v.waiting) ≡ true → is_among b v.reusable ≡ false) where
  -- on a block that may be taken nothing is pending
  taken_rests : (b : ℕ) → is_among b served.reusable ≡ true → (cell_of base log b).pending ≡ []
  taken_rests b may = by (a.one.block b (omega (arith, from)) refl)
    where
      from : data_start l.geom ≤ b
      from = subst (λ (g : Geometry). data_start g ≤ b) served_geom (sound.lie b (list_any-append (λ x. x == b) served.reusable (served.held ++ map block_of served.waiting) ∙ or_left _ _ may)).from

      way : IsOnItsWay log (data_of y ring served.waiting) b → (cell_of base log b).pending ≡ []
      way w = let at = home_at y.home.items w.at b w.ticket w.listed in seen at.0 at.1 at.2 at.3 (is_open at.0.ticket y.notes.notes) refl
        where
          seen : (h : HomeWrite) → slice_get y.home.items w.at ≡ Some h → h.block ≡ b → h.ticket ≡ w.ticket → (o : Bool) → is_open h.ticket y.notes.notes ≡ o → (cell_of base log b).pending ≡ []
          seen h is own its true opens = absurd (false≢true (sym (serves.not_going w.at h is opens) ∙ ap (λ n. is_among n served.reusable) own ∙ may))
          seen h is own its false closed = noticed_rests base log b w.ticket w.bytes w.last (subst (λ n. IsNoticed n log) its (a.notes h.ticket (noticed_then (is_expected h.ticket y.notes.notes) (is_noticed h.ticket y.notes.notes) (a.expected.home w.at h is) closed)))
            where
              noticed_then : (e n : Bool) → e ≡ true → (e && not n) ≡ false → n ≡ true
              noticed_then true true e f = refl
              noticed_then true false e f = absurd (false≢true (sym f))
              noticed_then false n e f = absurd (false≢true e)

      fresh : IsFreshInNew l b → ⊥
      fresh f =
          let sure : l.header.sure < l.known = (keeps.headers.fits l.header (inl refl)).known in
          let number = numbers f.place f.written f.is_record in
          let within = slice_get_within l.records f.place f.written f.is_record in
          let live = a.agree.new.live f.place f.at f.written f.entry f.is_record (omega (arith, sure, f.not_known)) f.is_entry in
          let wait = a.agree.waiting.each b (f.written.says.number + 1) from (omega (arith, sure, f.not_known)) (omega (arith, number, within)) (subst (λ n. Rattle.std.proofs.Common.IsTrue (is_live l.geom (l.map_before (f.written.says.number + 1)) n)) f.own live) (serves.dead_now b (list_any-append (λ x. x == b) served.reusable (map block_of served.waiting) ∙ or_left _ _ may)) in
          false≢true (sym (waits served b sound (pair_among b wait.1 wait.0 served.waiting wait.2)) ∙ may)

      by : IsIdle (cell_of base log b) ⊎ (IsFreshInNew l b ⊎ IsOnItsWay log (data_of y ring served.waiting) b) → (cell_of base log b).pending ≡ []
      by (inl idle) = idle
      by (inr (inl f)) = absurd (fresh f)
      by (inr (inr w)) = way w

  module _ (knows : HearsAll log y) (opens : (q : Pending) → y.next ≡ Some q → is_open q.ticket y.notes.notes ≡ true) (dead : DeadBlocks) (was_sound : AreSound dead) (sure : ℕ) (going : List ℕ) (released : served ≡ with_released dead sure going) (sure_is : sure ≡ l.header.sure)
      (going_on : (b : ℕ) → is_among b going ≡ true → IsGoing y b)
      (exact : (v : DeadBlocks) (sure : ℕ) (going_home : List ℕ) (k : ℕ) (p : ℕ × ℕ) → AreSound v → slice_get v.waiting k ≡ Some p → is_among (block_of p) (with_released v sure going_home).reusable ≡ is_given_up sure going_home p) where
    pending_is : (k b r : ℕ) → slice_get dead.waiting k ≡ Some (b, r) → r ≤ l.header.sure → is_among b going ≡ not (is_at_rest (cell_of base log b))
    pending_is k b r is le = by (is_among b going) refl
      where
        rests : (cell_of base log b).pending ≡ [] → is_at_rest (cell_of base log b) ≡ true
        rests idle = ap (λ (ws : List Rattle.disk_contract.specs.Cell.Write). length ws == 0) idle

        moves : (v : Bool) → is_at_rest (cell_of base log b) ≡ v → ((cell_of base log b).pending ≡ [] → ⊥) → v ≡ false
        moves true e never = absurd (never (empty (cell_of base log b).pending (eqb-true (length (cell_of base log b).pending) 0 e)))
          where
            empty : {A : Type 0} (xs : List A) → length xs ≡ 0 → xs ≡ []
            empty [] e = refl
            empty (x ∷ xs) e = absurd (omega (arith, e))
        moves false e never = refl

        by : (v : Bool) → is_among b going ≡ v → is_among b going ≡ not (is_at_rest (cell_of base log b))
        by true goes = goes ∙ sym (ap not (moves (is_at_rest (cell_of base log b)) refl (going_pends base log l y ring served.waiting taken keeps a knows b (going_on b goes))))
        by false stays = stays ∙ sym (ap not (rests (taken_rests b may)))
          where
            may : is_among b served.reusable ≡ true
            may = ap (λ (d : DeadBlocks). is_among b d.reusable) released ∙ exact dead sure going k (b, r) was_sound is ∙ both (nat_le r sure) (is_among b going) (le-leb r sure (omega (arith, le, sure_is))) stays
              where
                both : (p q : Bool) → p ≡ true → q ≡ false → (p && not q) ≡ true
                both true q e f = ap not f
                both false q e f = absurd (false≢true e)

    at_ledger : ServesByLog l.geom.n base log l.header dead served
    at_ledger = record {
      newest = newest_rests base log l y ring served.waiting taken keeps a knows opens;
      going = going;
      served = released ∙ ap (λ m. with_released dead m going) sure_is;
      pending = pending_is;
    }

    pub serves_by_log : (n : ℕ) → l.geom.n ≡ n → ServesByLog n base log y.header dead served
    serves_by_log n same = subst (λ (h : Header). ServesByLog n base log h dead served) (sym a.header) (subst (λ m. ServesByLog m base log l.header dead served) same at_ledger)
