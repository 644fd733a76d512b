-- What a session's data say as it begins, and after a write: of a fresh block, into the ring, of a header, and of a whole record.
use Rattle.std.proofs.Common.{◌≡◌, ◌≢◌, inl, ⊎_elim, ℕ, zero, suc, ◌+◌, ◌-◌, ◌%◌, ◌<◌, ◌≤◌, false, IsTrue, List, [], ◌∷◌, ◌++◌, length, slice_get, Some, refl, sym, ◌∙◌, ap, subst, arith, length-append, append_assoc}
use Rattle.std.proofs.lemmas.Bool.{cases_lt, cases_Bool, both_ways}
use Rattle.std.proofs.lemmas.Option.{none-some, same_Some}
use Rattle.base_types.specs.Seal.{Blocks}
use Rattle.disk_contract.specs.declared.event.Event.{Event}
use Rattle.disk_contract.specs.declared.event.Event.TheVariants.{Wrote}
use Rattle.disk_contract.specs.Cell.{Cell, cell_of, greatest_ticket, IsNoticed}
use Rattle.layout_geometry.specs.Geometry.{Geometry, ring_block, data_start, bitmap_start}
use Rattle.layout_journal.specs.declared.header.Header.{Header}
use Rattle.layout_journal.specs.declared.entry.Entry.{Entry}
use Rattle.layout_journal.specs.Run.{places, all_places, place_after, is_live}
use Rattle.crash_argument.specs.Ledger.{Ledger, WrittenRecord, IsStanding, IsConsistentWith, next_number, all_say}
use Rattle.crash_argument.specs.Steps.{IsFreePlace, MayWriteHeader, with_header, with_record}
use Rattle.crash_argument.specs.Points.{IsMounted, ledger_at_mount}
use Rattle.crash_argument.specs.LastWrites.{AvoidsBlock, HasTickets, IsDead, FreshAreNew}
use Rattle.crash_argument.specs.PipelineData.{PipelineData, DataAgree, IsSettledIn, StaysLive, IsPendingHeader, AreFreed, data_at_mount, with_pending, with_committed, pairs_of}
use Rattle.crash_argument.proofs.log.Lists.{in_longer, get_front, front_get, get_behind, say_append, places_append, place_after-append}
use Rattle.crash_argument.proofs.log.Adds.{Adds, adds_wrote}
use Rattle.crash_argument.proofs.log.LastWrites.{last_stays, last_new}
use Rattle.crash_argument.proofs.theorem.Images.{in_ring}
use Rattle.crash_argument.proofs.pipe.Agree.{knows_with, knows_under}
use Rattle.crash_argument.proofs.pipe.InPlace.{numbered, within}
use Rattle.crash_argument.proofs.steps.Steps.{at_old, at_new}
use Rattle.crash_argument.proofs.theorem.Core.{live_from}

-- as a session begins
pub knows_begins : (base : Blocks) (log : List Event) (g : Geometry) (slot : ℕ) (h : Header) → IsMounted (cell_of base log) g slot h → DataAgree base log (ledger_at_mount (cell_of base log) g slot h) (data_at_mount h)
knows_begins base log g slot h m = record {
  count = refl;
  tickets = λ k w ts is. cc;
  pending = λ f e. absurd (none-some f e);
  not_pending = λ e. refl;
  new = record { live = λ k i w e is. cc; dead = λ k i n w e is. cc; paid = λ k b w y is. cc; kept = λ k b w is. cc };
  placed = [];
  batch = [];
  rest = [];
  is_batch = record { split = refl; sure = omega (arith, m.empty); from = λ f st. ⊎_elim (λ e. omega (arith, ap (λ (q : Header). q.start) e)) (λ e. absurd (none-some f e)) st };
  placed_is = refl;
  batch_is = refl;
  home = λ b x sent covered. absurd (none-some x covered);
  at_home = λ b x covered. absurd (none-some x covered);
  next_place = refl;
  taken = refl;
  waiting = record { each = λ b n high from upto live dead. absurd (both_ways _ dead live) };
}

module _ (base : Blocks) (log : List Event) (l : Ledger) (keeps : IsConsistentWith base log l) (p : PipelineData) (k : DataAgree base log l p) where
  -- a write to a block that is none of those of which the data speak
  module _ (e : Event) (block : ℕ) (x : List ℕ) (adds : Adds base log (log ++ e ∷ []) block x) (avoids : (b : ℕ) → block ≢ b → AvoidsBlock b (e ∷ []))
      (ring_apart : (i j : ℕ) (w : WrittenRecord) → slice_get l.records i ≡ Some w → j < places w.says → block ≢ ring_block l.geom (w.says.place + j))
      (fresh_apart : (i j : ℕ) (w : WrittenRecord) (f : Entry) → slice_get l.records i ≡ Some w → l.known ≤ w.says.number → slice_get w.says.fresh j ≡ Some f → block ≢ f.block)
      (live_apart : (b : ℕ) → IsTrue (is_live l.geom (l.map_before (l.header.sure + 1)) b) → block ≢ b) where
    -- it leaves what they say, if it leaves the header that was written last
    abbrev knows_apart : ((h : Header) → l.next ≡ Some h → IsPendingHeader (log ++ e ∷ []) l p.pending h) → DataAgree base (log ++ e ∷ []) l p
    knows_apart pending = knows_with k (log ++ e ∷ []) p.tickets p.home p.sent p.waiting k.count
        (λ i w ts is at from. let h = k.tickets i w ts is at from in record {
          ring = λ j lt. let o = h.ring j lt in (o.0, o.1, last_stays log (e ∷ []) _ o.0 _ (avoids _ (ring_apart i j w is lt)) o.2);
          fresh = λ late j f there. let o = h.fresh late j f there in (o.0, o.1, last_stays log (e ∷ []) _ o.0 _ (avoids _ (fresh_apart i j w f is from there)) o.2);
        })
        pending (λ b y sent covered on. let o = k.home b y sent covered on in (o.0, o.1, o.2, last_stays log (e ∷ []) b o.1 y (avoids b (live_apart b on.live)) o.3))
        (λ b y covered on. subst (λ (c : Cell). IsSettledIn c y) (sym (adds.other b (λ same. live_apart b on.live (sym same)))) (k.at_home b y covered on)) k.waiting

    -- which it does outside the slot of that header
    pub knows_written : block ≢ 1 - l.slot → DataAgree base (log ++ e ∷ []) l p
    knows_written apart = knows_apart (λ h is. let o = k.pending h is in record { number = o.number; bytes = o.bytes; is_ticket = o.is_ticket; reads = o.reads; last = last_stays log (e ∷ []) _ o.number _ (avoids _ apart) o.last })

  -- live blocks lie behind the ring
  high_live : (b : ℕ) → IsTrue (is_live l.geom (l.map_before (l.header.sure + 1)) b) → bitmap_start l.geom ≤ b
  high_live b live = live_from l.geom (l.map_before (l.header.sure + 1)) b live

  -- into a free place of the ring: a descriptor, a payload, the commit block
  pub knows_in_ring : (e : Event) (place : ℕ) (x : List ℕ) → Adds base log (log ++ e ∷ []) (ring_block l.geom place) x → ((b : ℕ) → ring_block l.geom place ≢ b → AvoidsBlock b (e ∷ [])) → IsFreePlace l place → DataAgree base (log ++ e ∷ []) l p
  knows_in_ring e place x adds avoids free = knows_written e (ring_block l.geom place) x adds avoids
      (λ i j w is lt same. free i j w is lt (sym same))
      (λ i j w f is from at same. omega (arith, same, in_ring l.geom place keeps.ring, (keeps.each i w is).in_place j f at))
      (λ b live same. omega (arith, same, in_ring l.geom place keeps.ring, high_live b live))
      (λ same. omega (arith, same))

  -- a fresh block, which is dead
  pub knows_fresh : (e : Event) (block : ℕ) (x : List ℕ) → Adds base log (log ++ e ∷ []) block x → ((b : ℕ) → block ≢ b → AvoidsBlock b (e ∷ [])) → bitmap_start l.geom ≤ block → IsDead l block → DataAgree base (log ++ e ∷ []) l p
  knows_fresh e block x adds avoids high dead = knows_written e block x adds avoids
      (λ i j w is lt same. omega (arith, same, in_ring l.geom (w.says.place + j) keeps.ring, high))
      (λ i j w f is from at same.
      let late : l.header.sure < w.says.number = omega (arith, from, (keeps.headers.fits l.header (inl refl)).known) in
      both_ways _ (dead (w.says.number + 1) (omega (arith, late)) (omega (arith, numbered base log l keeps k.new i w is, within base log l keeps k.new i w is))) (subst (λ b. IsTrue (is_live l.geom (l.map_before (w.says.number + 1)) b)) (sym same) (k.new.live i j w f is late at)))
      (λ b live same. both_ways _ (dead (l.header.sure + 1) (omega arith) (omega (arith, (keeps.headers.fits l.header (inl refl)).last))) (subst (λ c. IsTrue (is_live l.geom (l.map_before (l.header.sure + 1)) c)) (sym same) live))
      (λ same. omega (arith, same, high))

  -- the next header
  pub knows_header : (t : ℕ) (x : List ℕ) (h : Header) → greatest_ticket log < t → ¬ IsNoticed t log → MayWriteHeader (cell_of base log) l x h → h.start ≤ l.header.start + length k.placed → DataAgree base (log ++ Wrote t (1 - l.slot) x ∷ []) (with_header l h) (with_pending p t)
  knows_header t x h high none may from =
      let begins : (g : Header) → IsStanding (with_header l h) g → g.start ≤ l.header.start + length k.placed = λ g st. ⊎_elim (λ e. k.is_batch.from g (inl e)) (λ e. omega (arith, from, ap (λ (q : Header). q.start) (same_Some _ _ e))) st in
      knows_under (knows_apart (Wrote t (1 - l.slot) x) (1 - l.slot) x (adds_wrote base log t (1 - l.slot) x) (λ b apart. (apart, tt)) (λ i j w is lt same. omega (arith, same)) (λ i j w f is late at same. omega (arith, same, (keeps.each i w is).in_place j f at)) (λ b live same. omega (arith, same, high_live b live))
      (λ g is. absurd (none-some g (sym may.alone ∙ is)))) (Some h) l.known (Some t) (omega arith)
      (λ g e. let same : h ≡ g = same_Some _ _ e in record { number = t; bytes = x; is_ticket = refl; reads = may.reads ∙ ap (λ (q : Header). Some q) same; last = last_new log (1 - l.slot) t x high none })
      (λ e. absurd (none-some h (sym e))) begins

-- a record whose blocks are all issued. The ledger before it fitted an older log: once the commit block is written it doesn't fit any more
pub knows_recorded : (base : Blocks) (log0 log : List Event) (l : Ledger) (p : PipelineData) → IsConsistentWith base log0 l → DataAgree base log l p → (w : WrittenRecord) (m : Blocks) (ts freed : List ℕ) → w.says.number ≡ next_number l → HasTickets log (with_record l w m) w ts → FreshAreNew (with_record l w m) → AreFreed l w m freed → DataAgree base log (with_record l w m) (with_committed p l w ts freed)
knows_recorded base log0 log l p keeps k w m ts freed number own new are_freed = record {
  count = length-append p.tickets (ts ∷ []) ∙ omega (arith, k.count, length-append l.records (w ∷ []));
  tickets = λ i v us is at low. ⊎_elim
      (λ old. let o = k.tickets i v us old (front_get p.tickets (ts ∷ []) i us (omega (arith, k.count, within base log0 l keeps k.new i v old)) at) low in record { ring = o.ring; fresh = o.fresh })
      (λ last. let same : ts ≡ us = same_Some _ _ (sym (get_behind p.tickets (ts ∷ []) 0) ∙ ap (slice_get (p.tickets ++ ts ∷ [])) (omega (arith, last.1, k.count)) ∙ at) in
      subst (λ (q : List ℕ). HasTickets log (with_record l w m) v q) same (subst (λ (u : WrittenRecord). HasTickets log (with_record l w m) u ts) (sym last.0) own))
      (in_longer l.records w v i is);
  pending = λ h e. let o = k.pending h e in record { number = o.number; bytes = o.bytes; is_ticket = o.is_ticket; reads = o.reads; last = o.last };
  not_pending = k.not_pending;
  new = new;
  placed = k.placed;
  batch = k.batch;
  rest = k.rest ++ w ∷ [];
  is_batch = record {
    split = ap (λ (ws : List WrittenRecord). ws ++ w ∷ []) k.is_batch.split ∙ append_assoc k.placed (k.batch ++ k.rest) (w ∷ []) ∙ ap (λ (ws : List WrittenRecord). k.placed ++ ws) (append_assoc k.batch k.rest (w ∷ []));
    sure = k.is_batch.sure;
    from = k.is_batch.from;
  };
  placed_is = k.placed_is;
  batch_is = k.batch_is;
  home = λ b x sent covered on. k.home b x sent covered (lives_before (l.header.start + length k.placed + length k.batch) b on);
  at_home = λ b x covered on. k.at_home b x covered (lives_before (l.header.start + length k.placed) b on);
  next_place = ap (λ q. (q + places w.says) % l.geom.j) k.next_place ∙ sym (ap (place_after l.geom.j l.header.at) (say_append l.records (w ∷ [])) ∙ place_after-append l.geom.j l.header.at (all_say l.records) (w.says ∷ []));
  taken = ap (λ q. q + places w.says) k.taken ∙ sym (ap all_places (say_append l.records (w ∷ [])) ∙ places_append (all_say l.records) (w.says ∷ []) ∙ plus (all_places (all_say l.records)) (places w.says));
  waiting = record { each = waits };
}
  where
    plus : (a b : ℕ) → a + (b + 0) ≡ a + b
    plus a b = omega arith

    lives_before : (n b : ℕ) → StaysLive (with_record l w m) n b → StaysLive l n b
    lives_before n b on = record {
      live = subst (λ (q : Blocks). IsTrue (is_live l.geom q b)) (at_old l w m (l.header.sure + 1) (omega (arith, (keeps.headers.fits l.header (inl refl)).last))) on.live;
      alone = λ i v is from upto. on.alone i v (get_front l.records (w ∷ []) i v is) from upto;
    }

    pair_at : (bs : List ℕ) (i b : ℕ) → slice_get bs i ≡ Some b → slice_get (pairs_of w.says.number bs) i ≡ Some (b, w.says.number)
    pair_at [] i b e = cc
    pair_at (c ∷ bs) zero b e = ap (λ q. Some (q, w.says.number)) (same_Some _ _ e)
    pair_at (c ∷ bs) (suc i) b e = pair_at bs i b e

    last_map : (with_record l w m).map_before (next_number (with_record l w m)) ≡ m
    last_map = at_new l w m _ (omega (arith, length-append l.records (w ∷ [])))

    waits : (b n : ℕ) → data_start l.geom ≤ b → l.header.sure < n → n ≤ next_number (with_record l w m) → IsTrue (is_live l.geom ((with_record l w m).map_before n) b) → is_live l.geom ((with_record l w m).map_before (next_number (with_record l w m))) b ≡ false
        → (i r : ℕ) × (slice_get (p.waiting ++ pairs_of w.says.number freed) i ≡ Some (b, r)) × (n ≤ r)
    waits b n high from upto live dead = ⊎_elim
        (λ at_last. absurd (both_ways _ (ap (λ q. is_live l.geom ((with_record l w m).map_before q) b) (omega (arith, at_last, upto, length-append l.records (w ∷ []))) ∙ dead) live))
        (λ low.
        let live_old = subst (λ (q : Blocks). IsTrue (is_live l.geom q b)) (at_old l w m n low) live in
        let dead_new : is_live l.geom m b ≡ false = ap (λ (q : Blocks). is_live l.geom q b) (sym last_map) ∙ dead in
        ⊎_elim
        (λ now. let f = are_freed b high now dead_new in
        (length p.waiting + f.0, w.says.number, get_behind p.waiting (pairs_of w.says.number freed) f.0 ∙ pair_at freed f.0 b f.1, omega (arith, number, low)))
        (λ was. let o = k.waiting.each b n high from low live_old was in (o.0, o.1, get_front p.waiting (pairs_of w.says.number freed) o.0 (b, o.1) o.2, o.3))
        (cases_Bool (is_live l.geom (l.map_before (next_number l)) b)))
        (cases_lt (next_number l) n)
