-- A record that is written block by block: each block may be written, and at the end the commit block may.
use Rattle.std.proofs.Common.{◌≡◌, ◌≢◌, ◌⊎◌, inl, inr, ⊎_elim, ℕ, zero, suc, ◌+◌, ◌-◌, ◌%◌, ◌<◌, ◌≤◌, IsTrue, List, [], ◌∷◌, ◌++◌, length, slice_get, Some, Result, Ok, Err, refl, sym, ◌∙◌, ap, subst, arith}
use Rattle.std.proofs.lemmas.Bool.{cases_lt}
use Rattle.std.proofs.lemmas.Option.{none-some, same_Some, slice_get_within}
use Rattle.base_types.specs.Seal.{Blocks}
use Rattle.disk_contract.specs.declared.event.Event.{Event}
use Rattle.disk_contract.specs.declared.event.Event.TheVariants.{Wrote, Lost}
use Rattle.disk_contract.specs.declared.disk.DiskFault.{DiskFault}
use Rattle.disk_contract.specs.Cell.{Cell, cell_of, greatest_ticket, IsNoticed}
use Rattle.disk_contract.specs.Disk.{State, AddsWrite}
use Rattle.layout_geometry.specs.Geometry.{ring_block, bitmap_start}
use Rattle.layout_journal.specs.declared.entry.Entry.{Entry}
use Rattle.layout_journal.specs.declared.record.Descriptor.{Descriptor}
use Rattle.layout_journal.specs.Layout.{descriptor_of, descriptor_count}
use Rattle.layout_journal.specs.Run.{entries, heads, places, names_block, is_live, descriptor_says}
use Rattle.crash_argument.specs.JournalLaws.{JournalLaws}
use Rattle.crash_argument.specs.Ledger.{Ledger, WrittenRecord, IsConsistentWith, StandsIn, block_at, next_number, payload_in, latest}
use Rattle.crash_argument.specs.Steps.{IsFreePlace, MayWriteInRing, IsBeingWritten, IsReadyToCommit, with_record}
use Rattle.crash_argument.specs.Points.{MountedSession, IsSafe}
use Rattle.crash_argument.specs.LastWrites.{FreshAreNew, HasTickets}
use Rattle.crash_argument.specs.Recording.{IsNextRecord, IsPartlyWritten, IsAmongLast, PartWritten, IsInLedger, RecordWritten}
use Rattle.crash_argument.proofs.theorem.Images.{in_ring}
use Rattle.crash_argument.proofs.steps.Steps.{at_old, at_new}
use Rattle.crash_argument.proofs.log.Lists.{get_some, named_at, in_longer}
use Rattle.crash_argument.proofs.log.Adds.{Adds, adds_wrote}
use Rattle.crash_argument.proofs.log.LastWrites.{last_latest, last_logged, last_new, among_stays, among_own}
use Rattle.crash_argument.proofs.log.Places.{apart, behind_free}
use Rattle.crash_argument.proofs.pipe.InPlace.{dead_may, numbered, within}
use Rattle.crash_argument.proofs.steps.Idle.{descriptor_writing, payload_writing, commit_idle}
use Rattle.crash_argument.specs.PipelineData.{PipelineData}
use Rattle.crash_argument.proofs.pipe.PipelineWrites.{knows_fresh, knows_in_ring, knows_recorded}
use Rattle.crash_argument.proofs.steps.Safe.{safe_wrote_ring, safe_lost_ring, safe_wrote_in_place, safe_lost_in_place, safe_wrote_commit, safe_lost_commit, moved}

module _ (laws : JournalLaws) (base : Blocks) (log : List Event) (l : Ledger) (keeps : IsConsistentWith base log l) (new : FreshAreNew l) (p : PipelineData) (w : WrittenRecord) (m : Blocks) (may : IsNextRecord l w m) where
  -- the places of the record are free
  place_free : (i : ℕ) → i < places w.says → IsFreePlace l (w.says.place + i)
  place_free i lt = subst (λ p. IsFreePlace l (p + i)) (sym may.place) (behind_free base log l keeps i (omega (arith, may.within)))

  -- and apart from one another
  own_apart : (i k : ℕ) → i < k → k < places w.says → ring_block l.geom (w.says.place + i) ≢ ring_block l.geom (w.says.place + k)
  own_apart i k lt within e = apart (w.says.place + i) (k - i) l.geom.j (omega arith) (omega (arith, may.within)) (omega (arith, e, ap (λ n. n % l.geom.j) {x = w.says.place + k} {y = w.says.place + i + (k - i)} (omega (arith, lt))))

  -- a block behind the commit block is a descriptor or a payload
  part_of : (i : ℕ) → 0 < i → i < places w.says → ((n : ℕ) × (i ≡ 1 + n) × (n < descriptor_count (length (entries w.says)))) ⊎ ((n : ℕ) × (e : Entry) × (i ≡ heads w.says + n) × (slice_get w.says.payloads n ≡ Some e))
  part_of i some lt = ⊎_elim (λ low. inl (i - 1, omega (arith, some), omega (arith, some, low)))
      (λ high. let e = get_some w.says.payloads (i - heads w.says) (omega (arith, high, lt)) in inr (i - heads w.says, e.0, omega (arith, high), e.1)) (cases_lt i (heads w.says))

  -- no record of the ledger has the next number
  not_there : (n : ℕ) (v : WrittenRecord) → n ≡ next_number l → slice_get l.records (n - l.header.start) ≡ Some v → ⊥
  not_there n v e is = omega (arith, e, slice_get_within l.records (n - l.header.start) v is)

  -- so each such block may be written to its place
  pub ring_may : (i : ℕ) → 0 < i → i < places w.says → MayWriteInRing l (w.says.place + i) (block_at w.ring i)
  ring_may i some lt = ⊎_elim
      (λ p.
      let reads : descriptor_of l.geom (block_at w.ring i) ≡ Some (descriptor_says l.epoch w.says p.0) = ap (λ n. descriptor_of l.geom (block_at w.ring n)) p.1 ∙ may.spelled.descriptors p.0 p.2 in
      record {
        free = place_free i lt;
        no_commit = laws.descriptor_no_commit l.geom l.geom (block_at w.ring i) _ reads;
        no_descriptor = λ d v is e from at. not_there d.number v (ap (λ (c : Descriptor). c.number) (same_Some _ _ (sym is ∙ reads)) ∙ may.number) at;
      })
      (λ p.
      let fits = may.spelled.payloads p.0 p.1 p.3 in
      let stored = fits.kind in
      record {
        free = place_free i lt;
        no_commit = ap (λ n. Rattle.layout_journal.specs.Layout.commit_of l.geom (block_at w.ring n)) p.2 ∙ laws.stored_no_commit p.1.kind l.geom _ stored;
        no_descriptor = λ d v is e from at. none-some d (sym (ap (λ n. descriptor_of l.geom (block_at w.ring n)) p.2 ∙ laws.stored_no_descriptor p.1.kind l.geom _ stored) ∙ is);
      })
      (part_of i some lt)

  -- and all that stands of the record after it is its own
  ring_writing : (log2 : List Event) (i : ℕ) → 0 < i → i < places w.says → Adds base log log2 (ring_block l.geom (w.says.place + i)) (block_at w.ring i) → IsBeingWritten (cell_of base log) l w → IsBeingWritten (cell_of base log2) l w
  ring_writing log2 i some lt adds wr = ⊎_elim
      (λ p. descriptor_writing base log log2 l w (w.says.place + i) p.0 (block_at w.ring i) adds may.number (ap (λ n. descriptor_of l.geom (block_at w.ring n)) p.1 ∙ may.spelled.descriptors p.0 p.2) (ap (block_at w.ring) p.1) wr)
      (λ p. payload_writing base log log2 l w (w.says.place + i) (block_at w.ring i) adds (ap (λ n. descriptor_of l.geom (block_at w.ring n)) p.2 ∙ laws.stored_no_descriptor p.1.kind l.geom _ (may.spelled.payloads p.0 p.1 p.3).kind) wr)
      (part_of i some lt)

  -- fresh blocks lie behind the ring
  high_fresh : (i : ℕ) (e : Entry) → slice_get w.says.fresh i ≡ Some e → bitmap_start l.geom ≤ e.block
  high_fresh i e at = omega (arith, laws.fresh_data l.geom w.says i e may.spelled.fit at)

  -- so they are apart
  fresh_ring : (i p : ℕ) (e : Entry) → slice_get w.says.fresh i ≡ Some e → e.block ≢ ring_block l.geom p
  fresh_ring i p e at same = omega (arith, same, high_fresh i e at, in_ring l.geom p keeps.ring)

  -- all is issued but the commit block
  pub under_prepared : (tickets : List ℕ) → IsPartlyWritten base log l p w tickets (length w.says.fresh) (places w.says) → IsReadyToCommit base log l w m
  under_prepared tickets u = record {
    number = may.number;
    not_closed = may.not_closed;
    place = may.place;
    within = may.within;
    spelled = may.spelled;
    free = subst (IsFreePlace l) {x = w.says.place + 0} {y = w.says.place} (omega arith) (place_free 0 (omega arith));
    own = λ i some lt e. own_apart 0 i some lt (ap (ring_block l.geom) {x = w.says.place + 0} {y = w.says.place} (omega arith) ∙ sym e);
    ring = λ i some lt. last_latest base log _ (u.ring i some lt).0 _ (u.ring i some lt).2;
    ring_logged = λ i some lt. inl (last_logged log _ (u.ring i some lt).0 _ (u.ring i some lt).2);
    in_place = high_fresh;
    fresh = fresh_is;
    fresh_logged = λ i e at. inl (last_logged log _ (u.fresh i e (slice_get_within w.says.fresh i e at) at).0 _ (u.fresh i e (slice_get_within w.says.fresh i e at) at).2);
    writing = u.writing;
    paid = may.paid;
    laid = λ b none named. let p = named_at w.says.fresh b named in ap m (sym p.3) ∙ may.laid p.0 p.1 p.2 ∙ sym (fresh_is p.0 p.1 p.2) ∙ ap (λ c. latest (cell_of base log c)) p.3;
    same = may.same;
  }
    where
      fresh_is : (i : ℕ) (e : Entry) → slice_get w.says.fresh i ≡ Some e → latest (cell_of base log e.block) ≡ block_at w.fresh i
      fresh_is i e at = let p = u.fresh i e (slice_get_within w.says.fresh i e at) at in last_latest base log e.block p.0 _ p.2

  -- one block more
  pub under_fresh : (n i issued : ℕ) (e : Entry) (tickets : List ℕ) → greatest_ticket log < n → ¬ IsNoticed n log → slice_get w.says.fresh i ≡ Some e → IsPartlyWritten base log l p w tickets i issued
      → IsPartlyWritten base (log ++ Wrote n e.block (block_at w.fresh i) ∷ []) l p w (tickets ++ n ∷ []) (i + 1) issued
  under_fresh n i issued e tickets high none at u =
      let adds = adds_wrote base log n e.block (block_at w.fresh i) in
      let q = p in
      record {
        fresh = λ k f lt is. ⊎_elim (λ low. among_stays log (Wrote n e.block (block_at w.fresh i)) tickets (n ∷ []) f.block (block_at w.fresh k) (λ same. less k f low is same, tt) (u.fresh k f low is))
            (λ last. own k f (omega (arith, lt, last)) is) (cases_lt k i);
        ring = λ k some lt. among_stays log (Wrote n e.block (block_at w.fresh i)) tickets (n ∷ []) _ _ (fresh_ring i (w.says.place + k) e at, tt) (u.ring k some lt);
        writing = record { each = λ p y d st is eq from. u.writing.each p y d (subst (λ (c : Cell). StandsIn c y) (adds.other (ring_block l.geom p) (λ same. fresh_ring i p e at (sym same))) st) is eq from };
        knows = knows_fresh base log l keeps q u.knows (Wrote n e.block (block_at w.fresh i)) e.block (block_at w.fresh i) adds (λ b apart. (apart, tt)) (high_fresh i e at) (may.dead i e at);
      }
    where
      less : (k : ℕ) (f : Entry) → k < i → slice_get w.says.fresh k ≡ Some f → e.block ≢ f.block
      less k f lt is same = omega (arith, same, laws.fresh_ordered l.geom w.says k i f e may.spelled.fit lt is at)

      own : (k : ℕ) (f : Entry) → k ≡ i → slice_get w.says.fresh k ≡ Some f → IsAmongLast (log ++ Wrote n e.block (block_at w.fresh i) ∷ []) (tickets ++ n ∷ []) f.block (block_at w.fresh k)
      own k f same is =
          let one : e ≡ f = same_Some _ _ (sym at ∙ ap (slice_get w.says.fresh) (sym same) ∙ is) in
          subst (λ q. IsAmongLast (log ++ Wrote n e.block (block_at w.fresh i) ∷ []) (tickets ++ n ∷ []) f.block (block_at w.fresh q)) (sym same)
          (subst (λ (g : Entry). IsAmongLast (log ++ Wrote n e.block (block_at w.fresh i) ∷ []) (tickets ++ n ∷ []) g.block (block_at w.fresh i)) one (n, among_own tickets n, last_new log e.block n _ high none))

  -- the same for a block of the ring
  pub under_ring : (n i laid : ℕ) (tickets : List ℕ) → greatest_ticket log < n → ¬ IsNoticed n log → 0 < i → i < places w.says → IsPartlyWritten base log l p w tickets laid i
      → IsPartlyWritten base (log ++ Wrote n (ring_block l.geom (w.says.place + i)) (block_at w.ring i) ∷ []) l p w (tickets ++ n ∷ []) laid (i + 1)
  under_ring n i laid tickets high none some lt u =
      let adds = adds_wrote base log n (ring_block l.geom (w.says.place + i)) (block_at w.ring i) in
      record {
        fresh = λ k f low is. among_stays log (Wrote n (ring_block l.geom (w.says.place + i)) (block_at w.ring i)) tickets (n ∷ []) f.block _ (λ same. fresh_ring k (w.says.place + i) f is (sym same), tt) (u.fresh k f low is);
        ring = λ k pos less. ⊎_elim (λ low. among_stays log (Wrote n (ring_block l.geom (w.says.place + i)) (block_at w.ring i)) tickets (n ∷ []) _ _ (λ same. own_apart k i low lt (sym same), tt) (u.ring k pos low))
            (λ last. subst (λ q. IsAmongLast (log ++ Wrote n (ring_block l.geom (w.says.place + i)) (block_at w.ring i) ∷ []) (tickets ++ n ∷ []) (ring_block l.geom (w.says.place + q)) (block_at w.ring q)) (omega (arith, less, last)) (n, among_own tickets n, last_new log _ n _ high none)) (cases_lt k i);
        writing = ring_writing _ i some lt adds u.writing;
        knows = knows_in_ring base log l keeps p u.knows (Wrote n (ring_block l.geom (w.says.place + i)) (block_at w.ring i)) (w.says.place + i) (block_at w.ring i) adds (λ b apart. (apart, tt)) (place_free i lt);
      }

  -- fresh blocks stay new with the record
  pub new_with : FreshAreNew (with_record l w m)
  new_with = record {
    live = λ k i v e is late at. ⊎_elim (λ old. subst (λ (q : Blocks). IsTrue (is_live l.geom q e.block)) (sym (at_old l w m (v.says.number + 1) (omega (arith, numbered base log l keeps new k v old, within base log l keeps new k v old)))) (new.live k i v e old late at))
        (λ p. subst (λ (q : Blocks). IsTrue (is_live l.geom q e.block)) (sym (at_new l w m (v.says.number + 1) (omega (arith, may.number, ap (λ (u : WrittenRecord). u.says.number) p.0)))) (may.live i e (ap (λ (u : WrittenRecord). slice_get u.says.fresh i) (sym p.0) ∙ at)))
        (in_longer l.records w v k is);
    dead = λ k i n v e is from upto at. ⊎_elim (λ old. ap (λ (q : Blocks). is_live l.geom q e.block) (at_old l w m n (omega (arith, upto, numbered base log l keeps new k v old, within base log l keeps new k v old))) ∙ new.dead k i n v e old from upto at)
        (λ p. let low : n ≤ next_number l = omega (arith, upto, may.number, ap (λ (u : WrittenRecord). u.says.number) p.0) in ap (λ (q : Blocks). is_live l.geom q e.block) (at_old l w m n low) ∙ may.dead i e (ap (λ (u : WrittenRecord). slice_get u.says.fresh i) (sym p.0) ∙ at) n from low)
        (in_longer l.records w v k is);
    paid = λ k b v y is payload. ⊎_elim
        (λ old. subst (λ (q : Blocks). IsTrue (is_live l.geom q b)) (sym (at_old l w m (v.says.number + 1) (omega (arith, numbered base log l keeps new k v old, within base log l keeps new k v old)))) (new.paid k b v y old payload))
        (λ p. subst (λ (q : Blocks). IsTrue (is_live l.geom q b)) (sym (at_new l w m (v.says.number + 1) (omega (arith, may.number, ap (λ (u : WrittenRecord). u.says.number) p.0)))) (may.paid_live b y (ap (λ (u : WrittenRecord). payload_in u b) (sym p.0) ∙ payload)))
        (in_longer l.records w v k is);
    kept = λ k b v is none unnamed live. ⊎_elim
        (λ old.
        let number = numbered base log l keeps new k v old in
        let low = within base log l keeps new k v old in
        subst (λ (q : Blocks). IsTrue (is_live l.geom q b)) (sym (at_old l w m v.says.number (omega (arith, number, low)))) (new.kept k b v old none unnamed (subst (λ (q : Blocks). IsTrue (is_live l.geom q b)) (at_old l w m (v.says.number + 1) (omega (arith, number, low))) live)))
        (λ p.
        let number : v.says.number ≡ next_number l = ap (λ (u : WrittenRecord). u.says.number) p.0 ∙ may.number in
        subst (λ (q : Blocks). IsTrue (is_live l.geom q b)) (sym (at_old l w m v.says.number (omega (arith, number))) ∙ refl) (subst (λ n. IsTrue (is_live l.geom (l.map_before n) b)) (sym number)
        (may.same b (ap (λ (u : WrittenRecord). payload_in u b) (sym p.0) ∙ none) (ap (λ (u : WrittenRecord). names_block u.says.fresh b) (sym p.0) ∙ unnamed) (subst (λ (q : Blocks). IsTrue (is_live l.geom q b)) (at_new l w m (v.says.number + 1) (omega (arith, number))) live)).0))
        (in_longer l.records w v k is);
  }

  -- the commit block is written
  pub own_tickets : (n : ℕ) (tickets : List ℕ) → greatest_ticket log < n → ¬ IsNoticed n log → IsPartlyWritten base log l p w tickets (length w.says.fresh) (places w.says)
      → HasTickets (log ++ Wrote n (ring_block l.geom w.says.place) (block_at w.ring 0) ∷ []) (with_record l w m) w (tickets ++ n ∷ [])
  own_tickets n tickets high none u = record {
    ring = λ i lt. first_or i lt;
    fresh = λ late i e at. among_stays log (Wrote n (ring_block l.geom w.says.place) (block_at w.ring 0)) tickets (n ∷ []) e.block _ (λ same. fresh_ring i w.says.place e at (sym same), tt) (u.fresh i e (slice_get_within w.says.fresh i e at) at);
  }
    where
      first_or : (i : ℕ) → i < places w.says → IsAmongLast (log ++ Wrote n (ring_block l.geom w.says.place) (block_at w.ring 0) ∷ []) (tickets ++ n ∷ []) (ring_block l.geom (w.says.place + i)) (block_at w.ring i)
      first_or zero lt = subst (λ p. IsAmongLast (log ++ Wrote n (ring_block l.geom w.says.place) (block_at w.ring 0) ∷ []) (tickets ++ n ∷ []) (ring_block l.geom p) (block_at w.ring 0)) (omega arith) (n, among_own tickets n, last_new log _ n _ high none)
      first_or (suc i) lt = among_stays log (Wrote n (ring_block l.geom w.says.place) (block_at w.ring 0)) tickets (n ∷ []) _ _ (λ same. own_apart 0 (suc i) (omega arith) lt (ap (ring_block l.geom) (sym (omega arith)) ∙ same), tt) (u.ring (suc i) (omega arith) lt)

module _ (laws : JournalLaws) (s : MountedSession) (start end : State) (l : Ledger) (p : PipelineData) (w : WrittenRecord) (m : Blocks) (t floor : ℕ) (same : end.base ≡ start.base) (new : FreshAreNew l) (may : IsNextRecord l w m) (safe : IsSafe s start.base start.log l t floor) where
  -- the same under equal names
  shifted : (tickets : List ℕ) (laid issued : ℕ) (lg : List Event) → end.log ≡ lg → IsPartlyWritten start.base lg l p w tickets laid issued → IsPartlyWritten end.base end.log l p w tickets laid issued
  shifted tickets laid issued lg is u = subst (λ (b : Blocks). IsPartlyWritten b end.log l p w tickets laid issued) (sym same) (subst (λ (k : List Event). IsPartlyWritten start.base k l p w tickets laid issued) (sym is) u)

  -- after a call for a fresh block: one block more, or the disk is safe all the same
  pub progress_fresh : (block i issued : ℕ) (e : Entry) (x : List ℕ) (tickets : List ℕ) (r : Result ℕ DiskFault) → slice_get w.says.fresh i ≡ Some e → block ≡ e.block → x ≡ block_at w.fresh i → AddsWrite block x r start.log end.log
      → IsPartlyWritten start.base start.log l p w tickets i issued → PartWritten s l p w t floor tickets (i + 1) issued r end
  progress_fresh block i issued e x tickets (Ok n) at is bytes adds u =
      let own = adds.2 ∙ ap (λ b. start.log ++ Wrote n b x ∷ []) is ∙ ap (λ y. start.log ++ Wrote n e.block y ∷ []) bytes in (
        moved s start.base end.base _ end.log l t floor same own (safe_wrote_in_place laws s start.base start.log l t floor safe n e.block (block_at w.fresh i) (dead_may start.base start.log l safe.keeps new e.block (high_fresh laws start.base start.log l safe.keeps new p w m may i e at) (may.dead i e at))),
        shifted (tickets ++ n ∷ []) (i + 1) issued _ own (under_fresh laws start.base start.log l safe.keeps new p w m may n i issued e tickets adds.0 adds.1 at u),
      )
  progress_fresh block i issued e x tickets (Err f) at is bytes adds u =
      ⊎_elim (λ quiet. moved s start.base end.base start.log end.log l t floor same quiet safe)
      (λ lost. moved s start.base end.base _ end.log l t floor same (lost ∙ ap (λ b. start.log ++ Lost b x ∷ []) is) (safe_lost_in_place laws s start.base start.log l t floor safe e.block x (dead_may start.base start.log l safe.keeps new e.block (high_fresh laws start.base start.log l safe.keeps new p w m may i e at) (may.dead i e at)))) adds

  -- and after one for a block of the ring
  pub progress_ring : (block i laid : ℕ) (x : List ℕ) (tickets : List ℕ) (r : Result ℕ DiskFault) → 0 < i → i < places w.says → block ≡ ring_block l.geom (w.says.place + i) → x ≡ block_at w.ring i → AddsWrite block x r start.log end.log
      → IsPartlyWritten start.base start.log l p w tickets laid i → PartWritten s l p w t floor tickets laid (i + 1) r end
  progress_ring block i laid x tickets (Ok n) some lt is bytes adds u =
      let own = adds.2 ∙ ap (λ b. start.log ++ Wrote n b x ∷ []) is ∙ ap (λ y. start.log ++ Wrote n (ring_block l.geom (w.says.place + i)) y ∷ []) bytes in (
        moved s start.base end.base _ end.log l t floor same own (safe_wrote_ring laws s start.base start.log l t floor safe n (w.says.place + i) (block_at w.ring i) (ring_may laws start.base start.log l safe.keeps new p w m may i some lt)),
        shifted (tickets ++ n ∷ []) laid (i + 1) _ own (under_ring laws start.base start.log l safe.keeps new p w m may n i laid tickets adds.0 adds.1 some lt u),
      )
  progress_ring block i laid x tickets (Err f) some lt is bytes adds u =
      ⊎_elim (λ quiet. moved s start.base end.base start.log end.log l t floor same quiet safe)
      (λ lost. moved s start.base end.base _ end.log l t floor same (lost ∙ ap (λ b. start.log ++ Lost b x ∷ []) is ∙ ap (λ y. start.log ++ Lost (ring_block l.geom (w.says.place + i)) y ∷ []) bytes) (safe_lost_ring laws s start.base start.log l t floor safe (w.says.place + i) (block_at w.ring i) (ring_may laws start.base start.log l safe.keeps new p w m may i some lt))) adds

  -- after the call for the commit block: the record is in the ledger, or the disk is safe all the same
  pub recorded : (block : ℕ) (x : List ℕ) (tickets : List ℕ) (r : Result ℕ DiskFault) → block ≡ ring_block l.geom w.says.place → x ≡ block_at w.ring 0 → AddsWrite block x r start.log end.log
      → IsPartlyWritten start.base start.log l p w tickets (length w.says.fresh) (places w.says) → RecordWritten s l p w m t floor tickets r start end
  recorded block x tickets (Ok n) is bytes adds u =
      let own = adds.2 ∙ ap (λ b. start.log ++ Wrote n b x ∷ []) is ∙ ap (λ y. start.log ++ Wrote n (ring_block l.geom w.says.place) y ∷ []) bytes in
      let ready = under_prepared laws start.base start.log l safe.keeps new p w m may tickets u in
      subst (λ (b : Blocks). IsInLedger s b end.log l p w m t floor (tickets ++ n ∷ [])) (sym same) (subst (λ (k : List Event). IsInLedger s start.base k l p w m t floor (tickets ++ n ∷ [])) (sym own) (record {
        safe = safe_wrote_commit laws s start.base start.log l t floor safe n w m ready;
        own = own_tickets laws start.base start.log l safe.keeps new p w m may n tickets adds.0 adds.1 u;
        idle = commit_idle laws start.base start.log _ l w m (adds_wrote start.base start.log n _ _) ready;
        new = new_with laws start.base start.log l safe.keeps new p w m may;
        joined = λ freed are_freed. knows_recorded start.base start.log _ l p safe.keeps (knows_in_ring start.base start.log l safe.keeps p u.knows (Wrote n (ring_block l.geom w.says.place) (block_at w.ring 0)) w.says.place (block_at w.ring 0) (adds_wrote start.base start.log n _ _) (λ b apart. (apart, tt)) ready.free) w m (tickets ++ n ∷ []) freed may.number (own_tickets laws start.base start.log l safe.keeps new p w m may n tickets adds.0 adds.1 u) (new_with laws start.base start.log l safe.keeps new p w m may) are_freed;
      }))
  recorded block x tickets (Err f) is bytes adds u =
      let ready = under_prepared laws start.base start.log l safe.keeps new p w m may tickets u in
      ⊎_elim (λ quiet. inl (quiet, moved s start.base end.base start.log end.log l t floor same quiet safe))
      (λ lost. inr (moved s start.base end.base _ end.log (with_record l w m) t floor same (lost ∙ ap (λ b. start.log ++ Lost b x ∷ []) is ∙ ap (λ y. start.log ++ Lost (ring_block l.geom w.says.place) y ∷ []) bytes) (safe_lost_commit laws s start.base start.log l t floor safe w m ready))) adds
