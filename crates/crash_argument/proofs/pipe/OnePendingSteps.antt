-- One pending write a block: how it is kept by each event, and that the blocks that are to be written are idle.
use Rattle.std.proofs.Common.{◌≡◌, ◌≢◌, ◌⊎◌, inl, inr, ⊎_elim, ℕ, ◌+◌, ◌-◌, ◌%◌, ◌<◌, ◌≤◌, ◌==◌, Bool, true, false, if◌then◌else◌, IsTrue, List, [], ◌∷◌, ◌++◌, length, slice_get, Some, None, refl, sym, ◌∙◌, ap, subst, arith, length-append}
use Rattle.std.proofs.lemmas.Bool.{cases_eq, cases_lt, cases_Bool, both_ways, eq-eqb, false≢true, cond-true, cond-false}
use Rattle.std.proofs.lemmas.Nat.{mod_below}
use Rattle.std.proofs.lemmas.Option.{none-some, same_Some}
use Rattle.base_types.specs.Seal.{Blocks}
use Rattle.disk_contract.specs.declared.event.Event.{Event}
use Rattle.disk_contract.specs.declared.event.Event.TheVariants.{Wrote, Lost, Noticed}
use Rattle.disk_contract.specs.Cell.{Cell, Write, settle, from_ticket, is_ticket, cell_of, greatest_ticket, IsNoticed}
use Rattle.layout_geometry.specs.Geometry.{Geometry, ring_block, bitmap_start}
use Rattle.layout_journal.specs.declared.header.Header.{Header}
use Rattle.layout_journal.specs.declared.entry.Entry.{Entry}
use Rattle.layout_journal.specs.Run.{places, is_live}
use Rattle.crash_argument.specs.Ledger.{Ledger, WrittenRecord, IsConsistentWith}
use Rattle.crash_argument.specs.Steps.{IsFreePlace, AreNoticed, with_known, with_header, IsDurable, with_durable_header, with_record}
use Rattle.crash_argument.specs.LastWrites.{IsLastWrite, FreshAreNew, IsDead}
use Rattle.crash_argument.specs.HomeTest.{is_one_of}
use Rattle.crash_argument.specs.PipelineData.{PipelineData, DataAgree, NeedsCheckpoint, IsHomeNoticed, with_pending, with_durable, with_batch, with_home, with_sent, with_placed, with_committed}
use Rattle.crash_argument.specs.OnePending.{IsIdle, IsFreshInNew, IsOnItsWay, HasOnePending, IsNotOnItsWay, AreOfRecord}
use Rattle.crash_argument.specs.Points.{IsMounted, ledger_at_mount}
use Rattle.crash_argument.proofs.log.Events.{cell_of-append, other_wrote, other_lost}
use Rattle.crash_argument.proofs.log.Tickets.{noticed_done}
use Rattle.crash_argument.proofs.log.LastWrites.{last_stays, last_new}
use Rattle.crash_argument.proofs.log.Adds.{settles_one}
use Rattle.crash_argument.proofs.log.Lists.{get_drop, get_front, get_behind, get_some, decide_below, inspect, last_or}
use Rattle.crash_argument.proofs.pipe.InPlace.{numbered, within}
use Rattle.crash_argument.proofs.theorem.Core.{live_from}

-- a notice leaves no more writes pending
fewer_from : (t : ℕ) (ws : List Write) → length (from_ticket t ws) ≤ length ws
fewer_from t [] = omega arith
fewer_from t (w ∷ ws) = by (is_ticket t w.ticket) (fewer_from t ws)
  where
    by : (v : Bool) → length (from_ticket t ws) ≤ length ws → length (if v then w ∷ ws else from_ticket t ws) ≤ length (w ∷ ws)
    by true le = omega arith
    by false le = omega (arith, le)

fewer_settled : (c : Cell) (ws : List Write) → length ws ≤ length c.pending → length (settle c ws).pending ≤ length c.pending
fewer_settled c [] le = omega arith
fewer_settled c (w ∷ ws) le = omega (arith, le)

fewer_noticed : (base : Blocks) (log : List Event) (t b : ℕ) → length (cell_of base (log ++ Noticed t ∷ []) b).pending ≤ length (cell_of base log b).pending
fewer_noticed base log t b = subst (λ (c : Cell). length c.pending ≤ length (cell_of base log b).pending) (sym (cell_of-append base log (Noticed t ∷ []) b)) (fewer_settled (cell_of base log b) (from_ticket t (cell_of base log b).pending) (fewer_from t (cell_of base log b).pending))

-- a write leaves one more on its block
one_wrote : (base : Blocks) (log : List Event) (t b : ℕ) (x : List ℕ) → IsIdle (cell_of base log b) → length (cell_of base (log ++ Wrote t b x ∷ []) b).pending ≤ 1
one_wrote base log t b x idle = subst (λ (c : Cell). length c.pending ≤ 1) (sym (cell_of-append base log (Wrote t b x ∷ []) b ∙ cond-true (b == b) _ _ (eq-eqb b b refl))) (omega (arith, length-append (cell_of base log b).pending (record { ticket = Some t; bytes = x } ∷ []), ap (λ (ws : List Write). length ws) idle))

-- a session begins with nothing pending
pub one_begins : (base : Blocks) (log : List Event) (g : Geometry) (slot : ℕ) (h : Header) (p : PipelineData) → IsMounted (cell_of base log) g slot h → p.home ≡ [] → HasOnePending base log (ledger_at_mount (cell_of base log) g slot h) p []
one_begins base log g slot h p m none = record {
  one = λ b. omega (arith, ap (λ (ws : List Write). length ws) (m.idle b));
  slot = λ e. m.idle (1 - slot);
  ring = λ place free e. m.idle (ring_block g place);
  block = λ b low e. inl (m.idle b);
  below = λ k b t is. absurd (none-some (b, t) (sym (ap (λ (hs : List (ℕ × ℕ)). slice_get hs k) none) ∙ is));
  none = λ e. none;
}

module _ (base : Blocks) (log : List Event) (l : Ledger) (p : PipelineData) (uw : List ℕ) (o : HasOnePending base log l p uw) where
  -- a notice
  pub one_notice : (t : ℕ) → HasOnePending base (log ++ Noticed t ∷ []) l p uw
  one_notice t = record {
    one = λ b. omega (arith, o.one b, fewer_noticed base log t b);
    slot = λ e. ((settles_one base log t (1 - l.slot)).idle (o.slot e)).0;
    ring = λ place free e. ((settles_one base log t (ring_block l.geom place)).idle (o.ring place free e)).0;
    block = λ b low e. ⊎_elim (λ idle. inl ((settles_one base log t b).idle idle).0) (λ r. inr (⊎_elim inl (λ w. inr (record { at = w.at; ticket = w.ticket; bytes = w.bytes; listed = w.listed; last = last_stays log (Noticed t ∷ []) b w.ticket w.bytes tt w.last })) r)) (o.block b low e);
    below = o.below;
    none = o.none;
  }

  -- where the log stays, and what is said of the blocks that aren't idle goes on
  one_on : (known : ℕ) (q : PipelineData) → ((b : ℕ) → IsFreshInNew l b ⊎ IsOnItsWay log p b → IsIdle (cell_of base log b) ⊎ IsFreshInNew (with_known l known) b ⊎ IsOnItsWay log q b)
      → ((k b t : ℕ) → slice_get q.home k ≡ Some (b, t) → b < q.sent) → (q.batch ≡ 0 → q.home ≡ []) → HasOnePending base log (with_known l known) q uw
  one_on known q goes below none = record {
    one = o.one;
    slot = o.slot;
    ring = o.ring;
    block = λ b low e. ⊎_elim inl (goes b) (o.block b low e);
    below = below;
    none = none;
  }

  -- records become known
  pub one_known : (number : ℕ) → IsConsistentWith base log l → AreNoticed (cell_of base log) l number → HasOnePending base log (with_known l number) p uw
  one_known number keeps are = one_on number p (λ b r. ⊎_elim (fresh b) (λ w. inr (inr w)) r) o.below o.none
    where
      fresh : (b : ℕ) → IsFreshInNew l b → IsIdle (cell_of base log b) ⊎ IsFreshInNew (with_known l number) b ⊎ IsOnItsWay log p b
      fresh b f = ⊎_elim
          (λ lt. inl (ap (λ n. (cell_of base log n).pending) (sym f.own) ∙ are.fresh f.place f.at f.written f.entry f.is_record lt (omega (arith, f.not_known, (keeps.headers.fits l.header (inl refl)).known)) f.is_entry))
          (λ le. inr (inl (record { place = f.place; at = f.at; written = f.written; entry = f.entry; is_record = f.is_record; not_known = le; is_entry = f.is_entry; own = f.own }))) (cases_lt f.written.says.number number)

  -- the batch is taken, and all of it is sent
  pub one_batch : (count : ℕ) → p.batch ≡ 0 → HasOnePending base log l (with_batch p count) uw
  one_batch count none = one_on l.known (with_batch p count)
      (λ b r. ⊎_elim (λ f. inr (inl f)) (λ w. absurd (none-some (b, w.ticket) (sym (ap (λ (hs : List (ℕ × ℕ)). slice_get hs w.at) (o.none none)) ∙ w.listed))) r)
      (λ k b t is. absurd (none-some (b, t) is)) (λ e. refl)

  pub one_sent : (n : ℕ) → p.sent ≤ n → HasOnePending base log l (with_sent p n) uw
  one_sent n le = one_on l.known (with_sent p n) (λ b r. inr (⊎_elim inl (λ w. inr (record { at = w.at; ticket = w.ticket; bytes = w.bytes; listed = w.listed; last = w.last })) r)) (λ k b t is. omega (arith, o.below k b t is, le)) o.none

  -- the batch is at home
  pub one_placed : IsHomeNoticed log p.home → HasOnePending base log l (with_placed p) uw
  one_placed home = one_on l.known (with_placed p) (λ b r. ⊎_elim (λ f. inr (inl f)) (λ w. inl (noticed_done base log b w.ticket w.bytes w.last (home w.at b w.ticket w.listed)).pending) r)
      (λ k b t is. absurd (none-some (b, t) is)) (λ e. refl)

  -- what may be written is idle: a free place, a block for a fresh write, and one that has to go home
  pub fresh_idle : (b : ℕ) → IsConsistentWith base log l → FreshAreNew l → bitmap_start l.geom ≤ b → is_one_of b uw ≡ false → IsDead l b → IsNotOnItsWay log p b → IsIdle (cell_of base log b)
  fresh_idle b keeps new low out dead off = ⊎_elim (λ idle. idle) (λ r. ⊎_elim fresh (λ w. (noticed_done base log b w.ticket w.bytes w.last (off w.at w.ticket w.listed)).pending) r) (o.block b low out)
    where
      fresh : IsFreshInNew l b → IsIdle (cell_of base log b)
      fresh f =
          let late : l.header.sure < f.written.says.number = omega (arith, f.not_known, (keeps.headers.fits l.header (inl refl)).known) in
          absurd (both_ways _ (dead (f.written.says.number + 1) (omega (arith, late)) (omega (arith, numbered base log l keeps new f.place f.written f.is_record, within base log l keeps new f.place f.written f.is_record)))
          (subst (λ n. IsTrue (is_live l.geom (l.map_before (f.written.says.number + 1)) n)) f.own (new.live f.place f.at f.written f.entry f.is_record late f.is_entry)))

  pub home_idle : (k : DataAgree base log l p) (b : ℕ) (x : List ℕ) → IsConsistentWith base log l → is_one_of b uw ≡ false → p.sent ≤ b → NeedsCheckpoint l k.batch b x → IsIdle (cell_of base log b)
  home_idle k b x keeps out from needs = ⊎_elim (λ idle. idle) (λ r. ⊎_elim fresh (λ w. absurd (omega (arith, o.below w.at b w.ticket w.listed, (o.below w.at b w.ticket w.listed), from))) r) (o.block b (live_from l.geom (l.map_before (l.header.sure + 1)) b needs.live) out)
    where
      fresh : IsFreshInNew l b → IsIdle (cell_of base log b)
      fresh f =
          let late : l.header.sure < f.written.says.number = omega (arith, f.not_known, (keeps.headers.fits l.header (inl refl)).known) in
          absurd (both_ways _ (k.new.dead f.place f.at (l.header.sure + 1) f.written f.entry f.is_record (omega arith) (omega (arith, late)) f.is_entry)
          (subst (λ n. IsTrue (is_live l.geom (l.map_before (l.header.sure + 1)) n)) (sym f.own) needs.live))

-- a block that joins those under way isn't one of those that don't
out_of : (b c : ℕ) (uw : List ℕ) → is_one_of c (b ∷ uw) ≡ false → (b ≢ c) × (is_one_of c uw ≡ false)
out_of b c uw e = by (b == c) refl
  where
    by : (v : Bool) → (b == c) ≡ v → (b ≢ c) × (is_one_of c uw ≡ false)
    by true own = absurd (false≢true (sym e ∙ cond-true (b == c) true (is_one_of c uw) own))
    by false other = ((λ same. false≢true (sym other ∙ eq-eqb b c same)), sym (cond-false (b == c) true (is_one_of c uw) other) ∙ e)

module _ (base : Blocks) (log : List Event) (l : Ledger) (p : PipelineData) (uw : List ℕ) (o : HasOnePending base log l p uw) where
  -- one write more to a block that is idle
  one_more : (t b : ℕ) (x : List ℕ) → IsIdle (cell_of base log b) → (c : ℕ) → length (cell_of base (log ++ Wrote t b x ∷ []) c).pending ≤ 1
  one_more t b x idle c = ⊎_elim (λ same. subst (λ n. length (cell_of base (log ++ Wrote t b x ∷ []) n).pending ≤ 1) same (one_wrote base log t b x idle)) (λ apart. subst (λ (d : Cell). length d.pending ≤ 1) (sym (other_wrote base log t b c x apart)) (o.one c)) (cases_eq b c)

  other_idle : (t b c : ℕ) (x : List ℕ) → b ≢ c → IsIdle (cell_of base log c) → IsIdle (cell_of base (log ++ Wrote t b x ∷ []) c)
  other_idle t b c x apart idle = subst IsIdle (sym (other_wrote base log t b c x apart)) idle

  other_way : (t b c : ℕ) (x : List ℕ) → b ≢ c → IsOnItsWay log p c → IsOnItsWay (log ++ Wrote t b x ∷ []) p c
  other_way t b c x apart w = record { at = w.at; ticket = w.ticket; bytes = w.bytes; listed = w.listed; last = last_stays log (Wrote t b x ∷ []) c w.ticket w.bytes (apart, tt) w.last }

  -- a block of the record under way, behind the header slots
  pub one_under_way : (t b : ℕ) (x : List ℕ) → l.slot < 2 → 2 ≤ b → IsIdle (cell_of base log b) → HasOnePending base (log ++ Wrote t b x ∷ []) l p (b ∷ uw)
  one_under_way t b x small high idle = record {
    one = one_more t b x idle;
    slot = λ e. other_idle t b (1 - l.slot) x (λ same. omega (arith, same, small, high)) (o.slot e);
    ring = λ place free e. let out = out_of b (ring_block l.geom place) uw e in other_idle t b (ring_block l.geom place) x out.0 (o.ring place free out.1);
    block = λ c low e. let out = out_of b c uw e in ⊎_elim (λ idle. inl (other_idle t b c x out.0 idle)) (λ r. inr (⊎_elim inl (λ w. inr (other_way t b c x out.0 w)) r)) (o.block c low out.1);
    below = o.below;
    none = o.none;
  }

  -- the next header
  pub one_header : (t : ℕ) (x : List ℕ) (h : Header) → l.slot < 2 → l.next ≡ None → HasOnePending base (log ++ Wrote t (1 - l.slot) x ∷ []) (with_header l h) (with_pending p t) uw
  one_header t x h small none = record {
    one = one_more t (1 - l.slot) x (o.slot none);
    slot = λ e. absurd (none-some h (sym e));
    ring = λ place free e. other_idle t (1 - l.slot) (ring_block l.geom place) x (λ same. omega (arith, same)) (o.ring place free e);
    block = λ c low e. ⊎_elim (λ idle. inl (other_idle t (1 - l.slot) c x (apart c low) idle)) (λ r. inr (⊎_elim (λ f. inl (record { place = f.place; at = f.at; written = f.written; entry = f.entry; is_record = f.is_record; not_known = f.not_known; is_entry = f.is_entry; own = f.own })) (λ w. let v = other_way t (1 - l.slot) c x (apart c low) w in inr (record { at = v.at; ticket = v.ticket; bytes = v.bytes; listed = v.listed; last = v.last })) r)) (o.block c low e);
    below = o.below;
    none = o.none;
  }
    where
      apart : (c : ℕ) → bitmap_start l.geom ≤ c → 1 - l.slot ≢ c
      apart c low same = omega arith

  -- a checkpoint write
  pub one_home : (t b : ℕ) (x : List ℕ) → greatest_ticket log < t → ¬ IsNoticed t log → l.slot < 2 → 0 < l.geom.j → bitmap_start l.geom ≤ b → p.sent ≤ b → (p.batch ≡ 0 → ⊥) → IsIdle (cell_of base log b) → HasOnePending base (log ++ Wrote t b x ∷ []) l (with_home p b t) uw
  one_home t b x high new small some_ring low from some idle = record {
    one = one_more t b x idle;
    slot = λ e. other_idle t b (1 - l.slot) x (λ same. omega (arith, same, low)) (o.slot e);
    ring = λ place free e. other_idle t b (ring_block l.geom place) x (λ same. omega (arith, same, mod_below place l.geom.j some_ring, low)) (o.ring place free e);
    block = λ c lo e. ⊎_elim (λ same. inr (inr (own c same))) (λ apart. ⊎_elim (λ idle. inl (other_idle t b c x apart idle)) (λ r. inr (⊎_elim inl (λ w. let v = other_way t b c x apart w in inr (record { at = v.at; ticket = v.ticket; bytes = v.bytes; listed = get_front p.home ((b, t) ∷ []) v.at (c, v.ticket) v.listed; last = v.last })) r)) (o.block c lo e)) (cases_eq b c);
    below = λ k c u is. ⊎_elim (λ old. omega (arith, o.below k c u old, from)) (λ own. omega (arith, ap (λ (q : ℕ × ℕ). q.0) own)) (last_or p.home (b, t) k (c, u) is);
    none = λ e. absurd (some e);
  }
    where
      own : (c : ℕ) → b ≡ c → IsOnItsWay (log ++ Wrote t b x ∷ []) (with_home p b t) c
      own c same = record { at = length p.home + 0; ticket = t; bytes = x; listed = get_behind p.home ((b, t) ∷ []) 0 ∙ ap (λ n. Some (n, t)) same; last = subst (λ n. IsLastWrite (log ++ Wrote t b x ∷ []) n t x) same (last_new log b t x high new) }

module _ (base : Blocks) (log : List Event) (l : Ledger) (p : PipelineData) (uw : List ℕ) (o : HasOnePending base log l p uw) where
  -- the record joins the ledger
  pub one_joins : (w : WrittenRecord) (m : Blocks) (tickets freed : List ℕ) → AreOfRecord l w uw → 0 < l.geom.j → ((i : ℕ) (e : Entry) → slice_get w.says.fresh i ≡ Some e → bitmap_start l.geom ≤ e.block) → l.known ≤ w.says.number → HasOnePending base log (with_record l w m) (with_committed p l w tickets freed) []
  one_joins w m tickets freed are some_ring in_place late = record {
    one = o.one;
    slot = o.slot;
    ring = λ place free e. ⊎_elim (λ inside. absurd (⊎_elim (λ r. free (length l.records + 0) r.0 w own r.1 r.2) (λ f. not_fresh place f) (are.each (ring_block l.geom place) inside))) (λ out. o.ring place (λ k i v is lt. free k i v (get_front l.records (w ∷ []) k v is) lt) out) (cases_Bool (is_one_of (ring_block l.geom place) uw));
    block = λ b low e. ⊎_elim (λ inside. inr (inl (⊎_elim (λ r. absurd (not_ring b r low)) (λ f. record { place = length l.records + 0; at = f.0; written = w; entry = f.1; is_record = own; not_known = late; is_entry = f.2; own = f.3 }) (are.each b inside))))
        (λ out. ⊎_elim inl (λ r. inr (⊎_elim (λ f. inl (record { place = f.place; at = f.at; written = f.written; entry = f.entry; is_record = get_front l.records (w ∷ []) f.place f.written f.is_record; not_known = f.not_known; is_entry = f.is_entry; own = f.own })) (λ v. inr (record { at = v.at; ticket = v.ticket; bytes = v.bytes; listed = v.listed; last = v.last })) r)) (o.block b low out)) (cases_Bool (is_one_of b uw));
    below = o.below;
    none = o.none;
  }
    where
      own : slice_get (l.records ++ w ∷ []) (length l.records + 0) ≡ Some w
      own = get_behind l.records (w ∷ []) 0

      not_fresh : (place : ℕ) → (i : ℕ) × (e : Entry) × (slice_get w.says.fresh i ≡ Some e) × (e.block ≡ ring_block l.geom place) → ⊥
      not_fresh place f = omega (arith, f.3, mod_below place l.geom.j some_ring, in_place f.0 f.1 f.2, f.3, (mod_below place l.geom.j some_ring), (in_place f.0 f.1 f.2))

      not_ring : (b : ℕ) → (i : ℕ) × (i < places w.says) × (ring_block l.geom (w.says.place + i) ≡ b) → bitmap_start l.geom ≤ b → ⊥
      not_ring b r low = omega (arith, sym r.2, (mod_below (w.says.place + r.0) l.geom.j some_ring), (sym r.2), (mod_below (w.says.place + r.0) l.geom.j some_ring), low)

-- a place is one of a record's, or it isn't
has_place : (g : Geometry) (w : WrittenRecord) (place : ℕ) → ((i : ℕ) → i < places w.says → ring_block g (w.says.place + i) ≢ ring_block g place) ⊎ ((i : ℕ) × (i < places w.says) × (ring_block g (w.says.place + i) ≡ ring_block g place))
has_place g w place = ⊎_elim inl (λ some. inr (some.0, some.1, ⊎_elim (λ same. same) (λ apart. absurd (some.2 apart)) (cases_eq (ring_block g (w.says.place + some.0)) (ring_block g place))))
    (decide_below (λ i. ring_block g (w.says.place + i) ≢ ring_block g place) (λ i. ⊎_elim (λ same. inr (λ apart. apart same)) (λ apart. inl apart) (cases_eq (ring_block g (w.says.place + i)) (ring_block g place))) (places w.says))

module _ (base : Blocks) (log : List Event) (l : Ledger) (p : PipelineData) (uw : List ℕ) (o : HasOnePending base log l p uw) (keeps : IsConsistentWith base log l) (new : FreshAreNew l) where
  -- a place that is free, or that of a record of the ledger
  free_or_taken : (place : ℕ) → IsFreePlace l place ⊎ ((k i : ℕ) × (w : WrittenRecord) × (slice_get l.records k ≡ Some w) × (i < places w.says) × (ring_block l.geom (w.says.place + i) ≡ ring_block l.geom place))
  free_or_taken place = ⊎_elim (λ all. inl (λ k i w is lt. all k (within base log l keeps new k w is) w is i lt))
      (λ some. let w = get_some l.records some.0 some.1 in ⊎_elim (λ apart. absurd (some.2 (λ v is i lt. subst (λ (u : WrittenRecord). ring_block l.geom (u.says.place + i) ≢ ring_block l.geom place) (same_Some _ _ (sym w.1 ∙ is)) (apart i (subst (λ (u : WrittenRecord). i < places u.says) (sym (same_Some _ _ (sym w.1 ∙ is))) lt)))))
      (λ there. inr (some.0, there.0, w.0, w.1, there.1, there.2)) (has_place l.geom w.0 place))
      (decide_below (λ k. (w : WrittenRecord) → slice_get l.records k ≡ Some w → (i : ℕ) → i < places w.says → ring_block l.geom (w.says.place + i) ≢ ring_block l.geom place) decide (length l.records))
    where
      decide : (k : ℕ) → ((w : WrittenRecord) → slice_get l.records k ≡ Some w → (i : ℕ) → i < places w.says → ring_block l.geom (w.says.place + i) ≢ ring_block l.geom place) ⊎ ¬ ((w : WrittenRecord) → slice_get l.records k ≡ Some w → (i : ℕ) → i < places w.says → ring_block l.geom (w.says.place + i) ≢ ring_block l.geom place)
      decide k = ⊎_elim (λ none. inl (λ w is. absurd (none-some w (sym none ∙ is)))) (λ w. ⊎_elim (λ apart. inl (λ v is i lt. subst (λ (u : WrittenRecord). ring_block l.geom (u.says.place + i) ≢ ring_block l.geom place) (same_Some _ _ (sym w.1 ∙ is)) (apart i (subst (λ (u : WrittenRecord). i < places u.says) (sym (same_Some _ _ (sym w.1 ∙ is))) lt))))
          (λ there. inr (λ all. all w.0 w.1 there.0 there.1 there.2)) (has_place l.geom w.0 place)) (inspect (slice_get l.records k))

  -- a header becomes durable: the places of the records that it releases are free, and idle
  pub one_durable : (h : Header) → IsDurable (cell_of base log) l h → HasOnePending base log (with_durable_header l h) (with_durable p l h) uw
  one_durable h d = record {
    one = o.one;
    slot = λ e. ap (λ n. (cell_of base log n).pending) {x = 1 - (1 - l.slot)} {y = l.slot} (omega (arith, keeps.headers.is_slot)) ∙ keeps.headers.alone;
    ring = λ place free e. ⊎_elim (λ was. o.ring place was e) (λ t. ⊎_elim (λ gone. ap (λ n. (cell_of base log n).pending) (sym t.5) ∙ (keeps.each t.0 t.2 t.3).intact (old t.0 t.2 t.3 gone) t.1 t.4)
        (λ still. absurd (free (t.0 - (h.start - l.header.start)) t.1 t.2 (get_drop (h.start - l.header.start) l.records (t.0 - (h.start - l.header.start)) ∙ ap (slice_get l.records) (index t.0 (h.start - l.header.start) still) ∙ t.3) t.4 t.5)) (cases_lt t.0 (h.start - l.header.start))) (free_or_taken place);
    block = λ b low e. ⊎_elim inl (λ r. inr (⊎_elim (λ f. inl (fresh b f)) (λ v. inr (record { at = v.at; ticket = v.ticket; bytes = v.bytes; listed = v.listed; last = v.last })) r)) (o.block b low e);
    below = o.below;
    none = o.none;
  }
    where
      index : (k d : ℕ) → d ≤ k → d + (k - d) ≡ k
      index k d le = omega (arith, le)

      old : (k : ℕ) (w : WrittenRecord) → slice_get l.records k ≡ Some w → k < h.start - l.header.start → w.says.number < l.known
      old k w is lt = let f = keeps.headers.fits h (inr d.next) in omega (arith, numbered base log l keeps new k w is, lt, f.sure, f.known)

      fresh : (b : ℕ) → IsFreshInNew l b → IsFreshInNew (with_durable_header l h) b
      fresh b f = let fits = keeps.headers.fits h (inr d.next) in record {
        place = f.place - (h.start - l.header.start);
        at = f.at;
        written = f.written;
        entry = f.entry;
        is_record = get_drop (h.start - l.header.start) l.records (f.place - (h.start - l.header.start)) ∙ ap (slice_get l.records) (index f.place (h.start - l.header.start) (omega (arith, f.not_known, numbered base log l keeps new f.place f.written f.is_record, fits.sure, fits.known, fits.start))) ∙ f.is_record;
        not_known = f.not_known;
        is_entry = f.is_entry;
        own = f.own;
      }

-- a write that was lost to an idle block leaves one pending there
pub one_lost : (base : Blocks) (log : List Event) (b : ℕ) (x : List ℕ) → ((c : ℕ) → length (cell_of base log c).pending ≤ 1) → IsIdle (cell_of base log b) → (c : ℕ) → length (cell_of base (log ++ Lost b x ∷ []) c).pending ≤ 1
one_lost base log b x one idle c = ⊎_elim (λ same. subst (λ n. length (cell_of base (log ++ Lost b x ∷ []) n).pending ≤ 1) same own) (λ apart. subst (λ (d : Cell). length d.pending ≤ 1) (sym (other_lost base log b c x apart)) (one c)) (cases_eq b c)
  where
    own : length (cell_of base (log ++ Lost b x ∷ []) b).pending ≤ 1
    own = subst (λ (d : Cell). length d.pending ≤ 1) (sym (cell_of-append base log (Lost b x ∷ []) b ∙ cond-true (b == b) _ _ (eq-eqb b b refl))) (omega (arith, length-append (cell_of base log b).pending (record { ticket = None; bytes = x } ∷ []), ap (λ (ws : List Write). length ws) idle))
