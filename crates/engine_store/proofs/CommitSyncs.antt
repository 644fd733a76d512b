-- A commit of the running transaction makes a sync point, as the contract of maps of blocks says it, whether it succeeded or the disk failed.
use Rattle.std.proofs.Common.{◌≡◌, ◌⊎◌, inl, inr, ⊎_elim, ℕ, ◌+◌, ◌^◌, ◌<◌, ◌==◌, ◌&&◌, Bool, true, false, IsTrue, length, Ok, Err, refl, sym, ◌∙◌, ap, ap₂, subst, arith}
use Rattle.std.proofs.Props.{props}
use Rattle.std.proofs.Math.Logic.{∥∥₁_elim, ∥∥₁_map}
use Rattle.std.proofs.lemmas.Bool.{cond-false, false≢true, ne_eqb}
use mathlib.Core.Path.{fun_ext, subst₂}
use Rattle.base_types.specs.Seal.{Blocks}
use Rattle.disk_contract.specs.declared.disk.DiskFault.{DiskFault}
use Rattle.disk_contract.specs.Disk.{State, Grows}
use Rattle.layout_geometry.specs.Geometry.{Geometry}
use Rattle.layout_journal.specs.declared.header.Header.{Header}
use Rattle.layout_journal.specs.Ring.{RingPlaces}
use Rattle.engine_cache.specs.Cache.{Cache}
use Rattle.crash_argument.specs.HomeTest.{is_one_of}
use Rattle.crash_argument.specs.Ledger.{Ledger}
use Rattle.crash_argument.specs.Points.{MountedSession, IsSafe}
use Rattle.engine_running.specs.declared.commit.CommitRoom.{CommitRoom}
use Rattle.engine_reuse.specs.Numbers.{is_among}
use Rattle.engine_checkpoint.specs.declared.pipeline.Pipeline.{Pipeline}
use Rattle.engine_blocks.specs.declared.refusals.SyncRefusal.TheVariants as sync
use Rattle.engine_blocks.specs.Running.{Running, fresh_blocks, nothing_running, payloads, record_places, record_writes}
use Rattle.engine_blocks.specs.Calls.{EndsTransaction, IsAfterSync, commit_places, commit_writes, if_changed}
use Rattle.engine_blocks.specs.Crashes.{Advances, AwaitsSince, MakesPoint}
use Rattle.engine_blocks.specs.Effects.{Syncs}
use Rattle.engine_books.specs.Books.{TransactionBooks, bit_now, has_put, is_marked, role_by, running_of}
use Rattle.engine_store.specs.declared.parts.StoreParts.{StoreParts}
use Rattle.engine_running.specs.Commits.{places_for, writes_of}
use Rattle.engine_store.specs.Committing.{BecomesRecord}
use Rattle.engine_store.specs.SessionView.{state_of}
use Rattle.engine_store.specs.Store.{StoreIsSound, bookkeeping_of}
use Rattle.engine_store.specs.Syncing.{MayCommit}
use Rattle.engine_store.specs.Told.{IsKeptOn, IsToldBy, IsToldBySome, awaited_in, counts_of, map_now, session_of, store_state}
use Rattle.engine_store.proofs.Awaiting.{joined_awaits}
use Rattle.engine_store.proofs.CommitCalls.{After, Failed, Laws, Succeeded, after_failure, after_success, session_then}
use Rattle.engine_store.proofs.PipelineCalls.{advances_by_some}
use Rattle.engine_store.proofs.Reserving.{places_are}
use Rattle.engine_store.proofs.Spending.{asks_none}
use Rattle.engine_store.proofs.TicketLogs.{grows_by}

-- What is told, of each field for itself, since which ledger tells it isn't said.

module _ (laws : Laws) (tells : Bool) (v w : StoreParts) (d e : State) (ticks : ℕ) (k : IsKeptOn tells v d) (going : v.stopped ≡ false) (session : session_of w ≡ session_of v) (base : e.base ≡ d.base) (grows : IsTrue tells → Grows d.log e.log) (first : w.first ≡ v.first) (point : w.point ≡ v.point + 1) (floor : w.floor ≡ v.floor)
    (after : IsTrue tells → (l : Ledger) → IsToldBy v d l → After v w d e) where
  told_some : IsToldBySome tells w e
  told_some t = ∥∥₁_map (k.told t) (λ (x : (l : Ledger) × IsToldBy v d l). let a = after t x.0 x.1 in (a.now, a.told))

  map_stays : IsTrue tells → map_now w e ≡ map_now v d
  map_stays t = fun_ext (λ b. ∥∥₁_elim (k.told t) (search props) (λ (x : (l : Ledger) × IsToldBy v d l). ap (λ (m : Blocks). m b) (after t x.0 x.1).map))

  -- for a ticket that wasn't there only a new point waits
  abbrev AwaitsNew : Type 0
  AwaitsNew = (p u : ℕ) → awaited_in w p u → awaited_in v p u ⊎ AwaitsSince (store_state v ticks d) p u

  advances_by : AwaitsNew → IsTrue tells → (l : Ledger) → IsToldBy v d l → Advances (store_state v ticks d) (state_of (session_of v) (bookkeeping_of w) (counts_of ticks e) (map_now w e) d.base e.log (awaited_in w))
  advances_by awaits t l told =
      let a = after t l told in
      laws.advances (session_of v) d.base d.log e.log l a.now (bookkeeping_of v) (bookkeeping_of w) (counts_of ticks d) (counts_of ticks e) (map_now v d) (map_now w e) v w (length d.log) v.floor (length d.log) v.floor
      told.safe (grows t) (subst (λ (x : Blocks). IsSafe (session_of v) x e.log a.now (length d.log) v.floor) base a.safe) (omega arith) (omega arith) (omega (arith, (told.going going).next)) (omega (arith, a.told.made, first)) (omega (arith, floor)) awaits

  time_goes_on : AwaitsNew → IsTrue tells → Advances (store_state v ticks d) (store_state w ticks e)
  time_goes_on awaits t = subst₂ (λ (s : MountedSession) (x : Blocks). Advances (store_state v ticks d) (state_of s (bookkeeping_of w) (counts_of ticks e) (map_now w e) x e.log (awaited_in w))) (sym session) (sym base)
      (advances_by_some (session_of v) d.base d.log e.log (bookkeeping_of v) (bookkeeping_of w) (counts_of ticks d) (counts_of ticks e) (map_now v d) (map_now w e) v w (grows t) awaits (∥∥₁_map (k.told t) (λ (x : (l : Ledger) × IsToldBy v d l). advances_by awaits t x.0 x.1)))

  -- the point's map is the map now
  makes_point : IsTrue tells → MakesPoint (store_state v ticks d) (store_state w ticks e)
  makes_point t more m is b live = ∥∥₁_elim (k.told t) (search props) (λ (x : (l : Ledger) × IsToldBy v d l).
      let a = after t x.0 x.1 in
      laws.made (session_of w) e.base e.log a.now (bookkeeping_of w) (counts_of ticks e) (map_now w e) w (length e.log) w.floor a.told.safe refl (omega (arith, a.told.made)) (λ last c there. ap (λ (q : Blocks). q c) (a.newest last)) m is b live)

-- The numbers.

-- a transaction with a weight is one that changed something
pub heavy : {T : Type 0} (r : Running) (x y : T) → 0 < r.weight → if_changed r x y ≡ x
heavy r x y more = cond-false (r.weight == 0) y x (ne_eqb r.weight 0 (λ e. omega (arith, e, more)))

pub places_needed : (v : StoreParts) → payloads v.books.geom (running_of v.books) ≡ length v.books.changes.paid → fresh_blocks v.books.geom (running_of v.books) ≡ length v.books.changes.laid → commit_places (bookkeeping_of v) ≡ places_for v.books.changes
places_needed v paid laid = ap₂ record_places paid laid ∙ sym (places_are v.books.changes)

writes_needed : (v : StoreParts) → payloads v.books.geom (running_of v.books) ≡ length v.books.changes.paid → fresh_blocks v.books.geom (running_of v.books) ≡ length v.books.changes.laid → 0 < v.books.weight → commit_writes (bookkeeping_of v) ≡ record_writes (length v.books.changes.paid) (length v.books.changes.laid)
writes_needed v paid laid weight = heavy (running_of v.books) _ 0 weight ∙ ap₂ record_writes paid laid

-- behind the commit nothing runs
nothing_runs : (number : ℕ) (v w : TransactionBooks) (p q : Pipeline) (ring : RingPlaces) → BecomesRecord number v w p q ring → running_of w ≡ nothing_running
nothing_runs number v w p q ring b = λ i. record {
  roles = λ c. role_by (has_put c (b.empty.laid i)) (has_put c (b.empty.paid i)) (is_one_of c (b.empty.taken i) && bit_now w c);
  weight = (b.books i).weight;
  held = length (b.books i).dead.held;
  took = (b.books i).took;
}

-- Where it succeeded.

module _ (laws : Laws) (tells : Bool) (v : StoreParts) (d e : State) (r : CommitRoom) (k : IsKeptOn tells v d) (going : v.stopped ≡ false) (may : MayCommit v r) (ring : RingPlaces) (q : Pipeline) (w : TransactionBooks) (c : Cache) (s : Succeeded tells v d e ring q w c) where
  abbrev parts : StoreParts
  parts = record v { ring = ring; pipeline = q; books = w; cache = c; point = v.point + 1 }

  books_geom : w.geom ≡ v.books.geom
  books_geom = ap (λ (x : TransactionBooks). x.geom) s.becomes.books

  same_session : session_of parts ≡ session_of v
  same_session = session_then v parts books_geom (ap (λ (h : Header). h.epoch) s.becomes.header) refl refl

  after : IsTrue tells → (l : Ledger) → IsToldBy v d l → After v parts d e
  after t l told = after_success laws v d l k.sound.kept told going may.sync.none_bare tells t e ring q w c s

  grows : IsTrue tells → Grows d.log e.log
  grows t = grows_by d.log e.log (s.writes t).grows

  -- the new point waits for the tickets of its record
  awaits_new : (ticks : ℕ) → IsTrue tells → (p t : ℕ) → awaited_in parts p t → awaited_in v p t ⊎ AwaitsSince (store_state v ticks d) p t
  awaits_new ticks on p t waits = ⊎_elim (λ was. inl was) (λ late. inr (record { point = late.0; ticket = late.1 }))
      (joined_awaits (v.first + v.point) (writes_of v.ring v.pipeline.header.epoch (v.first + v.point) v.books.changes) (s.joins on).0 v parts d.log e.log (s.joins on).1 (s.joins on).2 refl refl going p t waits)

  sound_then : StoreIsSound parts
  sound_then = record {
    kept = s.kept;
    ring_geom = ap (λ (x : RingPlaces). x.geom) s.ring_is ∙ k.sound.ring_geom ∙ sym books_geom;
    pipeline_geom = s.becomes.geom ∙ k.sound.pipeline_geom ∙ sym books_geom;
    floor = omega (arith, k.sound.floor);
    going = λ still. record {
      sound = s.becomes.sound;
      number = omega (arith, s.becomes.last);
      first = omega (arith, (k.sound.going going).first, ap (λ (h : Header). h.sure) s.becomes.header);
      floor = omega (arith, (k.sound.going going).floor, ap (λ (h : Header). h.start) s.becomes.header, s.becomes.durable);
    };
  }

  pub kept_success : IsKeptOn tells parts e
  kept_success = record {
    size = s.spends.same.blocks ∙ k.size ∙ ap (λ (g : Geometry). g.n) (sym books_geom);
    waits = subst (λ n. n < 2 ^ 64) (sym s.spends.waits) k.waits;
    sound = sound_then;
    told = told_some laws tells v parts d e 0 k going same_session s.spends.same.base grows refl refl refl after;
  }

  after_sync : IsAfterSync (bookkeeping_of v) (bookkeeping_of parts)
  after_sync = record {
    geom = books_geom;
    running = inr (nothing_runs (v.first + v.point) v.books w v.pipeline q ring s.becomes);
    marked = ap is_marked s.becomes.books;
    reusable = λ b free. ap (λ (x : TransactionBooks). is_among b x.dead.reusable) s.becomes.books ∙ free.free;
    turns = omega (arith, ap (λ (h : Header). h.turn) s.becomes.written, s.becomes.last, (k.sound.going going).number);
    point = ap (λ n. v.point + n) (sym (heavy (running_of v.books) 1 0 may.weight));
    floor = omega arith;
  }

  ends : EndsTransaction (bookkeeping_of v) (bookkeeping_of parts)
  ends = record {
    running = nothing_runs (v.first + v.point) v.books w v.pipeline q ring s.becomes ∙ sym (heavy (running_of v.books) nothing_running (running_of v.books) may.weight);
    free_places = omega (arith, ap (λ (x : RingPlaces). x.geom.j) s.ring_is, ap (λ (x : RingPlaces). x.taken) s.ring_is, heavy (running_of v.books) (commit_places (bookkeeping_of v)) 0 may.weight, places_needed v (laws.payloads v.books k.sound.kept) (laws.fresh v.books k.sound.kept));
  }

  pub syncs_success : (ticks : ℕ) → Syncs tells (Ok (v.point + 1)) (store_state v ticks d) (store_state parts ticks e)
  syncs_success ticks = record {
    point = refl;
    after = after_sync;
    ends = ends;
    disk = record { faults = s.spends.faults; stopped = going; read_faults = s.spends.read_faults; waits = omega (arith, s.spends.waits) };
    ticks = asks_none _ _ _ _ s.spends ticks;
    map = map_stays laws tells v parts d e ticks k going same_session s.spends.same.base grows refl refl refl after;
    crash = λ t. time_goes_on laws tells v parts d e ticks k going same_session s.spends.same.base grows refl refl refl after (awaits_new ticks t) t;
    made = makes_point laws tells v parts d e ticks k going same_session s.spends.same.base grows refl refl refl after;
    writes = λ t. omega (arith, (s.writes t).writes, writes_needed v (laws.payloads v.books k.sound.kept) (laws.fresh v.books k.sound.kept) may.weight);
    none = tt;
  }

-- Where the disk failed, and books and pipeline are as they were.

module _ (laws : Laws) (tells : Bool) (v : StoreParts) (d e : State) (r : CommitRoom) (k : IsKeptOn tells v d) (going : v.stopped ≡ false) (may : MayCommit v r) (ring : RingPlaces) (fault : DiskFault) (f : Failed tells v d e ring fault) where
  abbrev stopped_parts : StoreParts
  stopped_parts = record v { ring = ring; point = v.point + 1; stopped = true }

  after_fault : IsTrue tells → (l : Ledger) → IsToldBy v d l → After v stopped_parts d e
  after_fault t l told = after_failure laws v d l k.sound.kept told going may.sync.none_bare tells t e ring fault f

  grows_fault : IsTrue tells → Grows d.log e.log
  grows_fault t = grows_by d.log e.log (f.writes t).grows

  kept_failure : IsKeptOn tells stopped_parts e
  kept_failure = record {
    size = f.spends.same.blocks ∙ k.size;
    waits = subst (λ n. n < 2 ^ 64) (sym f.spends.waits) k.waits;
    sound = record {
      kept = k.sound.kept;
      ring_geom = ap (λ (x : RingPlaces). x.geom) f.ring_is ∙ k.sound.ring_geom;
      pipeline_geom = k.sound.pipeline_geom;
      floor = omega (arith, k.sound.floor);
      going = λ still. absurd (false≢true (sym still));
    };
    told = told_some laws tells v stopped_parts d e 0 k going refl f.spends.same.base grows_fault refl refl refl after_fault;
  }

  syncs_failure : (ticks : ℕ) → Syncs tells (Err sync.DiskFault) (store_state v ticks d) (store_state stopped_parts ticks e)
  syncs_failure ticks = record {
    point = tt;
    after = record {
      geom = refl;
      running = inl refl;
      marked = refl;
      reusable = λ b free. free.free;
      turns = omega arith;
      point = ap (λ n. v.point + n) (sym (heavy (running_of v.books) 1 0 may.weight));
      floor = omega arith;
    };
    ends = tt;
    disk = record { faults = f.spends.faults; stopped = refl; read_faults = f.spends.read_faults; waits = omega (arith, f.spends.waits) };
    ticks = asks_none _ _ _ _ f.spends ticks;
    map = map_stays laws tells v stopped_parts d e ticks k going refl f.spends.same.base grows_fault refl refl refl after_fault;
    crash = λ t. time_goes_on laws tells v stopped_parts d e ticks k going refl f.spends.same.base grows_fault refl refl refl after_fault (λ p u waits. absurd (false≢true (sym waits.going))) t;
    made = makes_point laws tells v stopped_parts d e ticks k going refl f.spends.same.base grows_fault refl refl refl after_fault;
    writes = λ t. omega (arith, (f.writes t).writes, writes_needed v (laws.payloads v.books k.sound.kept) (laws.fresh v.books k.sound.kept) may.weight);
    none = tt;
  }

  -- the same of the books and the pipeline that the commit gave back
  pub failure : (q : Pipeline) (w : TransactionBooks) → q ≡ v.pipeline → w ≡ v.books
      → IsKeptOn tells (record v { ring = ring; pipeline = q; books = w; point = v.point + 1; stopped = true }) e × ((ticks : ℕ) → Syncs tells (Err sync.DiskFault) (store_state v ticks d) (store_state (record v { ring = ring; pipeline = q; books = w; point = v.point + 1; stopped = true }) ticks e))
  failure q w pipeline books = (
    subst₂ (λ (q : Pipeline) (w : TransactionBooks). IsKeptOn tells (record v { ring = ring; pipeline = q; books = w; point = v.point + 1; stopped = true }) e) (sym pipeline) (sym books) kept_failure,
    subst₂ (λ (q : Pipeline) (w : TransactionBooks). (ticks : ℕ) → Syncs tells (Err sync.DiskFault) (store_state v ticks d) (store_state (record v { ring = ring; pipeline = q; books = w; point = v.point + 1; stopped = true }) ticks e)) (sym pipeline) (sym books) syncs_failure,
  )
