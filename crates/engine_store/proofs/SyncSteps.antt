-- A sync in its steps: nothing to commit, a drain before the commit, a wait behind it, and a disk that fails in a drain.
use Rattle.std.proofs.Common.{◌≡◌, ◌⊎◌, inl, inr, ⊎_elim, ℕ, ◌+◌, ◌-◌, List, ◌++◌, ◌^◌, ◌<◌, ◌≤◌, ◌==◌, Bool, true, false, IsTrue, length, Result, Ok, Err, OnOk, refl, sym, ◌∙◌, ap, ap₂, subst, arith}
use Rattle.std.proofs.Props.{props}
use Rattle.std.proofs.Math.Logic.{∥∥₁_elim, ∥∥₁_map}
use Rattle.std.specs.Result.{IsErrAnd}
use Rattle.std.proofs.lemmas.Bool.{cond-true, eq-eqb, false≢true}
use Rattle.std.proofs.lemmas.List.{append_assoc}
use mathlib.Core.Path.{subst₂}
use Rattle.base_types.specs.Counts.{after_call}
use Rattle.base_types.specs.Seal.{Blocks}
use Rattle.disk_contract.specs.Disk as disk
use Rattle.disk_contract.specs.Cell.{is_accepted}
use Rattle.disk_contract.specs.Disk.{GrowsByWrites}
use Rattle.layout_geometry.specs.Geometry.{Geometry}
use Rattle.layout_journal.specs.Run.{is_live}
use Rattle.crash_argument.specs.Ledger.{Ledger, next_number}
use Rattle.crash_argument.specs.Points.{MountedSession, IsSafe}
use Rattle.disk_contract.specs.declared.event.Event.{Event}
use Rattle.engine_running.specs.declared.commit.CommitRoom.{CommitRoom}
use Rattle.engine_running.specs.Commits.{HasRoomForCommit, places_for}
use Rattle.engine_running.specs.Running.{Changes}
use Rattle.engine_checkpoint.specs.declared.pipeline.Ready.{Ready}
use Rattle.engine_checkpoint.specs.Joining.{IsReadyFor}
use Rattle.engine_blocks.specs.declared.refusals.SyncRefusal.{SyncRefusal}
use Rattle.engine_blocks.specs.declared.refusals.SyncRefusal.TheVariants as sync
use Rattle.engine_blocks.specs.Running.{Running, HasNoBare, fresh_blocks, nothing_running, payloads}
use Rattle.engine_blocks.specs.State.{Bookkeeping, Counts, State, IsReusable}
use Rattle.engine_blocks.specs.Calls.{EndsTransaction, IsAfterSync, MaySync, OnNoMemory, UsesDisk, commit_places, commit_writes, if_changed}
use Rattle.engine_blocks.specs.Crashes.{Advances, HasLiveBlocks, HasMapOfPoint, HearsRecords, HoldsPointBetween, IsTold, MakesPoint}
use Rattle.engine_blocks.specs.Effects.{RunsPipeline, Syncs, WritesItsRecord}
use Rattle.engine_books.specs.Books.{TransactionBooks, running_of}
use Rattle.engine_store.specs.declared.parts.StoreParts.{StoreParts}
use Rattle.engine_store.specs.SessionView.{state_of}
use Rattle.engine_store.specs.Store.{PartsMove, StoreIsSound, bookkeeping_of}
use Rattle.engine_store.specs.Syncing.{IsSameStore, MayCommit}
use Rattle.engine_store.specs.Told.{AsksNothing, IsKeptOn, IsToldBy, awaited_in, counts_of, map_now, session_of, store_state}
use Rattle.engine_store.proofs.Awaiting.{same_awaited}
use Rattle.engine_store.proofs.CommitSyncs.{heavy}
use Rattle.engine_store.proofs.Logs.{longer}
use Rattle.engine_store.proofs.Reserving.{places_fit}
use Rattle.engine_store.proofs.StoreStates.{goes_on_itself}
use Rattle.engine_store.proofs.TicketLogs.{not_before, noticed_before}
use Rattle.engine_store.proofs.Windows.{nothing_of}

-- Nothing is committed.

-- a transaction without a weight is one that changed nothing
light : {T : Type 0} (r : Running) (x y : T) → r.weight ≡ 0 → if_changed r x y ≡ y
light r x y none = cond-true (r.weight == 0) y x (eq-eqb r.weight 0 none)

-- the state stays, where the transaction has no weight
pub syncs_nothing : (tells : Bool) (s : State) → s.books.stopped ≡ false → s.books.running.weight ≡ 0 → (IsTrue tells → IsTold s) → Syncs tells (Ok s.books.point) s s
syncs_nothing tells s going none told = record {
  point = refl;
  after = record { geom = refl; running = inl refl; marked = refl; reusable = λ b free. free.free; turns = omega arith; point = omega (arith, light {T = ℕ} s.books.running 1 0 none); floor = omega arith };
  ends = record { running = sym (light s.books.running nothing_running s.books.running none); free_places = omega arith };
  disk = record { faults = refl; stopped = going; read_faults = refl; waits = omega arith };
  ticks = refl;
  map = λ t. refl;
  crash = λ t. goes_on_itself s (told t);
  made = λ t more. absurd (omega (arith, more));
  writes = λ t. omega arith;
  none = tt;
}

-- it stays where there was no memory
syncs_without_memory : (tells : Bool) (v : StoreParts) (ticks : ℕ) (d : disk.State) → v.stopped ≡ false → (IsTrue tells → IsTold (store_state v ticks d)) → Syncs tells (Err sync.NoMemory) (store_state v ticks d) (store_state v ticks d)
syncs_without_memory tells v ticks d going told = record {
  point = tt;
  after = tt;
  ends = tt;
  disk = record { faults = refl; stopped = going; read_faults = refl; waits = omega arith };
  ticks = refl;
  map = λ t. refl;
  crash = λ t. goes_on_itself (store_state v ticks d) (told t);
  made = λ t more. absurd (omega (arith, more));
  writes = λ t. omega arith;
  none = record {
    books = refl;
    disk = record {
      counts = refl;
      crash = λ t. nothing_of (session_of v) d.base d.log d.log (bookkeeping_of v) (bookkeeping_of v) (counts_of ticks d) (counts_of ticks d) (map_now v d) (map_now v d) v v refl (λ p u. (λ is. is, λ is. is));
    };
  };
}

-- what is known is the same where memory was made ready
same_state : (v w : StoreParts) (ticks : ℕ) (d : disk.State) → IsSameStore v w → store_state w ticks d ≡ store_state v ticks d
same_state v w ticks d same = λ i. state_of (same.session i) (same.books i) (counts_of ticks d) (same.map d i) d.base d.log (same_awaited v w same.awaits i)

pub syncs_from_same : (tells : Bool) (result : Result ℕ SyncRefusal) (v w : StoreParts) (ticks : ℕ) (d : disk.State) (new : State) → IsSameStore v w → Syncs tells result (store_state w ticks d) new → Syncs tells result (store_state v ticks d) new
syncs_from_same tells result v w ticks d new same s = subst (λ (x : State). Syncs tells result x new) (same_state v w ticks d same) s

pub record_from_same : (v w : StoreParts) (ticks : ℕ) (d : disk.State) (new : State) (result : Result ℕ SyncRefusal) → IsSameStore v w → OnOk result (WritesItsRecord (store_state w ticks d) new) → OnOk result (WritesItsRecord (store_state v ticks d) new)
record_from_same v w ticks d new result same s = subst (λ (x : State). OnOk result (WritesItsRecord x new)) (same_state v w ticks d same) s

pub no_memory : (tells : Bool) (v w : StoreParts) (ticks : ℕ) (d : disk.State) → v.stopped ≡ false → (IsTrue tells → IsTold (store_state v ticks d)) → IsSameStore v w → Syncs tells (Err sync.NoMemory) (store_state v ticks d) (store_state w ticks d)
no_memory tells v w ticks d going told same = subst (λ (x : State). Syncs tells (Err sync.NoMemory) (store_state v ticks d) x) (sym (same_state v w ticks d same)) (syncs_without_memory tells v ticks d going told)

-- Two calls, one behind the other.

-- a map of a point in the middle is one in the end, and the floor only rises
kept_point : (old mid new : State) → Advances mid new → (img : Blocks) → HoldsPointBetween mid old.books.floor mid.books.point img → HoldsPointBetween new old.books.floor new.books.point img
kept_point old mid new b img i = record { point = i.point; from = i.from; upto = omega (arith, i.upto, b.last); map = i.map; holds = (b.holds img i.map).1 i.holds; is = (b.point i.point i.map i.upto).1 i.is }

lower_point : (old mid new : State) → Advances old mid → (img : Blocks) → HoldsPointBetween new mid.books.floor new.books.point img → HoldsPointBetween new old.books.floor new.books.point img
lower_point old mid new a img i = record { point = i.point; from = omega (arith, a.floor, i.from); upto = i.upto; map = i.map; holds = i.holds; is = i.is }

advances_on : (old mid new : State) → Advances old mid → Advances mid new → Advances old new
advances_on old mid new a b = record {
  base = b.base ∙ a.base;
  grows = record { more = a.grows.more ++ b.grows.more; log = b.grows.log ∙ ap (λ (es : List Event). es ++ b.grows.more) a.grows.log ∙ append_assoc old.crash.log a.grows.more b.grows.more };
  window = λ img left. ⊎_elim (λ was. ∥∥₁_map (a.window img was) (kept_point old mid new b img)) (λ late. ∥∥₁_map late (lower_point old mid new a img)) (b.earlier (length old.crash.log) img (longer old.crash.log mid.crash.log a.grows) left);
  earlier = λ t img before left. ⊎_elim
      (λ was. ⊎_elim inl (λ point. inr (∥∥₁_map point (kept_point old mid new b img))) (a.earlier t img before was))
      (λ late. inr (∥∥₁_map late (lower_point old mid new a img)))
      (b.earlier t img (omega (arith, before, longer old.crash.log mid.crash.log a.grows)) left);
  holds = λ img m. (λ is. (a.holds img m).0 ((b.holds img m).0 is), λ is. (b.holds img m).1 ((a.holds img m).1 is));
  sure = λ log p. (λ is. (a.sure log p).0 ((b.sure log p).0 is), λ is. (b.sure log p).1 ((a.sure log p).1 is));
  records = record { told = b.records.told ∙ a.records.told; starts = λ log n. (λ is. (a.records.starts log n).0 ((b.records.starts log n).0 is), λ is. (b.records.starts log n).1 ((a.records.starts log n).1 is)) };
  point = λ p m low. (λ is. (a.point p m low).0 ((b.point p m (omega (arith, low, a.last))).0 is), λ is. (b.point p m (omega (arith, low, a.last))).1 ((a.point p m low).1 is));
  last = omega (arith, a.last, b.last);
  floor = omega (arith, a.floor, b.floor);
  awaits = λ p t waits. ⊎_elim (a.awaits p t) (λ late. inr (record { point = omega (arith, late.point, a.last); ticket = not_before t old.crash.log mid.crash.log a.grows late.ticket })) (b.awaits p t waits);
}

disk_on : (failed : Bool) (old mid new : State) → UsesDisk false old mid → UsesDisk failed mid new → UsesDisk failed old new
disk_on failed old mid new a b = record {
  faults = b.faults ∙ ap (after_call failed) a.faults;
  stopped = b.stopped;
  read_faults = b.read_faults ∙ a.read_faults;
  waits = omega (arith, a.waits, b.waits);
}

-- what may be taken still may
reusable_on : (old mid : Bookkeeping) (b : ℕ) → mid.geom ≡ old.geom → ((c : ℕ) → IsReusable old.geom old.reusable c → mid.reusable c ≡ true) → IsReusable old.geom old.reusable b → IsReusable mid.geom mid.reusable b
reusable_on old mid b geom stays free = subst (λ (g : Geometry). IsReusable g mid.reusable b) (sym geom) (record { from = free.from; below = free.below; free = stays b free })

-- A drain, and then the commit.

module _ (tells : Bool) (old mid new : State) (run : RunsPipeline tells false old mid) (turns : new.books.turns ≤ old.books.turns + 2 ^ 18) where
  places_on : commit_places mid.books ≡ commit_places old.books
  places_on = ap₂ (λ (g : Geometry) (r : Running). commit_places (record mid.books { geom = g; running = r })) run.pipeline.geom run.pipeline.running

  writes_on : commit_writes mid.books ≡ commit_writes old.books
  writes_on = ap₂ (λ (g : Geometry) (r : Running). commit_writes (record mid.books { geom = g; running = r })) run.pipeline.geom run.pipeline.running

  after_on : IsAfterSync mid.books new.books → IsAfterSync old.books new.books
  after_on a = record {
    geom = a.geom ∙ run.pipeline.geom;
    running = ⊎_elim (λ same. inl (same ∙ run.pipeline.running)) (λ none. inr none) a.running;
    marked = a.marked ∙ run.pipeline.marked;
    reusable = λ b free. a.reusable b (reusable_on old.books mid.books b run.pipeline.geom run.pipeline.reusable free);
    turns = turns;
    point = omega (arith, a.point, run.pipeline.point, ap (λ (r : Running). if_changed {T = ℕ} r 1 0) run.pipeline.running);
    floor = omega (arith, a.floor, run.pipeline.floor);
  }

  ends_on : EndsTransaction mid.books new.books → EndsTransaction old.books new.books
  ends_on x = record {
    running = x.running ∙ ap (λ (r : Running). if_changed r nothing_running r) run.pipeline.running;
    free_places = omega (arith, x.free_places, run.pipeline.free_places, ap₂ (λ (r : Running) (n : ℕ). if_changed r n 0) run.pipeline.running places_on);
  }

  made_on : IsTrue tells → MakesPoint mid new → MakesPoint old new
  made_on t made more = made (omega (arith, more, run.pipeline.point))

  pub run_then_sync : (result : Result ℕ SyncRefusal) → mid.counts.ticks ≡ old.counts.ticks → OnNoMemory result ⊥ → Syncs tells result mid new → Syncs tells result old new
  run_then_sync (Ok p) ticks memory s = record {
    point = s.point;
    after = after_on s.after;
    ends = ends_on s.ends;
    disk = disk_on false old mid new run.disk s.disk;
    ticks = s.ticks ∙ ticks;
    map = λ t. s.map t ∙ run.map t;
    crash = λ t. advances_on old mid new (run.crash t) (s.crash t);
    made = λ t. made_on t (s.made t);
    writes = λ t. omega (arith, s.writes t, run.writes t, writes_on);
    none = tt;
  }
  run_then_sync (Err sync.DiskFault) ticks memory s = record {
    point = tt;
    after = after_on s.after;
    ends = tt;
    disk = disk_on true old mid new run.disk s.disk;
    ticks = s.ticks ∙ ticks;
    map = λ t. s.map t ∙ run.map t;
    crash = λ t. advances_on old mid new (run.crash t) (s.crash t);
    made = λ t. made_on t (s.made t);
    writes = λ t. omega (arith, s.writes t, run.writes t, writes_on);
    none = tt;
  }
  run_then_sync (Err sync.NoMemory) ticks memory s = absurd memory

-- The sync, and then a wait.

-- the answer of a sync behind which the last point was waited for
abbrev pub waited_for : Bool → ℕ → Result ℕ SyncRefusal
waited_for true p = Err sync.DiskFault
waited_for false p = Ok p

module _ (tells failed : Bool) (old mid new : State) (p : ℕ) (s : Syncs tells (Ok p) old mid) (run : RunsPipeline tells failed mid new) (turns : new.books.turns ≤ old.books.turns + 2 ^ 18) where
  after_wait : IsAfterSync old.books new.books
  after_wait = record {
    geom = run.pipeline.geom ∙ s.after.geom;
    running = ⊎_elim (λ same. inl (run.pipeline.running ∙ same)) (λ none. inr (run.pipeline.running ∙ none)) s.after.running;
    marked = run.pipeline.marked ∙ s.after.marked;
    reusable = λ b free. run.pipeline.reusable b (reusable_on old.books mid.books b s.after.geom s.after.reusable free);
    turns = turns;
    point = run.pipeline.point ∙ s.after.point;
    floor = omega (arith, s.after.floor, run.pipeline.floor);
  }

  made_before : IsTrue tells → MakesPoint old new
  made_before t more m is b live =
      s.made t (omega (arith, more, run.pipeline.point)) m (((run.crash t).point mid.books.point m (omega arith)).0 (subst (λ (n : ℕ). new.crash.is_point n m) run.pipeline.point is)) b
      (subst₂ (λ (g : Geometry) (q : Blocks). IsTrue (is_live g q b)) run.pipeline.geom (run.map t) live)
      ∙ sym (ap (λ (q : Blocks). q b) (run.map t))

  pub sync_then_wait : new.counts.ticks ≡ mid.counts.ticks → Syncs tells (waited_for failed p) old new
  sync_then_wait ticks = by failed refl
    where
      by : (f : Bool) → failed ≡ f → Syncs tells (waited_for f p) old new
      by true is = record {
        point = tt;
        after = after_wait;
        ends = tt;
        disk = subst (λ f. UsesDisk f old new) is (disk_on failed old mid new s.disk run.disk);
        ticks = ticks ∙ s.ticks;
        map = λ t. run.map t ∙ s.map t;
        crash = λ t. advances_on old mid new (s.crash t) (run.crash t);
        made = made_before;
        writes = λ t. omega (arith, s.writes t, run.writes t);
        none = tt;
      }
      by false is = record {
        point = s.point ∙ sym run.pipeline.point;
        after = after_wait;
        ends = record { running = run.pipeline.running ∙ s.ends.running; free_places = omega (arith, s.ends.free_places, run.pipeline.free_places) };
        disk = subst (λ f. UsesDisk f old new) is (disk_on failed old mid new s.disk run.disk);
        ticks = ticks ∙ s.ticks;
        map = λ t. run.map t ∙ s.map t;
        crash = λ t. advances_on old mid new (s.crash t) (run.crash t);
        made = made_before;
        writes = λ t. omega (arith, s.writes t, run.writes t);
        none = tt;
      }

-- Notices that came.

-- writes bring none
pub writes_hear : (old new : State) → GrowsByWrites old.crash.log new.crash.log → HearsRecords old new
writes_hear old new grows t came = inl (noticed_before t old.crash.log new.crash.log grows came)

-- behind a sync that writes alone, a wait brings those of tickets that points waited for, or of new writes
pub sync_then_hears : (old mid new : State) → GrowsByWrites old.crash.log mid.crash.log → Advances old mid → HearsRecords mid new → HearsRecords old new
sync_then_hears old mid new grows a hears t came = ⊎_elim (λ was. inl (noticed_before t old.crash.log mid.crash.log grows was)) (λ late. inr (by (is_accepted t old.crash.log) refl late)) (hears t came)
  where
    by : (x : Bool) → is_accepted t old.crash.log ≡ x → ∥ ((p : ℕ) × mid.crash.awaits p t) ∥₁ ⊎ (is_accepted t mid.crash.log ≡ false) → ∥ ((p : ℕ) × old.crash.awaits p t) ∥₁ ⊎ (is_accepted t old.crash.log ≡ false)
    by false is late = inr is
    by true is late = ⊎_elim (λ some. inl (∥∥₁_map some (λ (w : (p : ℕ) × mid.crash.awaits p t). (w.0, ⊎_elim (λ was. was) (λ since. absurd (false≢true (sym since.ticket ∙ is))) (a.awaits w.0 t w.1)))))
        (λ new_one. inr (not_before t old.crash.log mid.crash.log a.grows new_one)) late

-- where the sync was refused, nothing is waited for, and the refusal is passed on
pub refused_record : (P : Type 0) (result : Result ℕ SyncRefusal) (why : SyncRefusal) → IsErrAnd result (λ x. x ≡ why) → OnOk result P
refused_record P (Ok p) why is = absurd is
refused_record P (Err x) why is = tt

pub refused : (tells : Bool) (result : Result ℕ SyncRefusal) (why : SyncRefusal) (old new : State) → IsErrAnd result (λ x. x ≡ why) → Syncs tells (Err why) old new → Syncs tells result old new
refused tells (Ok p) why old new is s = absurd is
refused tells (Err x) why old new is s = subst (λ (y : SyncRefusal). Syncs tells (Err y) old new) (sym is) s

-- The transaction may be committed behind a drain.

may_along : (k l : Bookkeeping) → l.geom ≡ k.geom → l.running ≡ k.running → MaySync k → MaySync l
may_along k l geom running may = record {
  fits = omega (arith, may.fits, ap₂ payloads geom running, ap₂ fresh_blocks geom running, ap (λ (r : Running). r.weight) running);
  some = λ more. omega (arith, may.some (omega (arith, more, ap (λ (r : Running). r.weight) running)), ap₂ payloads geom running);
  none_bare = subst HasNoBare (sym running) may.none_bare;
}

module _ (v w : StoreParts) (r : CommitRoom) (m : PartsMove 4 v w) (may : MayCommit v r) where
  changes : w.books.changes ≡ v.books.changes
  changes = ap (λ (x : TransactionBooks). x.changes) m.books

  ready : w.pipeline.ready ≡ v.pipeline.ready
  ready = m.moves.ready

  pub may_then : (bookkeeping_of w).geom ≡ (bookkeeping_of v).geom → (bookkeeping_of w).running ≡ (bookkeeping_of v).running → MayCommit w r
  may_then geom running = record {
    sync = may_along (bookkeeping_of v) (bookkeeping_of w) geom running may.sync;
    weight = subst (λ n. 0 < n) (sym (ap (λ (x : TransactionBooks). x.weight) m.books)) may.weight;
    ready = subst₂ (λ (q : Changes) (x : Ready). IsReadyFor (length q.laid + places_for q) (length q.paid) x) (sym changes) (sym ready) may.ready;
    room = subst (λ (q : Changes). HasRoomForCommit q r) (sym changes) may.room;
  }

-- its record fits a ring of which nothing is taken
pub fits_then : (w : StoreParts) (r : CommitRoom) → MayCommit w r → StoreIsSound w → payloads w.books.geom (running_of w.books) ≡ length w.books.changes.paid → fresh_blocks w.books.geom (running_of w.books) ≡ length w.books.changes.laid → w.ring.taken ≡ 0 → w.ring.taken + places_for w.books.changes ≤ w.ring.geom.j
fits_then w r may s paid laid none =
    let fit = places_fit w.books.changes w.books.geom.j w.books.weight (subst (λ n. 0 < n) paid (may.sync.some may.weight)) (omega (arith, may.sync.fits, paid, laid)) s.kept.fits in
    omega (arith, none, fit, ap (λ (g : Geometry). g.j) s.ring_geom)

-- The disk failed in a drain.

-- a point more, of which nothing is known
point_more : (old mid : State) (point : ℕ) → Advances old mid → mid.books.point ≤ point → Advances old (record mid { books = record mid.books { point = point } })
point_more old mid point a more = record {
  base = a.base;
  grows = a.grows;
  window = λ img left. ∥∥₁_map (a.window img left) later_point;
  earlier = λ t img before left. ⊎_elim (λ was. inl was) (λ late. inr (∥∥₁_map late later_point)) (a.earlier t img before left);
  holds = a.holds;
  sure = a.sure;
  records = a.records;
  point = a.point;
  last = omega (arith, a.last, more);
  floor = a.floor;
  awaits = a.awaits;
}
  where
    later_point : {img : Blocks} → HoldsPointBetween mid old.books.floor mid.books.point img → HoldsPointBetween (record mid { books = record mid.books { point = point } }) old.books.floor point img
    later_point i = record { point = i.point; from = i.from; upto = omega (arith, i.upto, more); map = i.map; holds = i.holds; is = i.is }

-- what a law says of the point that was made
abbrev pub MadeLaw : Type 0
MadeLaw = (s : MountedSession) (base : Blocks) (log : List Event) (l : Ledger) (k : Bookkeeping) (c : Counts) (m : Blocks) (w : StoreParts) (t floor : ℕ) → IsSafe s base log l t floor → k.geom ≡ s.geom → next_number l - s.first ≤ k.point
    → (k.point ≡ next_number l - s.first → HasLiveBlocks k.geom m (l.map_before (next_number l))) → HasMapOfPoint (state_of s k c m base log (awaited_in w)) k.point

module _ (made : MadeLaw) (tells : Bool) (v w : StoreParts) (d e : disk.State) (r : CommitRoom) (may : MayCommit v r) (k : IsKeptOn tells w e) (runs : (before after : ℕ) → RunsPipeline tells true (store_state v before d) (store_state w after e)) (asks : AsksNothing d e) where
  abbrev with_point : StoreParts
  with_point = record w { point = w.point + 1 }

  stopped : w.stopped ≡ true
  stopped = (runs 0 0).disk.stopped

  pub kept_fault : IsKeptOn tells with_point e
  kept_fault = record {
    size = k.size;
    waits = k.waits;
    sound = record { kept = k.sound.kept; ring_geom = k.sound.ring_geom; pipeline_geom = k.sound.pipeline_geom; floor = omega (arith, k.sound.floor); going = λ still. absurd (false≢true (sym still ∙ stopped)) };
    told = λ t. ∥∥₁_map (k.told t) (λ (x : (l : Ledger) × IsToldBy w e l). (x.0, record { safe = x.1.safe; made = omega (arith, x.1.made); began = x.1.began; whole = x.1.whole; going = λ still. absurd (false≢true (sym still ∙ stopped)); failed = x.1.failed }));
  }

  -- no record made the point
  makes_none : (ticks : ℕ) → IsTrue tells → HasMapOfPoint (store_state with_point ticks e) (w.point + 1)
  makes_none ticks t m is b live = ∥∥₁_elim (k.told t) (search props) (λ (x : (l : Ledger) × IsToldBy w e l).
      made (session_of w) e.base e.log x.0 (bookkeeping_of with_point) (counts_of ticks e) (map_now w e) with_point (length e.log) w.floor x.1.safe refl (omega (arith, x.1.made)) (λ last. absurd (omega (arith, last, x.1.made))) m is b live)

  pub syncs_fault : (ticks : ℕ) → Syncs tells (Err sync.DiskFault) (store_state v ticks d) (store_state with_point ticks e)
  syncs_fault ticks =
      let run = runs ticks ticks in
      record {
        point = tt;
        after = record {
          geom = run.pipeline.geom;
          running = inl run.pipeline.running;
          marked = run.pipeline.marked;
          reusable = run.pipeline.reusable;
          turns = run.pipeline.turns;
          point = omega (arith, run.pipeline.point, heavy {T = ℕ} (running_of v.books) 1 0 may.weight);
          floor = run.pipeline.floor;
        };
        ends = tt;
        disk = record { faults = run.disk.faults; stopped = stopped; read_faults = run.disk.read_faults; waits = run.disk.waits };
        ticks = asks ticks;
        map = run.map;
        crash = λ t. point_more (store_state v ticks d) (store_state w ticks e) (w.point + 1) (run.crash t) (omega arith);
        made = λ t more. makes_none ticks t;
        writes = λ t. omega (arith, run.writes t);
        none = tt;
      }
