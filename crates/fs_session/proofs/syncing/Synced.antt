-- What a sync makes of the session: a point where something changed, and nothing where nothing did.
use Rattle.std.proofs.lemmas.Bool.{ltb-true, ltb-false, eq-eqb, ne_eqb, cond-true, cond-false, cases_eq, true≢false, false≢true}
use Rattle.std.proofs.Common.{◌≡◌, inl, inr, ⊎_elim, ℕ, ◌+◌, ◌^◌, ◌≤◌, ◌<◌, ◌==◌, nat_lt, Bool, true, false, IsTrue, zero, suc, is_err, Result, Ok, Err, refl, sym, subst, ap, ◌∙◌, arith}
use Rattle.disk_contract.specs.Disk.{GrowsByWrites}
use Rattle.crash_stands.specs.Bounds.{bounds_of}
use Rattle.lang_tree.specs.declared.command.Cmd.{Cmd}
use Rattle.lang_tree.specs.declared.command.Cmd.TheVariants.{Osync, Dsync}
use Rattle.lang_tree.specs.declared.command.Refusal.{Refusal}
use Rattle.lang_tree.specs.declared.command.Refusal.TheVariants as because
use Rattle.lang_tree.specs.declared.command.Reply.{Reply}
use Rattle.lang_tree.specs.declared.command.Reply.TheVariants.{Synced, DurableAt}
use Rattle.lang_tree.specs.Step.{Session, step, next_point, osync}
use Rattle.engine_blocks.specs.Running.{Running, nothing_running}
use Rattle.engine_blocks.specs.State.{Bookkeeping, Counts, State}
use Rattle.engine_blocks.specs.Calls.{IsAfterSync, OnNoMemory}
use Rattle.engine_blocks.specs.Serving.{EndsFrees}
use Rattle.engine_blocks.specs.Crashes.{HearsRecords}
use Rattle.engine_blocks.specs.Effects.{ChangesNothing, FitsRing, OrdersAtOnce, Syncs, WritesItsRecord}
use Rattle.engine_blocks.specs.declared.refusals.SyncRefusal.{SyncRefusal}
use Rattle.engine_blocks.specs.declared.refusals.SyncRefusal.TheVariants as sync
use Rattle.fs_files.specs.Finish.{MayGoOn}
use Rattle.fs_session.specs.Commands.{is_disk_fault}
use Rattle.fs_session.specs.declared.unused.UnusedNodes.{UnusedNodes}
use Rattle.fs_session.specs.Sessions.{IsSession, IsBetween}
use Rattle.fs_session.specs.Syncs.{SyncsSession, refusal_of_sync, reply_of_sync}
use Rattle.fs_session.proofs.Logs.{grows_by_none, heard_same}
use Rattle.fs_session.specs.Staying.{tree_stays, session_stays, between_stays}

-- one point more comes at most
one_more : (k l : Bookkeeping) → IsAfterSync k l → l.point ≤ k.point + 1
one_more k l after = ⊎_elim
    (λ none. omega (arith, after.point, cond-true {A = ℕ} (k.running.weight == 0) 0 1 (eq-eqb k.running.weight 0 none)))
    (λ some. omega (arith, after.point, cond-false {A = ℕ} (k.running.weight == 0) 0 1 (ne_eqb k.running.weight 0 some))) (cases_eq k.running.weight 0)

module _ (tells : Bool) (old new : State) (f : Session) (p : ℕ) (told : IsTrue tells) (going : old.books.stopped ≡ false) (syncs : Syncs tells (Ok p) old new) (below : p < 2 ^ 64) (h : IsSession old f) where
  -- the session after the sync is one of the blocks
  pub after : (b : Bool) → f.changed ≡ b → (Synced p ≡ (osync f b).1) × IsSession new (osync f b).0
  after true e =
      let some : 0 < old.books.running.weight = ltb-true 0 old.books.running.weight (sym (h.changed going) ∙ e) in
      let point : new.books.point ≡ old.books.point + 1 = syncs.after.point ∙ ap (λ n. old.books.point + n) (cond-false (old.books.running.weight == 0) 0 1 (ne_eqb old.books.running.weight 0 (λ e. absurd (omega (arith, e, some))))) in
      let next : new.books.point ≡ next_point f.points = omega (arith, point, syncs.point, below, h.points going) in (
        ap (λ n. Synced n) (syncs.point ∙ next),
        record {
          tree = tree_stays old new f.tree syncs.after.geom (syncs.map told) h.tree;
          limit = h.limit ∙ ap bounds_of (sym syncs.after.geom);
          points = λ stopped. sym next;
          changed = λ stopped. sym (ap (λ (r : Running). nat_lt 0 r.weight) (syncs.ends.running ∙ cond-false (old.books.running.weight == 0) old.books.running nothing_running (ne_eqb old.books.running.weight 0 (λ e. absurd (omega (arith, e, some))))));
          durable = omega (arith, h.durable, syncs.after.floor);
        },
      )
  after false e =
      let none : old.books.running.weight ≡ 0 = omega (arith, ltb-false 0 old.books.running.weight (sym (h.changed going) ∙ e)) in
      let point : new.books.point ≡ old.books.point = syncs.after.point ∙ ap (λ n. old.books.point + n) (cond-true (old.books.running.weight == 0) 0 1 (eq-eqb old.books.running.weight 0 none)) ∙ omega arith in
      let same : new.books.running ≡ old.books.running = syncs.ends.running ∙ cond-true (old.books.running.weight == 0) old.books.running nothing_running (eq-eqb old.books.running.weight 0 none) in
      (ap (λ n. Synced n) (syncs.point ∙ point ∙ sym (h.points going)), session_stays old new f going syncs.after.geom (syncs.map told) point (ap (λ (r : Running). r.weight) same) syncs.after.floor h)

  pub synced : (Synced p ≡ (step f Osync).1) × IsSession new (step f Osync).0
  synced = after f.changed refl

  -- and where the last point is durable, that is known
  pub dsynced : new.books.floor ≡ new.books.point → new.books.stopped ≡ false → (DurableAt p ≡ (step f Dsync).1) × IsSession new (step f Dsync).0
  dsynced floor going_on =
      let a = after f.changed refl in
      let points = a.1.points going_on in (
        ap (λ n. DurableAt n) (syncs.point ∙ sym points),
        record {
          tree = a.1.tree;
          limit = a.1.limit;
          points = a.1.points;
          changed = a.1.changed;
          durable = omega (arith, floor, points);
        },
      )

-- a sync that was refused: out of memory nothing was done, and where the disk failed the map is as before
pub sync_refused : (tells : Bool) (old new : State) (f : Session) (why : SyncRefusal) → IsTrue tells → old.books.stopped ≡ false → Syncs tells (Err why) old new → IsSession old f → IsSession new f
sync_refused tells old new f sync.DiskFault told going syncs h = record {
  tree = tree_stays old new f.tree syncs.after.geom (syncs.map told) h.tree;
  limit = h.limit ∙ ap bounds_of (sym syncs.after.geom);
  points = λ stopped. absurd (true≢false (sym syncs.disk.stopped ∙ stopped));
  changed = λ stopped. absurd (true≢false (sym syncs.disk.stopped ∙ stopped));
  durable = omega (arith, h.durable, syncs.after.floor);
}
sync_refused tells old new f sync.NoMemory told going syncs h =
    session_stays old new f going (ap (λ (b : Bookkeeping). b.geom) syncs.none.books) (syncs.map told) (ap (λ (b : Bookkeeping). b.point) syncs.none.books) (ap (λ (b : Bookkeeping). b.running.weight) syncs.none.books) (omega (arith, ap (λ (b : Bookkeeping). b.floor) syncs.none.books)) h

-- what stays between commands over a sync that wasn't out of memory, and over one that was
pub between_after : (tells : Bool) (s t : State) (unused : UnusedNodes) (p : ℕ) → ((old new : Bookkeeping) → IsAfterSync old new → MayGoOn old → MayGoOn new) → Syncs tells (Ok p) s t → IsBetween tells s unused → IsBetween tells t unused
between_after tells s t unused p keeps syncs h = between_stays tells s t unused syncs.after.geom syncs.map (keeps s.books t.books syncs.after h.goes_on) h

pub between_refused : (tells : Bool) (s t : State) (unused : UnusedNodes) (why : SyncRefusal) → ((old new : Bookkeeping) → IsAfterSync old new → MayGoOn old → MayGoOn new) → Syncs tells (Err why) s t → IsBetween tells s unused → IsBetween tells t unused
between_refused tells s t unused sync.DiskFault keeps syncs h = between_stays tells s t unused syncs.after.geom syncs.map (keeps s.books t.books syncs.after h.goes_on) h
between_refused tells s t unused sync.NoMemory keeps syncs h = between_stays tells s t unused (ap (λ (b : Bookkeeping). b.geom) syncs.none.books) syncs.map (subst MayGoOn (sym syncs.none.books) h.goes_on) h

-- what is done isn't refused
pub ok_err : {T E : Type 0} (x : T) (y : E) → Ok x ≡ Err y → ⊥
ok_err x y e = false≢true (ap is_err e)

-- a fault of the disk isn't out of memory
no_memory_fault : (r : Result Reply Refusal) → r ≡ Err because.DiskFault → r ≡ Err because.NoMemory → ⊥
no_memory_fault r fault none = true≢false (sym (ap is_disk_fault fault) ∙ ap is_disk_fault none)

some_weighed : (w : ℕ) → (w ≡ 0 → ⊥) → 0 < w
some_weighed zero none = absurd (none refl)
some_weighed (suc w) none = omega arith

-- How long a sync waits, and for what, where its record fits the free ring places.
pub record Waits (tells orders : Bool) (s t : State) : Type 0 where
  pub order : IsTrue orders → OrdersAtOnce s.books → t.counts.waits ≡ s.counts.waits
  pub alone : IsTrue tells → IsTrue orders → OrdersAtOnce s.books → GrowsByWrites s.crash.log t.crash.log
  pub records : IsTrue tells → s.counts.ticks.manner.waits_alone ≡ true → OrdersAtOnce s.books → HearsRecords s t

-- one that only orders has no notice
pub orders_so : (tells : Bool) (s t : State) → (FitsRing s.books → t.counts.waits ≡ s.counts.waits) → (IsTrue tells → FitsRing s.books → GrowsByWrites s.crash.log t.crash.log) → (s.books.running.weight ≡ 0 → ChangesNothing tells s t) → Waits tells true s t
orders_so tells s t order writes idles = record {
  order = λ orders. ⊎_elim order (λ none. ap (λ (c : Counts). c.waits) (idles none).disk.counts);
  alone = λ told orders. ⊎_elim (writes told) (λ none. grows_by_none s.crash.log t.crash.log ((idles none).disk.crash told).log);
  records = λ told alone at_once n noticed. let w = ⊎_elim (writes told) (λ none. grows_by_none s.crash.log t.crash.log ((idles none).disk.crash told).log) at_once in inl (subst IsTrue (heard_same n s.crash.log t.crash.log w) noticed);
}

-- one that waits may do so for records alone
pub waits_so : (tells : Bool) (s t : State) → (IsTrue tells → s.counts.ticks.manner.waits_alone ≡ true → OrdersAtOnce s.books → HearsRecords s t) → Waits tells false s t
waits_so tells s t records = record {
  order = λ orders. absurd (false≢true orders);
  alone = λ told orders. absurd (false≢true orders);
  records = records;
}

-- A sync that was refused, as its session sees it. Of nothing it isn't out of memory.
pub refused_session : (tells orders : Bool) (cmd : Cmd) (s t : State) (why : SyncRefusal) → s.books.stopped ≡ false → Syncs tells (Err why) s t → (s.books.running.weight ≡ 0 → OnNoMemory {T = ℕ} (Err why) ⊥) → Waits tells orders s t → SyncsSession tells orders cmd (Err (refusal_of_sync why)) s t
refused_session tells orders cmd s t sync.DiskFault going syncs idle waits = record {
  done = λ told. tt;
  answers = tt;
  kept = λ told f h. sync_refused tells s t f sync.DiskFault told going syncs h;
  refused = inl refl;
  unspent = λ none. absurd (no_memory_fault (Err because.DiskFault) refl none);
  ends = tt;
  frees = λ told. tt;
  takeable = syncs.after.reusable;
  disk = syncs.disk;
  geom = syncs.after.geom;
  turns = syncs.after.turns;
  one = one_more s.books t.books syncs.after;
  point = λ not. syncs.after.point;
  map = syncs.map;
  ticks = syncs.ticks;
  order = waits.order;
  alone = waits.alone;
  waits = waits.records;
  written = λ told. tt;
  unwritten = λ told none. absurd (no_memory_fault (Err because.DiskFault) refl none);
  free_places = tt;
  crash = syncs.crash;
  made = syncs.made;
  writes = syncs.writes;
}
refused_session tells orders cmd s t sync.NoMemory going syncs idle waits = record {
  done = λ told. tt;
  answers = tt;
  kept = λ told f h. sync_refused tells s t f sync.NoMemory told going syncs h;
  refused = inr refl;
  unspent = λ none. (syncs.none.books, some_weighed s.books.running.weight idle);
  ends = tt;
  frees = λ told. tt;
  takeable = λ b may. ap (λ (k : Bookkeeping). k.reusable b) syncs.none.books ∙ may.free;
  disk = syncs.disk;
  geom = ap (λ (b : Bookkeeping). b.geom) syncs.none.books;
  turns = omega (arith, ap (λ (b : Bookkeeping). b.turns) syncs.none.books);
  one = omega (arith, ap (λ (b : Bookkeeping). b.point) syncs.none.books);
  point = λ not. absurd (not refl);
  map = syncs.map;
  ticks = syncs.ticks;
  order = waits.order;
  alone = waits.alone;
  waits = waits.records;
  written = λ told. tt;
  unwritten = λ told none. (syncs.none.disk.crash told).log;
  free_places = tt;
  crash = syncs.crash;
  made = syncs.made;
  writes = syncs.writes;
}

-- a sync that is done so
done_session : (tells orders : Bool) (cmd : Cmd) (s t : State) (p : ℕ) (reply : Reply) → Syncs tells (Ok p) s t → reply ≡ reply_of_sync cmd t.books.point → (IsTrue tells → (f : Session) → IsSession s f → (reply ≡ (step f cmd).1) × IsSession t (step f cmd).0)
    → Waits tells orders s t → (IsTrue tells → EndsFrees s t) → (IsTrue tells → WritesItsRecord s t) → SyncsSession tells orders cmd (Ok reply) s t
done_session tells orders cmd s t p reply syncs answers done waits frees written = record {
  done = done;
  answers = answers;
  kept = λ told. tt;
  refused = tt;
  unspent = λ none. absurd (ok_err reply because.NoMemory none);
  ends = syncs.ends.running;
  frees = frees;
  takeable = syncs.after.reusable;
  disk = syncs.disk;
  geom = syncs.after.geom;
  turns = syncs.after.turns;
  one = one_more s.books t.books syncs.after;
  point = λ not. syncs.after.point;
  map = syncs.map;
  ticks = syncs.ticks;
  order = waits.order;
  alone = waits.alone;
  waits = waits.records;
  written = written;
  unwritten = λ told none. absurd (ok_err reply because.NoMemory none);
  free_places = syncs.ends.free_places;
  crash = syncs.crash;
  made = syncs.made;
  writes = syncs.writes;
}

-- A sync that was done, as its session sees it.
pub synced_session : (tells : Bool) (s t : State) (p : ℕ) → s.books.stopped ≡ false → Syncs tells (Ok p) s t → p < 2 ^ 64 → Waits tells true s t → (IsTrue tells → EndsFrees s t) → (IsTrue tells → WritesItsRecord s t) → SyncsSession tells true Osync (Ok (Synced p)) s t
synced_session tells s t p going syncs low waits frees written = done_session tells true Osync s t p (Synced p) syncs (ap (λ n. Synced n) syncs.point) (λ told f h. synced tells s t f p told going syncs low h) waits frees written

pub dsynced_session : (tells : Bool) (s t : State) (p : ℕ) → s.books.stopped ≡ false → Syncs tells (Ok p) s t → p < 2 ^ 64 → t.books.floor ≡ t.books.point → Waits tells false s t → (IsTrue tells → EndsFrees s t) → (IsTrue tells → WritesItsRecord s t) → SyncsSession tells false Dsync (Ok (DurableAt p)) s t
dsynced_session tells s t p going syncs low floor waits frees written = done_session tells false Dsync s t p (DurableAt p) syncs (ap (λ n. DurableAt n) syncs.point) (λ told f h. dsynced tells s t f p told going syncs low h floor syncs.disk.stopped) waits frees written
