-- What a wait for a sync point makes of the session: a point that is durable then, or nothing.
use Rattle.std.proofs.Common.{◌≡◌, ⊎_elim, ℕ, ◌≤◌, ◌<◌, if◌then◌else◌, Bool, true, false, IsTrue, Result, Ok, Err, refl, sym, subst, ap, ◌∙◌, arith}
use Rattle.std.proofs.lemmas.Bool.{cases_lt, le-leb, lt-leb}
use Rattle.disk_contract.specs.Disk.{writes_in}
use Rattle.lang_tree.specs.declared.command.Cmd.TheVariants.{Dwait}
use Rattle.lang_tree.specs.declared.command.Refusal.TheVariants as because
use Rattle.lang_tree.specs.declared.command.Reply.TheVariants.{DurableAt, Refused}
use Rattle.lang_tree.specs.Step.{Session, step, dwait}
use Rattle.engine_blocks.specs.Running.{Running}
use Rattle.engine_blocks.specs.State.{State}
use Rattle.engine_blocks.specs.Calls.{wait_fails}
use Rattle.engine_blocks.specs.Crashes.{HearsUpTo}
use Rattle.engine_blocks.specs.Effects.{ChangesNothing, RunsPipeline}
use Rattle.engine_blocks.specs.Serving.{SameFreed}
use Rattle.engine_blocks.specs.declared.refusals.WaitRefusal.{WaitRefusal}
use Rattle.engine_blocks.specs.declared.refusals.WaitRefusal.TheVariants as wait
use Rattle.fs_session.specs.Sessions.{IsSession}
use Rattle.fs_session.specs.Staying.{session_stays}
use Rattle.fs_session.specs.Syncs.{WaitsSession}
use Rattle.fs_session.proofs.syncing.Synced.{ok_err}

-- What the call says, however it ended.
pub record Waits (tells : Bool) (n : ℕ) (old new : State) : Type 0 where
  pub frees : SameFreed old.books new.books
  pub ticks : new.counts.ticks ≡ old.counts.ticks
  pub still : IsTrue tells → writes_in new.crash.log ≡ writes_in old.crash.log
  pub hears : IsTrue tells → old.counts.ticks.manner.waits_alone ≡ true → HearsUpTo n old new
  pub idles : n ≤ old.books.floor → ChangesNothing tells old new
  pub none : old.books.point < n → ChangesNothing tells old new

module _ (tells : Bool) (n : ℕ) (old new : State) (going : old.books.stopped ≡ false) (waits : Waits tells n old new) where
  -- the session before is one of the blocks still
  stays : (failed : Bool) → RunsPipeline tells failed old new → IsTrue tells → (f : Session) → IsSession old f → IsSession new f
  stays failed runs told f h = session_stays old new f going runs.pipeline.geom (runs.map told) runs.pipeline.point (ap (λ (r : Running). r.weight) runs.pipeline.running) runs.pipeline.floor h

  -- the point is there, and durable then
  there : RunsPipeline tells false old new → IsTrue tells → n ≤ old.books.point → n ≤ new.books.floor → (f : Session) → IsSession old f → (DurableAt n ≡ (step f (Dwait n)).1) × IsSession new (step f (Dwait n)).0
  there runs told low floor f h =
      let k = stays false runs told f h in
      let is = le-leb n f.points (omega (arith, low, h.points going)) in (
        ap (λ (b : Bool). (dwait f n b).1) (sym is),
        subst (λ (b : Bool). IsSession new (dwait f n b).0) (sym is) (record { tree = k.tree; limit = k.limit; points = k.points; changed = k.changed; durable = omega (arith, k.durable, floor) }),
      )

  -- it isn't there
  lacking : RunsPipeline tells false old new → IsTrue tells → old.books.point < n → (f : Session) → IsSession old f → (Refused (because.NoPoint old.books.point) ≡ (step f (Dwait n)).1) × IsSession new (step f (Dwait n)).0
  lacking runs told past f h =
      let is = lt-leb n f.points (omega (arith, past, h.points going)) in (
        ap (λ (p : ℕ). Refused (because.NoPoint p)) (sym (h.points going)) ∙ ap (λ (b : Bool). (dwait f n b).1) (sym is),
        subst (λ (b : Bool). IsSession new (dwait f n b).0) (sym is) (stays false runs told f h),
      )

  pub waited : RunsPipeline tells false old new → n ≤ old.books.point → n ≤ new.books.floor → WaitsSession tells n (Ok (DurableAt n)) old new
  waited runs low floor = record {
    done = λ told f h. there runs told low floor f h;
    answers = ap (λ (b : Bool). if b then DurableAt n else Refused (because.NoPoint old.books.point)) (sym (le-leb n old.books.point low));
    kept = stays false runs;
    refused = tt;
    durable = λ _. floor;
    runs = runs;
    frees = waits.frees;
    ticks = waits.ticks;
    still = waits.still;
    waits = waits.hears;
    idles = waits.idles;
    none = waits.none;
  }

  pub lacked : RunsPipeline tells false old new → old.books.point < n → WaitsSession tells n (Ok (Refused (because.NoPoint old.books.point))) old new
  lacked runs past = record {
    done = λ told f h. lacking runs told past f h;
    answers = ap (λ (b : Bool). if b then DurableAt n else Refused (because.NoPoint old.books.point)) (sym (lt-leb n old.books.point past));
    kept = stays false runs;
    refused = tt;
    durable = λ low. absurd (omega (arith, low, past));
    runs = runs;
    frees = waits.frees;
    ticks = waits.ticks;
    still = waits.still;
    waits = waits.hears;
    idles = waits.idles;
    none = waits.none;
  }

  pub failed : RunsPipeline tells true old new → WaitsSession tells n (Err because.DiskFault) old new
  failed runs = record {
    done = λ told. tt;
    answers = tt;
    kept = stays true runs;
    refused = refl;
    durable = tt;
    runs = runs;
    frees = waits.frees;
    ticks = waits.ticks;
    still = waits.still;
    waits = waits.hears;
    idles = waits.idles;
    none = waits.none;
  }

-- Which of these it is.

-- a wait that is done is for a point that is there
pub there_where_done : {T : Type 0} (x : T) (why : WaitRefusal) (last n : ℕ) → (last < n → Ok x ≡ Err why) → n ≤ last
there_where_done x why last n past = ⊎_elim (λ beyond. absurd (ok_err x why (past beyond))) (λ low. low) (cases_lt last n)

abbrev the_refused : (T : Type 0) → WaitRefusal → Result T WaitRefusal
the_refused T why = Err why

abbrev number_of : WaitRefusal → ℕ
number_of (wait.NoPoint n) = n
number_of wait.DiskFault = 0

abbrev number_in : (T : Type 0) → Result T WaitRefusal → ℕ
number_in T (Err why) = number_of why
number_in T (Ok x) = 0

apart : (k : ℕ) → wait.NoPoint k ≡ wait.DiskFault → ⊥
apart k e = cc e

-- one that is refused as there is none is for a point above the last one, which is named
pub lacked_by : (T : Type 0) (tells : Bool) (n : ℕ) (old new : State) → old.books.stopped ≡ false → Waits tells n old new → (why : WaitRefusal) (last : ℕ) → why ≡ wait.NoPoint last → RunsPipeline tells (wait_fails {T = T} (Err why)) old new
    → (old.books.point < n → the_refused T why ≡ the_refused T (wait.NoPoint old.books.point)) → (n ≤ old.books.point → why ≡ wait.DiskFault) → WaitsSession tells n (Ok (Refused (because.NoPoint last))) old new
lacked_by T tells n old new going waits why last is runs exact there =
    let past : old.books.point < n = ⊎_elim (λ beyond. beyond) (λ low. absurd (apart last (sym is ∙ there low))) (cases_lt old.books.point n) in
    let same : old.books.point ≡ last = sym (ap (number_in T) (exact past)) ∙ ap number_of is in
    subst (λ (p : ℕ). WaitsSession tells n (Ok (Refused (because.NoPoint p))) old new) same
    (lacked tells n old new going waits (subst (λ (w : WaitRefusal). RunsPipeline tells (wait_fails {T = T} (Err w)) old new) is runs) past)

-- one that the disk failed
pub failed_by : (T : Type 0) (tells : Bool) (n : ℕ) (old new : State) → old.books.stopped ≡ false → Waits tells n old new → (why : WaitRefusal) → why ≡ wait.DiskFault → RunsPipeline tells (wait_fails {T = T} (Err why)) old new
    → WaitsSession tells n (Err because.DiskFault) old new
failed_by T tells n old new going waits why is runs = failed tells n old new going waits (subst (λ (w : WaitRefusal). RunsPipeline tells (wait_fails {T = T} (Err w)) old new) is runs)
