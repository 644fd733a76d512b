-- Where no memory is found: what takes none is done, and a sync that is refused so may be given again.
use Rattle.std.proofs.Common.{◌≡◌, ◌≢◌, ◌⊎◌, inl, inr, ⊎_elim, ℕ, ◌+◌, ◌<◌, ◌==◌, Bool, true, false, List, Result, Ok, Err, refl, sym, ◌∙◌, ap, ap₂, subst, arith, ◌≤◌, nat_le, if◌then◌else◌}
use Rattle.std.proofs.lemmas.Bool.{false≢true, le-leb, cond-false, ne_eqb}
use Rattle.base_types.specs.Counts.{Rose, after_call}
use Rattle.disk_contract.specs.declared.event.Event.{Event}
use Rattle.disk_contract.specs.Disk.{PollsThenWrites, writes_in}
use Rattle.lang_tree.specs.declared.command.Cmd.{Cmd}
use Rattle.lang_tree.specs.declared.command.Cmd.TheVariants.{Osync, Dsync, Durable, Dwait, Poll, Bad}
use Rattle.lang_tree.specs.declared.command.Refusal.{Refusal}
use Rattle.lang_tree.specs.declared.command.Refusal.TheVariants as because
use Rattle.lang_tree.specs.declared.command.Reply.{Reply}
use Rattle.lang_tree.specs.declared.command.Reply.TheVariants.{Ok as Done, Refused, Known, DurableAt}
use Rattle.lang_tree.specs.Points.{is_refusal, is_sync}
use Rattle.engine_blocks.specs.Calls.{MovesPipeline}
use Rattle.engine_blocks.specs.Crashes.{HasMapOfPoint}
use Rattle.engine_blocks.specs.Running.{Running, nothing_running}
use Rattle.engine_blocks.specs.State.{Bookkeeping, State, Ticking}
use Rattle.fs_session.specs.Applying.{Applies, Began, Runs, Ticks, reply_for}
use Rattle.fs_session.specs.Commands.{is_disk_fault}
use Rattle.fs_session.specs.Staying.{session_stays, session_ticks}
use Rattle.fs_session.specs.Syncs.{SyncsSession, reply_of_sync, WaitsSession, reply_of_wait}
use Rattle.fs_session.specs.WithoutMemory.{FindsMemory, IsUnhindered, KeepsTransaction, MakesNextPoint, TakesNoMemory, HasItsPoint}
use Rattle.fs_session.proofs.applying.Cases.{answered_as}
use Rattle.fs_session.proofs.applying.Causes.{same_reason}

-- no sync that is done answers a refusal
sync_done : (cmd : Cmd) (p : ℕ) → is_refusal (reply_of_sync cmd p) ≡ false
sync_done Dsync p = refl
sync_done cmd p = refl

-- a fault that was counted
counted : (n mid m : ℕ) → mid ≡ n → m ≡ after_call true mid → Rose n m
counted n mid m same is = omega (arith, same, is)

-- Behind a tick from `old` to `mid`.
module _ (tells : Bool) (old mid new : State) (t : Ticks tells false old mid) where
  -- a sync that was out of memory
  keeps_by : (orders : Bool) (cmd : Cmd) → old.books.stopped ≡ false → SyncsSession tells orders cmd (Err because.NoMemory) mid new → KeepsTransaction tells old new
  keeps_by orders cmd going s =
      let books : new.books ≡ mid.books = (s.unspent refl).0 in
      let polls : new.counts.ticks.polls ≡ mid.counts.ticks.polls = ap (λ (k : Ticking). k.polls) s.ticks in
      let moves : MovesPipeline old.books new.books = subst (λ (k : Bookkeeping). MovesPipeline old.books k) (sym books) t.moves.pipeline in
      record {
        weighed = subst (λ (r : Running). 0 < r.weight) t.moves.pipeline.running (s.unspent refl).1;
        moves = moves;
        disk = record {
          faults = s.disk.faults ∙ t.moves.disk.faults;
          stopped = s.disk.stopped;
          read_faults = s.disk.read_faults ∙ t.moves.disk.read_faults;
          waits = omega (arith, s.disk.waits, t.moves.disk.waits);
        };
        map = λ told. s.map told ∙ t.moves.map told;
        session = λ told f h. session_stays old new f going moves.geom (s.map told ∙ t.moves.map told) moves.point (ap (λ (r : Running). r.weight) moves.running) moves.floor h;
        told = λ told. ap₂ (λ tell (es : List Event). tell es) (s.crash told).records.told (s.unwritten told refl) ∙ t.moves.told told;
        writes = λ told. omega (arith, t.moves.writes told, ap (λ (es : List Event). writes_in es) (s.unwritten told refl), ap (λ (k : Bookkeeping). k.owed) books);
        events = λ told. subst (λ (n : ℕ). PollsThenWrites old.counts.ticks.manner 64 old.counts.ticks.polls old.crash.log n new.crash.log) (sym polls)
            (subst (λ (es : List Event). PollsThenWrites old.counts.ticks.manner 64 old.counts.ticks.polls old.crash.log mid.counts.ticks.polls es) (sym (s.unwritten told refl)) (t.writes told));
      }

  -- one that was done
  makes_by : (orders : Bool) (cmd : Cmd) (reply : Reply) → old.books.stopped ≡ false → 0 < old.books.running.weight → SyncsSession tells orders cmd (Ok reply) mid new → MakesNextPoint tells cmd reply old new
  makes_by orders cmd reply going some s =
      let weighed : 0 < mid.books.running.weight = subst (λ (r : Running). 0 < r.weight) (sym t.moves.pipeline.running) some in
      let full : (mid.books.running.weight == 0) ≡ false = ne_eqb mid.books.running.weight 0 (λ e. absurd (omega (arith, weighed, e))) in
      let more : new.books.point ≡ old.books.point + 1 = s.point (λ e. absurd cc) ∙ ap₂ (λ (p n : ℕ). p + n) t.moves.pipeline.point (cond-false (mid.books.running.weight == 0) 0 1 full) in
      record {
        answer = s.answers ∙ ap (λ (p : ℕ). reply_of_sync cmd p) more;
        session = λ told f h. s.done told f (session_ticks tells false old mid t f going told h);
        point = more;
        map = λ told. s.map told ∙ t.moves.map told;
        tree = λ told. subst (λ (p : ℕ). HasMapOfPoint new p) more (s.made told (omega (arith, more, t.moves.pipeline.point)));
        running = s.ends ∙ cond-false (mid.books.running.weight == 0) mid.books.running nothing_running full;
      }

abbrev is_memory : Refusal → Bool
is_memory because.NoMemory = true
is_memory _ = false

module _ {S : Type 0} (tells : Bool) (state : S → State) where
  sync_ran : (cmd : Cmd) (result : Result Reply Refusal) (mid new : S) → is_sync cmd ≡ true → Runs tells state cmd result mid new → (orders : Bool) × SyncsSession tells orders cmd result (state mid) (state new)
  sync_ran Osync result mid new is runs = (true, runs)
  sync_ran Dsync result mid new is runs = (false, runs)
  sync_ran cmd result mid new is runs = absurd (false≢true is)

  -- a sync is answered as out of memory only where the blocks refused it so
  memory_result : (orders : Bool) (cmd : Cmd) (result : Result Reply Refusal) (mid new : S) → SyncsSession tells orders cmd result (state mid) (state new) → reply_for result ≡ Refused because.NoMemory → result ≡ Err because.NoMemory
  memory_result orders cmd (Ok reply) mid new s e = absurd (false≢true (sym (sync_done cmd (state new).books.point) ∙ (ap is_refusal (sym s.answers) ∙ ap is_refusal e)))
  memory_result orders cmd (Err why) mid new s e = ap (λ (w : Refusal). Err w) (same_reason why because.NoMemory e)

  other_reason : (why : Refusal) → is_memory why ≡ false → Refused because.NoMemory ≡ Refused why → ⊥
  other_reason why other e = false≢true (sym other ∙ ap is_memory (sym (same_reason because.NoMemory why e)))

  -- Nothing of the disk stands against the command, so it ran behind its tick.
  begun : (cmd : Cmd) (reply : Reply) (old new : S) → cmd ≢ Bad → IsUnhindered (state old) (state new) → Applies tells state cmd reply old new
      → (b : Began tells state cmd reply old new) × (Ticks tells false (state old) (state b.mid) × Runs tells state cmd b.result b.mid new)
  begun cmd reply old new meant well applies =
      let b = applies.began meant well.going well.unspent in
      (b, ⊎_elim (λ failed. absurd (well.calm (counted (state old).counts.faults (state old).counts.faults (state new).counts.faults refl failed.0.moves.disk.faults))) (λ ran. ran) b.ran)

  module _ (cmd : Cmd) (is : is_sync cmd ≡ true) where
    meant : cmd ≢ Bad
    meant e = false≢true (sym (ap is_sync e) ∙ is)

    keeps_begun : (old new : S) → (state old).books.stopped ≡ false → Began tells state cmd (Refused because.NoMemory) old new → KeepsTransaction tells (state old) (state new)
    keeps_begun old new going b = ⊎_elim
        (λ failed. absurd (other_reason because.DiskFault refl (b.is ∙ ap reply_for failed.1)))
        (λ ran.
        let s = sync_ran cmd b.result b.mid new is ran.1 in
        let e = memory_result s.0 cmd b.result b.mid new s.1 (sym b.is) in
        keeps_by tells (state old) (state b.mid) (state new) ran.0 s.0 cmd going (subst (λ (r : Result Reply Refusal). SyncsSession tells s.0 cmd r (state b.mid) (state new)) e s.1))
        b.ran

    -- a sync that was out of memory
    pub keeps : (old new : S) → Applies tells state cmd (Refused because.NoMemory) old new → KeepsTransaction tells (state old) (state new)
    keeps old new applies = answered_as tells state cmd (Refused because.NoMemory) old new (KeepsTransaction tells (state old) (state new)) applies
        (λ none r. absurd (meant none))
        (λ some over r. absurd (other_reason because.Stopped refl r.0))
        (λ some used r. absurd (other_reason because.Spent refl r.0))
        (λ some going left b. keeps_begun old new going b)

    -- it was done behind the tick
    record IsDone (reply : Reply) (old new : S) : Type 0 where
      mid : S
      orders : Bool
      ticks : Ticks tells false (state old) (state mid)
      syncs : SyncsSession tells orders cmd (Ok reply) (state mid) (state new)

    -- one against which nothing stands is done, or out of memory
    ends : (old new : S) (reply : Reply) → Applies tells state cmd reply old new → IsUnhindered (state old) (state new) → IsDone reply old new ⊎ (reply ≡ Refused because.NoMemory)
    ends old new reply applies well =
        let x = begun cmd reply old new meant well applies in
        let s = sync_ran cmd x.0.result x.0.mid new is x.1.1 in
        by x.0.mid s.0 x.0.result x.1.0 s.1 x.0.is
      where
        by : (mid : S) (orders : Bool) (result : Result Reply Refusal) → Ticks tells false (state old) (state mid) → SyncsSession tells orders cmd result (state mid) (state new) → reply ≡ reply_for result → IsDone reply old new ⊎ (reply ≡ Refused because.NoMemory)
        by mid orders (Ok done) t s e = inl (record { mid = mid; orders = orders; ticks = t; syncs = subst (λ (r : Reply). SyncsSession tells orders cmd (Ok r) (state mid) (state new)) (sym e) s })
        by mid orders (Err why) t s e = ⊎_elim
            (λ disk. absurd (well.calm (counted (state old).counts.faults (state mid).counts.faults (state new).counts.faults t.moves.disk.faults
            (s.disk.faults ∙ ap (λ (w : Refusal). after_call (is_disk_fault (Err w)) (state mid).counts.faults) disk))))
            (λ memory. inr (e ∙ ap (λ (w : Refusal). Refused w) memory)) s.refused

    pub first : (old new : S) (reply : Reply) → 0 < (state old).books.running.weight → Applies tells state cmd reply old new → FindsMemory reply (state old) (state new) → MakesNextPoint tells cmd reply (state old) (state new)
    first old new reply some applies well = ⊎_elim
        (λ x. makes_by tells (state old) (state x.mid) (state new) x.ticks x.orders cmd reply well.disk.going some x.syncs)
        (λ memory. absurd (well.memory memory)) (ends old new reply applies well.disk)

    -- given again, it makes the point that it would have made at first
    pub again : (old mid new : S) (reply : Reply) → Applies tells state cmd (Refused because.NoMemory) old mid → Applies tells state cmd reply mid new → FindsMemory reply (state mid) (state new) → MakesNextPoint tells cmd reply (state old) (state new)
    again old mid new reply refused applies well =
        let k = keeps old mid refused in
        let m = first mid new reply (subst (λ (r : Running). 0 < r.weight) (sym k.moves.running) k.weighed) applies well in
        record {
          answer = m.answer ∙ ap (λ (p : ℕ). reply_of_sync cmd (p + 1)) k.moves.point;
          session = λ told f h. m.session told f (k.session told f h);
          point = m.point ∙ ap (λ (p : ℕ). p + 1) k.moves.point;
          map = λ told. m.map told ∙ k.map told;
          tree = λ told. subst (λ (p : ℕ). HasMapOfPoint (state new) (p + 1)) k.moves.point (m.tree told);
          running = m.running;
        }

    -- with nothing to commit
    pub idle_never : (old new : S) (reply : Reply) → (state old).books.running.weight ≡ 0 → Applies tells state cmd reply old new → reply ≡ Refused because.NoMemory → ⊥
    idle_never old new reply none applies e =
        let k = keeps old new (subst (λ (r : Reply). Applies tells state cmd r old new) e applies) in
        omega (arith, k.weighed, none)

    pub idle_done : (old new : S) (reply : Reply) → (state old).books.running.weight ≡ 0 → Applies tells state cmd reply old new → IsUnhindered (state old) (state new) → is_refusal reply ≡ false
    idle_done old new reply none applies well = ⊎_elim
        (λ x. ap is_refusal x.syncs.answers ∙ sync_done cmd (state new).books.point)
        (λ memory. absurd (idle_never old new reply none applies memory)) (ends old new reply applies well)

  -- A command that asks for points, or for nothing, is answered so where it ran.
  module _ (cmd : Cmd) (some : cmd ≢ Bad) (answer : S → Reply) (new : S) (runs : (mid : S) (result : Result Reply Refusal) → Runs tells state cmd result mid new → result ≡ Ok (answer mid)) (done : (mid : S) → is_refusal (answer mid) ≡ false) where
    begun_done : (old : S) (reply : Reply) → Began tells state cmd reply old new → (reply ≡ Refused because.DiskFault) ⊎ (is_refusal reply ≡ false)
    begun_done old reply b = ⊎_elim (λ failed. inl (b.is ∙ ap reply_for failed.1)) (λ ran. inr (ap is_refusal (b.is ∙ ap reply_for (runs b.mid b.result ran.1)) ∙ done b.mid)) b.ran

    asks_never : (old : S) (reply : Reply) → Applies tells state cmd reply old new → reply ≡ Refused because.NoMemory → ⊥
    asks_never old reply applies e = answered_as tells state cmd reply old new ⊥ applies
        (λ none r. some none)
        (λ meant over r. other_reason because.Stopped refl (sym e ∙ r.0))
        (λ meant used r. other_reason because.Spent refl (sym e ∙ r.0))
        (λ meant going left b. ⊎_elim (λ disk. other_reason because.DiskFault refl (sym e ∙ disk)) (λ no. false≢true (sym no ∙ ap is_refusal e)) (begun_done old reply b))

    asks_done : (old : S) (reply : Reply) → Applies tells state cmd reply old new → IsUnhindered (state old) (state new) → is_refusal reply ≡ false
    asks_done old reply applies well = let x = begun cmd reply old new some well applies in ap is_refusal (x.0.is ∙ ap reply_for (runs x.0.mid x.0.result x.1.1)) ∙ done x.0.mid

  -- A wait for a point takes none.

  waited_by : (n : ℕ) (result : Result Reply Refusal) (mid new : S) → WaitsSession tells n result (state mid) (state new) → (reply_for result ≡ reply_of_wait n (state mid).books.point) ⊎ (result ≡ Err because.DiskFault)
  waited_by n (Ok reply) mid new waits = inl waits.answers
  waited_by n (Err why) mid new waits = inr (ap (λ (w : Refusal). Err w) waits.refused)

  no_want : (n point : ℕ) (b : Bool) → (if b then DurableAt n else Refused (because.NoPoint point)) ≡ Refused because.NoMemory → ⊥
  no_want n point true e = cc e
  no_want n point false e = cc e

  waited_never : (n : ℕ) (old new : S) (reply : Reply) → Applies tells state (Dwait n) reply old new → reply ≡ Refused because.NoMemory → ⊥
  waited_never n old new reply applies e = answered_as tells state (Dwait n) reply old new ⊥ applies
      (λ none r. absurd cc)
      (λ meant over r. other_reason because.Stopped refl (sym e ∙ r.0))
      (λ meant used r. other_reason because.Spent refl (sym e ∙ r.0))
      (λ meant going left b. ⊎_elim
      (λ failed. other_reason because.DiskFault refl (sym e ∙ b.is ∙ ap reply_for failed.1))
      (λ ran. ⊎_elim
      (λ said. no_want n (state b.mid).books.point (nat_le n (state b.mid).books.point) (sym said ∙ sym b.is ∙ e))
      (λ fault. other_reason because.DiskFault refl (sym e ∙ b.is ∙ ap reply_for fault)) (waited_by n b.result b.mid new ran.1)) b.ran)

  waited_done : (n : ℕ) (old new : S) (reply : Reply) → n ≤ (state old).books.point → Applies tells state (Dwait n) reply old new → IsUnhindered (state old) (state new) → is_refusal reply ≡ false
  waited_done n old new reply there applies well =
      let x = begun (Dwait n) reply old new (λ bad. absurd cc) well applies in
      ⊎_elim
      (λ said. ap is_refusal (x.0.is ∙ said ∙ ap (λ (b : Bool). if b then DurableAt n else Refused (because.NoPoint (state x.0.mid).books.point)) (le-leb n (state x.0.mid).books.point (omega (arith, there, x.1.0.moves.pipeline.point)))))
      (λ fault. absurd (well.calm (counted (state old).counts.faults (state x.0.mid).counts.faults (state new).counts.faults x.1.0.moves.disk.faults
      (x.1.1.runs.disk.faults ∙ ap (λ (r : Result Reply Refusal). after_call (is_disk_fault r) (state x.0.mid).counts.faults) fault)))) (waited_by n x.0.result x.0.mid new x.1.1)

  pub never : (cmd : Cmd) (old new : S) (reply : Reply) → TakesNoMemory (state old) cmd → Applies tells state cmd reply old new → reply ≡ Refused because.NoMemory → ⊥
  never Osync old new reply none applies e = idle_never Osync refl old new reply none applies e
  never Dsync old new reply none applies e = idle_never Dsync refl old new reply none applies e
  never Durable old new reply none applies e = asks_never Durable (λ x. absurd cc) (λ mid. Known (state mid).books.floor) new (λ mid result runs. runs.0) (λ mid. refl) old reply applies e
  never (Dwait n) old new reply none applies e = waited_never n old new reply applies e
  never Poll old new reply none applies e = asks_never Poll (λ x. absurd cc) (λ mid. Done) new (λ mid result runs. runs.0) (λ mid. refl) old reply applies e
  never Bad old new reply none applies e = false≢true (ap is_refusal (sym (applies.bad refl).0 ∙ e))
  never cmd old new reply none applies e = none

  pub done : (cmd : Cmd) (old new : S) (reply : Reply) → TakesNoMemory (state old) cmd → HasItsPoint (state old) cmd → Applies tells state cmd reply old new → IsUnhindered (state old) (state new) → is_refusal reply ≡ false
  done Osync old new reply none there applies well = idle_done Osync refl old new reply none applies well
  done Dsync old new reply none there applies well = idle_done Dsync refl old new reply none applies well
  done Durable old new reply none there applies well = asks_done Durable (λ x. absurd cc) (λ mid. Known (state mid).books.floor) new (λ mid result runs. runs.0) (λ mid. refl) old reply applies well
  done (Dwait n) old new reply none there applies well = waited_done n old new reply there applies well
  done Poll old new reply none there applies well = asks_done Poll (λ x. absurd cc) (λ mid. Done) new (λ mid result runs. runs.0) (λ mid. refl) old reply applies well
  done Bad old new reply none there applies well = ap is_refusal (applies.bad refl).0
  done cmd old new reply none there applies well = absurd none
