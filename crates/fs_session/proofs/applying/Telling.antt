-- What a command's reply tells of points: how many it made, what it promised, and whether the session has ended.
use Rattle.std.proofs.Common.{◌≡◌, ◌≢◌, ◌⊎◌, inl, inr, ⊎_elim, ℕ, ◌+◌, ◌<◌, ◌≤◌, ◌==◌, nat_lt, Bool, true, false, IsTrue, ◌&&◌, if◌then◌else◌, List, [], ◌∷◌, length, Result, Ok, Err, refl, sym, ◌∙◌, ap, subst, arith, nat_le}
use Rattle.std.proofs.lemmas.Bool.{cases_Bool, cases_eq, cases_lt, cond-true, cond-false, eq-eqb, ne_eqb, lt-ltb, le-ltb, true≢false, false≢true}
use Rattle.lang_tree.specs.declared.command.Cmd.{Cmd}
use Rattle.lang_tree.specs.declared.command.Cmd.TheVariants.{Mkdir, Create, Write, Fill, Read, Truncate, Link, Unlink, Rmdir, Rename, Stat, List as ListNames, Snap, Unsnap, Snaps, At, Osync, Dsync, Durable, Dwait, Poll, Bad}
use Rattle.lang_tree.specs.declared.command.Refusal.{Refusal}
use Rattle.lang_tree.specs.declared.command.Refusal.TheVariants as because
use Rattle.lang_tree.specs.declared.command.Reply.{Reply}
use Rattle.lang_tree.specs.declared.command.Reply.TheVariants.{Known, Refused}
use Rattle.lang_tree.specs.Points.{Point, is_sync, asks_for_durability, is_refusal, made_by, may_have_written, promised_by}
use Rattle.lang_tree.specs.Run.{Answers, is_of_disk}
use Rattle.lang_tree.specs.Step.{Session, step, osync, dsync, dwait}
use Rattle.engine_blocks.specs.Running.{Running}
use Rattle.engine_blocks.specs.State.{Bookkeeping, State}
use Rattle.engine_blocks.specs.Calls.{if_changed}
use Rattle.fs_session.specs.Applying.{Ticks, Runs, Began, Applies, AnswersSession, is_spent, reply_for}
use Rattle.fs_session.specs.Commands.{Carries, is_disk_fault}
use Rattle.fs_session.specs.Points.{TellsPoints}
use Rattle.fs_session.specs.Sessions.{IsSession}
use Rattle.fs_session.specs.Staying.{session_ticks}
use Rattle.fs_session.specs.Syncs.{SyncsSession, WaitsSession}
use Rattle.fs_session.proofs.rooms.Answered.{bad_or_not}

-- the reason that a reply names
abbrev reason_of : Reply → Refusal
reason_of (Refused why) = why
reason_of _ = because.NoMemory

is_fault : (why : Refusal) → Refused why ≡ Refused because.DiskFault → is_disk_fault (Err why) ≡ true
is_fault why e = ap (λ (w : Refusal). is_disk_fault (Err w)) (ap reason_of e)

abbrev is_done : Result Reply Refusal → Bool
is_done (Ok x) = true
is_done (Err e) = false

pub fault_is : (result : Result Reply Refusal) → is_disk_fault result ≡ true → reply_for result ≡ Refused because.DiskFault
fault_is result h1 = grind (arith, false≢true)

-- So many points.

abbrev one_where : Bool → ℕ
one_where c = if c then 1 else 0

-- the point of a sync, where there is one
abbrev point_where : Session → ℕ → Bool → List Point
point_where f begun c = if c then record { tree = f.tree; begun = begun } ∷ [] else []

one_if : (c : Bool) (p : Point) → length (if c then p ∷ [] else []) ≡ one_where c
one_if c p = grind arith

one_list : (c : Bool) (p : Point) → 0 < length (if c then p ∷ [] else []) → (if c then p ∷ [] else []) ≡ p ∷ []
one_list c p h1 = grind arith

-- one more where anything was weighed
weighed : (r : Running) → if_changed r 1 0 ≡ one_where (nat_lt 0 r.weight)
weighed r = grind (arith, cases_eq r.weight 0, r.weight == 0, r.weight, cond-true, eq-eqb, cond-false, le-ltb, ne_eqb, lt-ltb, cases_lt)

and_true : (c : Bool) → (true && (c && true)) ≡ c
and_true c = grind arith

and_false : (c : Bool) → (true && (c && false)) ≡ false
and_false c = grind arith

pub osync_written : (f : Session) (b : Bool) → may_have_written (osync f b).1 ≡ true
osync_written f b = grind arith

-- the same of points alone
record CountsMade (f : Session) (cmd : Cmd) (reply : Reply) (begun : ℕ) (old new : State) : Type 0 where
  exact : new.books.point ≡ old.books.point + length (made_by f cmd reply begun)
  fault : reply ≡ Refused because.DiskFault → new.books.stopped ≡ true
  calm : new.books.stopped ≡ true → reply ≡ Refused because.DiskFault

-- a command that isn't a sync makes none
none_made : (f : Session) (cmd : Cmd) (reply : Reply) (begun : ℕ) → is_sync cmd ≡ false → made_by f cmd reply begun ≡ []
none_made f cmd reply begun is = ap (λ c. point_where f begun (c && (f.changed && may_have_written reply))) is

-- a sync makes one where the tree changed, if its reply says that it may have written
one_made : (f : Session) (cmd : Cmd) (reply : Reply) (begun : ℕ) → is_sync cmd ≡ true → may_have_written reply ≡ true → length (made_by f cmd reply begun) ≡ one_where f.changed
one_made f cmd reply begun is wrote =
    ap (λ c. length (point_where f begun (c && (f.changed && may_have_written reply)))) is
    ∙ ap (λ c. length (point_where f begun (true && (f.changed && c)))) wrote
    ∙ ap (λ c. length (point_where f begun c)) (and_true f.changed)
    ∙ one_if f.changed (record { tree = f.tree; begun = begun })

module _ {S : Type 0} (tells : Bool) (state : S → State) (told : IsTrue tells) (never : (f : Session) (cmd : Cmd) → (step f cmd).1 ≡ Refused because.DiskFault → ⊥) (begun : ℕ) where
  none : (f : Session) (cmd : Cmd) (reply : Reply) (old new : State) → is_sync cmd ≡ false → new.books.point ≡ old.books.point → (reply ≡ Refused because.DiskFault → new.books.stopped ≡ true) → (new.books.stopped ≡ true → reply ≡ Refused because.DiskFault) → CountsMade f cmd reply begun old new
  none f cmd reply old new is same fault calm = record { exact = omega (arith, same, ap (λ (ps : List Point). length ps) (none_made f cmd reply begun is)); fault = fault; calm = calm }

  of_carried : (f : Session) (cmd : Cmd) (result : Result Reply Refusal) (mid new : S) → is_sync cmd ≡ false → IsSession (state mid) f → Carries tells cmd result (state mid) (state new) → CountsMade f cmd (reply_for result) begun (state mid) (state new)
  of_carried f cmd (Ok reply) mid new is h c = none f cmd reply (state mid) (state new) is c.runs.point (λ e. absurd (never f cmd (sym (c.done told f h).answer ∙ e))) (λ on. fault_is (Ok reply) (sym c.runs.stopped ∙ on))
  of_carried f cmd (Err why) mid new is h c = none f cmd (Refused why) (state mid) (state new) is c.runs.point (λ e. c.runs.stopped ∙ is_fault why e) (λ on. fault_is (Err why) (sym c.runs.stopped ∙ on))

  -- a sync whose reply says that it may have written, and one that was out of memory
  written : (f : Session) (cmd : Cmd) (reply : Reply) (mid new : State) → is_sync cmd ≡ true → mid.books.stopped ≡ false → IsSession mid f → may_have_written reply ≡ true → new.books.point ≡ mid.books.point + if_changed mid.books.running 1 0
      → new.books.point ≡ mid.books.point + length (made_by f cmd reply begun)
  written f cmd reply mid new is going h wrote point =
      point ∙ ap (λ n. mid.books.point + n) (weighed mid.books.running ∙ sym (one_made f cmd reply begun is wrote ∙ ap one_where (h.changed going)))

  unwritten : (f : Session) (cmd : Cmd) (reply : Reply) (mid new : State) → is_sync cmd ≡ true → may_have_written reply ≡ false → new.books.point ≡ mid.books.point → new.books.point ≡ mid.books.point + length (made_by f cmd reply begun)
  unwritten f cmd reply mid new is wrote same = grind (arith, one_if, f.changed, f.tree, and_false)

  of_synced : (orders : Bool) (f : Session) (cmd : Cmd) (result : Result Reply Refusal) (mid new : S) → is_sync cmd ≡ true → may_have_written (step f cmd).1 ≡ true → (state mid).books.stopped ≡ false → IsSession (state mid) f → SyncsSession tells orders cmd result (state mid) (state new)
      → CountsMade f cmd (reply_for result) begun (state mid) (state new)
  of_synced orders f cmd (Ok reply) mid new is wrote going h s = record {
    exact = written f cmd reply (state mid) (state new) is going h (ap may_have_written (s.done told f h).0 ∙ wrote) (s.point (λ e. true≢false (ap is_done e)));
    fault = λ e. absurd (never f cmd (sym (s.done told f h).0 ∙ e));
    calm = λ on. fault_is (Ok reply) (sym s.disk.stopped ∙ on);
  }
  of_synced orders f cmd (Err why) mid new is wrote going h s = by s.refused
    where
      by : (why ≡ because.DiskFault) ⊎ (why ≡ because.NoMemory) → CountsMade f cmd (Refused why) begun (state mid) (state new)
      by (inl disk) = record {
        exact = written f cmd (Refused why) (state mid) (state new) is going h (ap (λ (w : Refusal). may_have_written (Refused w)) disk) (s.point (λ e. false≢true (sym (ap is_disk_fault (ap (λ (w : Refusal). Err w) (sym disk) ∙ e)))));
        fault = λ e. s.disk.stopped ∙ is_fault why e;
        calm = λ on. fault_is (Err why) (sym s.disk.stopped ∙ on);
      }
      by (inr memory) = record {
        exact = unwritten f cmd (Refused why) (state mid) (state new) is (ap (λ (w : Refusal). may_have_written (Refused w)) memory) (ap (λ (b : Bookkeeping). b.point) (s.unspent (ap (λ (w : Refusal). Err w) memory)).0);
        fault = λ e. s.disk.stopped ∙ is_fault why e;
        calm = λ on. fault_is (Err why) (sym s.disk.stopped ∙ on);
      }

  -- a wait makes none
  of_waited : (f : Session) (n : ℕ) (result : Result Reply Refusal) (mid new : S) → IsSession (state mid) f → WaitsSession tells n result (state mid) (state new) → CountsMade f (Dwait n) (reply_for result) begun (state mid) (state new)
  of_waited f n (Ok reply) mid new h w = none f (Dwait n) reply (state mid) (state new) refl w.runs.pipeline.point (λ e. absurd (never f (Dwait n) (sym (w.done told f h).0 ∙ e))) (λ on. fault_is (Ok reply) (sym w.runs.disk.stopped ∙ on))
  of_waited f n (Err why) mid new h w = none f (Dwait n) (Refused why) (state mid) (state new) refl w.runs.pipeline.point (λ e. w.runs.disk.stopped ∙ is_fault why e) (λ on. fault_is (Err why) (sym w.runs.disk.stopped ∙ on))

  -- what is done with no call of the disk
  of_nothing : (f : Session) (cmd : Cmd) (reply : Reply) (mid new : S) → is_sync cmd ≡ false → (state mid).books.stopped ≡ false → new ≡ mid → (reply ≡ Refused because.DiskFault → ⊥) → CountsMade f cmd reply begun (state mid) (state new)
  of_nothing f cmd reply mid new is going same calm = grind (arith, none)

  known_calm : (n : ℕ) → Known n ≡ Refused because.DiskFault → ⊥
  known_calm n e = false≢true (ap is_refusal e)

  of_run : (f : Session) (cmd : Cmd) (result : Result Reply Refusal) (mid new : S) → (state mid).books.stopped ≡ false → IsSession (state mid) f → Runs tells state cmd result mid new → CountsMade f cmd (reply_for result) begun (state mid) (state new)
  of_run f Osync result mid new going h runs = of_synced true f Osync result mid new refl (osync_written f f.changed) going h runs
  of_run f Dsync result mid new going h runs = of_synced false f Dsync result mid new refl refl going h runs
  of_run f Durable result mid new going h runs = of_nothing f Durable (reply_for result) mid new refl going runs.1 (λ e. known_calm (state mid).books.floor (sym (ap reply_for runs.0) ∙ e))
  of_run f (Dwait n) result mid new going h runs = of_waited f n result mid new h runs
  of_run f Poll result mid new going h runs = of_nothing f Poll (reply_for result) mid new refl going runs.1 (λ e. never f Poll (sym (ap reply_for runs.0) ∙ e))
  of_run f (Mkdir path) result mid new going h runs = of_carried f (Mkdir path) result mid new refl h runs
  of_run f (Create path) result mid new going h runs = of_carried f (Create path) result mid new refl h runs
  of_run f (Write path offset bytes) result mid new going h runs = of_carried f (Write path offset bytes) result mid new refl h runs
  of_run f (Fill path offset count byte) result mid new going h runs = of_carried f (Fill path offset count byte) result mid new refl h runs
  of_run f (Read path offset count) result mid new going h runs = of_carried f (Read path offset count) result mid new refl h runs
  of_run f (Truncate path size) result mid new going h runs = of_carried f (Truncate path size) result mid new refl h runs
  of_run f (Link path other) result mid new going h runs = of_carried f (Link path other) result mid new refl h runs
  of_run f (Unlink path) result mid new going h runs = of_carried f (Unlink path) result mid new refl h runs
  of_run f (Rmdir path) result mid new going h runs = of_carried f (Rmdir path) result mid new refl h runs
  of_run f (Rename from to) result mid new going h runs = of_carried f (Rename from to) result mid new refl h runs
  of_run f (Stat path) result mid new going h runs = of_carried f (Stat path) result mid new refl h runs
  of_run f (ListNames path) result mid new going h runs = of_carried f (ListNames path) result mid new refl h runs
  of_run f (Snap name) result mid new going h runs = of_carried f (Snap name) result mid new refl h runs
  of_run f (Unsnap name) result mid new going h runs = of_carried f (Unsnap name) result mid new refl h runs
  of_run f Snaps result mid new going h runs = of_carried f Snaps result mid new refl h runs
  of_run f (At name look) result mid new going h runs = of_carried f (At name look) result mid new refl h runs
  of_run f Bad result mid new going h runs = of_carried f Bad result mid new refl h runs

  at_once : (f : Session) (cmd : Cmd) (reply : Reply) (old new : S) → new ≡ old → length (made_by f cmd reply begun) ≡ 0 → promised_by reply ≡ 0 → (reply ≡ Refused because.DiskFault → ⊥) → ((state old).books.stopped ≡ true → cmd ≢ Bad → reply ≡ Refused because.Stopped) → TellsPoints f cmd reply begun (state old) (state new)
  at_once f cmd reply old new h1 h2 h3 h4 h5 = grind arith

  refusal_made : (f : Session) (cmd : Cmd) (why : Refusal) (reply : Reply) → reply ≡ Refused why → may_have_written (Refused why) ≡ false → length (made_by f cmd reply begun) ≡ 0
  refusal_made f cmd why reply e wrote = grind (arith, is_sync cmd, f.changed)

  calm_as : (why : Refusal) (reply : Reply) → reply ≡ Refused why → is_disk_fault (Err why) ≡ false → reply ≡ Refused because.DiskFault → ⊥
  calm_as why reply e other fault = false≢true (sym other ∙ is_fault why (sym e ∙ fault))

  of_began : (f : Session) (cmd : Cmd) (reply : Reply) (old new : S) → (state old).books.stopped ≡ false → IsSession (state old) f → Began tells state cmd reply old new → promised_by reply ≤ (state new).books.floor → TellsPoints f cmd reply begun (state old) (state new)
  of_began f cmd reply old new going h began low = by began.ran
    where
      by : (Ticks tells true (state old) (state new) × (began.result ≡ Err because.DiskFault)) ⊎ (Ticks tells false (state old) (state began.mid) × Runs tells state cmd began.result began.mid new) → TellsPoints f cmd reply begun (state old) (state new)
      by (inl failed) = record {
        upto = omega (arith, failed.0.moves.pipeline.point);
        going = λ on. absurd (true≢false (sym failed.0.moves.disk.stopped ∙ on));
        made = λ more. absurd (omega (arith, more, failed.0.moves.pipeline.point));
        promised = low;
        fault = λ e. failed.0.moves.disk.stopped;
        stays = λ stopped. failed.0.moves.disk.stopped;
        calm = λ off on. began.is ∙ ap reply_for failed.1;
        ended = λ stopped not. absurd (true≢false (sym stopped ∙ going));
        awake = λ more. going;
      }
      by (inr ran) =
          let counts : CountsMade f cmd reply begun (state began.mid) (state new) = subst (λ (r : Reply). CountsMade f cmd r begun (state began.mid) (state new)) (sym began.is)
          (of_run f cmd began.result began.mid new ran.0.moves.disk.stopped (session_ticks tells false (state old) (state began.mid) ran.0 f going told h) ran.1) in
          record {
            upto = omega (arith, counts.exact, ran.0.moves.pipeline.point);
            going = λ on. omega (arith, counts.exact, ran.0.moves.pipeline.point);
            made = λ more. one_list (is_sync cmd && (f.changed && may_have_written reply)) (record { tree = f.tree; begun = begun }) (omega (arith, more, counts.exact, ran.0.moves.pipeline.point));
            promised = low;
            fault = counts.fault;
            stays = λ stopped. absurd (true≢false (sym stopped ∙ going));
            calm = λ off on. counts.calm on;
            ended = λ stopped not. absurd (true≢false (sym stopped ∙ going));
            awake = λ more. going;
          }

  -- What was promised is on the disk.

  dsync_promised : (f : Session) (b : Bool) → promised_by (dsync f b).1 ≤ (dsync f b).0.durable
  dsync_promised f b = omega arith

  dsync_promises : (f : Session) (reply : Reply) (next : Session) (new : State) → Answers is_of_disk f Dsync reply next → IsSession new next → promised_by reply ≤ new.books.floor
  dsync_promises f reply next new (inl is) h =
      let all : dsync f f.changed ≡ (next, reply) = is in
      omega (arith, dsync_promised f f.changed, ap (λ (p : Session × Reply). promised_by p.1) all, ap (λ (p : Session × Reply). p.0.durable) all, h.durable)
  dsync_promises f reply next new (inr (inl (why, outside, is, same))) h = omega (arith, ap promised_by is)
  dsync_promises f reply next new (inr (inr (outside, known))) h = let e : Dsync ≡ Durable = known.asked in cc

  dwait_promised : (f : Session) (n : ℕ) (b : Bool) → promised_by (dwait f n b).1 ≤ (dwait f n b).0.durable
  dwait_promised f n true = omega arith
  dwait_promised f n false = omega arith

  dwait_promises : (f : Session) (n : ℕ) (reply : Reply) (next : Session) (new : State) → Answers is_of_disk f (Dwait n) reply next → IsSession new next → promised_by reply ≤ new.books.floor
  dwait_promises f n reply next new (inl is) h = omega (arith, dwait_promised f n (nat_le n f.points), ap (λ (r : Session × Reply). promised_by r.1) is, ap (λ (r : Session × Reply). r.0.durable) is, h.durable)
  dwait_promises f n reply next new (inr (inl out)) h = omega (arith, ap promised_by out.2)
  dwait_promises f n reply next new (inr (inr known)) h = cc known.1.asked

  module _ (unasked : (f next : Session) (cmd : Cmd) (reply : Reply) → Answers is_of_disk f cmd reply next → asks_for_durability cmd ≡ false → promised_by reply ≡ 0) where
    durable_promises : (reply : Reply) (old new : S) → Began tells state Durable reply old new → promised_by reply ≤ (state new).books.floor
    durable_promises reply old new began = grind (arith, began.ran, began.result, began.mid, began.is)

    promised_of : (f : Session) (cmd : Cmd) (reply : Reply) (old new : S) → AnswersSession tells state f cmd reply new → Began tells state cmd reply old new → promised_by reply ≤ (state new).books.floor
    promised_of f Dsync reply old new a began = dsync_promises f reply a.next (state new) a.answers a.session
    promised_of f Durable reply old new a began = durable_promises reply old new began
    promised_of f (Dwait n) reply old new a began = dwait_promises f n reply a.next (state new) a.answers a.session
    promised_of f (Mkdir path) reply old new a began = omega (arith, unasked f a.next (Mkdir path) reply a.answers refl)
    promised_of f (Create path) reply old new a began = omega (arith, unasked f a.next (Create path) reply a.answers refl)
    promised_of f (Write path offset bytes) reply old new a began = omega (arith, unasked f a.next (Write path offset bytes) reply a.answers refl)
    promised_of f (Fill path offset count byte) reply old new a began = omega (arith, unasked f a.next (Fill path offset count byte) reply a.answers refl)
    promised_of f (Read path offset count) reply old new a began = omega (arith, unasked f a.next (Read path offset count) reply a.answers refl)
    promised_of f (Truncate path size) reply old new a began = omega (arith, unasked f a.next (Truncate path size) reply a.answers refl)
    promised_of f (Link path other) reply old new a began = omega (arith, unasked f a.next (Link path other) reply a.answers refl)
    promised_of f (Unlink path) reply old new a began = omega (arith, unasked f a.next (Unlink path) reply a.answers refl)
    promised_of f (Rmdir path) reply old new a began = omega (arith, unasked f a.next (Rmdir path) reply a.answers refl)
    promised_of f (Rename from to) reply old new a began = omega (arith, unasked f a.next (Rename from to) reply a.answers refl)
    promised_of f (Stat path) reply old new a began = omega (arith, unasked f a.next (Stat path) reply a.answers refl)
    promised_of f (ListNames path) reply old new a began = omega (arith, unasked f a.next (ListNames path) reply a.answers refl)
    promised_of f (Snap name) reply old new a began = omega (arith, unasked f a.next (Snap name) reply a.answers refl)
    promised_of f (Unsnap name) reply old new a began = omega (arith, unasked f a.next (Unsnap name) reply a.answers refl)
    promised_of f Snaps reply old new a began = omega (arith, unasked f a.next Snaps reply a.answers refl)
    promised_of f (At name look) reply old new a began = omega (arith, unasked f a.next (At name look) reply a.answers refl)
    promised_of f Osync reply old new a began = omega (arith, unasked f a.next Osync reply a.answers refl)
    promised_of f Poll reply old new a began = omega (arith, unasked f a.next Poll reply a.answers refl)
    promised_of f Bad reply old new a began = omega (arith, unasked f a.next Bad reply a.answers refl)

    pub tells_points : (f : Session) (cmd : Cmd) (reply : Reply) (old new : S) → IsSession (state old) f → Applies tells state cmd reply old new → AnswersSession tells state f cmd reply new → TellsPoints f cmd reply begun (state old) (state new)
    tells_points f cmd reply old new h applies a = ⊎_elim bad other (bad_or_not cmd)
      where
        bad : cmd ≡ Bad → TellsPoints f cmd reply begun (state old) (state new)
        bad is = at_once f cmd reply old new (applies.bad is).1 (ap (λ (ps : List Point). length ps) (none_made f cmd reply begun (ap is_sync is))) (ap promised_by (applies.bad is).0) (λ e. never f Bad (sym (applies.bad is).0 ∙ e)) (λ stopped not. absurd (not is))

        stopped : cmd ≢ Bad → (state old).books.stopped ≡ true → TellsPoints f cmd reply begun (state old) (state new)
        stopped not on = grind (arith, at_once, applies.stopped, refusal_made, calm_as)

        spent : cmd ≢ Bad → (state old).books.stopped ≡ false → is_spent (state old).books ≡ true → TellsPoints f cmd reply begun (state old) (state new)
        spent not going on = grind (arith, at_once, applies.spent, refusal_made, calm_as)

        began : cmd ≢ Bad → (state old).books.stopped ≡ false → is_spent (state old).books ≡ false → TellsPoints f cmd reply begun (state old) (state new)
        began not going left = of_began f cmd reply old new going h (applies.began not going left) (promised_of f cmd reply old new a (applies.began not going left))

        other : cmd ≢ Bad → TellsPoints f cmd reply begun (state old) (state new)
        other not = ⊎_elim (stopped not) (λ going. ⊎_elim (spent not going) (began not going) (cases_Bool (is_spent (state old).books))) (cases_Bool (state old).books.stopped)
