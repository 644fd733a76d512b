-- How a command is answered in the room that the disk's log gives, by what the file system says of any blocks.
use Rattle.std.proofs.Common.{◌≡◌, ◌≢◌, ◌↔◌, ◌⊎◌, inl, inr, ⊎_elim, ℕ, ◌<◌, ◌≤◌, Bool, true, false, List, ◌++◌, length, take, drop, Some, Option, refl, sym, ap, ap₂, ◌∙◌, subst, arith}
use Rattle.std.proofs.Math.Logic.{∥∥₁_map}
use Rattle.std.proofs.Math.Seq.{take-append_seam, take-length}
use Rattle.std.proofs.lemmas.Bool.{false≢true}
use Rattle.std.proofs.lemmas.List.{take-append-le, length-append}
use Rattle.base_types.specs.Seal.{Blocks}
use Rattle.disk_contract.specs.declared.event.Event.{Event}
use Rattle.disk_contract.specs.Cell.{is_accepted, IsNoticed}
use Rattle.disk_contract.specs.Disk.{Grows, PollsThenWrites}
use Rattle.disk_contract.specs.Manner.{Manner}
use Rattle.layout_geometry.specs.Geometry.{Geometry}
use Rattle.layout_journal.specs.declared.record.Commit.{Commit}
use Rattle.crash_argument.specs.Points.{MountedSession, commits_told}
use Rattle.lang_tree.specs.declared.command.Cmd.{Cmd}
use Rattle.lang_tree.specs.declared.command.Cmd.TheVariants as cmds
use Rattle.lang_tree.specs.declared.command.Refusal.{Refusal}
use Rattle.lang_tree.specs.declared.command.Refusal.TheVariants.{Spent}
use Rattle.lang_tree.specs.declared.command.Reply.{Reply}
use Rattle.lang_tree.specs.declared.command.Reply.TheVariants.{Refused}
use Rattle.lang_tree.specs.Points.{after_reply, is_sync}
use Rattle.lang_tree.specs.Run.{Answers}
use Rattle.lang_tree.specs.Step.{Session}
use Rattle.engine_blocks.specs.Calls.{commit_places}
use Rattle.engine_blocks.specs.Effects.{OrdersAtOnce, RingIsTold}
use Rattle.engine_blocks.specs.Running.{Running, fresh_blocks, payloads, record_places}
use Rattle.engine_blocks.specs.State.{State}
use Rattle.engine_store.specs.SessionView.{IsSure}
use Rattle.fs_session.specs.Applying.{is_spent}
use Rattle.fs_session.specs.DiskRoom.{AnswersOn, AnswersOver, BeginsOver, SyncsOver}
use Rattle.fs_session.specs.Memory.{room_of}
use Rattle.fs_session.specs.Room.{IsDoneIn, RefusesIn, Room}
use Rattle.fs_session.specs.Serving.{AnswersAt, SaysNoMore, ServesCommand, SyncsBehind, WaitsBehind, moment_of, room_on}
use Rattle.fs_session.specs.Moments.{answer_at_others, answer_in_room}
use Rattle.cmd_session.specs.Records.{own_records}
use Rattle.cmd_session.specs.Going.{pace_of}
use Rattle.cmd_session.specs.Pacing.{AnswersBy, DoneInRing, FindsPlaces, Pace, moment_by}
use Rattle.cmd_session.specs.Taking.{Span, Taken, places_wanted, taken_by}
use Rattle.cmd_session.specs.Answered.{AnsweredIn, FitsAmong, FreesBy, SyncsIn, WaitsIn, moment_over}
use Rattle.cmd_session.proofs.Pending.{rests_alike}

-- The session that follows is the one that the reply tells.

module _ (g : Geometry) (f : Session) (reply : Reply) (next : Session) where
  abbrev Said : Cmd → Type 0
  Said cmd = Answers (λ _. true) f cmd reply next

  refused : (P : Refusal → Type 0) (r : Room) (cmd : Cmd) (room : Room) → RefusesIn P f r reply next room → Said cmd
  refused P r cmd room x = inr (inl (x.0, refl, x.2, x.3))

  synced : (r : Room) (cmd : Cmd) (room : Room) → SyncsOver f r cmd reply next room → Said cmd
  synced r cmd room h1 = grind (arith, refused)

  on_tree : (P Q : Refusal → Type 0) (r : Room) (cmd : Cmd) (room : Room) → (IsDoneIn g f r cmd reply next room ⊎ RefusesIn P f r reply next room) ⊎ RefusesIn Q f r reply next room → Said cmd
  on_tree P Q r cmd room h1 = grind (arith, refused)

  over : (r : Room) (cmd : Cmd) (room : Room) → AnswersOver g f r cmd reply next room → Said cmd
  over r cmds.Bad room (inl x) = inl x.0
  over r cmds.Bad room (inr why) = refused _ r cmds.Bad room why
  over r (cmds.Dwait n) room (inl x) = inl x.0
  over r (cmds.Dwait n) room (inr why) = refused _ r (cmds.Dwait n) room why
  over r cmds.Poll room (inl x) = inl x.0
  over r cmds.Poll room (inr why) = refused _ r cmds.Poll room why
  over r cmds.Durable room (inl x) = inr (inr (refl, x.0))
  over r cmds.Durable room (inr why) = refused _ r cmds.Durable room why
  over r cmds.Osync room x = synced r cmds.Osync room x
  over r cmds.Dsync room x = synced r cmds.Dsync room x
  over r (cmds.Mkdir path) room x = on_tree _ _ r (cmds.Mkdir path) room x
  over r (cmds.Create path) room x = on_tree _ _ r (cmds.Create path) room x
  over r (cmds.Write path offset bytes) room x = on_tree _ _ r (cmds.Write path offset bytes) room x
  over r (cmds.Fill path offset count byte) room x = on_tree _ _ r (cmds.Fill path offset count byte) room x
  over r (cmds.Read path offset count) room x = on_tree _ _ r (cmds.Read path offset count) room x
  over r (cmds.Truncate path size) room x = on_tree _ _ r (cmds.Truncate path size) room x
  over r (cmds.Link path other) room x = on_tree _ _ r (cmds.Link path other) room x
  over r (cmds.Unlink path) room x = on_tree _ _ r (cmds.Unlink path) room x
  over r (cmds.Rmdir path) room x = on_tree _ _ r (cmds.Rmdir path) room x
  over r (cmds.Rename from to) room x = on_tree _ _ r (cmds.Rename from to) room x
  over r (cmds.Stat path) room x = on_tree _ _ r (cmds.Stat path) room x
  over r (cmds.List path) room x = on_tree _ _ r (cmds.List path) room x
  over r (cmds.Snap name) room x = on_tree _ _ r (cmds.Snap name) room x
  over r (cmds.Unsnap name) room x = on_tree _ _ r (cmds.Unsnap name) room x
  over r cmds.Snaps room x = on_tree _ _ r cmds.Snaps room x
  over r (cmds.At name look) room x = on_tree _ _ r (cmds.At name look) room x

  began : (P : Refusal → Type 0) (r : Room) (cmd : Cmd) (room : Room) → RefusesIn P f r reply next room ⊎ BeginsOver g f r cmd reply next room → Said cmd
  began P r cmd room (inl why) = refused P r cmd room why
  began P r cmd room (inr b) = over b.back cmd room b.answers

  pub said : (r : Room) (cmd : Cmd) (room : Room) → AnswersOn g f r cmd reply next room → Said cmd
  said r cmds.Bad room x = inl x.0
  said r (cmds.Dwait n) room x = began _ r (cmds.Dwait n) room x
  said r cmds.Poll room x = began _ r cmds.Poll room x
  said r cmds.Durable room x = began _ r cmds.Durable room x
  said r cmds.Osync room x = began _ r cmds.Osync room x
  said r cmds.Dsync room x = began _ r cmds.Dsync room x
  said r (cmds.Mkdir path) room x = began _ r (cmds.Mkdir path) room x
  said r (cmds.Create path) room x = began _ r (cmds.Create path) room x
  said r (cmds.Write path offset bytes) room x = began _ r (cmds.Write path offset bytes) room x
  said r (cmds.Fill path offset count byte) room x = began _ r (cmds.Fill path offset count byte) room x
  said r (cmds.Read path offset count) room x = began _ r (cmds.Read path offset count) room x
  said r (cmds.Truncate path size) room x = began _ r (cmds.Truncate path size) room x
  said r (cmds.Link path other) room x = began _ r (cmds.Link path other) room x
  said r (cmds.Unlink path) room x = began _ r (cmds.Unlink path) room x
  said r (cmds.Rmdir path) room x = began _ r (cmds.Rmdir path) room x
  said r (cmds.Rename from to) room x = began _ r (cmds.Rename from to) room x
  said r (cmds.Stat path) room x = began _ r (cmds.Stat path) room x
  said r (cmds.List path) room x = began _ r (cmds.List path) room x
  said r (cmds.Snap name) room x = began _ r (cmds.Snap name) room x
  said r (cmds.Unsnap name) room x = began _ r (cmds.Unsnap name) room x
  said r cmds.Snaps room x = began _ r cmds.Snaps room x
  said r (cmds.At name look) room x = began _ r (cmds.At name look) room x

-- a sync is no bad line
pub sync_is_meant : (cmd : Cmd) → is_sync cmd ≡ true → cmd ≢ cmds.Bad
sync_is_meant cmd of bad = false≢true (sym (ap is_sync bad) ∙ of)

-- What the file system says of the blocks, as what is known of the disk under them before the command.

module _ {S : Type 0} (state : S → State) (f : Session) (cmd : Cmd) (reply : Reply) (next : Session) (old new : S) (served : ServesCommand state f cmd reply next old new)
    (left : cmd ≢ cmds.Bad → (state old).books.stopped ≡ false → reply ≢ Refused Spent → is_spent (state old).books ≡ false) (manner : (state new).counts.ticks.manner ≡ (state old).counts.ticks.manner) where
  abbrev mid : State
  mid = state served.behind

  -- the tick leaves the transaction, so that its record takes as many places
  same_places : commit_places mid.books ≡ commit_places (state old).books
  same_places = ap₂ (λ (k : Geometry) (r : Running). record_places (payloads k r) (fresh_blocks k r)) served.geom served.running

  same_weight : mid.books.running.weight ≡ (state old).books.running.weight
  same_weight = ap (λ (r : Running). r.weight) served.running

  says_behind : SaysNoMore (moment_of mid) (moment_over (state old) mid.crash.log (commit_places (state old).books ≤ mid.books.free_places))
  says_behind = grind (arith, served.manner, served.begins.sure, rests_alike, same_places)

  -- what the log told of records before, it tells behind the tick and at the end
  told_behind : (before : List Commit) → (state old).crash.records.told mid.crash.log ≡ Some before → mid.crash.records.told mid.crash.log ≡ Some before
  told_behind before is = ap (λ (f : List Event → Option (List Commit)). f mid.crash.log) served.begins.records.told ∙ is

  told_end : (es : List Event) → (state new).crash.records.told es ≡ (state old).crash.records.told es
  told_end es = ap (λ (f : List Event → Option (List Commit)). f es) (served.goes_on.records.told ∙ served.begins.records.told)

  frees : RingIsTold mid → FreesBy (state old) mid.crash.log mid.books.free_places
  frees ring told is = let r = ring told (told_behind told is) in record {
    one = r.one ∙ served.point;
    starts = ∥∥₁_map r.starts (λ (x : (number : ℕ) × mid.crash.records.starts mid.crash.log number). (x.0, (served.begins.records.starts mid.crash.log x.0).0 x.1));
    places = λ number starts. ap (λ (k : Geometry). k.j) (sym served.geom) ∙ r.places number ((served.begins.records.starts mid.crash.log number).1 starts);
  }

  at_once : FitsAmong (state old) mid.books.free_places → OrdersAtOnce mid.books
  at_once h1 = grind (arith, same_places, same_weight)

  syncs_in : SyncsBehind cmd reply mid (state new) → SyncsIn cmd reply (state old) mid.crash.log mid.books.free_places (state new)
  syncs_in s = record {
    orders = λ is fits. s.orders is (at_once fits);
    hears = λ alone fits t came. heard t (s.hears (ap (λ (m : Manner). m.waits_alone) served.manner ∙ alone) (at_once fits) t came);
    written = λ done some.
        let w = (s.written done).some (subst (λ n. 0 < n) (sym same_weight) some) in
        record {
          begun = w.begun;
          from = w.from;
          upto = w.upto;
          commit = w.commit;
          payloads = w.payloads ∙ ap₂ payloads served.geom served.running;
          fresh = w.fresh ∙ ap₂ fresh_blocks served.geom served.running;
          descriptors = w.descriptors;
          told = λ before is. sym (told_end (state new).crash.log) ∙ w.told before (told_behind before is);
          writes = w.writes;
          awaits = w.awaits;
          fits = λ fits. w.fits (omega (arith, fits, same_places));
        };
    idle = λ done none. let w = (s.written done).none (same_weight ∙ none) in (sym (told_end (state new).crash.log) ∙ w.0 ∙ ap (λ (f : List Event → Option (List Commit)). f mid.crash.log) served.begins.records.told, w.1);
    unwritten = s.unwritten;
  }
    where
      heard : (t : ℕ) → IsNoticed t mid.crash.log ⊎ (∥ ((p : ℕ) × mid.crash.awaits p t) ∥₁ ⊎ (is_accepted t mid.crash.log ≡ false)) → IsNoticed t mid.crash.log ⊎ (∥ ((q : ℕ) × (state old).crash.awaits q t) ∥₁ ⊎ (is_accepted t mid.crash.log ≡ false))
      heard t (inl was) = inl was
      heard t (inr (inl some)) = inr (inl (∥∥₁_map some (λ (x : (p : ℕ) × mid.crash.awaits p t). (x.0, served.still x.0 t x.1))))
      heard t (inr (inr late)) = inr (inr late)

  waits_meant : (n : ℕ) → cmd ≡ cmds.Dwait n → cmd ≢ cmds.Bad
  waits_meant n is bad = cc (sym is ∙ bad)

  waits_in : (n : ℕ) → WaitsBehind n mid (state new) → WaitsIn n (state old) mid.crash.log (state new)
  waits_in n w = record {
    hears = λ alone t came. heard t (w.hears (ap (λ (m : Manner). m.waits_alone) served.manner ∙ alone) t came);
    still = w.still;
  }
    where
      heard : (t : ℕ) → IsNoticed t mid.crash.log ⊎ ∥ ((p : ℕ) × (1 ≤ p) × (p ≤ n) × mid.crash.awaits p t) ∥₁ → IsNoticed t mid.crash.log ⊎ ∥ ((q : ℕ) × (1 ≤ q) × (q ≤ n) × (state old).crash.awaits q t) ∥₁
      heard t (inl was) = inl was
      heard t (inr some) = inr (∥∥₁_map some (λ (x : (p : ℕ) × (1 ≤ p) × (p ≤ n) × mid.crash.awaits p t). (x.0, x.1, x.2, served.still x.0 t x.3)))

  says_end : SaysNoMore (moment_of (state new)) (moment_over (state old) (state new).crash.log ⊥)
  says_end = grind (arith, served.begins.sure, served.goes_on.sure, rests_alike)

  pub answered_in : AnsweredIn f cmd reply next (state old) (state new)
  answered_in = record {
    behind = mid.crash.log;
    begins = served.begins.grows;
    goes_on = served.goes_on.grows;
    polls = mid.counts.ticks.polls;
    ticks = λ meant going unspent. served.ticks meant going (left meant going unspent);
    awaits = served.awaits;
    free = mid.books.free_places;
    ring = λ meant going unspent alone. ⊎_elim (λ told. inl (frees told)) (λ all. inr (ap (λ (x : S). (state x).crash.log) all.0, all.1)) (served.ring meant going (left meant going unspent) alone);
    wait = λ n is going unspent. waits_in n (served.wait n is going (left (waits_meant n is) going unspent));
    sync = λ of going unspent. syncs_in (served.sync of going (left (sync_is_meant cmd of) going unspent));
    answers = answer_at_others (state old).books.geom (moment_of mid) (moment_of (state new)) (moment_over (state old) mid.crash.log (commit_places (state old).books ≤ mid.books.free_places)) (moment_over (state old) (state new).crash.log ⊥)
        says_behind says_end f (room_on (state old)) cmd reply next (room_on (state new)) served.answers;
  }

-- As what the log of the session's disk says.

module _ (g : Geometry) (follow : (outside : Refusal → Bool) (was now : Session) (cmd : Cmd) (reply : Reply) → Answers outside was cmd reply now → now ≡ after_reply was cmd reply) (m : Manner) (ses : MountedSession) (of : ses.geom ≡ g) (base : Blocks) (t : Taken) (old : State) (is : old.counts.ticks.manner ≡ m)
    (sure : (front : List Event) (p : ℕ) → old.crash.sure front p ↔ ∥ IsSure ses base front p ∥₁) where
  says_by : (front : List Event) (fits found : Type 0) → (found → fits) → SaysNoMore (moment_over old front fits) (moment_by ses base m front found)
  says_by front fits found more = grind (arith, rests_alike, old.crash.base)

  pub answered_by : (cmd : Cmd) (reply : Reply) (new : State) (f next : Session) (a : AnsweredIn f cmd reply next old new) (own : List Commit) (late : Span) → Grows old.crash.log new.crash.log → old.books.geom ≡ g → t.session ≡ f → (DoneInRing ses base m new.crash.log cmd reply (pace_of t old) (length a.behind) (length new.crash.log) → commit_places old.books ≤ a.free)
      → (room : AnswersBy ses base m new.crash.log cmd reply (pace_of t old) (pace_of (taken_by t old.books.running.weight cmd reply own late) new)) × (room.behind ≡ length a.behind)
  answered_by cmd reply new f next a own late grows geom session fits = (room, refl)
    where
      earlier : take (length old.crash.log) new.crash.log ≡ old.crash.log
      earlier = ap (λ (es : List Event). take (length old.crash.log) es) grows.log ∙ take-append_seam old.crash.log grows.more

      behind : take (length a.behind) new.crash.log ≡ a.behind
      behind = ap (λ (es : List Event). take (length a.behind) es) a.goes_on.log ∙ take-append_seam a.behind a.goes_on.more

      here : AnswersAt g (moment_over old a.behind (commit_places old.books ≤ a.free)) (moment_over old new.crash.log ⊥) f (room_on old) cmd reply next (room_on new)
      here = subst (λ (k : Geometry). AnswersAt k (moment_over old a.behind (commit_places old.books ≤ a.free)) (moment_over old new.crash.log ⊥) f (room_on old) cmd reply next (room_on new)) geom a.answers

      follows : next ≡ after_reply f cmd reply
      follows = follow (λ _. true) f next cmd reply (said g f reply next (room_of old) cmd (room_of new) (answer_in_room g (moment_over old a.behind (commit_places old.books ≤ a.free)) (moment_over old new.crash.log ⊥) f (room_on old) cmd reply next (room_on new) here))

      logged : AnswersAt g (moment_by ses base m a.behind (DoneInRing ses base m new.crash.log cmd reply (pace_of t old) (length a.behind) (length new.crash.log))) (moment_by ses base m new.crash.log ⊥) f (room_on old) cmd reply next (room_on new)
      logged = answer_at_others g (moment_over old a.behind (commit_places old.books ≤ a.free)) (moment_over old new.crash.log ⊥) (moment_by ses base m a.behind (DoneInRing ses base m new.crash.log cmd reply (pace_of t old) (length a.behind) (length new.crash.log))) (moment_by ses base m new.crash.log ⊥)
          (says_by a.behind (commit_places old.books ≤ a.free) (DoneInRing ses base m new.crash.log cmd reply (pace_of t old) (length a.behind) (length new.crash.log)) fits) (says_by new.crash.log ⊥ ⊥ (λ none. none)) f (room_on old) cmd reply next (room_on new) here

      cut : AnswersAt g (moment_by ses base m (take (length a.behind) new.crash.log) (DoneInRing ses base m new.crash.log cmd reply (pace_of t old) (length a.behind) (length new.crash.log))) (moment_by ses base m (take (length new.crash.log) new.crash.log) ⊥) f (room_on old) cmd reply next (room_on new)
      cut = subst (λ (es : List Event). AnswersAt g (moment_by ses base m es (DoneInRing ses base m new.crash.log cmd reply (pace_of t old) (length a.behind) (length new.crash.log))) (moment_by ses base m (take (length new.crash.log) new.crash.log) ⊥) f (room_on old) cmd reply next (room_on new)) (sym behind)
          (subst (λ (es : List Event). AnswersAt g (moment_by ses base m a.behind (DoneInRing ses base m new.crash.log cmd reply (pace_of t old) (length a.behind) (length new.crash.log))) (moment_by ses base m es ⊥) f (room_on old) cmd reply next (room_on new)) (sym (take-length new.crash.log)) logged)

      told : AnswersAt g (moment_by ses base m (take (length a.behind) new.crash.log) (DoneInRing ses base m new.crash.log cmd reply (pace_of t old) (length a.behind) (length new.crash.log))) (moment_by ses base m (take (length new.crash.log) new.crash.log) ⊥) t.session (room_on old) cmd reply (after_reply t.session cmd reply) (room_on new)
      told = grind (arith, a.behind, new.crash.log, follows, cut)

      room : AnswersBy ses base m new.crash.log cmd reply (pace_of t old) (pace_of (taken_by t old.books.running.weight cmd reply own late) new)
      room = record {
        behind = length a.behind;
        from = omega (arith, ap (λ (es : List Event). length es) a.begins.log, length-append old.crash.log a.begins.more);
        upto = omega (arith, ap (λ (es : List Event). length es) a.goes_on.log, length-append a.behind a.goes_on.more);
        polls = a.polls;
        ticks = λ meant going unspent.
            subst (λ (es : List Event). PollsThenWrites m 64 old.counts.ticks.polls es a.polls (take (length a.behind) new.crash.log)) (sym earlier)
            (subst (λ (es : List Event). PollsThenWrites m 64 old.counts.ticks.polls old.crash.log a.polls es) (sym behind)
            (subst (λ (x : Manner). PollsThenWrites x 64 old.counts.ticks.polls old.crash.log a.polls a.behind) is (a.ticks meant going unspent)));
        answers = subst (λ (k : Geometry). AnswersAt k (moment_by ses base m (take (length a.behind) new.crash.log) (DoneInRing ses base m new.crash.log cmd reply (pace_of t old) (length a.behind) (length new.crash.log))) (moment_by ses base m (take (length new.crash.log) new.crash.log) ⊥) t.session (room_on old) cmd reply (after_reply t.session cmd reply) (room_on new)) (sym of) told;
      }

-- What was said of a shorter log holds of a longer one.

pub own_longer : (ses : MountedSession) (log more : List Event) (behind mark : ℕ) → mark ≤ length log → own_records ses (log ++ more) behind mark ≡ own_records ses log behind mark
own_longer ses log more behind mark le = ap (λ (es : List Event). commits_told ses.geom ses.epoch (drop behind es)) (take-append-le mark log more le)

pub answered_longer : (ses : MountedSession) (base : Blocks) (m : Manner) (log more : List Event) (cmd : Cmd) (reply : Reply) (p q : Pace) → p.events ≤ length log → q.events ≤ length log → (a : AnswersBy ses base m log cmd reply p q) → (room : AnswersBy ses base m (log ++ more) cmd reply p q) × (a.behind ≡ room.behind)
answered_longer ses base m log more cmd reply p q low low_next a = (room, refl)
  where
    front : (k : ℕ) → k ≤ length log → take k (log ++ more) ≡ take k log
    front k le = take-append-le k log more le

    within : a.behind ≤ length log
    within = omega (arith, a.upto, low_next)

    found_then : DoneInRing ses base m (log ++ more) cmd reply p a.behind q.events → DoneInRing ses base m log cmd reply p a.behind q.events
    found_then d = record {
      done = d.done;
      some = d.some;
      going = d.going;
      alone = d.alone;
      finds = subst (λ (es : List Event). FindsPlaces ses base es (places_wanted reply p.room.room.weight (own_records ses log a.behind q.events))) (front a.behind within)
          (subst (λ (own : List Commit). FindsPlaces ses base (take a.behind (log ++ more)) (places_wanted reply p.room.room.weight own)) (own_longer ses log more a.behind q.events low_next) d.finds);
    }

    room : AnswersBy ses base m (log ++ more) cmd reply p q
    room = record {
      behind = a.behind;
      from = a.from;
      upto = a.upto;
      polls = a.polls;
      ticks = λ meant going unspent.
          subst (λ (es : List Event). PollsThenWrites m 64 p.polls es a.polls (take a.behind (log ++ more))) (sym (front p.events low))
          (subst (λ (es : List Event). PollsThenWrites m 64 p.polls (take p.events log) a.polls es) (sym (front a.behind within)) (a.ticks meant going unspent));
      answers = subst (λ (es : List Event). AnswersAt ses.geom (moment_by ses base m es (DoneInRing ses base m (log ++ more) cmd reply p a.behind q.events)) (moment_by ses base m (take q.events (log ++ more)) ⊥) p.taken.session p.room cmd reply q.taken.session q.room) (sym (front a.behind within))
          (subst (λ (es : List Event). AnswersAt ses.geom (moment_by ses base m (take a.behind log) (DoneInRing ses base m (log ++ more) cmd reply p a.behind q.events)) (moment_by ses base m es ⊥) p.taken.session p.room cmd reply q.taken.session q.room) (sym (front q.events low_next))
          (answer_at_others ses.geom (moment_by ses base m (take a.behind log) (DoneInRing ses base m log cmd reply p a.behind q.events)) (moment_by ses base m (take q.events log) ⊥) (moment_by ses base m (take a.behind log) (DoneInRing ses base m (log ++ more) cmd reply p a.behind q.events)) (moment_by ses base m (take q.events log) ⊥)
          (no_more (take a.behind log) (DoneInRing ses base m log cmd reply p a.behind q.events) (DoneInRing ses base m (log ++ more) cmd reply p a.behind q.events) found_then) (no_more (take q.events log) ⊥ ⊥ (λ none. none)) p.taken.session p.room cmd reply q.taken.session q.room a.answers));
    }
      where
        no_more : (es : List Event) (fits other : Type 0) → (other → fits) → SaysNoMore (moment_by ses base m es fits) (moment_by ses base m es other)
        no_more es fits other then = record { alone = refl; sure = λ p. (λ is. is, λ is. is); rests = λ b. (λ is. is, λ is. is); fits = then }
