-- Over any map of blocks each command is answered in a room of its session that came back, or refused by the disk.
use Rattle.std.proofs.Common.{◌≡◌, ◌≢◌, ◌⊎◌, inl, inr, ⊎_elim, ◌<◌, ◌==◌, Bool, true, false, if◌then◌else◌, Ok, Err, Result, refl, sym, subst, ap, ap₂, ◌∙◌, arith, ℕ}
use Rattle.std.proofs.lemmas.Bool.{cases_Bool, cond-true, cond-false, eqb-true}
use Rattle.base_types.specs.Seal.{Blocks}
use Rattle.layout_geometry.specs.Geometry.{Geometry}
use Rattle.lang_tree.specs.declared.command.Cmd.{Cmd}
use Rattle.lang_tree.specs.declared.command.Cmd.TheVariants.{Osync, Dsync, Durable, Dwait, Poll, Bad}
use Rattle.lang_tree.specs.declared.command.Refusal.{Refusal}
use Rattle.lang_tree.specs.declared.command.Refusal.TheVariants as because
use Rattle.lang_tree.specs.declared.command.Reply.{Reply}
use Rattle.lang_tree.specs.declared.command.Reply.TheVariants.{Refused}
use Rattle.lang_tree.specs.Step.{Session, step}
use Rattle.engine_blocks.specs.Running.{Running, nothing_running}
use Rattle.engine_blocks.specs.State.{Bookkeeping, State}
use Rattle.fs_session.specs.Applying.{Applies, Began, Runs, Ticks, reply_for}
use Rattle.fs_session.specs.DiskRoom.{AnswersOn, AnswersOver, BeginsOver, ComesBack, IsRoomOf, KeepsRoom, SyncsOver}
use Rattle.fs_session.specs.Memory.{room_of}
use Rattle.fs_session.specs.Room.{RefusesIn, Room}
use Rattle.fs_session.specs.Sessions.{IsSession}
use Rattle.fs_session.specs.Syncs.{SyncsSession, WaitsSession}
use Rattle.fs_session.specs.Staying.{session_ticks}
use Rattle.fs_session.proofs.applying.Cases.{answered_as}
use Rattle.fs_session.proofs.rooms.Answered.{bad_in, known_in, polled_in}
use Rattle.fs_session.proofs.rooms.Carried.{carried_over}
use Rattle.fs_session.proofs.rooms.Known.{Known, LeavesSession, back_again, brings_back, keeps_room, room_is}

-- the blocks are those of a session after a command that began, which was answered in a room that came back
abbrev pub AnswersBack : {S : Type 0} → (S → State) → Session → Cmd → Reply → S → S → Type 0
AnswersBack state f cmd reply old new = LeavesSession state old new (λ next. (back : Room) × ComesBack (state old).books.geom f (room_of (state old)) back × AnswersOver (state old).books.geom f back cmd reply next (room_of (state new)))

-- and behind its tick
abbrev pub BeginsDisk : {S : Type 0} → (S → State) → Session → Cmd → Reply → S → S → Type 0
BeginsDisk state f cmd reply old new = LeavesSession state old new (λ next. BeginsOver (state old).books.geom f (room_of (state old)) cmd reply next (room_of (state new)))

-- or any command
abbrev pub AnswersDisk : {S : Type 0} → (S → State) → Session → Cmd → Reply → S → S → Type 0
AnswersDisk state f cmd reply old new = LeavesSession state old new (λ next. AnswersOn (state old).books.geom f (room_of (state old)) cmd reply next (room_of (state new)))

-- a command but a bad line is refused at once, or begins
pub answers_on : (g : Geometry) (f : Session) (r : Room) (cmd : Cmd) (reply : Reply) (next : Session) (room : Room) → cmd ≢ Bad → RefusesIn (λ why. (why ≡ because.Stopped) ⊎ (why ≡ because.Spent)) f r reply next room ⊎ BeginsOver g f r cmd reply next room
    → AnswersOn g f r cmd reply next room
answers_on g f r Bad reply next room good x = absurd (good refl)
answers_on g f r cmd reply next room good x = x

-- the disk failed in the tick
pub tick_failed : (g : Geometry) (f : Session) (r : Room) (cmd : Cmd) → cmd ≢ Bad → AnswersOver g f r cmd (Refused because.DiskFault) f r
tick_failed g f r Bad good = absurd (good refl)
tick_failed g f r Osync good = inr (inr (refl, refl, record { places = refl; kept = refl; takeable = λ b may. may }))
tick_failed g f r Dsync good = inr (inr (refl, refl, record { places = refl; kept = refl; takeable = λ b may. may }))
tick_failed g f r cmd good = inr (because.DiskFault, inl refl, refl, refl, refl)

-- what a sync leaves of the weight and the held blocks
weight_after : (r : Running) → (if r.weight == 0 then r else nothing_running).weight ≡ 0
weight_after r = ⊎_elim
    (λ none. ap (λ (k : Running). k.weight) (cond-true (r.weight == 0) r nothing_running none) ∙ eqb-true r.weight 0 none)
    (λ some. ap (λ (k : Running). k.weight) (cond-false (r.weight == 0) r nothing_running some)) (cases_Bool (r.weight == 0))

held_after : (r : Running) → (if r.weight == 0 then r else nothing_running).held ≡ (if r.weight == 0 then r.held else 0)
held_after r = ⊎_elim
    (λ none. ap (λ (k : Running). k.held) (cond-true (r.weight == 0) r nothing_running none) ∙ sym (cond-true (r.weight == 0) r.held 0 none))
    (λ some. ap (λ (k : Running). k.held) (cond-false (r.weight == 0) r nothing_running some) ∙ sym (cond-false (r.weight == 0) r.held 0 some)) (cases_Bool (r.weight == 0))

module _ {S : Type 0} (tells : Bool) (state : S → State) (known : Known tells state) where
  -- a session's room came back to itself
  pub itself : (f : Session) (s : S) → IsSession (state s) f → ComesBack (state s).books.geom f (room_of (state s)) (room_of (state s))
  itself f s h = record { weight = refl; held = refl; keeps = record { places = refl; kept = refl; takeable = λ b may. may }; is_room = room_is tells state known s f h }

  -- a sync
  pub synced_over : (orders : Bool) (f : Session) (cmd : Cmd) (result : Result Reply Refusal) (old new : S) → IsSession (state old) f → SyncsSession tells orders cmd result (state old) (state new)
      → LeavesSession state old new (λ next. SyncsOver f (room_of (state old)) cmd (reply_for result) next (room_of (state new)))
  synced_over orders f cmd (Ok reply) old new h syncs =
      let d = syncs.done known.told f h in
      let running : Running = (state old).books.running in (
        (step f cmd).0,
        d.1,
        syncs.geom,
        inl (
          ap (λ r. ((step f cmd).0, r)) (sym d.0),
          record {
            weight = ap (λ (r : Running). r.weight) syncs.ends ∙ weight_after running;
            held = ap (λ (r : Running). r.held) syncs.ends ∙ held_after running;
            keeps = keeps_room tells state known old new syncs.geom (syncs.map known.told) syncs.takeable;
          },
        ),
      )
  synced_over orders f cmd (Err why) old new h syncs = (f, syncs.kept known.told f h, syncs.geom, inr (by syncs.refused))
    where
      by : (why ≡ because.DiskFault) ⊎ (why ≡ because.NoMemory)
          → RefusesIn (λ why. (why ≡ because.NoMemory) × (0 < (room_of (state old)).weight)) f (room_of (state old)) (Refused why) f (room_of (state new)) ⊎ ((Refused why ≡ Refused because.DiskFault) × (f ≡ f) × KeepsRoom (room_of (state old)) (room_of (state new)))
      by (inl disk) = inr (ap (λ w. Refused w) disk, refl, keeps_room tells state known old new syncs.geom (syncs.map known.told) syncs.takeable)
      by (inr memory) =
          let none = syncs.unspent (ap (λ w. Err w) memory) in
          inl (why, (memory, none.1), refl, refl, ap₂ (λ (k : Bookkeeping) (m : Blocks). room_of (record (state old) { books = k; map = m })) none.0 (syncs.map known.told))

  -- a wait for a point is answered in the room that it leaves
  pub waited_back : (f : Session) (n : ℕ) (result : Result Reply Refusal) (old new : S) → IsSession (state old) f → WaitsSession tells n result (state old) (state new) → ComesBack (state old).books.geom f (room_of (state old)) (room_of (state new))
  waited_back f n result old new h w =
      let moves = w.runs.pipeline in
      brings_back tells state known old new f (w.kept known.told f h) moves.geom (w.runs.map known.told) moves.running moves.reusable

  waited_over : (f : Session) (n : ℕ) (result : Result Reply Refusal) (old new : S) → IsSession (state old) f → WaitsSession tells n result (state old) (state new) → AnswersBack state f (Dwait n) (reply_for result) old new
  waited_over f n (Ok reply) old new h w =
      let d = w.done known.told f h in
      ((step f (Dwait n)).0, d.1, w.runs.pipeline.geom, (room_of (state new), waited_back f n (Ok reply) old new h w, inl (ap (λ r. ((step f (Dwait n)).0, r)) (sym d.0), refl)))
  waited_over f n (Err why) old new h w =
      (f, w.kept known.told f h, w.runs.pipeline.geom, (room_of (state new), waited_back f n (Err why) old new h w, inr (why, inl w.refused, refl, refl, refl)))

  module _ (f : Session) (result : Result Reply Refusal) (old new : S) (going : (state old).books.stopped ≡ false) (h : IsSession (state old) f) where
    synced_back : (cmd : Cmd) → LeavesSession state old new (λ next. SyncsOver f (room_of (state old)) cmd (reply_for result) next (room_of (state new)))
        → LeavesSession state old new (λ next. (back : Room) × ComesBack (state old).books.geom f (room_of (state old)) back × SyncsOver f back cmd (reply_for result) next (room_of (state new)))
    synced_back cmd x = (x.0, x.1, x.2, (room_of (state old), itself f old h, x.3))

    -- a command that ran
    run_over : (cmd : Cmd) → cmd ≢ Bad → Runs tells state cmd result old new → AnswersBack state f cmd (reply_for result) old new
    run_over Osync good ran = synced_back Osync (synced_over true f Osync result old new h ran)
    run_over Dsync good ran = synced_back Dsync (synced_over false f Dsync result old new h ran)
    run_over Durable good ran = let x = known_in state f result old new h (omega (arith, (known.sound old).floor, h.points going)) ran in (x.0, x.1, x.2, (room_of (state old), itself f old h, inl x.3))
    run_over (Dwait n) good ran = waited_over f n result old new h ran
    run_over Poll good ran = let x = polled_in state f result old new h ran in (x.0, x.1, x.2, (room_of (state old), itself f old h, inl x.3))
    run_over Bad good ran = absurd (good refl)
    run_over cmd good ran = carried_over tells state known f cmd result old new refl h ran

  -- a tick brings the room back
  pub tick_back : (failed : Bool) (f : Session) (old mid : S) → Ticks tells failed (state old) (state mid) → IsSession (state mid) f → ComesBack (state old).books.geom f (room_of (state old)) (room_of (state mid))
  tick_back failed f old mid ticks h = brings_back tells state known old mid f h ticks.moves.pipeline.geom (ticks.moves.map known.told) ticks.moves.pipeline.running ticks.moves.pipeline.reusable

  -- behind it a command begins
  behind_tick : (f : Session) (cmd : Cmd) (reply : Reply) (old mid new : S) → Ticks tells false (state old) (state mid) → IsSession (state mid) f → AnswersBack state f cmd reply mid new → BeginsDisk state f cmd reply old new
  behind_tick f cmd reply old mid new ticks h x = (
    x.0,
    x.1,
    x.2 ∙ geom,
    record {
      back = x.3.0;
      comes_back = back_again (state old).books.geom f (room_of (state old)) (room_of (state mid)) x.3.0 (tick_back false f old mid ticks h) (subst (λ (g : Geometry). ComesBack g f (room_of (state mid)) x.3.0) geom x.3.1);
      answers = subst (λ (g : Geometry). AnswersOver g f x.3.0 cmd reply x.0 (room_of (state new))) geom x.3.2;
      is_room = subst (λ (g : Geometry). IsRoomOf g x.0 (room_of (state new))) (x.2 ∙ geom) (room_is tells state known new x.0 x.1);
    },
  )
    where
      geom : (state mid).books.geom ≡ (state old).books.geom
      geom = ticks.moves.pipeline.geom

  -- a command that began
  pub begun_over : (f : Session) (cmd : Cmd) (reply : Reply) (old new : S) → cmd ≢ Bad → (state old).books.stopped ≡ false → IsSession (state old) f → Began tells state cmd reply old new → BeginsDisk state f cmd reply old new
  begun_over f cmd reply old new good going h began = ⊎_elim
      (λ failed.
      let same = session_ticks tells true (state old) (state new) failed.0 f going known.told h in
      let back = tick_back true f old new failed.0 same in
      subst (λ r. BeginsDisk state f cmd r old new) (sym (began.is ∙ ap reply_for failed.1)) (
        f,
        same,
        failed.0.moves.pipeline.geom,
        record {
          back = room_of (state new);
          comes_back = back;
          answers = tick_failed (state old).books.geom f (room_of (state new)) cmd good;
          is_room = back.is_room;
        },
      ))
      (λ ran.
      let same = session_ticks tells false (state old) (state began.mid) ran.0 f going known.told h in
      subst (λ r. BeginsDisk state f cmd r old new) (sym began.is)
      (behind_tick f cmd (reply_for began.result) old began.mid new ran.0 same (run_over f began.result began.mid new ran.0.moves.disk.stopped same cmd good ran.1))) began.ran

  -- a command that is refused at once
  at_once : (f : Session) (cmd : Cmd) (reply : Reply) (why : Refusal) (old new : S) → cmd ≢ Bad → (why ≡ because.Stopped) ⊎ (why ≡ because.Spent) → IsSession (state old) f → (reply ≡ Refused why) × (new ≡ old) → AnswersDisk state f cmd reply old new
  at_once f cmd reply why old new good cause h is = (
    f,
    subst (λ s. IsSession (state s) f) (sym is.1) h,
    ap (λ s. (state s).books.geom) is.1,
    answers_on (state old).books.geom f (room_of (state old)) cmd reply f (room_of (state new)) good (inl (why, cause, is.0, refl, ap (λ s. room_of (state s)) is.1)),
  )

  -- each command
  pub applied_over : (f : Session) (cmd : Cmd) (reply : Reply) (old new : S) → IsSession (state old) f → Applies tells state cmd reply old new → AnswersDisk state f cmd reply old new
  applied_over f cmd reply old new h applies = answered_as tells state cmd reply old new (AnswersDisk state f cmd reply old new) applies
      (λ bad r. subst (λ c. AnswersDisk state f c reply old new) (sym bad) (bad_in state f reply old new h r))
      (λ good stopped r. at_once f cmd reply because.Stopped old new good (inl refl) h r)
      (λ good spent r. at_once f cmd reply because.Spent old new good (inr refl) h r)
      (λ good going left began.
      let x = begun_over f cmd reply old new good going h began in
      (x.0, x.1, x.2, answers_on (state old).books.geom f (room_of (state old)) cmd reply x.0 (room_of (state new)) good (inr x.3)))
