-- Each command is answered in the room of its session.
use Rattle.std.proofs.Common.{◌≡◌, ◌≢◌, ◌⊎◌, ◌≤◌, inl, inr, ⊎_elim, Bool, true, false, Ok, Err, Result, refl, sym, subst, ap, ◌∙◌, arith, ℕ}
use Rattle.std.proofs.lemmas.Bool.{true≢false}
use Rattle.lang_tree.specs.declared.command.Cmd.{Cmd}
use Rattle.lang_tree.specs.declared.command.Cmd.TheVariants.{Osync, Dsync, Durable, Dwait, Poll, Bad}
use Rattle.lang_tree.specs.declared.command.Refusal.{Refusal}
use Rattle.lang_tree.specs.declared.command.Reply.{Reply}
use Rattle.lang_tree.specs.declared.command.Reply.TheVariants.{Ok as Done, Known, Bad as NotUnderstood}
use Rattle.lang_tree.specs.Step.{Session, step}
use Rattle.layout_geometry.specs.Geometry.{Geometry}
use Rattle.engine_blocks.specs.State.{State}
use Rattle.fs_session.specs.Applying.{Applies, Began, Runs, Ticks, reply_for}
use Rattle.fs_session.specs.Memory.{room_of}
use Rattle.fs_session.specs.Room.{AnswersIn, Room}
use Rattle.fs_session.specs.Sessions.{IsSession}
use Rattle.fs_session.specs.Staying.{session_ticks}
use Rattle.fs_session.proofs.rooms.Carried.{InMemory, carried_in, stays}
use Rattle.fs_session.proofs.rooms.Known.{LeavesSession}
use Rattle.fs_session.proofs.rooms.Same.{never_failed}
use Rattle.fs_session.proofs.rooms.Synced.{synced_in}
use Rattle.fs_session.specs.Syncs.{WaitsSession}
use Rattle.fs_session.specs.Commands.{is_disk_fault}
use Rattle.base_types.specs.Counts.{after_call}

-- a line is none, or a command
pub bad_or_not : (cmd : Cmd) → (cmd ≡ Bad) ⊎ (cmd ≢ Bad)
bad_or_not Bad = inl refl
bad_or_not cmd = inr (λ e. absurd cc)

-- the blocks are those of a session after the command, which was answered in the room
abbrev pub AnswersRoom : {S : Type 0} → (S → State) → Session → Cmd → Reply → S → S → Type 0
AnswersRoom state f cmd reply old new = LeavesSession state old new (λ next. AnswersIn (state old).books.geom f (room_of (state old)) cmd reply next (room_of (state new)))

-- a line that is none, and a command that does nothing, leave all as it was
pub bad_in : {S : Type 0} (state : S → State) (f : Session) (reply : Reply) (old new : S) → IsSession (state old) f → (reply ≡ NotUnderstood) × (new ≡ old) → AnswersRoom state f Bad reply old new
bad_in state f reply old new h is = (f, subst (λ s. IsSession (state s) f) (sym is.1) h, ap (λ s. (state s).books.geom) is.1, (ap (λ r. (f, r)) (sym is.0), ap (λ s. room_of (state s)) is.1))

module _ {S : Type 0} (state : S → State) (f : Session) (result : Result Reply Refusal) (old new : S) (h : IsSession (state old) f) where
  pub polled_in : (result ≡ Ok Done) × (new ≡ old) → AnswersRoom state f Poll (reply_for result) old new
  polled_in ran = (f, subst (λ s. IsSession (state s) f) (sym ran.1) h, ap (λ s. (state s).books.geom) ran.1, (ap (λ r. (f, r)) (sym (ap reply_for ran.0)), ap (λ s. room_of (state s)) ran.1))

  -- it asks which point the disk has
  pub known_in : (state old).books.floor ≤ f.points → (result ≡ Ok (Known (state old).books.floor)) × (new ≡ old) → AnswersRoom state f Durable (reply_for result) old new
  known_in upto ran = (
    f,
    subst (λ s. IsSession (state s) f) (sym ran.1) h,
    ap (λ s. (state s).books.geom) ran.1,
    (record { asked = refl; point = (state old).books.floor; is = ap reply_for ran.0; from = h.durable; upto = upto; same = refl }, ap (λ s. room_of (state s)) ran.1),
  )

module _ {S : Type 0} (tells : Bool) (state : S → State) (here : InMemory tells state) where
  -- a wait for a point: where blocks lie in memory, no call fails
  waited_in : (f : Session) (n : ℕ) (result : Result Reply Refusal) (old new : S) → IsSession (state old) f → WaitsSession tells n result (state old) (state new) → AnswersRoom state f (Dwait n) (reply_for result) old new
  waited_in f n (Ok reply) old new h w =
      let d = w.done here.known.told f h in
      let moves = w.runs.pipeline in (
        (step f (Dwait n)).0,
        d.1,
        moves.geom,
        (ap (λ r. ((step f (Dwait n)).0, r)) (sym d.0), stays tells state here old new moves.geom (w.runs.map here.known.told) moves.running moves.reusable),
      )
  waited_in f n (Err why) old new h w =
      absurd (true≢false (never_failed true (state old).counts.faults (state new).counts.faults (w.runs.disk.faults ∙ ap (λ (x : Refusal). after_call (is_disk_fault (Err x)) (state old).counts.faults) w.refused) (here.lies.faults new)))

  module _ (f : Session) (result : Result Reply Refusal) (old new : S) (going : (state old).books.stopped ≡ false) (h : IsSession (state old) f) where
    -- a command that ran
    pub run_in : (cmd : Cmd) → cmd ≢ Bad → Runs tells state cmd result old new → AnswersRoom state f cmd (reply_for result) old new
    run_in Osync good ran = synced_in tells state here true f Osync result old new h ran
    run_in Dsync good ran = synced_in tells state here false f Dsync result old new h ran
    run_in Durable good ran = known_in state f result old new h (omega (arith, (here.known.sound old).floor, h.points going)) ran
    run_in (Dwait n) good ran = waited_in f n result old new h ran
    run_in Poll good ran = polled_in state f result old new h ran
    run_in Bad good ran = absurd (good refl)
    run_in cmd good ran = carried_in tells state here f cmd result old new h ran

  -- a tick leaves the room as it is
  behind_tick : (f : Session) (cmd : Cmd) (reply : Reply) (old mid new : S) → Ticks tells false (state old) (state mid) → AnswersRoom state f cmd reply mid new → AnswersRoom state f cmd reply old new
  behind_tick f cmd reply old mid new ticks x = (
    x.0,
    x.1,
    x.2 ∙ geom,
    subst (λ (r : Room). AnswersIn (state old).books.geom f r cmd reply x.0 (room_of (state new))) same (subst (λ (g : Geometry). AnswersIn g f (room_of (state mid)) cmd reply x.0 (room_of (state new))) geom x.3),
  )
    where
      geom : (state mid).books.geom ≡ (state old).books.geom
      geom = ticks.moves.pipeline.geom

      same : room_of (state mid) ≡ room_of (state old)
      same = stays tells state here old mid geom (ticks.moves.map here.known.told) ticks.moves.pipeline.running ticks.moves.pipeline.reusable

  -- a command that began
  begun_in : (f : Session) (cmd : Cmd) (reply : Reply) (old new : S) → cmd ≢ Bad → (state old).books.stopped ≡ false → IsSession (state old) f → Began tells state cmd reply old new → AnswersRoom state f cmd reply old new
  begun_in f cmd reply old new good going h began = ⊎_elim
      (λ failed. absurd (true≢false (never_failed true (state old).counts.faults (state new).counts.faults failed.0.moves.disk.faults (here.lies.faults new))))
      (λ ran. subst (λ r. AnswersRoom state f cmd r old new) (sym began.is)
      (behind_tick f cmd (reply_for began.result) old began.mid new ran.0
      (run_in f began.result began.mid new ran.0.moves.disk.stopped (session_ticks tells false (state old) (state began.mid) ran.0 f going here.known.told h) cmd good ran.1))) began.ran

  -- each command
  pub applied_in : (f : Session) (cmd : Cmd) (reply : Reply) (old new : S) → IsSession (state old) f → Applies tells state cmd reply old new → AnswersRoom state f cmd reply old new
  applied_in f cmd reply old new h applies = ⊎_elim
      (λ bad. subst (λ c. AnswersRoom state f c reply old new) (sym bad) (bad_in state f reply old new h (applies.bad bad)))
      (λ good. begun_in f cmd reply old new good (here.lies.going old) h (applies.began good (here.lies.going old) (here.lies.unspent old))) (bad_or_not cmd)
