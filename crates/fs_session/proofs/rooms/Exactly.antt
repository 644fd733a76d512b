-- Over any map of blocks each command is answered in the room of its session with what waits, at the moment behind its tick and the one as it ends; or the disk fails it.
use Rattle.std.proofs.Common.{◌≡◌, ◌≢◌, ◌⊎◌, inl, inr, ⊎_elim, ℕ, ◌<◌, Bool, true, false, IsTrue, IfOk, OnOk, Ok, Err, Result, refl, sym, subst, ap, ◌∙◌, arith}
use Rattle.std.proofs.lemmas.Bool.{cases_Bool, true≢false, false≢true}
use Rattle.disk_contract.specs.Cell.{is_accepted}
use Rattle.disk_contract.specs.Manner.{Manner}
use Rattle.layout_geometry.specs.Geometry.{Geometry}
use Rattle.lang_tree.specs.declared.command.Cmd.{Cmd}
use Rattle.lang_tree.specs.declared.command.Cmd.TheVariants.{Osync, Dsync, Durable, Dwait, Poll, Bad}
use Rattle.lang_tree.specs.declared.command.Refusal.{Refusal}
use Rattle.lang_tree.specs.declared.command.Refusal.TheVariants as because
use Rattle.lang_tree.specs.declared.command.Reply.{Reply}
use Rattle.lang_tree.specs.declared.command.Reply.TheVariants.{Refused}
use Rattle.lang_tree.specs.Figures.{Figures}
use Rattle.lang_tree.specs.Points.{is_refusal, is_sync}
use Rattle.lang_tree.specs.Step.{Session, osync, step}
use Rattle.engine_blocks.specs.Crashes.{Advances, AwaitsSince, IsTold}
use Rattle.engine_blocks.specs.Effects.{RingIsTold}
use Rattle.engine_blocks.specs.Puts.{IsData}
use Rattle.engine_blocks.specs.State.{State}
use Rattle.fs_session.specs.Applying.{Applies, Began, Runs, Ticks, is_spent, reply_for}
use Rattle.fs_session.specs.Commands.{Carries, IsRefusedFor, is_disk_fault, is_on_tree}
use Rattle.fs_session.specs.DiskRoom.{AnswersOver, IsRoomOf, SyncsOver}
use Rattle.fs_session.specs.Memory.{room_of}
use Rattle.fs_session.specs.Room.{Room, figures_in, left_in, most_weight}
use Rattle.fs_session.specs.Serving.{AnswersAt, AnyAt, BeginsAt, EndsSync, LeavesWaiting, Moment, RoomOn, SameWait, ServesCommand, SettlesRoom, SyncsBehind, TicksRoom, WaitsBehind, moment_of, room_on}
use Rattle.fs_session.specs.Sessions.{IsSession}
use Rattle.fs_session.specs.Space.{FailsToFit, FitsIn, HasRoom}
use Rattle.fs_session.specs.Syncs.{SyncsSession, WaitsSession}
use Rattle.fs_session.proofs.Logs.{grows_by_none}
use Rattle.fs_session.proofs.applying.Cases.{answered_as}
use Rattle.fs_session.proofs.applying.Causes.{same_reason}
use Rattle.fs_session.proofs.applying.Passing.{of_run}
use Rattle.fs_session.specs.Staying.{freed_alike, session_ticks, tree_stays}
use Rattle.fs_session.proofs.applying.Telling.{fault_is}
use Rattle.fs_session.proofs.applying.Waiting.{fits_still}
use Rattle.fs_session.proofs.rooms.Answered.{known_in, polled_in}
use Rattle.fs_session.proofs.rooms.Carried.{EndsOver, done_in, fits_in, refused_back, refused_over, settled_back}
use Rattle.fs_session.proofs.rooms.Known.{Known, LeavesSession, room_is}
use Rattle.fs_session.proofs.rooms.Nodes.{in_use_is}
use Rattle.fs_session.proofs.rooms.Over.{begun_over, itself, synced_over, tick_back, waited_back}
use Rattle.fs_session.proofs.rooms.Waits.{all_or_none, room_on_with, same_wait, serves_room, syncs_room_on}

-- a point that is waited for since is a new one, and waits for a write behind the tick, which made no point
awaits_since : (old mid new : State) → IsTold mid → mid.books.point ≡ old.books.point → Advances old mid → Advances mid new → (p t : ℕ) → new.crash.awaits p t → old.crash.awaits p t ⊎ ((old.books.point < p) × (is_accepted t mid.crash.log ≡ false))
awaits_since old mid new told point first then p t waits = by (then.awaits p t waits)
  where
    before : mid.crash.awaits p t → old.crash.awaits p t ⊎ AwaitsSince old p t → old.crash.awaits p t ⊎ ((old.books.point < p) × (is_accepted t mid.crash.log ≡ false))
    before waits (inl old) = inl old
    before waits (inr since) = absurd (omega (arith, since.point, (told.awaits p t waits).upto, point))

    by : mid.crash.awaits p t ⊎ AwaitsSince mid p t → old.crash.awaits p t ⊎ ((old.books.point < p) × (is_accepted t mid.crash.log ≡ false))
    by (inl waits) = before waits (first.awaits p t waits)
    by (inr since) = inr (omega (arith, since.point, point), since.ticket)

-- a tick, which made no point, makes none wait
still_awaits : (old mid : State) → IsTold mid → mid.books.point ≡ old.books.point → Advances old mid → (p t : ℕ) → mid.crash.awaits p t → old.crash.awaits p t
still_awaits old mid told point first p t waits = ⊎_elim
    (λ was. was)
    (λ since. absurd (omega (arith, since.point, (told.awaits p t waits).upto, point))) (first.awaits p t waits)

-- nothing settles for what is refused for want of room
abbrev pub SettlesNoneFor : Geometry → Session → RoomOn → RoomOn → Cmd → Reply → Type 0
SettlesNoneFor g f back ready cmd reply = (why : Refusal) → reply ≡ Refused why → FailsToFit (left_in g f back.room) back.room.weight (most_weight g) (figures_in g f back.room cmd) why → SameWait g back ready

-- what fits doesn't fail to
fits_well : (left weighs most : ℕ) (n : Figures) (why : Refusal) → FitsIn left weighs most n → FailsToFit left weighs most n why → ⊥
fits_well left weighs most n why fits (inl full) = absurd (omega (arith, fits.blocks, full.blocks))
fits_well left weighs most n why fits (inr big) = absurd (omega (arith, fits.weight, big.weight))

-- a failed read, or want of memory
abbrev is_other_want : Refusal → Bool
is_other_want because.ReadFault = true
is_other_want because.NoMemory = true
is_other_want _ = false

-- want of room is neither
no_other_want : (left weighs most : ℕ) (n : Figures) (why : Refusal) → FailsToFit left weighs most n why → is_other_want why ≡ false
no_other_want left weighs most n why (inl full) = ap is_other_want full.is
no_other_want left weighs most n why (inr big) = ap is_other_want big.is

-- What comes behind a tick: the command has the blocks that it needs, is answered in that room, and leaves waiting what it may.
pub record Behind (g : Geometry) (at end : Moment) (f : Session) (back : RoomOn) (cmd : Cmd) (reply : Reply) (next : Session) (new : RoomOn) : Type 0 where
  pub ready : RoomOn
  pub settles : SettlesRoom g f (figures_in g f back.room cmd).need back ready
  pub full : SettlesNoneFor g f back ready cmd reply
  pub answers : AnswersOver g f ready.room cmd reply next new.room
  pub leaves : LeavesWaiting g at end cmd reply next ready new

-- A command on the tree so: it ends in a room, and what waited waits.
pub record CarriedIn (g : Geometry) (f : Session) (cmd : Cmd) (reply : Reply) (old new : RoomOn) (Ends : Room → Type 0) : Type 0 where
  pub ready : RoomOn
  pub settles : SettlesRoom g f (figures_in g f old.room cmd).need old ready
  pub full : SettlesNoneFor g f old ready cmd reply
  pub ends : Ends ready.room
  pub since : (b : ℕ) → IsData g b → new.since b ≡ ready.since b

-- any command but a bad line
answers_at : (g : Geometry) (at end : Moment) (f : Session) (old : RoomOn) (cmd : Cmd) (reply : Reply) (next : Session) (new : RoomOn) → cmd ≢ Bad → AnyAt g at end f old cmd reply next new → AnswersAt g at end f old cmd reply next new
answers_at g at end f old Bad reply next new good x = absurd (good refl)
answers_at g at end f old cmd reply next new good x = x

-- the same room waits alike
same_room : (g : Geometry) (r : RoomOn) → SameWait g r r
same_room g r = record { takeable = refl; since = λ b at. refl }

module _ {S : Type 0} (tells : Bool) (state : S → State) (known : Known tells state) where
  -- a tick serves those whose point is sure
  ticks_room : (f : Session) (old mid : S) → Ticks tells false (state old) (state mid) → IsSession (state mid) f → TicksRoom (state old).books.geom (moment_of (state mid)) f (room_on (state old)) (room_on (state mid))
  ticks_room f old mid ticks h = record {
    back = tick_back tells state known false f old mid ticks h;
    serves = λ alone. serves_room (state old) (state mid) ticks.moves.pipeline.geom (ticks.serves known.told (sym (ap (λ (m : Manner). m.waits_alone) ticks.ticks.manner) ∙ alone) refl);
  }

  -- where nothing is needed, nothing settles
  nothing_settles : (f : Session) (need : ℕ) (s : S) → IsSession (state s) f → SettlesRoom (state s).books.geom f need (room_on (state s)) (room_on (state s))
  nothing_settles f need s h =
      let same = same_room (state s).books.geom (room_on (state s)) in
      record { back = itself tells state known f s h; rests = λ enough. same; serves = inl same }

  -- what is refused for want of room
  none_for : (f : Session) (cmd : Cmd) (why other : Refusal) (old new : S) → IsSession (state old) f → (state new).books.geom ≡ (state old).books.geom → why ≡ other
      → FailsToFit (left_in (state old).books.geom f (room_of (state old))) (state old).books.running.weight (most_weight (state old).books.geom) (figures_in (state old).books.geom f (room_of (state old)) cmd) other
      → IsRefusedFor (state old) (state new) f cmd why → SameWait (state old).books.geom (room_on (state old)) (room_on (state new))
  none_for f cmd why other old new h geom same fails refused = by refused
    where
      has_none : HasRoom (state old).books (figures_in (state old).books.geom f (room_of (state old)) cmd) → ⊥
      has_none room = fits_well (left_in (state old).books.geom f (room_of (state old))) (state old).books.running.weight (most_weight (state old).books.geom) (figures_in (state old).books.geom f (room_of (state old)) cmd) other
          (fits_in tells state known old f (figures_in (state old).books.geom f (room_of (state old)) cmd) h room) fails

      by : IsRefusedFor (state old) (state new) f cmd why → SameWait (state old).books.geom (room_on (state old)) (room_on (state new))
      by (inl x) = same_wait (state old).books (state new).books geom (state old) (state new) x.rests
      by (inr (inl x)) = absurd (has_none x.room)
      by (inr (inr (inl x))) = absurd (has_none x.room)
      by (inr (inr (inr w))) = absurd (true≢false (sym (⊎_elim (ap is_other_want) (ap is_other_want) w) ∙ ap is_other_want same
          ∙ no_other_want (left_in (state old).books.geom f (room_of (state old))) (state old).books.running.weight (most_weight (state old).books.geom) (figures_in (state old).books.geom f (room_of (state old)) cmd) other fails))

  -- a command on the tree
  carried_at : (f : Session) (cmd : Cmd) (result : Result Reply Refusal) (old new : S) → is_on_tree cmd ≡ true → is_disk_fault result ≡ false → IsSession (state old) f → Carries tells cmd result (state old) (state new)
      → LeavesSession state old new (λ next. CarriedIn (state old).books.geom f cmd (reply_for result) (room_on (state old)) (room_on (state new)) (λ r. EndsOver tells state known f cmd (reply_for result) old next new r))
  carried_at f cmd (Ok reply) old new on_tree well h carries =
      let d = carries.done known.told f h in
      let geom = d.finds.moves.geom in (
        (step f cmd).0,
        d.session,
        carries.runs.geom,
        record {
          ready = room_on_with (state old) d.settled;
          settles = record {
            back = settled_back tells state known f cmd reply old new h d;
            rests = λ enough. same_wait (state old).books d.settled geom (state old) (state old) (freed_alike (state old).books d.settled (d.finds.rests enough));
            serves = all_or_none (state old).books d.settled geom (state old) (state old) d.finds.serves;
          };
          full = λ why is fails. absurd (fits_well (left_in (state old).books.geom f (room_of (state old))) (state old).books.running.weight (most_weight (state old).books.geom) (figures_in (state old).books.geom f (room_of (state old)) cmd) why
              (fits_in tells state known old f (figures_in (state old).books.geom f (room_of (state old)) cmd) h d.room) fails);
          ends = inl (inl (done_in tells state known f cmd reply old new h carries.runs.geom d));
          since = λ b at. d.spends.since b;
        },
      )
  carried_at f cmd (Err why) old new on_tree well h carries = (
    f,
    carries.kept known.told f h,
    carries.runs.geom,
    record {
      ready = room_on (state new);
      settles = record {
        back = refused_back tells state known f cmd why old new on_tree h carries;
        rests = λ enough. same_wait (state old).books (state new).books carries.runs.geom (state old) (state new) (carries.rests known.told f h enough);
        serves = all_or_none (state old).books (state new).books carries.runs.geom (state old) (state new) (carries.serves well);
      };
      full = λ other is fails. none_for f cmd why other old new h carries.runs.geom (same_reason why other is) fails (carries.refused known.told f h);
      ends = refused_over tells state known f cmd why old new on_tree h carries;
      since = λ b at. refl;
    },
  )

  -- a sync
  sync_at : (orders : Bool) (f : Session) (cmd : Cmd) (result : Result Reply Refusal) (old new : S) → is_disk_fault result ≡ false → IsSession (state old) f → SyncsSession tells orders cmd result (state old) (state new)
      → LeavesSession state old new (λ next. SyncsOver f (room_of (state old)) cmd (reply_for result) next (room_of (state new)) × EndsSync (state old).books.geom (moment_of (state old)) (moment_of (state new)) (reply_for result) next (room_on (state old)) (room_on (state new)))
  sync_at orders f cmd (Ok reply) old new well h syncs =
      let x = synced_over tells state known orders f cmd (Ok reply) old new h syncs in (
        x.0,
        x.1,
        x.2,
        (
          x.3,
          inl (syncs_room_on (state old) (state new) syncs.geom x.0.tree (λ b at. in_use_is (state old) (known.agrees old).bits h.tree.sound known.snapshots x.0.tree (tree_stays (state new) (state old) x.0.tree (sym syncs.geom) (sym (syncs.map known.told)) x.1.tree) b at.from at.below) x.0.points (sym (x.1.points syncs.disk.stopped)) (syncs.frees known.told)),
        ),
      )
  sync_at orders f cmd (Err why) old new well h syncs =
      let x = synced_over tells state known orders f cmd (Err why) old new h syncs in
      (x.0, x.1, x.2, (x.3, by x.0 syncs.refused))
    where
      by : (next : Session) → (why ≡ because.DiskFault) ⊎ (why ≡ because.NoMemory) → EndsSync (state old).books.geom (moment_of (state old)) (moment_of (state new)) (Refused why) next (room_on (state old)) (room_on (state new))
      by next (inl disk) = absurd (true≢false (sym (ap (λ w. is_disk_fault (Err w)) disk) ∙ well))
      by next (inr memory) =
          inr (ap (λ w. Refused w) memory, same_wait (state old).books (state new).books syncs.geom (state old) (state new) (freed_alike (state old).books (state new).books (syncs.unspent (ap (λ w. Err w) memory)).0))

  module _ (f : Session) (result : Result Reply Refusal) (old new : S) (well : is_disk_fault result ≡ false) (h : IsSession (state old) f) where
    -- what a command that ran leaves
    abbrev LeavesBehind : Cmd → Type 0
    LeavesBehind cmd = LeavesSession state old new (λ next. Behind (state old).books.geom (moment_of (state old)) (moment_of (state new)) f (room_on (state old)) cmd (reply_for result) next (room_on (state new)))

    of_tree : (cmd : Cmd) → is_on_tree cmd ≡ true → Carries tells cmd result (state old) (state new)
        → ((next : Session) (r : Room) → EndsOver tells state known f cmd (reply_for result) old next new r → AnswersOver (state old).books.geom f r cmd (reply_for result) next (room_of (state new)))
        → ((next : Session) (r : RoomOn) → ((b : ℕ) → IsData (state old).books.geom b → (state new).books.since b ≡ r.since b) → LeavesWaiting (state old).books.geom (moment_of (state old)) (moment_of (state new)) cmd (reply_for result) next r (room_on (state new)))
        → LeavesBehind cmd
    of_tree cmd on_tree ran answers leaves =
        let x = carried_at f cmd result old new on_tree well h ran in
        (x.0, x.1, x.2, record { ready = x.3.ready; settles = x.3.settles; full = x.3.full; answers = answers x.0 x.3.ready.room x.3.ends; leaves = leaves x.0 x.3.ready x.3.since })

    -- a command that needs no blocks
    of_other : (cmd : Cmd) → LeavesSession state old new (λ next. AnswersOver (state old).books.geom f (room_of (state old)) cmd (reply_for result) next (room_of (state new))
        × LeavesWaiting (state old).books.geom (moment_of (state old)) (moment_of (state new)) cmd (reply_for result) next (room_on (state old)) (room_on (state new))) → LeavesBehind cmd
    of_other cmd x = (x.0, x.1, x.2, record { ready = room_on (state old); settles = nothing_settles f (figures_in (state old).books.geom f (room_of (state old)) cmd).need old h; full = λ why is fails. same_room (state old).books.geom (room_on (state old)); answers = x.3.0; leaves = x.3.1 })

    -- a wait for a point: the same blocks wait, and it is answered in the room that it leaves
    waited_at : (n : ℕ) (r : Result Reply Refusal) → is_disk_fault r ≡ false → WaitsSession tells n r (state old) (state new)
        → LeavesSession state old new (λ next. Behind (state old).books.geom (moment_of (state old)) (moment_of (state new)) f (room_on (state old)) (Dwait n) (reply_for r) next (room_on (state new)))
    waited_at n (Ok reply) well w =
        let d = w.done known.told f h in
        let same = same_wait (state old).books (state new).books w.runs.pipeline.geom (state old) (state new) w.frees in (
          (step f (Dwait n)).0,
          d.1,
          w.runs.pipeline.geom,
          record {
            ready = room_on (state new);
            settles = record { back = waited_back tells state known f n (Ok reply) old new h w; rests = λ enough. same; serves = inl same };
            full = λ why is fails. same;
            answers = inl (ap (λ r. ((step f (Dwait n)).0, r)) (sym d.0), refl);
            leaves = λ b at. refl;
          },
        )
    waited_at n (Err why) well w = absurd (true≢false (sym (ap (λ x. is_disk_fault (Err x)) w.refused) ∙ well))

    run_at : (cmd : Cmd) → cmd ≢ Bad → (state old).books.stopped ≡ false → Runs tells state cmd result old new → LeavesBehind cmd
    run_at Osync good going ran = of_other Osync (sync_at true f Osync result old new well h ran)
    run_at Dsync good going ran = of_other Dsync (sync_at false f Dsync result old new well h ran)
    run_at Durable good going ran =
        let x = known_in state f result old new h (omega (arith, (known.sound old).floor, h.points going)) ran in
        of_other Durable (x.0, x.1, x.2, (inl x.3, λ b at. ap (λ s. (state s).books.since b) ran.1))
    run_at (Dwait n) good going ran = waited_at n result well ran
    run_at Poll good going ran = let x = polled_in state f result old new h ran in of_other Poll (x.0, x.1, x.2, (inl x.3, λ b at. ap (λ s. (state s).books.since b) ran.1))
    run_at Bad good going ran = absurd (good refl)
    run_at cmd good going ran = of_tree cmd refl ran (λ next r x. x) (λ next r x. x)

  -- behind its tick the command begins
  begins_at : (f : Session) (cmd : Cmd) (reply : Reply) (old mid new : S) → Ticks tells false (state old) (state mid) → IsSession (state mid) f
      → LeavesSession state mid new (λ next. Behind (state mid).books.geom (moment_of (state mid)) (moment_of (state new)) f (room_on (state mid)) cmd reply next (room_on (state new)))
      → LeavesSession state old new (λ next. BeginsAt (state old).books.geom (moment_of (state mid)) (moment_of (state new)) f (room_on (state old)) cmd reply next (room_on (state new)))
  begins_at f cmd reply old mid new ticks h x =
      let y = subst (λ (g : Geometry). Behind g (moment_of (state mid)) (moment_of (state new)) f (room_on (state mid)) cmd reply x.0 (room_on (state new))) geom x.3 in (
        x.0,
        x.1,
        x.2 ∙ geom,
        record {
          back = room_on (state mid);
          ticks = ticks_room f old mid ticks h;
          ready = y.ready;
          settles = y.settles;
          full = y.full;
          answers = y.answers;
          leaves = y.leaves;
          is_room = subst (λ (g : Geometry). IsRoomOf g x.0 (room_of (state new))) (x.2 ∙ geom) (room_is tells state known new x.0 x.1);
        },
      )
    where
      geom : (state mid).books.geom ≡ (state old).books.geom
      geom = ticks.moves.pipeline.geom

  -- what a sync did behind its tick
  of_synced : (orders : Bool) (f : Session) (cmd : Cmd) (result : Result Reply Refusal) (s new : S) → is_refusal (step f cmd).1 ≡ false → (cmd ≡ Osync → IsTrue orders) → IsSession (state s) f → SyncsSession tells orders cmd result (state s) (state new) → SyncsBehind cmd (reply_for result) (state s) (state new)
  of_synced orders f cmd result s new done only h syncs = record {
    orders = λ is at_once. syncs.alone known.told (only is) at_once;
    hears = λ alone at_once. syncs.waits known.told alone at_once;
    written = λ well. by_reply result well (syncs.written known.told);
    unwritten = λ memory. syncs.unwritten known.told (without result memory (syncs.done known.told));
  }
    where
      by_reply : {P : Type 0} (r : Result Reply Refusal) → is_refusal (reply_for r) ≡ false → OnOk r P → P
      by_reply (Ok reply) well p = p
      by_reply (Err why) well p = absurd (true≢false well)

      without : (r : Result Reply Refusal) → reply_for r ≡ Refused because.NoMemory → IfOk r (λ reply. (f : Session) → IsSession (state s) f → (reply ≡ (step f cmd).1) × IsSession (state new) (step f cmd).0) → r ≡ Err because.NoMemory
      without (Ok reply) memory is = absurd (true≢false (sym (ap is_refusal memory) ∙ ap is_refusal (is f h).0 ∙ done))
      without (Err why) memory is = ap (λ w. Err w) (why_is why memory)
        where
          why_is : (why : Refusal) → Refused why ≡ Refused because.NoMemory → why ≡ because.NoMemory
          why_is why e = search

  syncs_behind : (f : Session) (cmd : Cmd) (result : Result Reply Refusal) (s new : S) → is_sync cmd ≡ true → IsSession (state s) f → Runs tells state cmd result s new → SyncsBehind cmd (reply_for result) (state s) (state new)
  syncs_behind f Osync result s new of h runs = of_synced true f Osync result s new (done f f.changed) (λ is. refl) h runs
    where
      done : (g : Session) (b : Bool) → is_refusal (osync g b).1 ≡ false
      done g true = refl
      done g false = refl
  syncs_behind f Dsync result s new of h runs = of_synced false f Dsync result s new refl (λ is. absurd cc) h runs
  syncs_behind f cmd result s new of h runs = absurd (false≢true of)

  -- where the tick was all, nothing came behind it
  ticks_alone : (cmd : Cmd) (reply : Reply) (s : S) → reply ≡ Refused because.DiskFault → SyncsBehind cmd reply (state s) (state s)
  ticks_alone cmd reply s fault = record {
    orders = λ is at_once. grows_by_none (state s).crash.log (state s).crash.log refl;
    hears = λ alone at_once t came. inl came;
    written = λ well. absurd (true≢false (sym (ap is_refusal fault) ∙ well));
    unwritten = λ memory. refl;
  }

  -- what a wait for a point did behind its tick
  waits_behind : (n : ℕ) (result : Result Reply Refusal) (s new : S) → WaitsSession tells n result (state s) (state new) → WaitsBehind n (state s) (state new)
  waits_behind n result s new w = record {
    hears = λ alone. w.waits known.told alone;
    still = w.still known.told;
    rests = ⊎_elim (λ low. ((w.idles low).disk.crash known.told).log) (λ past. ((w.none past).disk.crash known.told).log);
  }

  -- where the tick was all
  nothing_behind : (n : ℕ) (s : S) → WaitsBehind n (state s) (state s)
  nothing_behind n s = record { hears = λ alone t came. inl came; still = refl; rests = λ either. refl }

  -- a sync is no bad line
  sync_is_good : (cmd : Cmd) → is_sync cmd ≡ true → cmd ≢ Bad
  sync_is_good cmd of bad = false≢true (sym (ap is_sync bad) ∙ of)

  -- The moments, where calls of these blocks compose, and time goes on where nothing is done.
  module _ (compose : (a b c : S) → Advances (state a) (state b) → Advances (state b) (state c) → Advances (state a) (state c)) (still : (s : S) → Advances (state s) (state s)) where
    abbrev ServesOver : Session → Cmd → Reply → S → S → Type 0
    ServesOver f cmd reply old new = LeavesSession state old new (λ next. ServesCommand state f cmd reply next old new)

    -- a command that began
    begun_at : (f : Session) (cmd : Cmd) (reply : Reply) (old new : S) → cmd ≢ Bad → (state old).books.stopped ≡ false → IsSession (state old) f → Began tells state cmd reply old new → ServesOver f cmd reply old new
    begun_at f cmd reply old new good going h began = ⊎_elim
        (λ failed. let is = began.is ∙ ap reply_for failed.1 in
        behind_at true new failed.0 (still new) (λ alone. inr (refl, is)) (λ of. ticks_alone cmd reply new is) (λ n of. nothing_behind n new) (faulted new is))
        (λ ran. goes began.mid began.result began.is ran.0 ran.1) began.ran
      where
        AnyOver : S → Reply → Session → Type 0
        AnyOver s r next = AnyAt (state old).books.geom (moment_of (state s)) (moment_of (state new)) f (room_on (state old)) cmd r next (room_on (state new))

        -- this state is that behind its tick
        behind_at : (failed : Bool) (s : S) → Ticks tells failed (state old) (state s) → Advances (state s) (state new)
            → ((state old).counts.ticks.manner.waits_alone ≡ true → RingIsTold (state s) ⊎ ((new ≡ s) × (reply ≡ Refused because.DiskFault))) → (is_sync cmd ≡ true → SyncsBehind cmd reply (state s) (state new)) → ((n : ℕ) → cmd ≡ Dwait n → WaitsBehind n (state s) (state new))
            → LeavesSession state old new (AnyOver s reply) → ServesOver f cmd reply old new
        behind_at failed s ticks then ring sync wait x =
            let point = ticks.moves.pipeline.point in
            let first = ticks.moves.crash known.told in (
              x.0,
              x.1,
              x.2,
              record {
                behind = s;
                begins = first;
                goes_on = then;
                manner = ticks.ticks.manner;
                fits = fits_still (state old).books (state s).books ticks.moves.pipeline;
                geom = ticks.moves.pipeline.geom;
                running = ticks.moves.pipeline.running;
                point = point;
                ring = λ some alive unspent. ring;
                sync = λ of alive unspent. sync of;
                wait = λ n is alive unspent. wait n is;
                still = still_awaits (state old) (state s) (known.agrees s) point first;
                awaits = λ p t waits. awaits_since (state old) (state s) (state new) (known.agrees s) point first then p t waits;
                ticks = λ some alive unspent. ticks.writes known.told;
                answers = answers_at (state old).books.geom (moment_of (state s)) (moment_of (state new)) f (room_on (state old)) cmd reply x.0 (room_on (state new)) good x.3;
              },
            )

        -- the disk failed it
        faulted : (s : S) → reply ≡ Refused because.DiskFault → LeavesSession state old new (AnyOver s reply)
        faulted s is = let x = begun_over tells state known f cmd reply old new good going h began in (x.0, x.1, x.2, inr (inl (is, x.3)))

        goes : (s : S) (result : Result Reply Refusal) → reply ≡ reply_for result → Ticks tells false (state old) (state s) → Runs tells state cmd result s new → ServesOver f cmd reply old new
        goes s result is ticks runs =
            behind_at false s ticks (of_run tells state known.told compose still cmd result s new runs).advances (λ alone. inl (ticks.ring known.told alone refl))
            (λ of. subst (λ (r : Reply). SyncsBehind cmd r (state s) (state new)) (sym is) (syncs_behind f cmd result s new of same runs)) (λ n of. waits_behind n result s new (subst (λ (c : Cmd). Runs tells state c result s new) of runs)) (by (cases_Bool (is_disk_fault result)))
          where
            same : IsSession (state s) f
            same = session_ticks tells false (state old) (state s) ticks f going known.told h

            by : (is_disk_fault result ≡ true) ⊎ (is_disk_fault result ≡ false) → LeavesSession state old new (AnyOver s reply)
            by (inl fault) = faulted s (is ∙ fault_is result fault)
            by (inr well) =
                let x = begins_at f cmd (reply_for result) old s new ticks same (run_at f result s new well same cmd good ticks.moves.disk.stopped runs) in
                (x.0, x.1, x.2, subst (λ (r : Reply). AnyOver s r x.0) (sym is) (inr (inr x.3)))

    -- where nothing is done, nothing serves
    at_once : (f : Session) (cmd : Cmd) (reply : Reply) (old new : S) → new ≡ old → IsSession (state old) f → (cmd ≢ Bad → (state old).books.stopped ≡ false → is_spent (state old).books ≡ false → ⊥)
        → AnswersAt (state old).books.geom (moment_of (state old)) (moment_of (state old)) f (room_on (state old)) cmd reply f (room_on (state old)) → ServesOver f cmd reply old new
    at_once f cmd reply old new same h never answers = subst (λ s. ServesOver f cmd reply old s) (sym same) (
      f,
      h,
      refl,
      record {
        behind = old;
        begins = still old;
        goes_on = still old;
        manner = refl;
        fits = λ fits. fits;
        geom = refl;
        running = refl;
        point = refl;
        ring = λ some alive unspent. absurd (never some alive unspent);
        sync = λ of alive unspent. absurd (never (sync_is_good cmd of) alive unspent);
        wait = λ n is alive unspent. absurd (never (λ bad. cc (sym is ∙ bad)) alive unspent);
        still = λ p t waits. waits;
        awaits = λ p t waits. inl waits;
        ticks = λ some alive unspent. absurd (never some alive unspent);
        answers = answers;
      },
    )

    -- each command
    pub applied_at : (f : Session) (cmd : Cmd) (reply : Reply) (old new : S) → IsSession (state old) f → Applies tells state cmd reply old new → ServesOver f cmd reply old new
    applied_at f cmd reply old new h applies = answered_as tells state cmd reply old new (ServesOver f cmd reply old new) applies
        (λ bad x.
        at_once f cmd reply old new x.1 h (λ some alive unspent. absurd (some bad))
        (subst (λ c. AnswersAt (state old).books.geom (moment_of (state old)) (moment_of (state old)) f (room_on (state old)) c reply f (room_on (state old))) (sym bad) ((ap (λ r. (f, r)) (sym x.0), refl), refl)))
        (λ good stopped x. at_once f cmd reply old new x.1 h (λ some alive unspent. absurd (true≢false (sym stopped ∙ alive))) (refused because.Stopped good (inl refl) x.0))
        (λ good spent x. at_once f cmd reply old new x.1 h (λ some alive unspent. absurd (true≢false (sym spent ∙ unspent))) (refused because.Spent good (inr refl) x.0))
        (λ good going left began. begun_at f cmd reply old new good going h began)
      where
        refused : (why : Refusal) → cmd ≢ Bad → (why ≡ because.Stopped) ⊎ (why ≡ because.Spent) → reply ≡ Refused why → AnswersAt (state old).books.geom (moment_of (state old)) (moment_of (state old)) f (room_on (state old)) cmd reply f (room_on (state old))
        refused why good cause is = answers_at (state old).books.geom (moment_of (state old)) (moment_of (state old)) f (room_on (state old)) cmd reply f (room_on (state old)) good (inl ((why, cause, is, refl, refl), refl))
