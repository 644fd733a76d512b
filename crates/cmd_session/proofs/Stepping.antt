-- A run that goes by the log of its disk goes by it with one command more; and one of no command goes by it.
use Rattle.std.proofs.Common.{◌≡◌, ◌≢◌, inr, ℕ, ◌<◌, ◌||◌, Bool, true, false, IsTrue, List, [], ◌∷◌, ◌++◌, length, refl, sym, ap, ◌∙◌, subst, arith}
use Rattle.std.proofs.lemmas.Bool.{or_parts}
use Rattle.std.proofs.lemmas.List.{length-append}
use Rattle.base_types.specs.Seal.{Blocks}
use Rattle.disk_contract.specs.declared.event.Event.{Event}
use Rattle.disk_contract.specs.Cell.{has_lost}
use Rattle.disk_contract.specs.Disk.{Grows, PollsThenWrites}
use Rattle.disk_contract.specs.Manner.{Manner}
use Rattle.layout_journal.specs.declared.record.Commit.{Commit}
use Rattle.crash_argument.specs.Points.{MountedSession}
use Rattle.cmd_trace.specs.Trace.{Ascend}
use Rattle.lang_tree.specs.declared.command.Cmd.{Cmd}
use Rattle.lang_tree.specs.declared.command.Cmd.TheVariants.{Bad}
use Rattle.lang_tree.specs.declared.command.Refusal.TheVariants.{ReadFault, Spent, Stopped}
use Rattle.lang_tree.specs.declared.command.Reply.{Reply}
use Rattle.lang_tree.specs.declared.command.Reply.TheVariants.{Refused}
use Rattle.lang_tree.specs.Step.{Session}
use Rattle.lang_tree.specs.Tree.{Tree}
use Rattle.engine_blocks.specs.Crashes.{IsTold, MayAwait}
use Rattle.engine_blocks.specs.Effects.{Ticked}
use Rattle.engine_blocks.specs.State.{State}
use Rattle.fs_session.specs.Applying.{NeedsNoWait, is_spent}
use Rattle.fs_session.specs.DiskRoom.{AnswersOn, IsRoomOf}
use Rattle.fs_session.specs.Memory.{room_of}
use Rattle.fs_session.specs.Serving.{ServesCommand}
use Rattle.fs_session.specs.Sessions.{IsSession}
use Rattle.cmd_session.specs.Answered.{AnsweredIn, PassesPoints, PlaceLaws, StaysPlaced, StepsOn, WaitsOn}
use Rattle.cmd_session.specs.Going.{AnswersOnDisk, BeginsByLog, GoesByLog, IsOfMount, KeepsTaken, pace_of, session_at}
use Rattle.cmd_session.specs.Histories.{session_after}
use Rattle.cmd_session.specs.Pacing.{AnswersBy, Pace, PacesBy, StepsBy, is_fault}
use Rattle.cmd_session.specs.Records.{own_records}
use Rattle.cmd_session.specs.Shared.{floor_at_last}
use Rattle.cmd_session.specs.Taking.{Span, Taken, makes_point, nothing_taken, taken_by}
use Rattle.cmd_session.proofs.Answering.{left_over, manner_stays, steps_on, waits_on}
use Rattle.cmd_session.proofs.Paces.{Waits, over_now, paces_longer, step_now}
use Rattle.cmd_session.proofs.Placed.{one_more, placed_first, placed_in}
use Rattle.cmd_session.proofs.Rooms.{answered_by, answered_in}
use Rattle.cmd_session.proofs.Waiting.{Own, calm_on, done_fits, hears_on, hears_upto_on, idle_on, keeps_at_first, keeps_on, knows_on, own_begun, ring_on, spends_on, unwritten_on}

-- What the file system and the blocks say of such a call.
pub record CallLaws {S : Type 0} (tells : Bool) (state : S → State) (cmd : Cmd) (reply : Reply) (old new : S) : Type 0 where
  pub serves : (f : Session) → IsSession (state old) f → (next : Session) × IsSession (state new) next × ((state new).books.geom ≡ (state old).books.geom) × ServesCommand state f cmd reply next old new
  pub answers : (f : Session) → IsSession (state old) f → (next : Session) × IsSession (state new) next × ((state new).books.geom ≡ (state old).books.geom) × AnswersOn (state old).books.geom f (room_of (state old)) cmd reply next (room_of (state new))
  pub room : (f : Session) → IsSession (state old) f → IsRoomOf (state old).books.geom f (room_of (state old))
  pub ticked : cmd ≢ Bad → (state old).books.stopped ≡ false → is_spent (state old).books ≡ false → Ticked tells (state old) (state new)
  pub calm : (f : Session) → is_spent (state old).books ≡ false → cmd ≢ Bad → (state old).books.stopped ≡ false → IsSession (state old) f → NeedsNoWait (state old) f cmd
      → PollsThenWrites (state old).counts.ticks.manner 64 (state old).counts.ticks.polls (state old).crash.log (state new).counts.ticks.polls (state new).crash.log
  pub spent : (f : Session) → IsSession (state old) f → reply ≡ Refused Spent → is_spent (state old).books ≡ true
  pub stopped : (f : Session) → IsSession (state old) f → reply ≡ Refused Stopped → (state old).books.stopped ≡ true
  pub read : (f : Session) → IsSession (state old) f → reply ≡ Refused ReadFault → 0 < (state new).counts.read_faults
  pub told : IsTold (state new)

-- One command more.

module _ {S : Type 0} (tells : Bool) (state : S → State) (told : IsTrue tells) (mount : MountedSession) (base : Blocks) (m : Manner) (first : Pace) (tree : Tree) (cmds : List Cmd) (replies : List Reply) (marks : List ℕ) (cmd : Cmd) (reply : Reply) (old new : S)
    (laws : PlaceLaws mount.geom) (k : CallLaws tells state cmd reply old new) (x : AnswersOnDisk tells state mount tree cmds replies marks cmd reply old new) (h : GoesByLog mount base m first tree cmds replies marks (state old)) where
  abbrev s : State
  s = state old

  abbrev u : State
  u = state new

  abbrev f : Session
  f = session_after (session_at mount tree) cmds replies

  grows : Grows s.crash.log u.crash.log
  grows = x.time.advances.grows

  session : IsSession s f
  session = x.before.goes_on.session

  steps : StepsOn cmd reply s u
  steps = steps_on tells state told cmd reply old new x.applies k.ticked k.spent k.stopped k.read x.disk.reads x.disk.fails x.disk.unlost

  waits : WaitsOn cmd reply s u
  waits = waits_on tells state told cmd reply old new x.applies k.ticked k.calm x.places x.few x.writes k.room x.time.advances k.told x.disk.still

  over : u.books.stopped ≡ (s.books.stopped || is_fault reply)
  over = over_now cmd reply s u steps grows replies x.before.goes_on.ended x.after.goes_on.ended x.after.goes_on.going

  answer : (next : Session) × IsSession u next × (u.books.geom ≡ s.books.geom) × ServesCommand state f cmd reply next old new
  answer = k.serves f session

  room : AnsweredIn f cmd reply answer.0 s u
  room = answered_in state f cmd reply answer.0 old new answer.3 (left_over tells state told cmd reply old new x.applies k.ticked) (manner_stays tells state told cmd reply old new x.applies k.ticked)

  mine : (begun : ℕ) × Own cmd reply s u waits grows mount base m tree cmds replies marks x.before x.after over h.taken h.keeps h.of_mount.records h.of_mount.late answer.0 room h.manner begun
  mine = own_begun cmd reply s u waits grows mount base m tree cmds replies marks x.before x.after over h.taken h.keeps h.of_mount.records h.of_mount.late answer.0 room h.manner

  rests : s.books.stopped ≡ true → u.crash.log ≡ s.crash.log
  rests stopped = (steps.rests (inr stopped)).1.0

  abbrev late : Span
  late = record { begun = mine.0; mark = length u.crash.log }

  abbrev own : List Commit
  own = own_records mount u.crash.log (length room.behind) (length u.crash.log)

  abbrev now_taken : Taken
  now_taken = taken_by h.taken s.books.running.weight cmd reply own late

  keeps : KeepsTaken mount m tree (cmds ++ cmd ∷ []) (replies ++ reply ∷ []) u now_taken
  keeps = keeps_on cmd reply s u waits grows mount base m tree cmds replies marks x.before x.after over h.taken h.keeps h.of_mount.records h.of_mount.late answer.0 room h.manner mine.0 mine.1 rests

  geom : s.books.geom ≡ mount.geom
  geom = sym h.of_mount.geom

  going_before : u.books.stopped ≡ false → s.books.stopped ≡ false
  going_before going = (or_parts s.books.stopped (is_fault reply) (sym over ∙ going)).0

  asked : IsSession s h.taken.session
  asked = subst (λ (y : Session). IsSession s y) (sym h.keeps.session) session

  alike : (b : ℕ) → b < mount.geom.n → u.crash.base b ≡ base b
  alike b low = ap (λ (y : Blocks). y b) x.time.advances.base ∙ h.of_mount.alike b low

  points : PassesPoints s u
  points = record { time = x.time; last = k.told.issued; drawn = x.drawn }

  placed : StaysPlaced mount.geom base now_taken.session u
  placed = placed_in mount.geom laws base h.taken.session (length h.taken.spans) cmd reply s u points geom asked (waits.room h.taken.session asked) (k.answers h.taken.session asked) going_before h.keeps.spans
      (λ going. sym (one_more h.taken.spans late (makes_point h.taken.session cmd reply)) ∙ keeps.spans going) alike h.placed

  behaves : Waits cmd reply s u steps grows replies x.before.goes_on.ended x.after.goes_on.ended x.after.goes_on.going mount base m h.taken room.behind mine.0
  behaves = record {
    from = mine.1.from;
    ring = ring_on cmd reply s u waits grows mount base m tree cmds replies marks x.before x.after over h.taken h.keeps h.of_mount.records h.of_mount.late answer.0 room h.manner;
    written = mine.1.written;
    idle = idle_on cmd reply s u waits grows mount base m tree cmds replies marks x.before x.after over h.taken h.keeps h.of_mount.records h.of_mount.late answer.0 room h.manner;
    unwritten = unwritten_on cmd reply s u waits grows mount base m tree cmds replies marks x.before x.after over h.taken h.keeps h.of_mount.records h.of_mount.late answer.0 room h.manner;
    calm = λ alone. calm_on cmd reply s u waits grows mount base m tree cmds replies marks x.before x.after over h.taken h.keeps h.of_mount.records h.of_mount.late answer.0 room h.manner alone steps.ticks;
    hears = λ alone. hears_on cmd reply s u waits grows mount base m tree cmds replies marks x.before x.after over h.taken h.keeps h.of_mount.records h.of_mount.late answer.0 room h.manner mine.0 mine.1 alone x.disk.lawful;
    hears_upto = λ n alone. hears_upto_on cmd reply s u waits grows mount base m tree cmds replies marks x.before x.after over h.taken h.keeps h.of_mount.records h.of_mount.late answer.0 room h.manner mine.0 mine.1 n alone;
    quiet = λ n is going unspent. (room.wait n is going unspent).still;
    knows = knows_on cmd reply s u waits grows mount base m tree cmds replies marks x.before x.after over h.taken h.keeps h.of_mount.records h.of_mount.late answer.0 room h.manner;
    told = λ n asks said. (waits.known n asks said).0;
    promised = omega (arith, x.after.goes_on.promised (length u.crash.log), floor_at_last (length u.crash.log) replies marks reply (length u.crash.log) x.before.marked (omega arith));
    rises = waits.floor;
    spends = spends_on cmd reply s u waits grows mount base m tree cmds replies marks x.before x.after over h.taken h.keeps h.of_mount.records h.of_mount.late answer.0 room h.manner mine.0 mine.1 rests;
    placed = placed;
  }

  abbrev end : Pace
  end = pace_of now_taken u

  in_room : (r : AnswersBy mount base m u.crash.log cmd reply (pace_of h.taken s) end) × (r.behind ≡ length room.behind)
  in_room = answered_by mount.geom laws.replies m mount refl base h.taken s h.manner h.of_mount.sure cmd reply u f answer.0 room own late grows geom h.keeps.session (done_fits cmd reply s u waits grows mount base m tree cmds replies marks x.before x.after over h.taken h.keeps h.of_mount.records h.of_mount.late answer.0 room h.manner)

  -- while no call failed, none was counted, and no write was lost
  unlost : m.waits_alone ≡ true → u.books.stopped ≡ false → (u.counts.faults ≡ 0) × (has_lost u.crash.log ≡ false)
  unlost known going = let none = steps.uncounted going ∙ (h.unlost known (going_before going)).0 in (none, steps.unlost (ap (λ (y : Manner). y.waits_alone) (steps.manner ∙ h.manner) ∙ known) none)

  step : StepsBy mount base m u.crash.log cmd reply (pace_of h.taken s) end
  step = step_now cmd reply s u steps grows replies x.before.goes_on.ended x.after.goes_on.ended x.after.goes_on.going mount base m h.taken room.behind mine.0 room.goes_on behaves h.manner
      (λ known going. (h.unlost known going).1) (λ known going. (unlost known going).1) f session in_room.0 in_room.1

  of_mount : IsOfMount mount base u
  of_mount = record {
    geom = h.of_mount.geom ∙ sym x.time.geom;
    late = omega (arith, h.of_mount.late, ap (λ (es : List Event). length es) grows.log, length-append s.crash.log grows.more);
    alike = alike;
    sure = λ front p. let now = x.time.advances.sure front p in let was = h.of_mount.sure front p in (λ is. was.0 (now.0 is), λ is. now.1 (was.1 is));
    records = record {
      told = x.time.advances.records.told ∙ h.of_mount.records.told;
      starts = λ front number. let now = x.time.advances.records.starts front number in let was = h.of_mount.records.starts front number in (λ is. was.0 (now.0 is), λ is. now.1 (was.1 is));
    };
  }

  up : Ascend first.events marks (length s.crash.log)
  up = subst (λ (n : ℕ). Ascend n marks (length s.crash.log)) (sym h.begins) x.before.ascend

  paces : PacesBy mount base m u.crash.log first (cmds ++ cmd ∷ []) (replies ++ reply ∷ []) (marks ++ length u.crash.log ∷ []) end
  paces = grind (arith, paces_longer, h.of_mount.late, h.taken, up, h.paces, step)

  pub goes_more : GoesByLog mount base m first tree (cmds ++ cmd ∷ []) (replies ++ reply ∷ []) (marks ++ length u.crash.log ∷ []) u
  goes_more = record {
    limits = h.limits;
    of_mount = of_mount;
    manner = steps.manner ∙ h.manner;
    begins = h.begins;
    taken = now_taken;
    keeps = keeps;
    paces = paces;
    unlost = unlost;
    placed = placed.keeps;
  }

-- No command yet.
pub goes_at_first : (mount : MountedSession) (base : Blocks) (m : Manner) (tree : Tree) (s : State) → ((p ticket : ℕ) → s.crash.awaits p ticket → MayAwait s p ticket) → BeginsByLog mount base m s
    → GoesByLog mount base m (pace_of (nothing_taken (session_at mount tree)) s) tree [] [] [] s
goes_at_first mount base m tree s may h = record {
  limits = h.limits;
  of_mount = h.of_mount;
  manner = h.manner;
  begins = sym h.ended;
  taken = nothing_taken (session_at mount tree);
  keeps = keeps_at_first mount m tree s h.ended h.owed h.point may;
  paces = refl;
  unlost = λ known going. h.unlost known;
  placed = placed_first mount.geom h.limits (session_at mount tree) s (sym h.of_mount.geom) h.point h.only;
}
