-- Lemmas on the room with what waits: what is answered in it is answered in the room alone; and it is answered alike at each other moment that says the same. They are described in docs/SPACE.md.
use Rattle.std.proofs.Common.{◌≡◌, ◌⊎◌, inl, inr, ⊎_elim, ℕ, sym, ◌∙◌}
use Rattle.layout_geometry.specs.Geometry.{Geometry}
use Rattle.lang_tree.specs.declared.command.Cmd.{Cmd}
use Rattle.lang_tree.specs.declared.command.Cmd.TheVariants.{Mkdir, Create, Write, Fill, Read, Truncate, Link, Unlink, Rmdir, Rename, Stat, List as ListNames, Snap, Unsnap, Snaps, At, Osync, Dsync, Durable, Dwait, Poll, Bad}
use Rattle.lang_tree.specs.declared.command.Refusal.TheVariants.{Stopped, Spent}
use Rattle.lang_tree.specs.declared.command.Reply.{Reply}
use Rattle.lang_tree.specs.Step.{Session}
use Rattle.lang_tree.specs.Tree.{Tree}
use Rattle.fs_session.specs.DiskRoom.{AnswersOn, BeginsOver}
use Rattle.fs_session.specs.Room.{RefusesIn}
use Rattle.fs_session.specs.Serving.{AnswersAt, AnyAt, BeginsAt, EndsSync, LeavesWaiting, LetsGoIn, Moment, RoomOn, SaysNoMore, ServesRoom, TicksRoom, WaitsFor}

-- The room alone.

begins_over : (g : Geometry) (at end : Moment) (f : Session) (old : RoomOn) (cmd : Cmd) (reply : Reply) (next : Session) (new : RoomOn) → BeginsAt g at end f old cmd reply next new → BeginsOver g f old.room cmd reply next new.room
begins_over g at end f old cmd reply next new x = record {
  back = x.ready.room;
  comes_back = record {
    weight = x.settles.back.weight ∙ x.ticks.back.weight;
    held = x.settles.back.held ∙ x.ticks.back.held;
    keeps = record { places = x.settles.back.keeps.places ∙ x.ticks.back.keeps.places; kept = x.settles.back.keeps.kept ∙ x.ticks.back.keeps.kept; takeable = λ b may. x.settles.back.keeps.takeable b (x.ticks.back.keeps.takeable b may) };
    is_room = x.settles.back.is_room;
  };
  answers = x.answers;
  is_room = x.is_room;
}

any_over : (g : Geometry) (at end : Moment) (f : Session) (old : RoomOn) (cmd : Cmd) (reply : Reply) (next : Session) (new : RoomOn) → AnyAt g at end f old cmd reply next new
    → RefusesIn (λ why. (why ≡ Stopped) ⊎ (why ≡ Spent)) f old.room reply next new.room ⊎ BeginsOver g f old.room cmd reply next new.room
any_over g at end f old cmd reply next new (inl refused) = inl refused.0
any_over g at end f old cmd reply next new (inr (inl failed)) = inr failed.1
any_over g at end f old cmd reply next new (inr (inr begun)) = inr (begins_over g at end f old cmd reply next new begun)

pub answer_in_room : (g : Geometry) (at end : Moment) (f : Session) (old : RoomOn) (cmd : Cmd) (reply : Reply) (next : Session) (new : RoomOn) → AnswersAt g at end f old cmd reply next new → AnswersOn g f old.room cmd reply next new.room
answer_in_room g at end f old Bad reply next new x = x.0
answer_in_room g at end f old Osync reply next new x = any_over g at end f old Osync reply next new x
answer_in_room g at end f old Dsync reply next new x = any_over g at end f old Dsync reply next new x
answer_in_room g at end f old Durable reply next new x = any_over g at end f old Durable reply next new x
answer_in_room g at end f old (Dwait n) reply next new x = any_over g at end f old (Dwait n) reply next new x
answer_in_room g at end f old Poll reply next new x = any_over g at end f old Poll reply next new x
answer_in_room g at end f old (Mkdir path) reply next new x = any_over g at end f old (Mkdir path) reply next new x
answer_in_room g at end f old (Create path) reply next new x = any_over g at end f old (Create path) reply next new x
answer_in_room g at end f old (Write path offset bytes) reply next new x = any_over g at end f old (Write path offset bytes) reply next new x
answer_in_room g at end f old (Fill path offset count byte) reply next new x = any_over g at end f old (Fill path offset count byte) reply next new x
answer_in_room g at end f old (Read path offset count) reply next new x = any_over g at end f old (Read path offset count) reply next new x
answer_in_room g at end f old (Truncate path size) reply next new x = any_over g at end f old (Truncate path size) reply next new x
answer_in_room g at end f old (Link path other) reply next new x = any_over g at end f old (Link path other) reply next new x
answer_in_room g at end f old (Unlink path) reply next new x = any_over g at end f old (Unlink path) reply next new x
answer_in_room g at end f old (Rmdir path) reply next new x = any_over g at end f old (Rmdir path) reply next new x
answer_in_room g at end f old (Rename from to) reply next new x = any_over g at end f old (Rename from to) reply next new x
answer_in_room g at end f old (Stat path) reply next new x = any_over g at end f old (Stat path) reply next new x
answer_in_room g at end f old (ListNames path) reply next new x = any_over g at end f old (ListNames path) reply next new x
answer_in_room g at end f old (Snap name) reply next new x = any_over g at end f old (Snap name) reply next new x
answer_in_room g at end f old (Unsnap name) reply next new x = any_over g at end f old (Unsnap name) reply next new x
answer_in_room g at end f old Snaps reply next new x = any_over g at end f old Snaps reply next new x
answer_in_room g at end f old (At name look) reply next new x = any_over g at end f old (At name look) reply next new x

-- Other moments.

module _ (g : Geometry) (at end now last : Moment) (same : SaysNoMore at now) (ends : SaysNoMore end last) where
  serves_too : (old new : RoomOn) → ServesRoom g at old new → ServesRoom g now old new
  serves_too old new x = record {
    serves = λ b p at since. (
      λ may. let y = (x.serves b p at since).0 may in ((same.sure p).1 y.0, (same.rests b).1 y.1),
      λ sure. (x.serves b p at since).1 ((same.sure p).0 sure.0, (same.rests b).0 sure.1),
    );
    others = x.others;
    serving = x.serving;
    waiting = x.waiting;
  }

  ticks_too : (f : Session) (old new : RoomOn) → TicksRoom g at f old new → TicksRoom g now f old new
  ticks_too f old new x = record { back = x.back; serves = λ alone. serves_too old new (x.serves (sym same.alone ∙ alone)) }

  waits_too : (point b : ℕ) (new : RoomOn) → WaitsFor end point new b → WaitsFor last point new b
  waits_too point b new (inl waits) = inl waits
  waits_too point b new (inr sure) = inr ((ends.sure point).1 sure.0, sure.1, sure.2)

  goes_too : (t : Tree) (point : ℕ) (old new : RoomOn) → LetsGoIn g end t point old new → LetsGoIn g last t point old new
  goes_too t point old new x = record { held = λ b at held. waits_too point b new (x.held b at held); takeable = x.takeable; since = x.since }

  syncs_too : (reply : Reply) (next : Session) (old new : RoomOn) → EndsSync g at end reply next old new → EndsSync g now last reply next old new
  syncs_too reply next old new (inl x) = inl (record {
    idle = x.idle;
    some = λ some. ⊎_elim (λ wait. inl (goes_too next.tree next.points old new wait)) (λ serve. inr (goes_too next.tree next.points _ new serve)) (x.some some);
    fits = λ some fits. goes_too next.tree next.points old new (x.fits some (same.fits fits));
  })
  syncs_too reply next old new (inr none) = inr none

  leaves_too : (cmd : Cmd) (reply : Reply) (next : Session) (old new : RoomOn) → LeavesWaiting g at end cmd reply next old new → LeavesWaiting g now last cmd reply next old new
  leaves_too Osync reply next old new x = syncs_too reply next old new x
  leaves_too Dsync reply next old new x = syncs_too reply next old new x
  leaves_too Durable reply next old new x = x
  leaves_too (Dwait n) reply next old new x = x
  leaves_too Poll reply next old new x = x
  leaves_too Bad reply next old new x = x
  leaves_too (Mkdir path) reply next old new x = x
  leaves_too (Create path) reply next old new x = x
  leaves_too (Write path offset bytes) reply next old new x = x
  leaves_too (Fill path offset count byte) reply next old new x = x
  leaves_too (Read path offset count) reply next old new x = x
  leaves_too (Truncate path size) reply next old new x = x
  leaves_too (Link path other) reply next old new x = x
  leaves_too (Unlink path) reply next old new x = x
  leaves_too (Rmdir path) reply next old new x = x
  leaves_too (Rename from to) reply next old new x = x
  leaves_too (Stat path) reply next old new x = x
  leaves_too (ListNames path) reply next old new x = x
  leaves_too (Snap name) reply next old new x = x
  leaves_too (Unsnap name) reply next old new x = x
  leaves_too Snaps reply next old new x = x
  leaves_too (At name look) reply next old new x = x

  any_too : (f : Session) (old : RoomOn) (cmd : Cmd) (reply : Reply) (next : Session) (new : RoomOn) → AnyAt g at end f old cmd reply next new → AnyAt g now last f old cmd reply next new
  any_too f old cmd reply next new (inl refused) = inl refused
  any_too f old cmd reply next new (inr (inl failed)) = inr (inl failed)
  any_too f old cmd reply next new (inr (inr x)) = inr (inr (record {
    back = x.back;
    ticks = ticks_too f old x.back x.ticks;
    ready = x.ready;
    settles = x.settles;
    full = x.full;
    answers = x.answers;
    leaves = leaves_too cmd reply next x.ready new x.leaves;
    is_room = x.is_room;
  }))

  pub answer_at_others : (f : Session) (old : RoomOn) (cmd : Cmd) (reply : Reply) (next : Session) (new : RoomOn) → AnswersAt g at end f old cmd reply next new → AnswersAt g now last f old cmd reply next new
  answer_at_others f old Bad reply next new x = x
  answer_at_others f old Osync reply next new x = any_too f old Osync reply next new x
  answer_at_others f old Dsync reply next new x = any_too f old Dsync reply next new x
  answer_at_others f old Durable reply next new x = any_too f old Durable reply next new x
  answer_at_others f old (Dwait n) reply next new x = any_too f old (Dwait n) reply next new x
  answer_at_others f old Poll reply next new x = any_too f old Poll reply next new x
  answer_at_others f old (Mkdir path) reply next new x = any_too f old (Mkdir path) reply next new x
  answer_at_others f old (Create path) reply next new x = any_too f old (Create path) reply next new x
  answer_at_others f old (Write path offset bytes) reply next new x = any_too f old (Write path offset bytes) reply next new x
  answer_at_others f old (Fill path offset count byte) reply next new x = any_too f old (Fill path offset count byte) reply next new x
  answer_at_others f old (Read path offset count) reply next new x = any_too f old (Read path offset count) reply next new x
  answer_at_others f old (Truncate path size) reply next new x = any_too f old (Truncate path size) reply next new x
  answer_at_others f old (Link path other) reply next new x = any_too f old (Link path other) reply next new x
  answer_at_others f old (Unlink path) reply next new x = any_too f old (Unlink path) reply next new x
  answer_at_others f old (Rmdir path) reply next new x = any_too f old (Rmdir path) reply next new x
  answer_at_others f old (Rename from to) reply next new x = any_too f old (Rename from to) reply next new x
  answer_at_others f old (Stat path) reply next new x = any_too f old (Stat path) reply next new x
  answer_at_others f old (ListNames path) reply next new x = any_too f old (ListNames path) reply next new x
  answer_at_others f old (Snap name) reply next new x = any_too f old (Snap name) reply next new x
  answer_at_others f old (Unsnap name) reply next new x = any_too f old (Unsnap name) reply next new x
  answer_at_others f old Snaps reply next new x = any_too f old Snaps reply next new x
  answer_at_others f old (At name look) reply next new x = any_too f old (At name look) reply next new x
