-- A run may go on where no memory is found, and where the disk has failed: each command has an answer that leaves the room as it is.
use Rattle.std.proofs.Common.{◌≡◌, ◌≢◌, ◌⊎◌, inl, inr, ◌<◌, ◌≤◌, ◌==◌, Bool, true, false, if◌then◌else◌, refl, sym, subst, arith, ℕ, nat_le}
use Rattle.std.proofs.lemmas.Bool.{cases_Bool, cond-true, cond-false, eqb-true, eqb-false}
use Rattle.layout_geometry.specs.Geometry.{Geometry}
use Rattle.lang_tree.specs.declared.command.Cmd.{Cmd}
use Rattle.lang_tree.specs.declared.command.Cmd.TheVariants.{Osync, Dsync, Durable, Dwait, Poll, Bad}
use Rattle.lang_tree.specs.declared.command.Refusal.TheVariants.{Stopped, NoMemory}
use Rattle.lang_tree.specs.declared.command.Reply.{Reply}
use Rattle.lang_tree.specs.declared.command.Reply.TheVariants.{Refused}
use Rattle.lang_tree.specs.Step.{Session, step, osync, dwait}
use Rattle.fs_session.specs.DiskRoom.{AnswersOn, AnswersOver, BeginsOver, IsRoomOf, SyncsOver, without_memory}
use Rattle.fs_session.specs.Room.{Room}
use Rattle.fs_session.proofs.rooms.Over.{answers_on}

-- a command is answered, and the room is one of the session that follows
abbrev pub GoesOn : Geometry → Session → Room → Cmd → Session × Reply → Type 0
GoesOn g f r cmd x = AnswersOn g f r cmd x.1 x.0 r × IsRoomOf g x.0 r

-- the tree alone makes a room that of a session
other_session : (g : Geometry) (f next : Session) (r : Room) → next.tree ≡ f.tree → IsRoomOf g f r → IsRoomOf g next r
other_session g f next r same is = subst (λ t. IsRoomOf g (record next { tree = t }) r) (sym same) assumption

-- a wait leaves the tree as it is
dwait_tree : (f : Session) (n : ℕ) (b : Bool) → (dwait f n b).0.tree ≡ f.tree
dwait_tree f n true = refl
dwait_tree f n false = refl

-- a sync leaves the tree as it is
osync_tree : (f : Session) (changed : Bool) → (osync f changed).0.tree ≡ f.tree
osync_tree f true = refl
osync_tree f false = refl

module _ (g : Geometry) (f : Session) (r : Room) (is : IsRoomOf g f r) where
  begins : (cmd : Cmd) (reply : Reply) (next : Session) → AnswersOver g f r cmd reply next r → IsRoomOf g next r → BeginsOver g f r cmd reply next r
  begins cmd reply next answers same = record { back = r; comes_back = record { weight = refl; held = refl; keeps = record { places = refl; kept = refl; takeable = λ b may. may }; is_room = is }; answers = answers; is_room = same }

  -- a sync, done where it has nothing to commit, and else out of memory
  quiet_sync : (cmd : Cmd) → (step f cmd).0.tree ≡ f.tree
      → ((r.weight == 0) ≡ true) ⊎ ((r.weight == 0) ≡ false) → SyncsOver f r cmd (if r.weight == 0 then step f cmd else (f, Refused NoMemory)).1 (if r.weight == 0 then step f cmd else (f, Refused NoMemory)).0 r
      × IsRoomOf g (if r.weight == 0 then step f cmd else (f, Refused NoMemory)).0 r
  quiet_sync cmd tree (inl none) =
      subst (λ (x : Session × Reply). SyncsOver f r cmd x.1 x.0 r × IsRoomOf g x.0 r) (sym (cond-true (r.weight == 0) (step f cmd) (f, Refused NoMemory) none)) (
        inl (
          refl,
          record {
            weight = eqb-true r.weight 0 none;
            held = sym (cond-true (r.weight == 0) r.held 0 none);
            keeps = record { places = refl; kept = refl; takeable = λ b may. may };
          },
        ),
        other_session g f (step f cmd).0 r tree is,
      )
  quiet_sync cmd tree (inr some) =
      let weighed : 0 < r.weight = omega (arith, eqb-false r.weight 0 some) in
      subst (λ (x : Session × Reply). SyncsOver f r cmd x.1 x.0 r × IsRoomOf g x.0 r) (sym (cond-false (r.weight == 0) (step f cmd) (f, Refused NoMemory) some)) (
        inr (inl (NoMemory, (refl, weighed), refl, refl, refl)),
        is,
      )

  -- each command, out of memory where it takes some
  pub quiet_answer : f.durable ≤ f.points → (cmd : Cmd) → GoesOn g f r cmd (without_memory f r cmd)
  quiet_answer upto Bad = ((refl, refl), is)
  quiet_answer upto Poll = (inr (begins Poll (step f Poll).1 f (inl (refl, refl)) is), is)
  quiet_answer upto Durable = (inr (begins Durable (step f Durable).1 f (inl (record { asked = refl; point = f.durable; is = refl; from = omega arith; upto = upto; same = refl }, refl)) is), is)
  quiet_answer upto (Dwait n) =
      let same = other_session g f (step f (Dwait n)).0 r (dwait_tree f n (nat_le n f.points)) is in
      (inr (begins (Dwait n) (step f (Dwait n)).1 (step f (Dwait n)).0 (inl (refl, refl)) same), same)
  quiet_answer upto Osync = let x = quiet_sync Osync (osync_tree f f.changed) (cases_Bool (r.weight == 0)) in (inr (begins Osync (without_memory f r Osync).1 (without_memory f r Osync).0 x.0 x.1), x.1)
  quiet_answer upto Dsync = let x = quiet_sync Dsync (osync_tree f f.changed) (cases_Bool (r.weight == 0)) in (inr (begins Dsync (without_memory f r Dsync).1 (without_memory f r Dsync).0 x.0 x.1), x.1)
  quiet_answer upto cmd = (inr (begins cmd (Refused NoMemory) f (inl (inr (NoMemory, inr (inr refl), refl, refl, refl))) is), is)

-- where the disk has failed, all but a bad line are refused by that
pub stopped_answer : (g : Geometry) (f : Session) (r : Room) (cmd : Cmd) → cmd ≢ Bad → AnswersOn g f r cmd (Refused Stopped) f r
stopped_answer g f r cmd good = answers_on g f r cmd (Refused Stopped) f r good (inl (Stopped, inl refl, refl, refl, refl))
