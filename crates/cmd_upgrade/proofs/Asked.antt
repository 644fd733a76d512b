-- One command that was asked of a file system over a disk: what is known of it, and why it was refused where the tree does it.
use Rattle.std.proofs.Common.{◌≡◌, ◌≢◌, ◌⊎◌, inl, inr, ℕ, zero, suc, ◌+◌, ◌-◌, ◌*◌, ◌^◌, ◌<◌, ◌≤◌, Bool, true, false, true≢false, IsTrue, List, [], ◌∷◌, ◌++◌, length, slice_get, Option, Some, None, refl, sym, ap, ◌∙◌, subst, arith}
use Rattle.std.proofs.lemmas.Bool.{false≢true, leb-true}
use Rattle.base_types.specs.Counts.{after_call}
use Rattle.layout_geometry.specs.Geometry.{Geometry, bitmap_blocks}
use Rattle.lang_tree.specs.declared.command.Cmd.{Cmd}
use Rattle.lang_tree.specs.declared.command.Cmd.TheVariants.{Bad, Durable, Dwait, Dsync, Osync, Poll}
use Rattle.lang_tree.specs.declared.command.Refusal.{Refusal}
use Rattle.lang_tree.specs.declared.command.Refusal.TheVariants as because
use Rattle.lang_tree.specs.declared.command.Reply.{Reply}
use Rattle.lang_tree.specs.declared.command.Reply.TheVariants.{Known, Refused, Synced}
use Rattle.lang_tree.specs.Points.{is_sync}
use Rattle.lang_tree.specs.Step.{Session, step}
use Rattle.engine_blocks.specs.State.{Bookkeeping, State}
use Rattle.fs_session.specs.Applying.{Applies, is_spent}
use Rattle.fs_session.specs.Commands.{is_on_tree}
use Rattle.fs_session.specs.DiskRoom.{AnswersOn, AnswersOver, BeginsOver, ComesBack, RunsOn}
use Rattle.fs_session.specs.Memory.{room_of}
use Rattle.fs_session.specs.Room.{IsDoneIn, IsRefusedIn, RefusesIn, Room, Scatters, figures_in, left_in, most_weight}
use Rattle.fs_session.specs.Sessions.{IsSession}
use Rattle.fs_session.specs.Space.{FailsToFit}
use Rattle.cmd_session.specs.Ending.{is_none}
use Rattle.cmd_session.specs.Histories.{HasNoFault}
use Rattle.cmd_session.specs.Shared.{get_split_at}
use Rattle.cmd_image.specs.Refusals.{CountsByReply, is_failed}

-- What is known of it, by the laws of commands.
pub record IsAsked (cmd : Cmd) (reply : Reply) (old new : State) : Type 0 where
  pub answers : (f : Session) → IsSession old f → (next : Session) × IsSession new next × (new.books.geom ≡ old.books.geom) × AnswersOn old.books.geom f (room_of old) cmd reply next (room_of new)
  pub counts : (f : Session) → IsSession old f → CountsByReply reply old.counts new.counts
  pub read : (f : Session) → IsSession old f → reply ≡ Refused because.ReadFault → 0 < new.counts.read_faults
  pub stopped : (f : Session) → IsSession old f → reply ≡ Refused because.Stopped → old.books.stopped ≡ true
  pub spent : (f : Session) → IsSession old f → reply ≡ Refused because.Spent → (2 ^ 63 - 8 ≤ old.books.turns) × (2 ^ 63 - 8 ≤ new.books.turns)
  pub rises : new.books.turns ≤ old.books.turns + 2 ^ 20

module _ {S : Type 0} (tells : Bool) (state : S → State) where
  -- the laws
  pub record DiskLaws : Type 0 where
    pub answers : IsTrue tells → (old new : S) (f : Session) (cmd : Cmd) (reply : Reply) → IsSession (state old) f → Applies tells state cmd reply old new
        → (next : Session) × IsSession (state new) next × ((state new).books.geom ≡ (state old).books.geom) × AnswersOn (state old).books.geom f (room_of (state old)) cmd reply next (room_of (state new))
    pub counts : IsTrue tells → (old new : S) (f : Session) (cmd : Cmd) (reply : Reply) → IsSession (state old) f → Applies tells state cmd reply old new → CountsByReply reply (state old).counts (state new).counts
    pub read : IsTrue tells → (old new : S) (f : Session) (cmd : Cmd) (reply : Reply) → IsSession (state old) f → Applies tells state cmd reply old new → reply ≡ Refused because.ReadFault → 0 < (state new).counts.read_faults
    pub stopped : IsTrue tells → (old new : S) (f : Session) (cmd : Cmd) (reply : Reply) → IsSession (state old) f → Applies tells state cmd reply old new → reply ≡ Refused because.Stopped → (state old).books.stopped ≡ true
    pub spent : IsTrue tells → (old new : S) (f : Session) (cmd : Cmd) (reply : Reply) → IsSession (state old) f → Applies tells state cmd reply old new → reply ≡ Refused because.Spent → is_spent (state old).books ≡ true
    pub rises : (old new : S) (cmd : Cmd) (reply : Reply) → Applies tells state cmd reply old new → (state new).books.turns ≤ (state old).books.turns + 2 ^ 20

  -- a line that is none is told apart
  none_is : (cmd : Cmd) → is_none cmd ≡ true → cmd ≡ Bad
  none_is Bad is = refl
  none_is other is = absurd (false≢true is)

  -- with numbers that are used up nothing is done
  rests : (cmd : Cmd) (reply : Reply) (old new : S) → Applies tells state cmd reply old new → is_spent (state old).books ≡ true → new ≡ old
  rests cmd reply old new a ends = by (is_none cmd) refl (state old).books.stopped refl
    where
      no_none : is_none cmd ≡ false → cmd ≢ Bad
      no_none other is = false≢true (sym other ∙ ap is_none is)

      by : (none : Bool) → is_none cmd ≡ none → (stopped : Bool) → (state old).books.stopped ≡ stopped → new ≡ old
      by true none stopped halts = (a.bad (none_is cmd none)).1
      by false none true halts = (a.stopped (no_none none) halts).1
      by false none false halts = (a.spent (no_none none) halts ends).1

  pub asked : DiskLaws → IsTrue tells → (cmd : Cmd) (reply : Reply) (old new : S) → Applies tells state cmd reply old new → IsAsked cmd reply (state old) (state new)
  asked laws told cmd reply old new a = record {
    answers = λ f is. laws.answers told old new f cmd reply is a;
    counts = λ f is. laws.counts told old new f cmd reply is a;
    read = λ f is. laws.read told old new f cmd reply is a;
    stopped = λ f is. laws.stopped told old new f cmd reply is a;
    spent = λ f is e.
        let ends = laws.spent told old new f cmd reply is a e in
        let far = leb-true (2 ^ 63 - 8) (state old).books.turns ends in
        (far, subst (λ (s : S). 2 ^ 63 - 8 ≤ (state s).books.turns) (sym (rests cmd reply old new a ends)) far);
    rises = laws.rises old new cmd reply a;
  }

-- The counts.

pub failed_counts : (reply : Reply) (old new : State) → CountsByReply reply old.counts new.counts → reply ≡ Refused because.DiskFault → 0 < new.counts.faults
failed_counts reply old new counts is = by (is_failed reply) (ap is_failed is) counts.faults
  where
    by : (failed : Bool) → failed ≡ true → new.counts.faults ≡ after_call failed old.counts.faults → 0 < new.counts.faults
    by true e count = omega (arith, count)
    by false e count = absurd (false≢true e)

pub still_counted : (reply : Reply) (old new : State) → CountsByReply reply old.counts new.counts → 0 < old.counts.faults → 0 < new.counts.faults
still_counted reply old new counts some = by (is_failed reply) counts.faults
  where
    by : (failed : Bool) → new.counts.faults ≡ after_call failed old.counts.faults → 0 < new.counts.faults
    by true count = omega (arith, count, some)
    by false count = omega (arith, count, some)

pub calm_more : (replies : List Reply) (reply : Reply) → HasNoFault replies → reply ≢ Refused because.DiskFault → HasNoFault (replies ++ reply ∷ [])
calm_more replies reply calm other i is = by (get_split_at replies reply (Refused because.DiskFault) i is)
  where
    by : (slice_get replies i ≡ Some (Refused because.DiskFault)) ⊎ ((reply ≡ Refused because.DiskFault) × (i ≡ length replies)) → ⊥
    by (inl earlier) = calm i earlier
    by (inr last) = other last.0

-- no fault was answered, or one was counted
pub over_more : (replies : List Reply) (reply : Reply) (old new : State) → HasNoFault replies ⊎ (0 < old.counts.faults) → CountsByReply reply old.counts new.counts → HasNoFault (replies ++ reply ∷ []) ⊎ (0 < new.counts.faults)
over_more replies reply old new (inr some) counts = inr (still_counted reply old new counts some)
over_more replies reply old new (inl calm) counts = by (is_failed reply) refl counts.faults
  where
    by : (failed : Bool) → is_failed reply ≡ failed → new.counts.faults ≡ after_call failed old.counts.faults → HasNoFault (replies ++ reply ∷ []) ⊎ (0 < new.counts.faults)
    by true is count = inr (omega (arith, count))
    by false is count = inl (calm_more replies reply calm (λ e. false≢true (sym is ∙ ap is_failed e)))

-- Why it was refused.

same_why : (a b : Refusal) → Refused a ≡ Refused b → a ≡ b
same_why a b is = cc

-- it doesn't fit in the room that came back, or would scatter a node
abbrev pub LacksIn : Geometry → Session → Room → Cmd → Refusal → Type 0
LacksIn g f back cmd why = FailsToFit (left_in g f back) back.weight (most_weight g) (figures_in g f back cmd) why ⊎ Scatters g f back cmd (figures_in g f back cmd).need why

-- the disk stopped before, or its numbers are used up; a call of it failed; or there is no room
abbrev pub Refuses : Geometry → Session → Room → Cmd → Refusal → Type 0
Refuses g f r cmd why =
    ((why ≡ because.Stopped) ⊎ (why ≡ because.Spent)) ⊎ (((why ≡ because.DiskFault) ⊎ (why ≡ because.ReadFault)) ⊎ ((back : Room) × ComesBack g f r back × LacksIn g f back cmd why))

module _ (g : Geometry) (f next : Session) (why : Refusal) (room : Room) (memory : why ≡ because.NoMemory → ⊥) where
  abbrev Over : Room → Cmd → Type 0
  Over back cmd = ((why ≡ because.DiskFault) ⊎ (why ≡ because.ReadFault)) ⊎ LacksIn g f back cmd why

  -- a refusal for the disk, of a read or of another call
  by_disk : {A : Type 0} (back : Room) (cmd : Cmd) (w : Refusal) → Refused why ≡ Refused w → (w ≡ because.DiskFault) ⊎ (A × (w ≡ because.ReadFault)) → Over back cmd
  by_disk back cmd w is (inl fault) = inl (inl (same_why why w is ∙ fault))
  by_disk back cmd w is (inr read) = inl (inr (same_why why w is ∙ read.1))

  no_memory : (w : Refusal) → Refused why ≡ Refused w → w ≡ because.NoMemory → ⊥
  no_memory w is of = memory (same_why why w is ∙ of)

  -- a refusal for want of room or of memory
  by_room : (r : Room) (cmd : Cmd) (w : Refusal) → Refused why ≡ Refused w → IsRefusedIn g f r cmd w → LacksIn g f r cmd why
  by_room r cmd w is (inl fails) = inl (subst (FailsToFit (left_in g f r) r.weight (most_weight g) (figures_in g f r cmd)) (sym (same_why why w is)) fails.1)
  by_room r cmd w is (inr (inl scatters)) = inr (subst (Scatters g f r cmd (figures_in g f r cmd).need) (sym (same_why why w is)) scatters.2)
  by_room r cmd w is (inr (inr none)) = absurd (no_memory w is none)

  -- a command on the tree, once it began
  on_tree : (back : Room) (cmd : Cmd) → ((w : Refusal) → (step f cmd).1 ≡ Refused w → ⊥)
      → (IsDoneIn g f back cmd (Refused why) next room ⊎ RefusesIn (IsRefusedIn g f back cmd) f back (Refused why) next room)
      ⊎ RefusesIn (λ (w : Refusal). (w ≡ because.DiskFault) ⊎ ((is_on_tree cmd ≡ true) × (w ≡ because.ReadFault))) f back (Refused why) next room → Over back cmd
  on_tree back cmd seen (inl (inl d)) = absurd (seen why (ap (λ (p : Session × Reply). p.1) d.answer))
  on_tree back cmd seen (inl (inr m)) = inr (by_room back cmd m.0 m.2 m.1)
  on_tree back cmd seen (inr m) = by_disk back cmd m.0 m.2 m.1

  -- any command, once it began
  over : (back : Room) (cmd : Cmd) → ((w : Refusal) → (step f cmd).1 ≡ Refused w → ⊥) → AnswersOver g f back cmd (Refused why) next room → Over back cmd
  over back Osync seen (inl d) = absurd (seen why (ap (λ (p : Session × Reply). p.1) d.0))
  over back Osync seen (inr (inl m)) = absurd (no_memory m.0 m.2 m.1.0)
  over back Osync seen (inr (inr d)) = inl (inl (same_why why because.DiskFault d.0))
  over back Dsync seen (inl d) = absurd (seen why (ap (λ (p : Session × Reply). p.1) d.0))
  over back Dsync seen (inr (inl m)) = absurd (no_memory m.0 m.2 m.1.0)
  over back Dsync seen (inr (inr d)) = inl (inl (same_why why because.DiskFault d.0))
  over back Bad seen (inl d) = absurd (seen why (ap (λ (p : Session × Reply). p.1) d.0))
  over back Bad seen (inr m) = by_disk back Bad m.0 m.2 m.1
  over back Poll seen (inl d) = absurd (seen why (ap (λ (p : Session × Reply). p.1) d.0))
  over back Poll seen (inr m) = by_disk back Poll m.0 m.2 m.1
  over back (Dwait n) seen (inl d) = absurd (seen why (ap (λ (p : Session × Reply). p.1) d.0))
  over back (Dwait n) seen (inr m) = by_disk back (Dwait n) m.0 m.2 m.1
  over back Durable seen (inl d) = let other : Refused why ≡ Known d.0.point = d.0.is in absurd cc
  over back Durable seen (inr m) = by_disk back Durable m.0 m.2 m.1
  over back other seen a = on_tree back other seen a

  at_once : (r : Room) (cmd : Cmd) (w : Refusal) → Refused why ≡ Refused w → (w ≡ because.Stopped) ⊎ (w ≡ because.Spent) → Refuses g f r cmd why
  at_once r cmd w is (inl stopped) = inl (inl (same_why why w is ∙ stopped))
  at_once r cmd w is (inr spent) = inl (inr (same_why why w is ∙ spent))

  begun : (r : Room) (cmd : Cmd) (back : Room) → ComesBack g f r back → Over back cmd → Refuses g f r cmd why
  begun r cmd back comes (inl disk) = inr (inl disk)
  begun r cmd back comes (inr lacks) = inr (inr (back, comes, lacks))

  answered : (r : Room) (cmd : Cmd) → ((w : Refusal) → (step f cmd).1 ≡ Refused w → ⊥)
      → RefusesIn (λ (w : Refusal). (w ≡ because.Stopped) ⊎ (w ≡ because.Spent)) f r (Refused why) next room ⊎ BeginsOver g f r cmd (Refused why) next room → Refuses g f r cmd why
  answered r cmd seen (inl at) = at_once r cmd at.0 at.2 at.1
  answered r cmd seen (inr b) = begun r cmd b.back b.comes_back (over b.back cmd seen b.answers)

  pub refused_why : (r : Room) (cmd : Cmd) → ((w : Refusal) → (step f cmd).1 ≡ Refused w → ⊥) → AnswersOn g f r cmd (Refused why) next room → Refuses g f r cmd why
  refused_why r Bad seen a = absurd (seen why (ap (λ (p : Session × Reply). p.1) a.0))
  refused_why r other seen a = answered r other seen a

-- A sync is refused by the disk, or for want of memory.
pub refused_sync : (g : Geometry) (f next : Session) (r room : Room) (cmd : Cmd) (why : Refusal) → is_sync cmd ≡ true → (why ≡ because.NoMemory → ⊥) → ((w : Refusal) → (step f cmd).1 ≡ Refused w → ⊥)
    → AnswersOn g f r cmd (Refused why) next room → ((why ≡ because.Stopped) ⊎ (why ≡ because.Spent)) ⊎ (why ≡ because.DiskFault)
refused_sync g f next r room Osync why is memory seen (inl at) = inl (of at.0 at.2 at.1)
  where
    of : (w : Refusal) → Refused why ≡ Refused w → (w ≡ because.Stopped) ⊎ (w ≡ because.Spent) → (why ≡ because.Stopped) ⊎ (why ≡ because.Spent)
    of w e (inl stopped) = inl (same_why why w e ∙ stopped)
    of w e (inr spent) = inr (same_why why w e ∙ spent)
refused_sync g f next r room Osync why is memory seen (inr b) = by b.answers
  where
    by : AnswersOver g f b.back Osync (Refused why) next room → ((why ≡ because.Stopped) ⊎ (why ≡ because.Spent)) ⊎ (why ≡ because.DiskFault)
    by (inl d) = absurd (seen why (ap (λ (p : Session × Reply). p.1) d.0))
    by (inr (inl m)) = absurd (memory (same_why why m.0 m.2 ∙ m.1.0))
    by (inr (inr d)) = inr (same_why why because.DiskFault d.0)
refused_sync g f next r room Dsync why is memory seen (inl at) = inl (of at.0 at.2 at.1)
  where
    of : (w : Refusal) → Refused why ≡ Refused w → (w ≡ because.Stopped) ⊎ (w ≡ because.Spent) → (why ≡ because.Stopped) ⊎ (why ≡ because.Spent)
    of w e (inl stopped) = inl (same_why why w e ∙ stopped)
    of w e (inr spent) = inr (same_why why w e ∙ spent)
refused_sync g f next r room Dsync why is memory seen (inr b) = by b.answers
  where
    by : AnswersOver g f b.back Dsync (Refused why) next room → ((why ≡ because.Stopped) ⊎ (why ≡ because.Spent)) ⊎ (why ≡ because.DiskFault)
    by (inl d) = absurd (seen why (ap (λ (p : Session × Reply). p.1) d.0))
    by (inr (inl m)) = absurd (memory (same_why why m.0 m.2 ∙ m.1.0))
    by (inr (inr d)) = inr (same_why why because.DiskFault d.0)
refused_sync g f next r room other why is memory seen a = absurd (false≢true is)

-- A sync that is done weighs nothing any more.
pub synced_weight : (g : Geometry) (f next : Session) (r room : Room) (n : ℕ) → AnswersOn g f r Osync (Synced n) next room → room.weight ≡ 0
synced_weight g f next r room n (inl at) = let other : Synced n ≡ Refused at.0 = at.2 in absurd cc
synced_weight g f next r room n (inr b) = by b.answers
  where
    by : AnswersOver g f b.back Osync (Synced n) next room → room.weight ≡ 0
    by (inl d) = d.1.weight
    by (inr (inl m)) = let other : Synced n ≡ Refused m.0 = m.2 in absurd cc
    by (inr (inr d)) = let other : Synced n ≡ Refused because.DiskFault = d.0 in absurd cc

-- A run goes on with one command more.
pub runs_more : (g : Geometry) (f mid next : Session) (r room now : Room) (cmds : List Cmd) (replies : List Reply) (cmd : Cmd) (reply : Reply) → RunsOn g f r cmds replies mid room → AnswersOn g mid room cmd reply next now
    → RunsOn g f r (cmds ++ cmd ∷ []) (replies ++ reply ∷ []) next now
runs_more g f mid next r room now [] [] cmd reply run on =
    (next, now, subst (λ (s : Session). AnswersOn g s r cmd reply next now) run.0 (subst (λ (x : Room). AnswersOn g mid x cmd reply next now) run.1 on), (refl, refl))
runs_more g f mid next r room now [] (x ∷ replies) cmd reply run on = absurd run
runs_more g f mid next r room now (x ∷ cmds) [] cmd reply run on = absurd run
runs_more g f mid next r room now (c ∷ cmds) (x ∷ replies) cmd reply run on = (run.0, run.1, run.2, runs_more g run.0 mid next run.1 room now cmds replies cmd reply run.3 on)
