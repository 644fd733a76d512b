-- A command is answered as the tree answers it, or refused for a reason of the disk.
use Rattle.std.proofs.Common.{◌≡◌, ℕ, inl, inr, ⊎_elim, nat_lt, Bool, true, false, IsTrue, Result, Ok, Err, refl, sym, subst, ap, ◌∙◌, arith}
use Rattle.lang_tree.specs.declared.command.Cmd.{Cmd}
use Rattle.lang_tree.specs.declared.command.Cmd.TheVariants.{Osync, Dsync, Durable, Dwait, Poll, Bad}
use Rattle.lang_tree.specs.declared.command.Refusal.{Refusal}
use Rattle.lang_tree.specs.declared.command.Refusal.TheVariants as because
use Rattle.lang_tree.specs.declared.command.Reply.{Reply}
use Rattle.lang_tree.specs.declared.command.Reply.TheVariants.{Refused}
use Rattle.lang_tree.specs.Run.{is_of_disk}
use Rattle.lang_tree.specs.Step.{Session, step}
use Rattle.lang_tree.specs.Tree.{Tree}
use Rattle.crash_stands.specs.Bounds.{bounds_of}
use Rattle.crash_stands.specs.Stands.{IsTreeOf}
use Rattle.engine_blocks.specs.Calls.{IsSound}
use Rattle.engine_blocks.specs.State.{Bookkeeping, State}
use Rattle.fs_session.specs.Applying.{Applies, Runs, Began, AnswersSession, reply_for}
use Rattle.lang_tree.specs.Figures.{Figures}
use Rattle.fs_session.specs.Commands.{Carries, IsRefusedFor, figures_on}
use Rattle.fs_session.specs.Sessions.{IsSession, Stands}
use Rattle.fs_session.specs.Space.{LacksRoom}
use Rattle.fs_session.specs.Syncs.{SyncsSession, WaitsSession}
use Rattle.fs_session.specs.Staying.{session_ticks}
use Rattle.fs_session.proofs.applying.Cases.{answered_as}

lacks_room : (k : Bookkeeping) (n : Figures) (why : Refusal) → LacksRoom k n why → is_of_disk why ≡ true
lacks_room k n why (inl full) = ap is_of_disk full.is
lacks_room k n why (inr big) = ap is_of_disk big.is

-- each reason for which a command is refused from outside the tree is one of the disk
of_disk : (old new : State) (f : Session) (cmd : Cmd) (why : Refusal) → IsRefusedFor old new f cmd why → is_of_disk why ≡ true
of_disk old new f cmd why (inl room) = lacks_room old.books (figures_on old f cmd) why room.lacks
of_disk old new f cmd why (inr (inl scattered)) = ap is_of_disk scattered.is
of_disk old new f cmd why (inr (inr (inl fails))) = ap is_of_disk fails.is
of_disk old new f cmd why (inr (inr (inr (inl reading)))) = ap is_of_disk reading
of_disk old new f cmd why (inr (inr (inr (inr memory)))) = ap is_of_disk memory

module _ {S : Type 0} (tells : Bool) (state : S → State) (told : IsTrue tells) where
  -- done as the tree does it
  as_tree : (f : Session) (cmd : Cmd) (reply : Reply) (new : S) → reply ≡ (step f cmd).1 → IsSession (state new) (step f cmd).0 → AnswersSession tells state f cmd reply new
  as_tree f cmd reply new e h = record { next = (step f cmd).0; answers = inl (ap (λ r. ((step f cmd).0, r)) (sym e)); session = h }

  -- refused, and as it was
  refused_as : (f : Session) (cmd : Cmd) (reply : Reply) (why : Refusal) (new : S) → is_of_disk why ≡ true → reply ≡ Refused why → IsSession (state new) f → AnswersSession tells state f cmd reply new
  refused_as f cmd reply why new outside e h = record { next = f; answers = inr (inl (why, outside, e, refl)); session = h }

  of_carried : (f : Session) (cmd : Cmd) (result : Result Reply Refusal) (mid new : S) → IsSession (state mid) f → Carries tells cmd result (state mid) (state new) → AnswersSession tells state f cmd (reply_for result) new
  of_carried f cmd (Ok reply) mid new h carries = let d = carries.done told f h in as_tree f cmd reply new d.answer d.session
  of_carried f cmd (Err why) mid new h carries = refused_as f cmd (Refused why) why new (of_disk (state mid) (state new) f cmd why (carries.refused told f h)) refl (carries.kept told f h)

  of_synced : (orders : Bool) (f : Session) (cmd : Cmd) (result : Result Reply Refusal) (mid new : S) → IsSession (state mid) f → SyncsSession tells orders cmd result (state mid) (state new) → AnswersSession tells state f cmd (reply_for result) new
  of_synced orders f cmd (Ok reply) mid new h syncs = let d = syncs.done told f h in as_tree f cmd reply new d.0 d.1
  of_synced orders f cmd (Err why) mid new h syncs = refused_as f cmd (Refused why) why new (⊎_elim (ap is_of_disk) (ap is_of_disk) syncs.refused) refl (syncs.kept told f h)

  of_waited : (f : Session) (n : ℕ) (result : Result Reply Refusal) (mid new : S) → IsSession (state mid) f → WaitsSession tells n result (state mid) (state new) → AnswersSession tells state f (Dwait n) (reply_for result) new
  of_waited f n (Ok reply) mid new h waits = let d = waits.done told f h in as_tree f (Dwait n) reply new d.0 d.1
  of_waited f n (Err why) mid new h waits = refused_as f (Dwait n) (Refused why) why new (ap is_of_disk waits.refused) refl (waits.kept told f h)

  -- a command that ran
  of_run : (f : Session) (cmd : Cmd) (result : Result Reply Refusal) (mid new : S) → (state mid).books.stopped ≡ false → IsSound (state mid).books → IsSession (state mid) f → Runs tells state cmd result mid new → AnswersSession tells state f cmd (reply_for result) new
  of_run f Osync result mid new going sound h runs = of_synced true f Osync result mid new h runs
  of_run f Dsync result mid new going sound h runs = of_synced false f Dsync result mid new h runs
  of_run f Durable result mid new going sound h runs = record {
    next = f;
    answers = inr (inr (refl, record { asked = refl; point = (state mid).books.floor; is = ap reply_for runs.0; from = h.durable; upto = omega (arith, sound.floor, h.points going); same = refl }));
    session = subst (λ s. IsSession (state s) f) (sym runs.1) h;
  }
  of_run f (Dwait n) result mid new going sound h runs = of_waited f n result mid new h runs
  of_run f Poll result mid new going sound h runs = as_tree f Poll (reply_for result) new (ap reply_for runs.0) (subst (λ s. IsSession (state s) f) (sym runs.1) h)
  of_run f cmd result mid new going sound h runs = of_carried f cmd result mid new h runs

  -- a command that began
  of_begun : (f : Session) (cmd : Cmd) (reply : Reply) (old new : S) → ((s : S) → IsSound (state s).books) → (state old).books.stopped ≡ false → IsSession (state old) f → Began tells state cmd reply old new → AnswersSession tells state f cmd reply new
  of_begun f cmd reply old new sound going h began = ⊎_elim
      (λ failed. refused_as f cmd reply because.DiskFault new refl (began.is ∙ ap reply_for failed.1) (session_ticks tells true (state old) (state new) failed.0 f going told h))
      (λ ran. subst (λ r. AnswersSession tells state f cmd r new) (sym began.is)
      (of_run f cmd began.result began.mid new ran.0.moves.disk.stopped (sound began.mid) (session_ticks tells false (state old) (state began.mid) ran.0 f going told h) ran.1)) began.ran

  -- each command
  pub of_applied : ((s : S) → IsSound (state s).books) → (f : Session) (cmd : Cmd) (reply : Reply) (old new : S) → IsSession (state old) f → Applies tells state cmd reply old new → AnswersSession tells state f cmd reply new
  of_applied sound f cmd reply old new h applies = answered_as tells state cmd reply old new (AnswersSession tells state f cmd reply new) applies
      (λ none r. subst (λ c. AnswersSession tells state f c reply new) (sym none) (as_tree f Bad reply new r.0 (still r.1)))
      (λ meant over r. refused_as f cmd reply because.Stopped new refl r.0 (still r.1))
      (λ meant used r. refused_as f cmd reply because.Spent new refl r.0 (still r.1))
      (λ meant going left began. of_begun f cmd reply old new sound going h began)
    where
      still : new ≡ old → IsSession (state new) f
      still same = subst (λ s. IsSession (state s) f) (sym same) h

-- a tree that stands is that of a session
pub session_of : (s : State) (t : Tree) → IsTreeOf s.books.geom s.map t → (f : Session) × IsSession s f
session_of s t stands = (
  record { tree = t; limit = bounds_of s.books.geom; points = s.books.point; changed = nat_lt 0 s.books.running.weight; durable = 0 },
  record {
    tree = stands;
    limit = refl;
    points = λ going. refl;
    changed = λ going. refl;
    durable = omega arith;
  },
)

-- so one stands after each command
pub stands_after : {S : Type 0} (tells : Bool) (state : S → State) (cmd : Cmd) (reply : Reply) (old new : S) → ((f : Session) → IsSession (state old) f → AnswersSession tells state f cmd reply new) → Stands (state old) → Stands (state new)
stands_after tells state cmd reply old new answers stands =
    let f = session_of (state old) stands.0 stands.1 in
    let a = answers f.0 f.1 in
    (a.next.tree, a.session.tree)
