-- What had come before a command that is refused for a reason of the disk: it was stopped or spent, or it was carried out so far.
use Rattle.std.proofs.Common.{◌≡◌, ◌≢◌, ◌⊎◌, inl, inr, ⊎_elim, ℕ, ◌<◌, Bool, true, false, IsTrue, Result, Ok, Err, refl, sym, subst, ap, ◌∙◌, arith}
use Rattle.std.proofs.lemmas.Bool.{false≢true}
use Rattle.base_types.specs.Counts.{after_call}
use Rattle.lang_tree.specs.declared.command.Cmd.{Cmd}
use Rattle.lang_tree.specs.declared.command.Cmd.TheVariants.{Osync, Dsync, Durable, Dwait, Poll}
use Rattle.lang_tree.specs.declared.command.Refusal.{Refusal}
use Rattle.lang_tree.specs.declared.command.Refusal.TheVariants as because
use Rattle.lang_tree.specs.declared.command.Reply.{Reply}
use Rattle.lang_tree.specs.declared.command.Reply.TheVariants.{Refused}
use Rattle.lang_tree.specs.Figures.{Figures}
use Rattle.lang_tree.specs.Points.{is_refusal}
use Rattle.lang_tree.specs.Run.{Answers, is_of_disk, is_of_memory}
use Rattle.lang_tree.specs.Step.{Session, step}
use Rattle.engine_blocks.specs.State.{Bookkeeping, State}
use Rattle.fs_session.specs.Applying.{Applies, Began, Runs, is_spent, reply_for}
use Rattle.fs_session.specs.Commands.{Carries, IsRefusedFor, figures_on}
use Rattle.fs_session.specs.Sessions.{IsSession}
use Rattle.fs_session.specs.Space.{LacksRoom}
use Rattle.fs_session.specs.Syncs.{SyncsSession, WaitsSession}
use Rattle.fs_session.specs.Staying.{session_ticks}
use Rattle.fs_session.proofs.applying.Cases.{answered_as}

-- the two reasons for which a command is refused before it begins
abbrev is_late : Refusal → Bool
is_late because.Stopped = true
is_late because.Spent = true
is_late _ = false

lacks_room : (k : Bookkeeping) (n : Figures) (why : Refusal) → LacksRoom k n why → is_late why ≡ false
lacks_room k n why (inl full) = ap is_late full.is
lacks_room k n why (inr big) = ap is_late big.is

-- no reason for which a command is refused from outside the tree is one of these
none_late : (old new : State) (f : Session) (cmd : Cmd) (why : Refusal) → IsRefusedFor old new f cmd why → is_late why ≡ false
none_late old new f cmd why (inl room) = lacks_room old.books (figures_on old f cmd) why room.lacks
none_late old new f cmd why (inr (inl scattered)) = ap is_late scattered.is
none_late old new f cmd why (inr (inr (inl fails))) = ap is_late fails.is
none_late old new f cmd why (inr (inr (inr (inl reading)))) = ap is_late reading
none_late old new f cmd why (inr (inr (inr (inr memory)))) = ap is_late memory

-- a reply has one reason
pub same_reason : (a b : Refusal) → Refused a ≡ Refused b → a ≡ b
same_reason a b is = cc

some : (n m : ℕ) → m ≡ after_call true n → 0 < m
some n m is = omega (arith, is)

-- the disk failed, or the command was carried out up to this refusal
abbrev Failed : {S : Type 0} → Bool → (S → State) → Session → Cmd → Refusal → S → Type 0
Failed {S} tells state f cmd why new = (why ≡ because.DiskFault) ⊎ ((mid : S) × IsSession (state mid) f × Carries tells cmd (Err why) (state mid) (state new))

module _ {S : Type 0} (tells : Bool) (state : S → State) (told : IsTrue tells)
    (alone : (old new : Session) (cmd : Cmd) (why : Refusal) → Answers is_of_memory old cmd (Refused why) new → (is_of_disk why ≡ false) ⊎ (why ≡ because.NoMemory)) where
  module _ (why : Refusal) (outside : is_of_disk why ≡ true) (own : why ≢ because.NoMemory) (f : Session) where
    -- the tree never refuses so
    pub by_tree : (cmd : Cmd) → (step f cmd).1 ≡ Refused why → ⊥
    by_tree cmd e = ⊎_elim (λ inside. false≢true (sym inside ∙ outside)) own (alone f (step f cmd).0 cmd why (inl (ap (λ (r : Reply). ((step f cmd).0, r)) e)))

    of_carried : (cmd : Cmd) (result : Result Reply Refusal) (mid new : S) → IsSession (state mid) f → Carries tells cmd result (state mid) (state new) → reply_for result ≡ Refused why → Failed tells state f cmd why new
    of_carried cmd (Ok reply) mid new h carries is = absurd (by_tree cmd (sym (carries.done told f h).answer ∙ is))
    of_carried cmd (Err other) mid new h carries is = inr (mid, h, subst (λ w. Carries tells cmd (Err w) (state mid) (state new)) (same_reason other why is) carries)

    of_synced : (orders : Bool) (cmd : Cmd) (result : Result Reply Refusal) (mid new : S) → IsSession (state mid) f → SyncsSession tells orders cmd result (state mid) (state new) → reply_for result ≡ Refused why → Failed tells state f cmd why new
    of_synced orders cmd (Ok reply) mid new h syncs is = absurd (by_tree cmd (sym (syncs.done told f h).0 ∙ is))
    of_synced orders cmd (Err other) mid new h syncs is = ⊎_elim (λ disk. inl (sym (same_reason other why is) ∙ disk)) (λ memory. absurd (own (sym (same_reason other why is) ∙ memory))) syncs.refused

    of_waited : (n : ℕ) (result : Result Reply Refusal) (mid new : S) → IsSession (state mid) f → WaitsSession tells n result (state mid) (state new) → reply_for result ≡ Refused why → Failed tells state f (Dwait n) why new
    of_waited n (Ok reply) mid new h waits is = absurd (by_tree (Dwait n) (sym (waits.done told f h).0 ∙ is))
    of_waited n (Err other) mid new h waits is = inl (sym (same_reason other why is) ∙ waits.refused)

    of_run : (cmd : Cmd) (result : Result Reply Refusal) (mid new : S) → IsSession (state mid) f → Runs tells state cmd result mid new → reply_for result ≡ Refused why → Failed tells state f cmd why new
    of_run Osync result mid new h runs is = of_synced true Osync result mid new h runs is
    of_run Dsync result mid new h runs is = of_synced false Dsync result mid new h runs is
    of_run Durable result mid new h runs is = absurd (false≢true (ap is_refusal (ap reply_for (sym runs.0) ∙ is)))
    of_run (Dwait n) result mid new h runs is = of_waited n result mid new h runs is
    of_run Poll result mid new h runs is = absurd (false≢true (ap is_refusal (ap reply_for (sym runs.0) ∙ is)))
    of_run cmd result mid new h runs is = of_carried cmd result mid new h runs is

    of_begun : (cmd : Cmd) (reply : Reply) (old new : S) → (state old).books.stopped ≡ false → IsSession (state old) f → Began tells state cmd reply old new → reply ≡ Refused why → Failed tells state f cmd why new
    of_begun cmd reply old new going h began is = ⊎_elim
        (λ failed. inl (sym (same_reason because.DiskFault why (sym (ap reply_for failed.1) ∙ sym began.is ∙ is))))
        (λ ran. of_run cmd began.result began.mid new (session_ticks tells false (state old) (state began.mid) ran.0 f going told h) ran.1 (sym began.is ∙ is)) began.ran

    -- what had come before
    refused_so : (cmd : Cmd) (reply : Reply) (old new : S) → IsSession (state old) f → Applies tells state cmd reply old new → reply ≡ Refused why
        → ((why ≡ because.Stopped) × ((state old).books.stopped ≡ true)) ⊎ (((why ≡ because.Spent) × (is_spent (state old).books ≡ true)) ⊎ Failed tells state f cmd why new)
    refused_so cmd reply old new h applies is = answered_as tells state cmd reply old new
        (((why ≡ because.Stopped) × ((state old).books.stopped ≡ true)) ⊎ (((why ≡ because.Spent) × (is_spent (state old).books ≡ true)) ⊎ Failed tells state f cmd why new)) applies
        (λ none bad. absurd (false≢true (ap is_refusal (sym bad.0 ∙ is))))
        (λ meant over stopped. inl (sym (same_reason because.Stopped why (sym stopped.0 ∙ is)), over))
        (λ meant used spent. inr (inl (sym (same_reason because.Spent why (sym spent.0 ∙ is)), used)))
        (λ meant going left began. inr (inr (of_begun cmd reply old new going h began is)))

  module _ (f : Session) (cmd : Cmd) (reply : Reply) (old new : S) (h : IsSession (state old) f) (applies : Applies tells state cmd reply old new) where
    -- none that was carried out is refused as stopped or as spent
    never : {A : Type 0} (why : Refusal) → is_late why ≡ true → Failed tells state f cmd why new → A
    never why late (inl disk) = absurd (false≢true (ap is_late (sym disk) ∙ late))
    never why late (inr x) = absurd (false≢true (sym (none_late (state x.0) (state new) f cmd why (x.2.refused told f x.1)) ∙ late))

    pub stopped_before : reply ≡ Refused because.Stopped → (state old).books.stopped ≡ true
    stopped_before is = ⊎_elim (λ over. over.1) (⊎_elim (λ spent. absurd cc) (never because.Stopped refl)) (refused_so because.Stopped refl (λ e. absurd cc) f cmd reply old new h applies is)

    pub spent_before : reply ≡ Refused because.Spent → is_spent (state old).books ≡ true
    spent_before is = ⊎_elim (λ over. absurd cc) (⊎_elim (λ spent. spent.1) (never because.Spent refl)) (refused_so because.Spent refl (λ e. absurd cc) f cmd reply old new h applies is)

    -- a failed read was counted
    pub unread_counted : reply ≡ Refused because.ReadFault → 0 < (state new).counts.read_faults
    unread_counted is = ⊎_elim (λ over. absurd cc) (⊎_elim (λ spent. absurd cc) (⊎_elim (λ disk. absurd cc) (λ x. some (state x.0).counts.read_faults (state new).counts.read_faults x.2.runs.read_faults)))
        (refused_so because.ReadFault refl (λ e. absurd cc) f cmd reply old new h applies is)
