-- Where nothing fails by a disk's manner, no call of it has failed, and no reply of a run says so.
use Rattle.std.proofs.Common.{◌≡◌, inl, inr, ℕ, zero, suc, ◌<◌, Bool, false, IsTrue, List, [], ◌∷◌, take, slice_get, Some, unwrap_or, Result, Ok, Err, refl, sym, ap, ◌∙◌, subst, arith}
use Rattle.std.proofs.Math.Logic.{∥∥₁_elim}
use Rattle.std.proofs.lemmas.Bool.{false≢true}
use Rattle.base_types.specs.Counts.{after_call}
use Rattle.disk_contract.specs.declared.bay.Mark.{Mark}
use Rattle.disk_contract.specs.declared.event.Event.{Event}
use Rattle.disk_contract.specs.Bay.{BayState}
use Rattle.disk_contract.specs.Disk.{State}
use Rattle.disk_contract.specs.Manner.{Manner, HasFailedBy}
use Rattle.lang_tree.specs.declared.command.Refusal.{Refusal}
use Rattle.lang_tree.specs.declared.command.Refusal.TheVariants as because
use Rattle.lang_tree.specs.declared.command.Reply.{Reply}
use Rattle.lang_tree.specs.declared.command.Reply.TheVariants as replies
use Rattle.cmd_image.specs.Shows.{FailedByManner, MayFailToOpen}
use Rattle.cmd_image.specs.declared.ending.Ending.{Ending}
use Rattle.cmd_image.specs.declared.ending.RunRefusal.{RunRefusal}
use Rattle.cmd_image.specs.declared.ending.RunRefusal.TheVariants as run
use Rattle.cmd_image.specs.Refusals.{is_failed}
use Rattle.cmd_image.specs.Runs.{ComesOfDisk, HasReason, HaveReasons, Marks, MarksGo, Streams}
use Rattle.lang_log.specs.declared.call.LogReply.{LogReply}
use Rattle.lang_log.specs.declared.call.LogReply.TheVariants as logged
use Rattle.cmd_log.specs.declared.refusal.LogRunRefusal.{LogRunRefusal}
use Rattle.cmd_log.specs.declared.refusal.LogRunRefusal.TheVariants as logs
use Rattle.cmd_log.specs.Logs.{ComesOfLogDisk, HasLogReason, HaveLogReasons}
use Rattle.cmd_program.specs.Calm.{IsCalm, NothingFails, is_for_a_call}

not_failed : (m : Manner) (log : List Event) → NothingFails m → HasFailedBy m log → ⊥
not_failed m log calm (inl last) = false≢true (sym (calm.loses last.before) ∙ last.may)
not_failed m log calm (inr (inl refuses)) = false≢true (sym (calm.refuses log) ∙ refuses)
not_failed m log calm (inr (inr stalls)) = false≢true (sym calm.stalls ∙ stalls)

-- no call of a disk has failed
pub no_call_failed : (d : State) → NothingFails d.manner → FailedByManner d → ⊥
no_call_failed d calm (inl unread) = false≢true (sym calm.reads ∙ unread.1)
no_call_failed d calm (inr failed) = not_failed d.manner d.log calm failed.1

-- a bay that is calm opens what is under the name
pub opens_calmly : (name : List ℕ) (bay : BayState) → IsCalm name bay → MayFailToOpen name bay → ⊥
opens_calmly name bay calm (inl may) = false≢true (sym calm.calls ∙ may)
opens_calmly name bay calm (inr none) = calm.there none

-- the disk of a run is of one manner
pub one_manner : (tells : Bool) (first last : State) (marks : List Mark) (answer : Result Ending RunRefusal) (before after : Streams) → IsTrue tells → ComesOfDisk tells first last marks answer before after → last.manner ≡ first.manner
one_manner tells first last marks (Ok ending) before after t comes = (comes.runs t).manner
one_manner tells first last marks (Err run.SinkFault) before after t comes = (comes.runs t).manner
one_manner tells first last marks (Err run.NoMemory) before after t (inl unopened) = unopened.spends.manner
one_manner tells first last marks (Err run.NoMemory) before after t (inr ran) = (ran.runs t).manner
one_manner tells first last marks other before after t comes = comes.spends.manner

-- The replies of a run.

-- a reply that isn't 14 counts no call
uncounted : (reply : Reply) → (reply ≡ replies.Refused because.DiskFault → ⊥) → is_failed reply ≡ false
uncounted (replies.Refused because.DiskFault) other = absurd (other refl)
uncounted rest other = refl

module _ (m : Manner) (calm : NothingFails m) (log : List Event) where
  unfailed : (reply : Reply) (by_then : List Event) → HasReason m by_then reply → reply ≡ replies.Refused because.DiskFault → ⊥
  unfailed reply by_then reason is = ∥∥₁_elim (reason.fails is) (λ x y. absurd x) (λ (failed : HasFailedBy m by_then). not_failed m by_then calm failed)

  no_call : (before now : Mark) (reply : Reply) (moment : ℕ) (by_then : List Event) (why : Refusal) → before.faults ≡ 0 → Marks before reply moment now → HasReason m by_then reply → reply ≡ replies.Refused why → is_for_a_call why ≡ false
  no_call before now reply moment by_then because.ReadFault none mark reason is = absurd (false≢true (sym calm.reads ∙ reason.reads is))
  no_call before now reply moment by_then because.DiskFault none mark reason is = absurd (unfailed reply by_then reason is)
  no_call before now reply moment by_then because.Stopped none mark reason is = absurd (omega (arith, mark.stopped is, none))
  no_call before now reply moment by_then other none mark reason is = refl

  pub no_reply : (before now : Mark) (given : List Reply) (moments : List ℕ) (marks : List Mark) → before.faults ≡ 0 → MarksGo before given moments marks now → HaveReasons m log given moments
      → (i : ℕ) (why : Refusal) → slice_get given i ≡ Some (replies.Refused why) → is_for_a_call why ≡ false
  no_reply before now [] [] [] none go have i why at = absurd cc
  no_reply before now (r ∷ given) (k ∷ moments) (mark ∷ marks) none go have zero why at = no_call before mark r k (take k log) why none go.0 have.0 (ap (λ o. unwrap_or o r) at)
  no_reply before now (r ∷ given) (k ∷ moments) (mark ∷ marks) none go have (suc i) why at =
      no_reply mark now given moments marks (go.0.faults ∙ ap (λ (b : Bool). after_call b before.faults) (uncounted r (unfailed r (take k log) have.0)) ∙ none) go.1 have.1 i why at
  no_reply before now other rest marks none go have i why at = absurd go

-- The disk of a log, and its replies.

-- the disk of a log is of one manner
pub one_log_manner : (tells : Bool) (first last : State) (marks : List Mark) (answer : Result Ending LogRunRefusal) (before after : Streams) → IsTrue tells → ComesOfLogDisk tells first last marks answer before after
    → last.manner ≡ first.manner
one_log_manner tells first last marks (Ok ending) before after t comes = (comes.logs t).manner
one_log_manner tells first last marks (Err logs.BadLog) before after t comes = (comes.stands t).manner
one_log_manner tells first last marks (Err (logs.NoRoom why)) before after t comes = (comes.stands t).manner
one_log_manner tells first last marks (Err (logs.Run run.Fault)) before after t (inl unopened) = unopened.spends.manner
one_log_manner tells first last marks (Err (logs.Run run.Fault)) before after t (inr unlogged) = (unlogged.stands t).manner
one_log_manner tells first last marks (Err (logs.Run (run.Damaged damage))) before after t comes = comes.spends.manner
one_log_manner tells first last marks (Err (logs.Run run.Spent)) before after t (inl unopened) = unopened.spends.manner
one_log_manner tells first last marks (Err (logs.Run run.Spent)) before after t (inr unlogged) = (unlogged.stands t).manner
one_log_manner tells first last marks (Err (logs.Run run.SinkFault)) before after t (inl unlogged) = (unlogged.stands t).manner
one_log_manner tells first last marks (Err (logs.Run run.SinkFault)) before after t (inr ran) = (ran.logs t).manner
one_log_manner tells first last marks (Err (logs.Run run.NoMemory)) before after t (inl unopened) = unopened.spends.manner
one_log_manner tells first last marks (Err (logs.Run run.NoMemory)) before after t (inr (inl unlogged)) = (unlogged.stands t).manner
one_log_manner tells first last marks (Err (logs.Run run.NoMemory)) before after t (inr (inr ran)) = (ran.logs t).manner

-- nothing has failed where nothing can
pub never_failed : (d : State) → NothingFails d.manner → ∥ FailedByManner d ∥₁ → ⊥
never_failed d calm failed = ∥∥₁_elim failed (λ x y. absurd x) (λ (f : FailedByManner d). no_call_failed d calm f)

module _ (m : Manner) (calm : NothingFails m) where
  none_failed : (log : List Event) → ∥ HasFailedBy m log ∥₁ → ⊥
  none_failed log failed = ∥∥₁_elim failed (λ x y. absurd x) (λ (f : HasFailedBy m log). not_failed m log calm f)

  no_reason : (log : List Event) (why : Refusal) → HasLogReason m log (logged.Refused why) → is_for_a_call why ≡ false
  no_reason log because.ReadFault reason = absurd (false≢true (sym calm.reads ∙ reason))
  no_reason log because.DiskFault reason = absurd (none_failed log reason)
  no_reason log because.Stopped reason = absurd (none_failed log reason)
  no_reason log other reason = refl

  pub no_log_reply : (log : List Event) (given : List LogReply) (moments : List ℕ) → HaveLogReasons m log given moments
      → (i : ℕ) (why : Refusal) → slice_get given i ≡ Some (logged.Refused why) → is_for_a_call why ≡ false
  no_log_reply log [] [] have i why at = absurd cc
  no_log_reply log (r ∷ given) (k ∷ moments) have zero why at = no_reason (take k log) why (subst (HasLogReason m (take k log)) (ap (λ o. unwrap_or o r) at) have.0)
  no_log_reply log (r ∷ given) (k ∷ moments) have (suc i) why at = no_log_reply log given moments have.1 i why at
  no_log_reply log other moments have i why at = absurd have
