-- The commands and replies of a trace are a run over a disk, which stops after a fault of it.
use Rattle.std.proofs.Common.{◌≡◌, ◌≢◌, sym, ap, refl, ◌∙◌, subst, arith, ℕ, zero, suc, ◌<◌, Bool, true, false, ◌||◌, List, [], ◌∷◌, Some}
use Rattle.std.specs.Prelude.{slice_get}
use Rattle.std.proofs.lemmas.Option.{same_Some}
use Rattle.std.proofs.lemmas.Bool.{or_right}
use Rattle.crash_stands.specs.Bounds.{bounds_of}
use Rattle.lang_tree.specs.declared.command.Cmd.{Cmd}
use Rattle.lang_tree.specs.declared.command.Cmd.TheVariants.{Bad}
use Rattle.lang_tree.specs.declared.command.Reply.{Reply}
use Rattle.lang_tree.specs.declared.command.Reply.TheVariants.{Refused}
use Rattle.lang_tree.specs.declared.command.Refusal.TheVariants.{DiskFault, Stopped}
use Rattle.lang_tree.specs.Step.{Session, start}
use Rattle.lang_tree.specs.Run.{Run, StopsAfterFault, is_of_disk}
use Rattle.lang_tree.specs.Points.{after_reply}
use Rattle.cmd_trace.specs.Contents.{Contents}
use Rattle.cmd_trace_reader.specs.Replies.{is_fault}
use Rattle.cmd_trace_reader.specs.Traces.{IsTrace, MayReplyEach}
use Rattle.cmd_trace_reader.proofs.Taking.{Tells}

runs : Tells → (s : Session) (stopped : Bool) (cmds : List Cmd) (replies : List Reply) → MayReplyEach s stopped cmds replies → (end : Session) × Run is_of_disk s cmds replies end
runs tells s stopped [] [] h = (s, refl)
runs tells s stopped (cmd ∷ cmds) (reply ∷ replies) h =
    let rest = runs tells (after_reply s cmd reply) (stopped || is_fault reply) cmds replies h.1 in
    (rest.0, (h.0.next, h.0.answers, subst (λ n. Run is_of_disk n cmds replies rest.0) (sym (tells.session is_of_disk s h.0.next cmd reply h.0.answers)) rest.1))
runs tells s stopped other rest h = absurd h

-- once the session has ended, each command but a bad line is refused so
stays_stopped : (s : Session) (cmds : List Cmd) (replies : List Reply) (k : ℕ) (cmd : Cmd) → MayReplyEach s true cmds replies → slice_get cmds k ≡ Some cmd → cmd ≢ Bad
    → slice_get replies k ≡ Some (Refused Stopped)
stays_stopped s [] replies k cmd h at off = absurd cc
stays_stopped s (c ∷ cmds) [] k cmd h at off = absurd h
stays_stopped s (c ∷ cmds) (reply ∷ replies) zero cmd h at off = ap Some (h.0.ended refl (λ bad. off (sym (same_Some c cmd at) ∙ bad)))
stays_stopped s (c ∷ cmds) (reply ∷ replies) (suc k) cmd h at off = stays_stopped (after_reply s c reply) cmds replies k cmd h.1 at off

stops : (s : Session) (stopped : Bool) (cmds : List Cmd) (replies : List Reply) (i k : ℕ) (cmd : Cmd) → MayReplyEach s stopped cmds replies → i < k
    → slice_get replies i ≡ Some (Refused DiskFault) → slice_get cmds k ≡ Some cmd → cmd ≢ Bad → slice_get replies k ≡ Some (Refused Stopped)
stops s stopped [] replies i k cmd h less fault at off = absurd cc
stops s stopped (c ∷ cmds) [] i k cmd h less fault at off = absurd h
stops s stopped (c ∷ cmds) (reply ∷ replies) i zero cmd h less fault at off = absurd (omega (arith, less))
stops s stopped (c ∷ cmds) (reply ∷ replies) zero (suc k) cmd h less fault at off =
    let ended : (stopped || is_fault reply) ≡ true = ap (λ r. stopped || is_fault r) (same_Some reply (Refused DiskFault) fault) ∙ or_right stopped true refl in
    stays_stopped (after_reply s c reply) cmds replies k cmd (subst (λ b. MayReplyEach (after_reply s c reply) b cmds replies) ended h.1) at off
stops s stopped (c ∷ cmds) (reply ∷ replies) (suc i) (suc k) cmd h less fault at off =
    stops (after_reply s c reply) (stopped || is_fault reply) cmds replies i k cmd h.1 (omega (arith, less)) fault at off

pub trace_runs : Tells → (c : Contents) → IsTrace c → (end : Session) × Run is_of_disk (start (bounds_of c.geometry)) c.cmds c.replies end
trace_runs tells c h = runs tells (start (bounds_of c.geometry)) false c.cmds c.replies h.replies

pub trace_stops : (c : Contents) → IsTrace c → StopsAfterFault c.cmds c.replies
trace_stops c h = record { each = λ i k cmd. stops (start (bounds_of c.geometry)) false c.cmds c.replies i k cmd h.replies }
