-- A command begins with its tick, and nothing that it does then ticks or polls.
use Rattle.std.proofs.Common.{◌≡◌, ⊎_elim, Bool, true, false, IsTrue, List, ◌++◌, Result, sym, subst, ◌∙◌, ap, append_assoc}
use Rattle.disk_contract.specs.declared.event.Event.{Event}
use Rattle.disk_contract.specs.Disk.{Grows}
use Rattle.lang_tree.specs.declared.command.Cmd.{Cmd}
use Rattle.lang_tree.specs.declared.command.Cmd.TheVariants.{Osync, Dsync, Durable, Dwait, Poll}
use Rattle.lang_tree.specs.declared.command.Refusal.{Refusal}
use Rattle.lang_tree.specs.declared.command.Reply.{Reply}
use Rattle.engine_blocks.specs.Effects.{Ticked}
use Rattle.engine_blocks.specs.State.{State, Ticking}
use Rattle.fs_session.specs.Applying.{Runs, Began}
use Rattle.fs_session.specs.Commands.{Carries}
use Rattle.fs_session.specs.Syncs.{SyncsSession}

-- what comes behind a tick leaves it the first
ticked_on : (tells : Bool) (old mid new : State) → Ticked tells old mid → (IsTrue tells → Grows mid.crash.log new.crash.log) → new.counts.ticks ≡ mid.counts.ticks → Ticked tells old new
ticked_on tells old mid new t grows same = record {
  made = ap (λ (k : Ticking). k.made) same ∙ t.made;
  manner = ap (λ (k : Ticking). k.manner) same ∙ t.manner;
  polled = λ told p is.
      let q = t.polled told p is in
      let more = grows told in (
        ap (λ (k : Ticking). k.polls) same ∙ q.0,
        record { more = q.1.more ++ more.more; log = more.log ∙ ap (λ (es : List Event). es ++ more.more) q.1.log ∙ append_assoc p.log q.1.more more.more },
      );
}

module _ {S : Type 0} (tells : Bool) (state : S → State) where
  of_carried : (cmd : Cmd) (result : Result Reply Refusal) (old mid new : S) → Ticked tells (state old) (state mid) → Carries tells cmd result (state mid) (state new) → Ticked tells (state old) (state new)
  of_carried cmd result old mid new t h = ticked_on tells (state old) (state mid) (state new) t (λ told. (h.runs.crash told).grows) h.runs.ticks

  of_synced : (orders : Bool) (cmd : Cmd) (result : Result Reply Refusal) (old mid new : S) → Ticked tells (state old) (state mid) → SyncsSession tells orders cmd result (state mid) (state new) → Ticked tells (state old) (state new)
  of_synced orders cmd result old mid new t h = ticked_on tells (state old) (state mid) (state new) t (λ told. (h.crash told).grows) h.ticks

  of_run : (cmd : Cmd) (result : Result Reply Refusal) (old mid new : S) → Ticked tells (state old) (state mid) → Runs tells state cmd result mid new → Ticked tells (state old) (state new)
  of_run Osync result old mid new t h = of_synced true Osync result old mid new t h
  of_run Dsync result old mid new t h = of_synced false Dsync result old mid new t h
  of_run Durable result old mid new t h = subst (λ s. Ticked tells (state old) (state s)) (sym h.1) t
  of_run (Dwait n) result old mid new t h = ticked_on tells (state old) (state mid) (state new) t (λ told. (h.runs.crash told).grows) h.ticks
  of_run Poll result old mid new t h = subst (λ s. Ticked tells (state old) (state s)) (sym h.1) t
  of_run cmd result old mid new t h = of_carried cmd result old mid new t h

  pub ticked_first : (cmd : Cmd) (reply : Reply) (old new : S) → Began tells state cmd reply old new → Ticked tells (state old) (state new)
  ticked_first cmd reply old new began = ⊎_elim (λ failed. failed.0.ticks) (λ ran. of_run cmd began.result old began.mid new ran.0.ticks ran.1) began.ran
