-- Time goes on over a command: through its tick, and through what it does.
use Rattle.std.proofs.Common.{◌≡◌, ⊎_elim, Bool, true, false, IsTrue, Result, refl, sym, subst, ◌∙◌, arith}
use Rattle.lang_tree.specs.declared.command.Cmd.{Cmd}
use Rattle.lang_tree.specs.declared.command.Cmd.TheVariants.{Osync, Dsync, Durable, Dwait, Poll}
use Rattle.lang_tree.specs.declared.command.Refusal.{Refusal}
use Rattle.lang_tree.specs.declared.command.Reply.{Reply}
use Rattle.engine_blocks.specs.Crashes.{Advances}
use Rattle.engine_blocks.specs.State.{State}
use Rattle.fs_session.specs.Applying.{Applies, Ticks, PassesTime, Runs, Began}
use Rattle.fs_session.specs.Commands.{Carries}
use Rattle.fs_session.specs.Syncs.{SyncsSession}
use Rattle.fs_session.proofs.applying.Cases.{answered_as}

-- no point comes where the last one is as before
no_point : (s t : State) → Advances s t → t.books.point ≡ s.books.point → t.books.geom ≡ s.books.geom → PassesTime s t
no_point s t advances point geom = record {
  advances = advances;
  made = λ more. absurd (omega (arith, more, point));
  one = omega (arith, point);
  geom = geom;
}

-- The blocks of each call may be composed, and time goes on where nothing is done.
module _ {S : Type 0} (tells : Bool) (state : S → State) (told : IsTrue tells) (compose : (a b c : S) → Advances (state a) (state b) → Advances (state b) (state c) → Advances (state a) (state c)) (still : (s : S) → Advances (state s) (state s)) where
  stays : (s : S) → PassesTime (state s) (state s)
  stays s = no_point (state s) (state s) (still s) refl refl

  of_carried : (cmd : Cmd) (result : Result Reply Refusal) (mid new : S) → Carries tells cmd result (state mid) (state new) → PassesTime (state mid) (state new)
  of_carried cmd result mid new h = no_point (state mid) (state new) (h.runs.crash told) h.runs.point h.runs.geom

  of_synced : (orders : Bool) (cmd : Cmd) (result : Result Reply Refusal) (mid new : S) → SyncsSession tells orders cmd result (state mid) (state new) → PassesTime (state mid) (state new)
  of_synced orders cmd result mid new h = record { advances = h.crash told; made = h.made told; one = h.one; geom = h.geom }

  pub of_run : (cmd : Cmd) (result : Result Reply Refusal) (mid new : S) → Runs tells state cmd result mid new → PassesTime (state mid) (state new)
  of_run Osync result mid new h = of_synced true Osync result mid new h
  of_run Dsync result mid new h = of_synced false Dsync result mid new h
  of_run Durable result mid new h = subst (λ s. PassesTime (state mid) (state s)) (sym h.1) (stays mid)
  of_run (Dwait n) result mid new h = no_point (state mid) (state new) (h.runs.crash told) h.runs.pipeline.point h.runs.pipeline.geom
  of_run Poll result mid new h = subst (λ s. PassesTime (state mid) (state s)) (sym h.1) (stays mid)
  of_run cmd result mid new h = of_carried cmd result mid new h

  -- a tick makes no point, so what comes behind it makes what both make
  behind_tick : (old mid new : S) → Ticks tells false (state old) (state mid) → PassesTime (state mid) (state new) → PassesTime (state old) (state new)
  behind_tick old mid new ticks h = record {
    advances = compose old mid new (ticks.moves.crash told) h.advances;
    made = λ more. h.made (omega (arith, more, ticks.moves.pipeline.point));
    one = omega (arith, h.one, ticks.moves.pipeline.point);
    geom = h.geom ∙ ticks.moves.pipeline.geom;
  }

  of_begun : (cmd : Cmd) (reply : Reply) (old new : S) → Began tells state cmd reply old new → PassesTime (state old) (state new)
  of_begun cmd reply old new began = ⊎_elim
      (λ failed. no_point (state old) (state new) (failed.0.moves.crash told) failed.0.moves.pipeline.point failed.0.moves.pipeline.geom)
      (λ ran. behind_tick old began.mid new ran.0 (of_run cmd began.result began.mid new ran.1)) began.ran

  -- each command
  pub of_applied : (cmd : Cmd) (reply : Reply) (old new : S) → Applies tells state cmd reply old new → PassesTime (state old) (state new)
  of_applied cmd reply old new applies = answered_as tells state cmd reply old new (PassesTime (state old) (state new)) applies
      (λ none r. quietly r.1) (λ meant over r. quietly r.1) (λ meant used r. quietly r.1) (λ meant going left began. of_begun cmd reply old new began)
    where
      quietly : new ≡ old → PassesTime (state old) (state new)
      quietly same = subst (λ s. PassesTime (state old) (state s)) (sym same) (stays old)
