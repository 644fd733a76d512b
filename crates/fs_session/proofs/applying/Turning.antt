-- One command raises the journal's numbers little: by its tick, and by one sync or one settling.
use Rattle.std.proofs.Common.{◌≡◌, ⊎_elim, ℕ, ◌+◌, ◌^◌, ◌≤◌, Bool, Result, sym, subst, arith}
use Rattle.lang_tree.specs.declared.command.Cmd.{Cmd}
use Rattle.lang_tree.specs.declared.command.Cmd.TheVariants.{Osync, Dsync, Durable, Dwait, Poll}
use Rattle.lang_tree.specs.declared.command.Refusal.{Refusal}
use Rattle.lang_tree.specs.declared.command.Reply.{Reply}
use Rattle.engine_blocks.specs.State.{State}
use Rattle.fs_session.specs.Applying.{Applies, Began, Runs}
use Rattle.fs_session.proofs.applying.Cases.{answered_as}

module _ {S : Type 0} (tells : Bool) (state : S → State) where
  abbrev Raises : ℕ → S → S → Type 0
  Raises n old new = (state new).books.turns ≤ (state old).books.turns + n

  stays : (n : ℕ) (old new : S) → new ≡ old → Raises n old new
  stays n old new same = subst (λ s. (state s).books.turns ≤ (state old).books.turns + n) (sym same) (omega arith)

  run_turns : (cmd : Cmd) (result : Result Reply Refusal) (mid new : S) → Runs tells state cmd result mid new → Raises (2 ^ 18) mid new
  run_turns Osync result mid new runs = runs.turns
  run_turns Dsync result mid new runs = runs.turns
  run_turns Durable result mid new runs = stays (2 ^ 18) mid new runs.1
  run_turns (Dwait n) result mid new runs = runs.runs.pipeline.turns
  run_turns Poll result mid new runs = stays (2 ^ 18) mid new runs.1
  run_turns cmd result mid new runs = runs.runs.turns

  begun_turns : (cmd : Cmd) (reply : Reply) (old new : S) → Began tells state cmd reply old new → Raises (2 ^ 20) old new
  begun_turns cmd reply old new began = ⊎_elim
      (λ failed. omega (arith, failed.0.moves.pipeline.turns))
      (λ ran. omega (arith, ran.0.moves.pipeline.turns, run_turns cmd began.result began.mid new ran.1)) began.ran

  pub few_turns : (cmd : Cmd) (reply : Reply) (old new : S) → Applies tells state cmd reply old new → (state new).books.turns ≤ (state old).books.turns + 2 ^ 20
  few_turns cmd reply old new applies = answered_as tells state cmd reply old new (Raises (2 ^ 20) old new) applies
      (λ none r. stays (2 ^ 20) old new r.1) (λ meant over r. stays (2 ^ 20) old new r.1) (λ meant used r. stays (2 ^ 20) old new r.1)
      (λ meant going left began. begun_turns cmd reply old new began)
