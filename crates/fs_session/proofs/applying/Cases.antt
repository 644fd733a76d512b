-- The ways in which a command is answered, each with what is known there.
use Rattle.std.proofs.lemmas.Bool.{cases_Bool}
use Rattle.std.proofs.Common.{◌≡◌, ◌≢◌, ◌⊎◌, inl, inr, Bool, true, false}
use Rattle.lang_tree.specs.declared.command.Cmd.{Cmd}
use Rattle.lang_tree.specs.declared.command.Cmd.TheVariants.{Bad}
use Rattle.lang_tree.specs.declared.command.Refusal.TheVariants as because
use Rattle.lang_tree.specs.declared.command.Reply.{Reply}
use Rattle.lang_tree.specs.declared.command.Reply.TheVariants.{Bad as NotUnderstood, Refused}
use Rattle.engine_blocks.specs.State.{State}
use Rattle.fs_session.specs.Applying.{Applies, Began, is_spent}
use Rattle.fs_session.proofs.rooms.Answered.{bad_or_not}

-- a bad line, at once; a command after the disk failed, or after the journal's numbers were used up; or one that began
pub answered_as : {S : Type 0} (tells : Bool) (state : S → State) (cmd : Cmd) (reply : Reply) (old new : S) (G : Type 0) → Applies tells state cmd reply old new
    → (cmd ≡ Bad → (reply ≡ NotUnderstood) × (new ≡ old) → G)
    → (cmd ≢ Bad → (state old).books.stopped ≡ true → (reply ≡ Refused because.Stopped) × (new ≡ old) → G)
    → (cmd ≢ Bad → is_spent (state old).books ≡ true → (reply ≡ Refused because.Spent) × (new ≡ old) → G)
    → (cmd ≢ Bad → (state old).books.stopped ≡ false → is_spent (state old).books ≡ false → Began tells state cmd reply old new → G) → G
answered_as tells state cmd reply old new G applies bad stopped spent began = by (bad_or_not cmd) (cases_Bool (state old).books.stopped) (cases_Bool (is_spent (state old).books))
  where
    by : (cmd ≡ Bad) ⊎ (cmd ≢ Bad) → ((state old).books.stopped ≡ true) ⊎ ((state old).books.stopped ≡ false) → (is_spent (state old).books ≡ true) ⊎ (is_spent (state old).books ≡ false) → G
    by (inl none) over used = bad none (applies.bad none)
    by (inr meant) (inl over) used = stopped meant over (applies.stopped meant over)
    by (inr meant) (inr going) (inl used) = spent meant used (applies.spent meant going used)
    by (inr meant) (inr going) (inr left) = began meant going left (applies.began meant going left)
