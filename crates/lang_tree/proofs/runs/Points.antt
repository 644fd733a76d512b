-- A reply says what the session after it is: a refused command leaves all as it was.
use Rattle.std.proofs.Common.{◌≡◌, ℕ, Bool, true, if◌then◌else◌, Option, arith}
use Rattle.lang_tree.specs.declared.command.Cmd.{Cmd}
use Rattle.lang_tree.specs.declared.command.Reply.{Reply}
use Rattle.lang_tree.specs.declared.command.Reply.TheVariants.{Ok as Done}
use Rattle.lang_tree.specs.declared.command.Refusal.{Refusal}
use Rattle.lang_tree.specs.Tree.{Tree}
use Rattle.lang_tree.specs.Conditions.{refusal}
use Rattle.lang_tree.specs.Step.{Session, step, answered, changed_to, osync, dwait}
use Rattle.lang_tree.specs.Run.{Answers}
use Rattle.lang_tree.specs.Points.{after_reply, is_refusal}

-- what is left where a refusal came: the session as it was
abbrev Left : Session → Session × Reply → Type 0
Left s answer = is_refusal answer.1 ≡ true → answer.0 ≡ s

choice_left : (s : Session) (t : Tree) (b : Bool) → Left s (if b then (s, Done) else changed_to s t)
choice_left s t b = grind arith

osync_left : (s : Session) (changed : Bool) → Left s (osync s changed)
osync_left s changed = grind arith

dwait_left : (s : Session) (n : ℕ) (b : Bool) → Left s (dwait s n b)
dwait_left s n b = grind arith

answered_left : (s : Session) (cmd : Cmd) (r : Option Refusal) → Left s (answered s cmd r)
answered_left s cmd r = grind (arith, choice_left, s.tree, osync_left, s.changed, dwait_left, s.points)

step_left : (s : Session) (cmd : Cmd) → Left s (step s cmd)
step_left s cmd = answered_left s cmd (refusal s.limit s.tree cmd)

told : (old new : Session) (cmd : Cmd) (t : Bool) → (step old cmd).0 ≡ new → (t ≡ true → (step old cmd).0 ≡ old)
    → new ≡ (if t then old else (step old cmd).0)
told old new cmd t h1 h2 = grind arith

pub answer_tells : (outside : Refusal → Bool) (old new : Session) (cmd : Cmd) (reply : Reply) → Answers outside old cmd reply new → new ≡ after_reply old cmd reply
answer_tells outside old new cmd reply h1 = grind (arith, told, step_left)
