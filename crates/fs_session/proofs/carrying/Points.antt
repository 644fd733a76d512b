-- No command that is done, but a sync, changes what a session knows of points, and none its limit.
use Rattle.std.proofs.Common.{◌≡◌, ℕ, ◌==◌, nat_le, Bool, true, false, length, replicate, if◌then◌else◌, Option, None, Some, refl}
use Rattle.lang_tree.specs.declared.command.Cmd.{Cmd}
use Rattle.lang_tree.specs.declared.command.Cmd.TheVariants.{Write, Fill, Truncate, Rename, Osync, Dsync, Dwait}
use Rattle.lang_tree.specs.declared.command.Refusal.{Refusal}
use Rattle.lang_tree.specs.declared.command.Reply.TheVariants.{Ok as Done}
use Rattle.lang_tree.specs.Conditions.{refusal}
use Rattle.lang_tree.specs.Points.{is_sync}
use Rattle.lang_tree.specs.Step.{Session, step, answered, changed_to, dwait}
use Rattle.lang_tree.specs.Tree.{Tree}
use Rattle.lang_tree.specs.Walk.{content, is_same_node}

-- All but the tree and whether it changed is as before.
pub record SamePoints (s t : Session) : Type 0 where
  pub points : t.points ≡ s.points
  pub durable : t.durable ≡ s.durable
  pub limit : t.limit ≡ s.limit

choice : (s : Session) (t : Tree) (b : Bool) → SamePoints s (if b then (s, Done) else changed_to s t).0
choice s t true = record { points = refl; durable = refl; limit = refl }
choice s t false = record { points = refl; durable = refl; limit = refl }

no_wait : (s : Session) (n : ℕ) (b : Bool) → (dwait s n b).1 ≡ Done → ⊥
no_wait s n true e = cc
no_wait s n false e = cc

by_answer : (s : Session) (cmd : Cmd) (r : Option Refusal) → is_sync cmd ≡ false → (answered s cmd r).1 ≡ Done → SamePoints s (answered s cmd r).0
by_answer s cmd (Some why) e done = record { points = refl; durable = refl; limit = refl }
by_answer s (Write path offset bytes) None e done = choice s _ (length bytes == 0)
by_answer s (Fill path offset count byte) None e done = choice s _ (length (replicate count byte) == 0)
by_answer s (Truncate path size) None e done = choice s _ (size == length (content s.tree path))
by_answer s (Rename from to) None e done = choice s _ (is_same_node s.tree from to)
by_answer s Osync None e done = absurd cc
by_answer s Dsync None e done = absurd cc
by_answer s (Dwait n) None e done = absurd (no_wait s n (nat_le n s.points) done)
by_answer s cmd None e done = record { points = refl; durable = refl; limit = refl }

pub points_stay : (s : Session) (cmd : Cmd) → is_sync cmd ≡ false → (step s cmd).1 ≡ Done → SamePoints s (step s cmd).0
points_stay s cmd e done = by_answer s cmd (refusal s.limit s.tree cmd) e done
