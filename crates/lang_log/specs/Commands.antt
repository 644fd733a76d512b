-- What the commands of a log are asked of, and what they come to.
use Rattle.std.specs.Prelude.{◌≡◌, true, List}
use Rattle.lang_tree.specs.declared.command.Cmd.{Cmd}
use Rattle.lang_tree.specs.declared.command.Refusal.TheVariants.{NoNode}
use Rattle.lang_tree.specs.declared.command.Reply.{Reply}
use Rattle.lang_tree.specs.declared.command.Reply.TheVariants.{Ok as Done, Refused}
use Rattle.lang_tree.specs.Step.{Session, step}
use Rattle.lang_tree.specs.Tree.{IsSound}
use Rattle.lang_log.specs.Segments.{Segment, HasSegments}

-- A command was answered so by a sound tree that had these segments.
pub record IsAsked (segments : List Segment) (old : Session) (cmd : Cmd) (new : Session) (reply : Reply) : Type 0 where
  pub sound : IsSound old.limit.nodes old.tree
  pub had : HasSegments old.tree segments
  pub answered : step old cmd ≡ (new, reply)

-- The command was done, it changed something, and the tree has these segments now.
pub record Leaves (segments : List Segment) (new : Session) (reply : Reply) : Type 0 where
  pub done : reply ≡ Done
  pub changed : new.changed ≡ true
  pub has : HasSegments new.tree segments

-- The command was refused since no number is unused, and nothing changed.
pub record LacksNode (old new : Session) (reply : Reply) : Type 0 where
  pub refused : reply ≡ Refused NoNode
  pub same : new ≡ old
