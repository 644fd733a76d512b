-- What comes of a session over any disk: how its commands are answered, what a crash leaves, and what a refusal says. It is described in docs/EMBEDDING.md.
use Rattle.std.specs.Prelude.{◌≡◌, ℕ, ◌≤◌, Bool, IsTrue, List, [], ◌∷◌, ◌++◌, length, None, Err}
use Rattle.disk_contract.specs.Bay.{has_faults}
use Rattle.disk_contract.specs.Disk.{State}
use Rattle.layout_geometry.specs.Geometry.{Geometry}
use Rattle.lang_tree.specs.declared.command.Cmd.{Cmd}
use Rattle.lang_tree.specs.declared.command.Cmd.TheVariants.{Dsync}
use Rattle.lang_tree.specs.declared.command.Reply.{Reply}
use Rattle.lang_tree.specs.Points.{floor, promised_by}
use Rattle.lang_tree.specs.Tree.{Tree}
use Rattle.crash_stands.specs.Stands.{StandsFor}
use Rattle.cmd_session.specs.Ending.{HasRun}
use Rattle.cmd_image.specs.Mounted.{is_fault}
use Rattle.cmd_image.specs.Shows.{RefusesOn, StandsThroughout}
use Rattle.cmd_image.specs.declared.show_refusal.ShowRefusal.{ShowRefusal}

-- The commands and a dsync behind them were answered so over a disk that is like `last` now, since it was mounted with tree t: each as the tree answers it, or refused for a reason of the disk; and each crash leaves one sync point (`HasRun`). No crash goes back any more behind the point that the last reply says is durable.
pub record Keeps (g : Geometry) (t : Tree) (mounted : ℕ) (last : State) (cmds : List Cmd) (replies : List Reply) (kept : Reply) (marks : List ℕ) : Type 0 where
  pub run : HasRun g t last.base last.log mounted (cmds ++ Dsync ∷ []) (replies ++ kept ∷ []) marks
  pub sure : promised_by kept ≤ floor (length last.log) (replies ++ kept ∷ []) marks

-- The same over a disk that began as `first`, and stood for a tree.
pub record HasAnswered (first last : State) (cmds : List Cmd) (replies : List Reply) (kept : Reply) (marks : List ℕ) : Type 0 where
  pub geom : Geometry
  pub tree : Tree
  pub blocks : geom.n ≡ first.blocks
  pub stood : StandsFor first.blocks first.base tree
  pub base : last.base ≡ first.base
  pub mounted : ℕ
  pub keeps : Keeps geom tree mounted last cmds replies kept marks

-- No command was answered, for this reason. A call of the disk failed exactly where it is a fault; where something is broken or a number is at its end, that is what the disk had; and each crash leaves the tree for which it stood, or none where it stood for none.
pub record Refuses (tells : Bool) (first last : State) (why : ShowRefusal) : Type 0 where
  pub fault : has_faults last ≡ is_fault {T = Unit {0}} (Err why)
  pub says : IsTrue tells → RefusesOn None None why first.blocks first.base
  pub crash : IsTrue tells → StandsThroughout last
