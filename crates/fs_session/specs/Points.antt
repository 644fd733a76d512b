-- Which tree each sync point has, which of these trees a crash leaves, and what a reply tells of points. It is described in docs/FILE-SYSTEM.md.
use Rattle.std.specs.Prelude.{◌≡◌, ◌≢◌, ℕ, ◌+◌, ◌<◌, ◌≤◌, ◌==◌, nat_lt, if◌then◌else◌, true, false, [], ◌∷◌, length}
use Rattle.base_types.specs.Seal.{Blocks}
use Rattle.lang_tree.specs.declared.command.Cmd.{Cmd}
use Rattle.lang_tree.specs.declared.command.Cmd.TheVariants.{Bad}
use Rattle.lang_tree.specs.declared.command.Refusal.TheVariants.{DiskFault, Stopped}
use Rattle.lang_tree.specs.declared.command.Reply.{Reply}
use Rattle.lang_tree.specs.declared.command.Reply.TheVariants.{Refused}
use Rattle.lang_tree.specs.Points.{made_by, promised_by}
use Rattle.lang_tree.specs.Step.{Session}
use Rattle.lang_tree.specs.Tree.{Tree}
use Rattle.engine_blocks.specs.State.{State}
use Rattle.crash_stands.specs.Stands.{IsTreeOf}

-- Each map that is one of a point so far stands for the tree under the point's number.
pub record KnowsPoints (s : State) (trees : ℕ → Tree) : Type 0 where
  pub each : (p : ℕ) (m : Blocks) → p ≤ s.books.point → s.crash.is_point p m → IsTreeOf s.books.geom m (trees p)

-- The image holds a map, which stands for the tree of a point from `floor` to `top`.
pub record LeavesTree (s : State) (trees : ℕ → Tree) (floor top : ℕ) (img : Blocks) : Type 0 where
  pub point : ℕ
  pub from : floor ≤ point
  pub upto : point ≤ top
  pub map : Blocks
  pub holds : s.crash.holds img map
  pub tree : IsTreeOf s.books.geom map (trees point)

-- these trees, and t under number p
abbrev pub with_tree : (ℕ → Tree) → ℕ → Tree → ℕ → Tree
with_tree trees p t q = if q == p then t else trees q

-- the trees of points after a call that makes one point at most: a new one has tree t
abbrev pub trees_after : State → State → (ℕ → Tree) → Tree → ℕ → Tree
trees_after old new trees t = if nat_lt old.books.point new.books.point then with_tree trees new.books.point t else trees

-- What the reply to a command tells of points: how many there are by then, that a new one has the session's tree, that what was promised is on the disk, and that a fault ends the session.
pub record TellsPoints (f : Session) (cmd : Cmd) (reply : Reply) (begun : ℕ) (old new : State) : Type 0 where
  pub upto : new.books.point ≤ old.books.point + length (made_by f cmd reply begun)
  pub going : new.books.stopped ≡ false → new.books.point ≡ old.books.point + length (made_by f cmd reply begun)
  pub made : old.books.point < new.books.point → made_by f cmd reply begun ≡ record { tree = f.tree; begun = begun } ∷ []
  pub promised : promised_by reply ≤ new.books.floor
  pub fault : reply ≡ Refused DiskFault → new.books.stopped ≡ true
  pub stays : old.books.stopped ≡ true → new.books.stopped ≡ true
  pub calm : old.books.stopped ≡ false → new.books.stopped ≡ true → reply ≡ Refused DiskFault
  pub ended : old.books.stopped ≡ true → cmd ≢ Bad → reply ≡ Refused Stopped
  pub awake : old.books.point < new.books.point → old.books.stopped ≡ false
