-- When the state of a map of blocks is that of a session of the tree, and what a command may begin with. It is described in docs/FILE-SYSTEM.md.
use Rattle.std.specs.Prelude.{◌≡◌, ◌≢◌, ℕ, ◌+◌, ◌<◌, ◌≤◌, ◌==◌, nat_lt, Bool, false, IsTrue, List}
use Rattle.std.specs.List.{list_any}
use Rattle.lang_tree.specs.Tree.{Tree}
use Rattle.lang_tree.specs.Step.{Session}
use Rattle.crash_stands.specs.Bounds.{bounds_of}
use Rattle.crash_stands.specs.Files.{Files, files_of}
use Rattle.crash_stands.specs.Inodes.{Inodes, inodes_of}
use Rattle.crash_stands.specs.Stands.{AreSound, IsTreeOf}
use Rattle.engine_blocks.specs.Running.{HasNoBare}
use Rattle.engine_blocks.specs.Calls.{HasTurns}
use Rattle.engine_blocks.specs.State.{State}
use Rattle.fs_files.specs.Calls.{IsUsed}
use Rattle.fs_files.specs.Finish.{MayGoOn}
use Rattle.fs_files.specs.Shared.{is_kept}
use Rattle.fs_files.specs.Sound.{TellsKept}
use Rattle.fs_session.specs.declared.unused.NodeUse.{NodeUse}
use Rattle.fs_session.specs.declared.unused.NodeUse.TheVariants.{Stays, Taken, Dropped}
use Rattle.fs_session.specs.declared.unused.UnusedNodes.{UnusedNodes}

-- what the nodes in use read as
abbrev pub inodes : State → Inodes
inodes s = inodes_of s.books.geom.layout (files_of s.books.geom s.map)

-- The blocks stand for the session's tree. While no call of the disk failed, the last point is the session's, and the tree changed since exactly where the transaction has a weight.
-- The point that the session knows to be on the disk is one to which no crash goes back.
pub record IsSession (s : State) (f : Session) : Type 0 where
  pub tree : IsTreeOf s.books.geom s.map f.tree
  pub limit : f.limit ≡ bounds_of s.books.geom
  pub points : s.books.stopped ≡ false → f.points ≡ s.books.point
  pub changed : s.books.stopped ≡ false → f.changed ≡ nat_lt 0 s.books.running.weight
  pub durable : f.durable ≤ s.books.floor

-- A draft may begin beside blocks of which so many snapshots keep each: no call of the disk failed, each block that was taken is filled or freed, and where they are known the blocks are sound, and just those are kept that have a count.
pub record MayBegin (tells : Bool) (s : State) (counts : List ℕ) : Type 0 where
  pub going : s.books.stopped ≡ false
  pub none_bare : HasNoBare s.books.running
  pub sound : IsTrue tells → AreSound s.books.geom s.map
  pub kept : IsTrue tells → TellsKept s.books.geom (is_kept counts) s.map

-- all nodes of a number from 1 on below this one are in use
abbrev pub AreUsedBelow : Files → ℕ → Type 0
AreUsedBelow files first = (l : ℕ) → 1 ≤ l → l < first → IsUsed files l

-- all nodes are in use but those that may be unused: those past the last one that is known to be in use, and the holes
abbrev pub AreUsedBut : Files → UnusedNodes → Type 0
AreUsedBut files unused = (l : ℕ) → 1 ≤ l → l ≤ unused.used_to → list_any (λ hole. hole == l) unused.holes.items ≡ false → IsUsed files l

-- nodes in use stay so, but for one that is dropped; where one is taken, all up to it are in use then
abbrev pub KeepsUsed : NodeUse → Files → Files → Type 0
KeepsUsed Stays old new = (l : ℕ) → IsUsed old l → IsUsed new l
KeepsUsed (Taken number) old new = ((l : ℕ) → IsUsed old l → IsUsed new l) × AreUsedBelow new (number + 1)
KeepsUsed (Dropped number) old new = (l : ℕ) → l ≢ number → IsUsed old l → IsUsed new l

-- a tree stands in the blocks
abbrev pub Stands : State → Type 0
Stands s = (t : Tree) × IsTreeOf s.books.geom s.map t

-- A command may be planned: a draft may begin, a tree stands in the blocks where they are known, and the journal's numbers leave room.
pub record MayPlan (tells : Bool) (s : State) (counts : List ℕ) : Type 0 where
  pub begin : MayBegin tells s counts
  pub stands : IsTrue tells → Stands s
  pub turns : HasTurns s.books

-- What holds of blocks between two commands: a sync may follow, the blocks are sound where they are known, and all nodes are in use but those that may be unused.
pub record IsBetween (tells : Bool) (s : State) (unused : UnusedNodes) : Type 0 where
  pub goes_on : MayGoOn s.books
  pub sound : IsTrue tells → AreSound s.books.geom s.map
  pub used : IsTrue tells → AreUsedBut (files_of s.books.geom s.map) unused
