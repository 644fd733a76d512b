-- A mounted disk that is only looked at, and one on which a tree is made, on the way of an upgrade. Only private contracts speak of it.
use Rattle.std.specs.Prelude.{◌≡◌, ◌⊎◌, ℕ, ◌+◌, ◌-◌, ◌*◌, ◌^◌, ◌<◌, ◌≤◌, Bool, true, IsTrue, List, ◌++◌, length, Result, IfErr, OnOk}
use Rattle.std.specs.List.{list_all}
use Rattle.base_types.specs.Seal.{Blocks}
use Rattle.disk_contract.specs.Crash.{IsHonest}
use Rattle.disk_contract.specs.Disk as disk
use Rattle.disk_contract.specs.Disk.{writes_in}
use Rattle.layout_geometry.specs.Geometry.{Geometry}
use Rattle.lang_tree.specs.declared.command.Cmd.{Cmd}
use Rattle.lang_tree.specs.declared.command.Refusal.{Refusal}
use Rattle.lang_tree.specs.declared.command.Reply.{Reply}
use Rattle.lang_tree.specs.declared.command.Reply.TheVariants.{Refused}
use Rattle.lang_tree.specs.Step.{Session, accepted, session_on, start, step}
use Rattle.lang_tree.specs.Tree.{Bounds, Tree}
use Rattle.lang_making.specs.Making.{making, tree_after}
use Rattle.crash_stands.specs.Bounds.{bounds_of}
use Rattle.engine_blocks.specs.State.{State}
use Rattle.fs_session.specs.DiskRoom.{RunsOn}
use Rattle.fs_session.specs.Memory.{room_of}
use Rattle.fs_session.specs.Room.{Room}
use Rattle.fs_session.specs.Sessions.{IsSession}
use Rattle.cmd_session.specs.Histories.{HasNoFault, session_after}
use Rattle.cmd_session.specs.Images.{StandsMounted}
use Rattle.cmd_session.specs.Serving.{HasServed}
use Rattle.cmd_upgrade.specs.declared.refusal.UpgradeRefusal.{UpgradeRefusal}
use Rattle.cmd_upgrade.specs.declared.refusal.UpgradeRefusal.TheVariants.{Fault, NoMemory}
use Rattle.cmd_upgrade.specs.Lacks.{IsRoomAtFirst, LacksRoom, UsesNumbersUp, done_of}
use Rattle.cmd_upgrade.specs.Looks.{is_look}
use Rattle.cmd_upgrade.specs.Plans.{CanBeMade}
use Rattle.cmd_upgrade.specs.Refusals.{of_refusal}
use Rattle.cmd_upgrade.specs.Upgrades.{StandsAlike}

-- Blocks of a session on a disk that began so and stood for tree t, in which looks alone were asked; no more was written than a mount writes.
pub record IsLookedAt (first : disk.State) (t : Tree) (s : State) : Type 0 where
  pub geom : Geometry
  pub stands : StandsMounted first.blocks first.base t
  pub size : geom.n ≡ first.blocks
  pub base : s.crash.base ≡ first.base
  pub mounted : ℕ
  pub cmds : List Cmd
  pub replies : List Reply
  pub marks : List ℕ
  pub served : HasServed geom t mounted cmds replies marks s
  pub looks : list_all is_look cmds ≡ true
  pub writes : writes_in s.crash.log + s.books.owed ≤ first.blocks + 2
  pub over : HasNoFault replies ⊎ (0 < s.counts.faults)

-- The blocks are on the same disk.
pub record StaysOnDisk (tells : Bool) (old new : State) : Type 0 where
  pub geom : new.books.geom ≡ old.books.geom
  pub manner : new.counts.ticks.manner ≡ old.counts.ticks.manner
  pub base : IsTrue tells → new.crash.base ≡ old.crash.base

-- it stays one, whatever the tree is
abbrev pub StaysLookedAt : Bool → State → State → Type 0
StaysLookedAt tells old new = IsTrue tells → (first : disk.State) (t : Tree) → IsLookedAt first t old → IsLookedAt first t new

-- this holds of the tree, where it is one
abbrev pub OfLooked : Bool → State → (Tree → Type 0) → Type 0
OfLooked tells s P = IsTrue tells → (first : disk.State) (t : Tree) → IsLookedAt first t s → P t

-- the file system of these blocks raised the journal's numbers by no more than so many commands do
abbrev pub RaisesBy : ℕ → State → State → Type 0
RaisesBy count old new = new.books.turns ≤ old.books.turns + count * 2 ^ 20

-- a call of the disk under these blocks has failed, or the journal's numbers are used up
abbrev pub IsFailing : State → Type 0
IsFailing s = (0 < s.counts.read_faults) ⊎ ((0 < s.counts.faults) ⊎ (2 ^ 63 - 8 ≤ s.books.turns))

-- the tree itself doesn't refuse the look
abbrev pub IsSeen : Tree → Cmd → Type 0
IsSeen t cmd = (limit : Bounds) (why : Refusal) → (step (session_on limit t) cmd).1 ≡ Refused why → ⊥

-- A look at a tree was answered by what is there, or refused; and where it was refused by the disk, that has a reason.
pub record AnswersLook (t : Tree) (cmd : Cmd) (reply : Reply) (s : State) : Type 0 where
  pub shows : (limit : Bounds) × (((accepted (session_on limit t) cmd).1 ≡ reply) ⊎ ((why : Refusal) × (reply ≡ Refused why)))
  pub fails : (why : Refusal) → reply ≡ Refused why → of_refusal why ≡ Fault → IsSeen t cmd → IsFailing s

-- an upgrade ends in the middle of a session by a fault, or for want of memory
abbrev pub IsStop : UpgradeRefusal → Type 0
IsStop why = (why ≡ Fault) ⊎ (why ≡ NoMemory)

-- it ends by a fault at this look only where the disk under these blocks has a reason, if the tree doesn't refuse it
abbrev pub StopsAt : Tree → Cmd → State → UpgradeRefusal → Type 0
StopsAt t cmd s why = why ≡ Fault → IsSeen t cmd → IsFailing s

-- it ends by a fault at a look only where the disk under these blocks has a reason
abbrev pub StopsFor : State → UpgradeRefusal → Type 0
StopsFor s why = why ≡ Fault → IsFailing s

-- Blocks of a session on a disk of this geometry that stood for the root alone, on which these commands were done, and syncs between: for each of them at most three were asked, and so many more.
pub record HasMadeWith (extra : ℕ) (g : Geometry) (front : List Cmd) (s : State) : Type 0 where
  pub mounted : ℕ
  pub cmds : List Cmd
  pub replies : List Reply
  pub marks : List ℕ
  pub served : HasServed g (start (bounds_of g)).tree mounted cmds replies marks s
  pub tree : (session_after (start (bounds_of g)) cmds replies).tree ≡ tree_after (bounds_of g) front
  pub calm : HasNoFault replies
  pub done : done_of cmds replies ≡ front
  pub few : length cmds ≤ 3 * length front + extra
  pub rises : s.books.turns ≤ 3 + length cmds * 2 ^ 20
  pub first : Room
  pub begins : IsRoomAtFirst g (start (bounds_of g)) first
  pub end : Session
  pub is_end : IsSession s end
  pub rooms : RunsOn g (start (bounds_of g)) first cmds replies end (room_of s)

-- and no more
abbrev pub HasMade : Geometry → List Cmd → State → Type 0
HasMade g front s = HasMadeWith 0 g front s

-- it ends by a fault on the new disk only where a call of that failed, or the commands don't all go there
abbrev pub StopsMaking : Geometry → Tree → State → UpgradeRefusal → Type 0
StopsMaking g t s why = why ≡ Fault → (0 < s.counts.read_faults) ⊎ ((0 < s.counts.faults) ⊎ (UsesNumbersUp t ⊎ LacksRoom g t))

-- Commands were done that make a tree, on blocks of a session in which those before them were; or one of them was refused, or a sync.
abbrev pub MakesOn : Bool → List Cmd → State → State → Result (Unit {0}) UpgradeRefusal → Type 0
MakesOn tells cmds old new result = IsTrue tells → (g : Geometry) (t : Tree) (front back : List Cmd) → CanBeMade g t → making t ≡ front ++ (cmds ++ back)
    → HasMade g front old → OnOk result (HasMade g (front ++ cmds) new) × IfErr result (StopsMaking g t new)

-- each honest image of the blocks' disk now stands for the tree, with other numbers
abbrev pub HoldsNow : Tree → State → Type 0
HoldsNow t s = (img : Blocks) → IsHonest s.books.geom.n s.crash.base s.crash.log img → ∥ StandsAlike t s.books.geom.n img ∥₁
