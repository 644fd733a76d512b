-- The nodes of a snapshot that are held in memory, and when they are those of the blocks. They are described in docs/FILE-SYSTEM.md.
use Rattle.std.specs.Prelude.{◌≡◌, ℕ, Bool, true, false, IsTrue, Option, Some, IfSome}
use Rattle.lang_tree.specs.declared.command.Cmd.{Cmd}
use Rattle.lang_tree.specs.declared.command.Cmd.TheVariants.{At}
use Rattle.engine_blocks.specs.State.{State}
use Rattle.fs_snapshots.specs.Kept.{IsGoneThrough, IsSnapshotAt}
use Rattle.fs_commands.specs.declared.held.HeldNodes.{HeldNodes}

-- The nodes are those of a snapshot that was gone through, and where blocks are known it is the one of their number.
pub record AreHeld (tells : Bool) (s : State) (h : HeldNodes) : Type 0 where
  pub gone : IsGoneThrough tells s h.nodes
  pub there : IsTrue tells → IsSnapshotAt s.books.geom s.map h.number h.nodes.places

-- so it is of what is held, if anything is
abbrev pub Holds : Bool → State → Option HeldNodes → Type 0
Holds tells s held = IfSome held (AreHeld tells s)

-- nodes of the snapshot of this number are held
abbrev pub IsOfSnapshot : ℕ → Option HeldNodes → Type 0
IsOfSnapshot number held = (h : HeldNodes) × (held ≡ Some h) × (h.number ≡ number)

-- whether a command looks at what a snapshot keeps
abbrev pub looks_back : Cmd → Bool
looks_back (At name look) = true
looks_back cmd = false
