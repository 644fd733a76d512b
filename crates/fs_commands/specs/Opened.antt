-- What a file system shows of itself.
use Rattle.std.specs.Prelude.{Bool, IsTrue, Option}
use Rattle.engine_blocks.specs.State.{State}
use Rattle.fs_commands.specs.declared.fs.Fs.{Fs}
use Rattle.fs_commands.specs.declared.held.HeldNodes.{HeldNodes}
use Rattle.fs_commands.specs.Held.{Holds}
use Rattle.fs_commands.specs.Known.{Known, Knows}
use Rattle.fs_session.specs.declared.unused.UnusedNodes.{UnusedNodes}
use Rattle.fs_session.specs.Sessions.{IsBetween, Stands}

module _ {S : Type 0} where
  -- the blocks over which it is
  abbrev pub blocks_in : Fs S → S
  blocks_in fs = fs.blocks

  -- the nodes that may be unused, as far as it knows
  abbrev pub unused_in : Fs S → UnusedNodes
  unused_in fs = fs.unused

  -- what it knows of its snapshots
  abbrev pub known_in : Fs S → Known
  known_in fs = fs.known

  -- what it holds of a snapshot
  abbrev pub held_in : Fs S → Option HeldNodes
  held_in fs = fs.held

  -- What must hold between two commands: of its blocks and the nodes that may be unused, and what it knows of its snapshots and holds of one is so.
  pub record IsReady (tells : Bool) (state : S → State) (fs : Fs S) : Type 0 where
    pub between : IsBetween tells (state (blocks_in fs)) (unused_in fs)
    pub knows : Knows tells (state (blocks_in fs)) (known_in fs)
    pub holds : Holds tells (state (blocks_in fs)) (held_in fs)

  -- A command may follow: what must hold between two commands does, and where the blocks are known, a tree stands in them.
  pub record MayFollow (tells : Bool) (state : S → State) (fs : Fs S) : Type 0 where
    pub ready : IsReady tells state fs
    pub stands : IsTrue tells → Stands (state (blocks_in fs))

  -- What must hold between two commands does afterwards, and where a tree stood in known blocks, one stands still.
  pub record StaysOpen (tells : Bool) (state : S → State) (old new : Fs S) : Type 0 where
    pub ready : IsReady tells state new
    pub stands : IsTrue tells → Stands (state (blocks_in old)) → Stands (state (blocks_in new))
