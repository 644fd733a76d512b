-- The commands that change the bytes of a file, as they are planned once the file is found. They are described in docs/FILE-SYSTEM.md.
use Rattle.std.specs.Prelude.{◌≡◌, ◌⊎◌, ℕ, Bool, IsTrue, List, length, replicate, None, Some, Ok}
use Rattle.layout_bytes.specs.declared.node.NodeKind.TheVariants.{File}
use Rattle.lang_tree.specs.declared.command.Cmd.{Cmd}
use Rattle.lang_tree.specs.declared.command.Cmd.TheVariants.{Write, Fill}
use Rattle.lang_tree.specs.Conditions.{refusal}
use Rattle.lang_tree.specs.Step.{Session}
use Rattle.crash_stands.specs.Files.{FileNode, Files}
use Rattle.crash_stands.specs.Inodes.{inodes_of}
use Rattle.fs_inodes.specs.Lookups.{walk_on}
use Rattle.engine_blocks.specs.State.{State}
use Rattle.fs_files.specs.Calls.{facts_of, files_in}
use Rattle.fs_files.specs.Drafts.{nothing_drafted}
use Rattle.fs_commands.specs.declared.paths.NodeFound.{NodeFound}
use Rattle.fs_session.specs.Commands.{figures_on}
use Rattle.fs_session.specs.Sessions.{IsSession}
use Rattle.fs_session.specs.Space.{HasRoom}

-- this node is a file, and these are its facts
abbrev pub IsFile : Files → NodeFound → Type 0
IsFile files found = (x : FileNode) × (files found.number ≡ Some x) × (found.facts ≡ facts_of x) × (x.kind ≡ File)

-- the command puts these bytes into the file at a path, from a byte offset on
abbrev pub PutsBytes : Cmd → List (List ℕ) → ℕ → List ℕ → Type 0
PutsBytes cmd path offset bytes = (cmd ≡ Write path offset bytes) ⊎ ((byte : ℕ) × (cmd ≡ Fill path offset (length bytes) byte) × (bytes ≡ replicate (length bytes) byte))

-- The tree accepts the command, whose cost is this, and there is room for it.
pub record IsWeighed (s : State) (f : Session) (cmd : Cmd) (cost : ℕ) : Type 0 where
  pub accepted : refusal f.limit f.tree cmd ≡ None
  pub costs : (figures_on s f cmd).cost ≡ cost
  pub room : HasRoom s.books (figures_on s f cmd)

-- Bytes that a command puts may be drafted: the path leads to the node, and the command is weighed in each session of these blocks.
pub record MayPut (tells : Bool) (s : State) (number : ℕ) (cmd : Cmd) (path : List (List ℕ)) (offset : ℕ) (bytes : List ℕ) (cost : ℕ) : Type 0 where
  pub puts : PutsBytes cmd path offset bytes
  pub walk : IsTrue tells → walk_on (inodes_of s.books.geom.layout (files_in s nothing_drafted)) 1 path ≡ Ok number
  pub weighed : IsTrue tells → (f : Session) → IsSession s f → IsWeighed s f cmd cost
