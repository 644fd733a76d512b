-- The command that gives a file another size, as it is planned once the file is found. It is described in docs/FILE-SYSTEM.md.
use Rattle.std.specs.Prelude.{◌≡◌, ◌≢◌, ℕ, Bool, IsTrue, List, length, Some, Ok}
use Rattle.lang_tree.specs.declared.command.Cmd.TheVariants.{Truncate}
use Rattle.lang_tree.specs.Step.{Session}
use Rattle.crash_stands.specs.Files.{FileNode}
use Rattle.crash_stands.specs.Inodes.{inodes_of}
use Rattle.fs_inodes.specs.Lookups.{walk_on}
use Rattle.engine_blocks.specs.State.{State}
use Rattle.fs_files.specs.Calls.{files_in}
use Rattle.fs_files.specs.Drafts.{nothing_drafted}
use Rattle.fs_session.specs.Sessions.{IsSession}
use Rattle.fs_commands.specs.Writing.{IsWeighed}

-- A truncate may be drafted: the path leads to the node, whose size is another, and the command is weighed in each session of these blocks.
pub record MayResize (tells : Bool) (s : State) (number : ℕ) (path : List (List ℕ)) (size cost : ℕ) : Type 0 where
  pub walk : IsTrue tells → walk_on (inodes_of s.books.geom.layout (files_in s nothing_drafted)) 1 path ≡ Ok number
  pub other : IsTrue tells → (x : FileNode) → files_in s nothing_drafted number ≡ Some x → size ≢ length x.bytes
  pub weighed : IsTrue tells → (f : Session) → IsSession s f → IsWeighed s f (Truncate path size) cost
