-- How many of a file's blocks are shared in a session, from how many of them snapshots keep.
use Rattle.std.proofs.Common.{◌≡◌, ℕ, ◌-◌, ◌==◌, if◌then◌else◌, List, length, Some, sym, ap, ap₂, ◌∙◌}
use mathlib.Core.Path.{fun_ext}
use Rattle.lang_tree.specs.Sharing.{SharedPlaces, shared_at, shared_met}
use Rattle.lang_tree.specs.Step.{Session}
use Rattle.crash_stands.specs.Files.{FileNode}
use Rattle.crash_stands.specs.Walks.{LeadsTo}
use Rattle.engine_blocks.specs.State.{State}
use Rattle.fs_inodes.specs.Lookups.{bytes_of, inode_at, number_at}
use Rattle.fs_files.specs.Calls.{files_in}
use Rattle.fs_files.specs.Drafts.{nothing_drafted}
use Rattle.fs_commands.specs.Figures.{MeetsKept, MeetsShared, kept_places}
use Rattle.fs_commands.proofs.Given.{SharedLaw}
use Rattle.fs_session.specs.Commands.{places_of, shared_on}
use Rattle.fs_session.specs.Sessions.{inodes}

module _ (s : State) (f : Session) (path : List (List ℕ)) (number : ℕ) (counts : List ℕ) (shared : SharedLaw s f counts) (leads : LeadsTo (inodes s) path number) where
  -- what is shared of the file at the path
  pub shared_here : shared_at (shared_on s f) (number_at (inodes s) path) ≡ kept_places counts (places_of s number)
  shared_here = ap (shared_at (shared_on s f)) leads ∙ fun_ext (λ i. shared number i)

  -- of what bytes touch
  pub meets_shared : (lo hi met : ℕ) (x : FileNode) → files_in s nothing_drafted number ≡ Some x → length (bytes_of (inode_at (inodes s) path)) ≡ length x.bytes → MeetsKept s counts number lo hi met → MeetsShared (shared_on s f) (inodes s) path lo hi met
  meets_shared lo hi met x is size h = h x is ∙ sym (ap₂ (λ (sh : SharedPlaces) (n : ℕ). shared_met sh n lo hi) shared_here size)
