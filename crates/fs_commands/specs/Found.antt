-- What is known of a file that a path leads to, in a session over the blocks. It is described in docs/FILE-SYSTEM.md.
use Rattle.std.specs.Prelude.{◌≡◌, ℕ, ◌≤◌, false, List, length, Ok}
use Rattle.lang_tree.specs.Step.{Session}
use Rattle.lang_tree.specs.Walk.{content}
use Rattle.crash_stands.specs.Inodes.{Inodes}
use Rattle.crash_stands.specs.Maps.{IsMapOf}
use Rattle.crash_stands.specs.Walks.{LeadsTo}
use Rattle.fs_inodes.specs.Lookups.{bytes_of, inode_at, is_dir_inode, walk_on}
use Rattle.fs_commands.specs.declared.paths.NodeFound.{NodeFound}

-- The inode map is that of the session's tree, the path leads to the node, which is no directory, and has so many bytes there as were found. These are at most 2^30.
pub record IsKnownFile (m : Inodes) (f : Session) (path : List (List ℕ)) (found : NodeFound) : Type 0 where
  pub map : IsMapOf f.limit.nodes m f.tree
  pub walk : walk_on m 1 path ≡ Ok found.number
  pub leads : LeadsTo m path found.number
  pub file : is_dir_inode (inode_at m path) ≡ false
  pub size : length (bytes_of (inode_at m path)) ≡ found.facts.size
  pub holds : length (content f.tree path) ≡ found.facts.size
  pub most : found.facts.size ≤ 1073741824
