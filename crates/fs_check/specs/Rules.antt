-- When files are those of a tree.
use Rattle.std.specs.Prelude.{◌≡◌, ◌≢◌, ℕ, Some}
use Rattle.layout_bytes.specs.declared.node.NodeKind.TheVariants.{Snapshot}
use Rattle.lang_tree.specs.Tree.{Bounds}
use Rattle.crash_stands.specs.Files.{FileNode, Files}
use Rattle.crash_stands.specs.Inodes.{Inode, inode_of, inodes_of}
use Rattle.fs_inodes.specs.Rules.{FollowsRules}

-- Each node in use that is no snapshot reads as an inode, and the inodes follow the rules of a tree.
pub record AreTreeFiles (limit : Bounds) (files : Files) : Type 0 where
  pub read : (k : ℕ) (file : FileNode) → files k ≡ Some file → file.kind ≢ Snapshot → (x : Inode) × (inode_of limit.layout file ≡ Some x)
  pub rules : FollowsRules limit.nodes (inodes_of limit.layout files)
