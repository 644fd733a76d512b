-- The tree that stands, with its snapshots, from what was found.
use Rattle.std.proofs.Common.{◌≡◌, ℕ, ◌+◌, ◌*◌, IsTrue, List, length, get_or, Some, arith}
use Rattle.base_types.specs.Name.{is_name}
use Rattle.base_types.specs.Runs.{run_places}
use Rattle.base_types.specs.Seal.{Blocks}
use Rattle.layout_geometry.specs.Geometry.{Geometry}
use Rattle.layout_bytes.specs.declared.node.Node.{Node}
use Rattle.layout_bytes.specs.declared.node.NodeKind.TheVariants.{Snapshot}
use Rattle.layout_bytes.specs.SnapshotName.{name_block}
use Rattle.lang_tree.specs.Tree.{Kept, Snapshots, Tree, kept_tree}
use Rattle.crash_stands.specs.Bounds.{bounds_of}
use Rattle.crash_stands.specs.Files.{files_of, used_node}
use Rattle.crash_stands.specs.Inodes.{Inodes, inodes_of}
use Rattle.crash_stands.specs.Kept.{kept_files}
use Rattle.crash_stands.specs.Maps.{IsMapOf}
use Rattle.crash_stands.specs.Stands.{AreSound, HoldsSnapshot, IsTreeOf, KeepsTree}
use Rattle.fs_check.specs.Snapshots.{AreCheckedBelow, AreNumbers, Numbers}
use Rattle.fs_check.proofs.Refuted.{ReadsAsTree}
use Rattle.fs_check.proofs.sound.Nodes.{used_is}

-- a tree with these snapshots in the stead of its own
abbrev pub with_snapshots : Tree → Snapshots → Tree
with_snapshots t snapshots = record { names = t.names; nodes = t.nodes; snapshots = snapshots }

-- the inode map is that of the paths and nodes alone
pub any_snapshots : (limit : ℕ) (m : Inodes) (t : Tree) (snapshots : Snapshots) → IsMapOf limit m t → IsMapOf limit m (with_snapshots t snapshots)
any_snapshots limit m t snapshots h = record {
  root = h.root;
  distinct = h.distinct;
  within = h.within;
  shows = record { names = h.shows.names; nodes = h.shows.nodes; links = h.shows.links; only = h.shows.only; reached = h.shows.reached; used = h.shows.used };
}

-- what a snapshot keeps whose files are those of a tree
abbrev pub kept_of : ℕ → Tree → Kept
kept_of k t = record { number = k; names = t.names; nodes = t.nodes }

pub keeps_tree : (g : Geometry) (m : Blocks) (places : List ℕ) (k : ℕ) (r : ReadsAsTree (bounds_of g) (kept_files g m places)) → KeepsTree g m places (kept_of k r.tree)
keeps_tree g m places k r = record { inodes = inodes_of g.layout (kept_files g m places); read = r.read; map = any_snapshots g.i (inodes_of g.layout (kept_files g m places)) r.tree (kept_tree (kept_of k r.tree)).snapshots r.map }

-- a snapshot of the right size with a lawful name, whose files are those of a tree, is held under its name
pub holds : (g : Geometry) (m : Blocks) (k : ℕ) (node : Node) (name : List ℕ) (r : ReadsAsTree (bounds_of g) (kept_files g m (run_places node.runs))) → used_node g m k ≡ Some node → node.kind ≡ Snapshot → node.links ≡ 1
    → node.size ≡ 1024 * length (run_places node.runs) → IsTrue (is_name name) → m (get_or (run_places node.runs) 0 0) ≡ name_block name → HoldsSnapshot g m name (kept_of k r.tree)
holds g m k node name r used kind links size lawful named = record {
  node = node;
  is_node = used;
  kind = kind;
  links = links;
  size = size;
  lawful = lawful;
  named = named;
  keeps = keeps_tree g m (run_places node.runs) k r;
}

-- the tree with all snapshots that were found stands, and these are their numbers
pub stands : (g : Geometry) (m : Blocks) (numbers : Numbers) (counts : List ℕ) → ReadsAsTree (bounds_of g) (files_of g m) → AreSound g m → AreCheckedBelow g m (g.i + 1) numbers counts → (t : Tree) × IsTreeOf g m t × AreNumbers t.snapshots numbers
stands g m numbers counts r sound h = (
  with_snapshots r.tree h.snapshots,
  record {
    inodes = inodes_of g.layout (files_of g m);
    read = r.read;
    map = any_snapshots g.i (inodes_of g.layout (files_of g m)) r.tree h.snapshots r.map;
    sound = sound;
    keeps = λ name k at. (h.keeps name k at).0;
    each = λ n node used kind. h.each n node (let is = used_is g m n node used in let upto = is.upto in omega (arith, upto)) used kind;
  },
  h.named,
)
