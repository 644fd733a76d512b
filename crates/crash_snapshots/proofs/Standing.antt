-- What a snapshot keeps: the paths and nodes of the tree of which it was made.
use Rattle.std.proofs.Common.{◌≡◌, ℕ, Bool, true, false, if◌then◌else◌, List, Option, None, Some, option_and_then, refl, sym, ap, subst, ◌∙◌}
use Rattle.std.specs.FinMap.{empty}
use Rattle.base_types.specs.Seal.{Blocks}
use Rattle.base_types.specs.declared.layout.Layout.{Layout}
use Rattle.layout_geometry.specs.Geometry.{Geometry}
use Rattle.lang_tree.specs.Tree.{Tree, Snapshots}
use Rattle.crash_stands.specs.Files.{FileNode, Files, files_of}
use Rattle.crash_stands.specs.Inodes.{Inode, Inodes, IsInodeOf, AreInodesOf, inode_by, inode_of, inodes_of}
use Rattle.crash_stands.specs.Kept.{kept_files}
use Rattle.crash_stands.specs.Maps.{IsMapOf}
use Rattle.crash_stands.specs.Stands.{IsTreeOf, KeepsTree}
use Rattle.crash_snapshots.specs.Kept.{HasSnapshot, is_snapshot, without_snapshots}
use Rattle.crash_snapshots.proofs.Nodes.{NodeLaws, snapshot_is}
use Rattle.crash_snapshots.proofs.Snapshots.{everywhere, reads_as_before}

-- files read as the same without the snapshots among them

reads_without : (l : Layout) (files : Files) (m : Inodes) → AreInodesOf l files m → AreInodesOf l (without_snapshots files) m
reads_without l files m read k = by (files k) (m k) (read k)
  where
    in_use : (file : FileNode) (x : Option Inode) (t : Bool) → is_snapshot file.kind ≡ t → IsInodeOf l (Some file) x → IsInodeOf l (if t then None else Some file) x
    in_use file None true is reads = refl
    in_use file (Some x) true is reads = cc (sym (ap (λ kind. inode_by l kind file.links file.bytes) (snapshot_is file.kind is)) ∙ reads)
    in_use file x false is reads = reads

    by : (o : Option FileNode) (x : Option Inode) → IsInodeOf l o x → IsInodeOf l (option_and_then (λ file. if is_snapshot file.kind then None else Some file) o) x
    by None x reads = reads
    by (Some file) x reads = in_use file x (is_snapshot file.kind) refl reads

pub same_inodes : (l : Layout) (files : Files) (k : ℕ) → inodes_of l (without_snapshots files) k ≡ inodes_of l files k
same_inodes l files k = by (files k)
  where
    in_use : (file : FileNode) (t : Bool) → is_snapshot file.kind ≡ t → option_and_then (inode_of l) (if t then None else Some file) ≡ inode_of l file
    in_use file true is = sym (ap (λ kind. inode_by l kind file.links file.bytes) (snapshot_is file.kind is))
    in_use file false is = refl

    by : (o : Option FileNode) → option_and_then (inode_of l) (option_and_then (λ file. if is_snapshot file.kind then None else Some file) o) ≡ option_and_then (inode_of l) o
    by None = refl
    by (Some file) = in_use file (is_snapshot file.kind) refl

-- a map of a tree is that of the tree with other snapshots
pub other_snapshots : (limit : ℕ) (m : Inodes) (t : Tree) (snapshots : Snapshots) → IsMapOf limit m t → IsMapOf limit m (record t { snapshots = snapshots })
other_snapshots limit m t snapshots is = record {
  root = is.root;
  distinct = is.distinct;
  within = is.within;
  shows = record {
    names = is.shows.names;
    nodes = is.shows.nodes;
    links = is.shows.links;
    only = is.shows.only;
    reached = is.shows.reached;
    used = is.shows.used;
  };
}

pub made_of : NodeLaws → (g : Geometry) (old new : Blocks) (places : List ℕ) (t : Tree) (n : ℕ) → IsTreeOf g old t → HasSnapshot g old new places
    → KeepsTree g new places (record { number = n; names = t.names; nodes = t.nodes })
made_of laws g old new places t n tree has = record {
  inodes = tree.inodes;
  read = subst (λ f. AreInodesOf g.layout f tree.inodes) (sym (everywhere (kept_files g new places) (without_snapshots (files_of g old)) (reads_as_before laws g old new places has)))
      (reads_without g.layout (files_of g old) tree.inodes tree.read);
  map = other_snapshots g.i tree.inodes t empty tree.map;
}
