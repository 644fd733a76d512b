-- Files read as one inode map, and an inode map is that of one tree.
use Rattle.std.proofs.Common.{◌≡◌, ◌≢◌, ℕ, ◌≤◌, Bool, true, false, nat_le, Option, Some, None, option_map, option_and_then, sym, refl, ap, subst, ◌∙◌, ◌⊎◌, inl, inr}
use Rattle.std.proofs.lemmas.Bool.{and_parts, leb-true}
use Rattle.std.specs.Cmp.{nat_cmp_total}
use Rattle.std.specs.Cmp.Lexicographic.{lists_total}
use Rattle.std.specs.FinMap.{nat_cmp-IsAntisymmetric, slice_cmp-IsAntisymmetric, same_map}
use Rattle.std.proofs.lemmas.Option.{none-some}
use Rattle.base_types.specs.Seal.{Blocks}
use Rattle.base_types.specs.declared.layout.Layout.{Layout}
use Rattle.layout_geometry.specs.Geometry.{Geometry}
use Rattle.layout_bytes.specs.declared.node.NodeKind.{NodeKind}
use Rattle.layout_bytes.specs.declared.node.NodeKind.TheVariants.{Free, Dir, File, Snapshot}
use Rattle.layout_bytes.specs.Bytes.{when}
use Rattle.layout_bytes.specs.Node.{node_at}
use Rattle.lang_tree.specs.Tree.{Tree}
use Rattle.crash_stands.specs.Files.{FileNode, Files, files_of, file_of}
use Rattle.crash_stands.specs.Inodes.{Inode, Inodes, IsInodeOf, AreInodesOf, inode_by, inode_of, inodes_of}
use Rattle.crash_stands.specs.Maps.{IsMapOf}
use Rattle.crash_stands.specs.Stands.{IsTreeOf}

-- functions that agree everywhere are the same
pub everywhere : {A : Type 0} (f h : ℕ → A) → ((k : ℕ) → f k ≡ h k) → f ≡ h
everywhere f h same i k = same k i

-- a map that is the same everywhere is that of the same tree
pub alike : (limit : ℕ) (m w : Inodes) (t : Tree) → ((k : ℕ) → m k ≡ w k) → IsMapOf limit m t → IsMapOf limit w t
alike limit m w t same is = subst (λ i. IsMapOf limit i t) (everywhere m w same) is

-- a map is that of one tree at most, snapshots aside
pub one_tree : (limit : ℕ) (m : Inodes) (t u : Tree) → IsMapOf limit m t → IsMapOf limit m u → (t.names ≡ u.names) × (t.nodes ≡ u.nodes)
one_tree limit m t u x y = (
  same_map (lists_total (lists_total nat_cmp_total)) (slice_cmp-IsAntisymmetric (slice_cmp-IsAntisymmetric nat_cmp-IsAntisymmetric)) t.names u.names (λ p. x.shows.names p ∙ sym (y.shows.names p)),
  same_map nat_cmp_total nat_cmp-IsAntisymmetric t.nodes u.nodes (λ k. x.shows.nodes k ∙ sym (y.shows.nodes k)),
)

-- Files and their map.

-- a snapshot is no inode
pub no_inode : (l : Layout) (file : FileNode) → file.kind ≡ Snapshot → inode_of l file ≡ None
no_inode l file is = ap (λ kind. inode_by l kind file.links file.bytes) is

-- what is no inode is read as none where it is a snapshot
snapshot_or_not : (kind : NodeKind) → (kind ≡ Snapshot) ⊎ (kind ≢ Snapshot)
snapshot_or_not Free = inr (λ e. cc)
snapshot_or_not Dir = inr (λ e. cc)
snapshot_or_not File = inr (λ e. cc)
snapshot_or_not Snapshot = inl refl

-- each map that files read as is their own
pub own_map : (l : Layout) (files : Files) (m : Inodes) → AreInodesOf l files m → (k : ℕ) → m k ≡ inodes_of l files k
own_map l files m read k = by (files k) (m k) (read k)
  where
    by : (file : Option FileNode) (x : Option Inode) → IsInodeOf l file x → x ≡ option_and_then (inode_of l) file
    by None x reads = reads
    by (Some file) None reads = sym (no_inode l file reads)
    by (Some file) (Some x) reads = sym reads

-- so they read as one map
pub one_map : (l : Layout) (files : Files) (a b : Inodes) → AreInodesOf l files a → AreInodesOf l files b → (k : ℕ) → a k ≡ b k
one_map l files a b x y k = own_map l files a x k ∙ sym (own_map l files b y k)

-- where each node in use but snapshots reads, files read as their own map
pub all_read : (l : Layout) (files : Files) → ((k : ℕ) (file : FileNode) → files k ≡ Some file → file.kind ≢ Snapshot → (x : Inode) × (inode_of l file ≡ Some x))
    → AreInodesOf l files (inodes_of l files)
all_read l files reads k = by (files k) (reads k)
  where
    in_use : (file : FileNode) (o : Option Inode) → inode_of l file ≡ o → (file.kind ≢ Snapshot → (x : Inode) × (inode_of l file ≡ Some x)) → IsInodeOf l (Some file) o
    in_use file None is x = by (snapshot_or_not file.kind)
      where
        by : (file.kind ≡ Snapshot) ⊎ (file.kind ≢ Snapshot) → file.kind ≡ Snapshot
        by (inl e) = e
        by (inr isnt) = absurd (none-some (x isnt).0 (sym is ∙ (x isnt).1))
    in_use file (Some y) is x = is

    by : (o : Option FileNode) → ((file : FileNode) → o ≡ Some file → file.kind ≢ Snapshot → (x : Inode) × (inode_of l file ≡ Some x)) → IsInodeOf l o (option_and_then (inode_of l) o)
    by None reads = refl
    by (Some file) reads = in_use file (inode_of l file) refl (reads file refl)

-- Blocks and their map.

-- an inode has a node in use
file_with : (l : Layout) (file : Option FileNode) (x : Inode) → IsInodeOf l file (Some x) → (f : FileNode) × (file ≡ Some f)
file_with l None x e = absurd (none-some x (sym e))
file_with l (Some f) x e = (f, refl)

-- a node in use has a number of one
number_with : {A B : Type 0} (t : Bool) (f : A → B) (o : Option A) (y : B) → option_map f (when t o) ≡ Some y → t ≡ true
number_with true f o y e = refl
number_with false f o y e = absurd (none-some y e)

-- each inode has a number of a node
pub numbers_within : (g : Geometry) (b : Blocks) (m : Inodes) → AreInodesOf g.layout (files_of g b) m → (k : ℕ) (x : Inode) → m k ≡ Some x → (1 ≤ k) × (k ≤ g.i)
numbers_within g b m read k x e =
    let file = file_with g.layout (files_of g b k) x (subst (IsInodeOf g.layout (files_of g b k)) e (read k)) in
    let parts = and_parts (nat_le 1 k) (nat_le k g.i) (number_with _ (file_of g.layout b) (node_at g b k) file.0 file.1) in
    (leb-true _ _ parts.0, leb-true _ _ parts.1)

-- the map that blocks of a tree read as is that of the tree
pub map_of_blocks : (g : Geometry) (b : Blocks) (m : Inodes) (t : Tree) → AreInodesOf g.layout (files_of g b) m → IsTreeOf g b t → IsMapOf g.i m t
map_of_blocks g b m t read is = alike g.i is.inodes m t (one_map g.layout (files_of g b) is.inodes m is.read read) is.map

-- and each of their nodes in use that is no snapshot reads
pub node_reads : (g : Geometry) (b : Blocks) (t : Tree) (k : ℕ) (file : FileNode) → IsTreeOf g b t → files_of g b k ≡ Some file → file.kind ≢ Snapshot
    → (x : Inode) × (inode_of g.layout file ≡ Some x)
node_reads g b t k file is at other = by (is.inodes k) (subst (λ f. IsInodeOf g.layout f (is.inodes k)) at (is.read k))
  where
    by : (o : Option Inode) → IsInodeOf g.layout (Some file) o → (x : Inode) × (inode_of g.layout file ≡ Some x)
    by None reads = absurd (other reads)
    by (Some x) reads = (x, reads)
