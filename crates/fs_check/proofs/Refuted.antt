-- Where something is broken no tree stands; and where the rules hold one does.
use Rattle.std.proofs.Common.{◌≡◌, ◌≢◌, ℕ, Option, None, Some, slice_get, sym, ◌∙◌, arith, subst}
use Rattle.std.proofs.lemmas.Option.{none-some}
use Rattle.base_types.specs.Seal.{Blocks}
use Rattle.base_types.specs.declared.layout.Layout.{Layout}
use Rattle.layout_geometry.specs.Geometry.{Geometry}
use Rattle.layout_bytes.specs.declared.node.NodeKind.TheVariants.{Snapshot}
use Rattle.lang_tree.specs.Tree.{Bounds, Tree}
use Rattle.crash_stands.specs.Bounds.{bounds_of}
use Rattle.crash_stands.specs.Files.{FileNode, Files, files_of}
use Rattle.crash_stands.specs.Inodes.{Inode, Inodes, AreInodesOf, IsInodeOf, inode_of, inodes_of}
use Rattle.crash_stands.specs.Maps.{IsMapOf}
use Rattle.crash_stands.specs.Stands.{IsTreeOf}
use Rattle.fs_inodes.specs.Rules.{FollowsRules}
use Rattle.fs_snapshots.specs.Nodes.{same_slots}
use Rattle.fs_check.specs.declared.damage.TreeDamage.{TreeDamage}
use Rattle.fs_check.specs.declared.damage.TreeDamage.TheVariants as damage
use Rattle.fs_check.specs.Damage.{IsBroken, RepeatsName}
use Rattle.fs_check.specs.Rules.{AreTreeFiles}

-- a node that reads as none and is no snapshot isn't among inodes that were read
unread : (layout : Layout) (o : Option FileNode) (x : FileNode) (i : Option Inode) → o ≡ Some x → x.kind ≢ Snapshot → inode_of layout x ≡ None → IsInodeOf layout o i → ⊥
unread layout o x i at plain none is = by i (subst (λ p. IsInodeOf layout p i) at is)
  where
    by : (j : Option Inode) → IsInodeOf layout (Some x) j → ⊥
    by None r = plain r
    by (Some y) r = none-some y (sym none ∙ r)

repeated : (limit : ℕ) (m : Inodes) (dir place : ℕ) → FollowsRules limit m → RepeatsName m dir place → ⊥
repeated limit m dir place rules r =
    let same : r.has_other.slots ≡ r.has.slots = same_slots r.has_other.slots r.has.slots (sym r.has_other.is_dir ∙ r.has.is_dir) in
    let other : slice_get r.has.slots r.earlier ≡ Some r.other = subst (λ ss. slice_get ss r.earlier ≡ Some r.other) same r.has_other.at in
    let e : r.earlier ≡ place = rules.distinct dir r.has.slots r.has.is_dir r.earlier place r.other r.slot other r.has.at r.same in
    omega (arith, e, r.before)

-- inodes that follow the rules are broken nowhere
pub none_broken : (limit : Bounds) (files : Files) (what : TreeDamage) → FollowsRules limit.nodes (inodes_of limit.layout files) → AreInodesOf limit.layout files (inodes_of limit.layout files) → IsBroken limit files what → ⊥
none_broken limit files damage.NoRoot rules read b = b rules.root.0 rules.root.1
none_broken limit files (damage.Unreadable node) rules read b = unread limit.layout (files node) b.file (inodes_of limit.layout files node) b.used b.plain b.unread (read node)
none_broken limit files (damage.NamesRoot dir place) rules read b = (rules.named dir place b.has.slots b.slot b.has.is_dir b.has.at).0 b.root
none_broken limit files (damage.NamesUnused dir place) rules read b =
    let x = (rules.named dir place b.has.slots b.slot b.has.is_dir b.has.at).1 in none-some x.0 (sym b.unused ∙ x.1)
none_broken limit files (damage.RepeatsName dir place) rules read b = repeated limit.nodes (inodes_of limit.layout files) dir place rules b
none_broken limit files (damage.NotNamedOnce node) rules read b = b.count (rules.dirs node b.slots b.is_dir b.other)
none_broken limit files (damage.WrongLinks node) rules read b = b.count (rules.links node b.links b.bytes b.is_file)
none_broken limit files (damage.Unreached node) rules read b = let p = rules.reached node b.inode b.used in b.unreached p.0 p.1

-- The laws that are used.
abbrev pub OneMap : Type 0
OneMap = (layout : Layout) (files : Files) (m : Inodes) → AreInodesOf layout files m → (k : ℕ) → m k ≡ inodes_of layout files k

abbrev pub Alike : Type 0
Alike = (limit : ℕ) (m w : Inodes) (t : Tree) → ((k : ℕ) → m k ≡ w k) → IsMapOf limit m t → IsMapOf limit w t

abbrev pub HasRules : Type 0
HasRules = (limit : ℕ) (m : Inodes) (t : Tree) → IsMapOf limit m t → FollowsRules limit m

-- files that read as the inode map of a tree are broken nowhere
pub none_in_tree : OneMap → Alike → HasRules → (limit : Bounds) (files : Files) (inodes : Inodes) (t : Tree) (what : TreeDamage) → AreInodesOf limit.layout files inodes → IsMapOf limit.nodes inodes t → IsBroken limit files what → ⊥
none_in_tree one alike has limit files inodes t what read map b =
    let same = one limit.layout files inodes read in
    none_broken limit files what (has limit.nodes (inodes_of limit.layout files) t (alike limit.nodes inodes (inodes_of limit.layout files) t same map))
    (λ k. subst (IsInodeOf limit.layout (files k)) (same k) (read k)) b

-- no tree stands where something is broken
pub no_tree : OneMap → Alike → HasRules → (g : Geometry) (m : Blocks) (what : TreeDamage) (t : Tree) → IsBroken (bounds_of g) (files_of g m) what → IsTreeOf g m t → ⊥
no_tree one alike has g m what t b stands = none_in_tree one alike has (bounds_of g) (files_of g m) stands.inodes t what stands.read stands.map b

abbrev pub Reads : Type 0
Reads = (layout : Layout) (files : Files) → ((k : ℕ) (file : FileNode) → files k ≡ Some file → file.kind ≢ Snapshot → (x : Inode) × (inode_of layout file ≡ Some x))
    → AreInodesOf layout files (inodes_of layout files)

abbrev pub MakesTree : Type 0
MakesTree = (limit : ℕ) (m : Inodes) → FollowsRules limit m → (t : Tree) × IsMapOf limit m t

-- what stands where files are those of a tree, its snapshots aside
pub record ReadsAsTree (limit : Bounds) (files : Files) : Type 0 where
  pub tree : Tree
  pub read : AreInodesOf limit.layout files (inodes_of limit.layout files)
  pub map : IsMapOf limit.nodes (inodes_of limit.layout files) tree

pub tree_read : Reads → MakesTree → (limit : Bounds) (files : Files) → AreTreeFiles limit files → ReadsAsTree limit files
tree_read reads makes limit files h = let made = makes limit.nodes (inodes_of limit.layout files) h.rules in record { tree = made.0; read = reads limit.layout files h.read; map = made.1 }

-- files that are the same at each number are the same
pub same_function : (files others : Files) → ((k : ℕ) → files k ≡ others k) → files ≡ others
same_function files others h = λ i k. h k i
