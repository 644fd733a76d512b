-- Blocks stand for one tree at most, and so does an image.
use Rattle.std.proofs.Common.{◌≡◌, ℕ, ap, subst}
use Rattle.base_types.specs.Seal.{Blocks}
use Rattle.layout_geometry.specs.Geometry.{Geometry}
use Rattle.lang_tree.specs.Tree.{Tree}
use Rattle.layout_journal.specs.declared.header.Header.{Header}
use Rattle.layout_journal.specs.Run.{Newest, HeldIs}
use Rattle.crash_stands.specs.Stands.{IsTreeOf, StandsFor}
use Rattle.crash_stands.proofs.OneMap.{everywhere, one_tree, map_of_blocks}
use Rattle.crash_stands.proofs.Holding.{same_snapshots}

-- blocks stand for the tree of their inode map, with their snapshots
pub one_of_blocks : (g : Geometry) (m : Blocks) (t u : Tree) → IsTreeOf g m t → IsTreeOf g m u → t ≡ u
one_of_blocks g m t u x y =
    let same = one_tree g.i x.inodes t u x.map (map_of_blocks g m x.inodes u x.read y) in
    let kept = same_snapshots g m t u x y in
    λ i. record { names = same.0 i; nodes = same.1 i; snapshots = kept i }

-- where an image has one newest header and holds one map, it stands for one tree
pub one_of_image : ((n : ℕ) (img : Blocks) (s t : ℕ) (h k : Header) → Newest n img s h → Newest n img t k → (s ≡ t) × (h ≡ k))
    → ((n : ℕ) (img m q : Blocks) → HeldIs n img m → HeldIs n img q → (b : ℕ) → m b ≡ q b)
    → (n : ℕ) (img : Blocks) (t u : Tree) → StandsFor n img t → StandsFor n img u → t ≡ u
one_of_image headers maps n img t u x y =
    let map : y.map ≡ x.map = everywhere y.map x.map (maps n img y.map x.map y.held x.held) in
    let geom : y.held.header.geom ≡ x.held.header.geom = ap (λ h. h.geom) (headers n img _ _ _ _ y.held.newest x.held.newest).1 in
    one_of_blocks x.held.header.geom x.map t u x.tree (subst (λ m. IsTreeOf x.held.header.geom m u) map (subst (λ g. IsTreeOf g y.map u) geom y.tree))
