-- How many links a node in use has: some, and those of a file fit their field.
use Rattle.std.proofs.Common.{◌≡◌, ℕ, ◌≤◌, nat_le, true, Option, Some, None, option_map, refl, subst}
use Rattle.std.proofs.lemmas.Bool.{and_parts, leb-true}
use Rattle.std.proofs.lemmas.Option.{none-some, same_Some}
use Rattle.base_types.specs.Seal.{Blocks}
use Rattle.layout_geometry.specs.Geometry.{Geometry}
use Rattle.layout_bytes.specs.declared.node.Node.{Node}
use Rattle.layout_bytes.specs.declared.node.NodeKind.{NodeKind}
use Rattle.layout_bytes.specs.declared.node.NodeKind.TheVariants.{File}
use Rattle.layout_bytes.specs.Node.{kind_fits}
use Rattle.crash_stands.specs.Files.{FileNode, file_of, files_of, used_node}
use Rattle.fs_snapshots.specs.Nodes.{Fits, used_fits}

abbrev HasLinks : NodeKind → ℕ → Type 0
HasLinks kind links = (1 ≤ links) × (kind ≡ File → links ≤ 65535)

node_links : (g : Geometry) (node : Node) → Fits g node → HasLinks node.kind node.links
node_links g node fits = (
  fits.links,
  λ is. leb-true node.links 65535 (and_parts (nat_le node.links 65535) (nat_le node.size 1073741824) (subst (λ kind. kind_fits node kind ≡ true) is fits.kind)).0,
)

pub file_links : (g : Geometry) (m : Blocks) (k : ℕ) (x : FileNode) → files_of g m k ≡ Some x → (1 ≤ x.links) × (x.kind ≡ File → x.links ≤ 65535)
file_links g m k x e = by (used_node g m k) refl e
  where
    by : (o : Option Node) → used_node g m k ≡ o → option_map (file_of g.layout m) o ≡ Some x → HasLinks x.kind x.links
    by None is none = absurd (none-some x none)
    by (Some node) is some =
        subst (λ (f : FileNode). HasLinks f.kind f.links) (same_Some (file_of g.layout m node) x some)
        (node_links g node (used_fits g m k node is))
