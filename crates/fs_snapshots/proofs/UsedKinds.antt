-- The kinds of nodes that are read.
use Rattle.std.proofs.Common.{◌≡◌, ◌≢◌, ℕ, ◌==◌, ◌&&◌, nat_le, Bool, true, false, if◌then◌else◌, List, slice_index, None, Some, refl, ap, ◌∙◌}
use Rattle.std.proofs.lemmas.Option.{none-some, same_Some}
use Rattle.base_types.specs.Seal.{Blocks}
use Rattle.layout_geometry.specs.Geometry.{Geometry}
use Rattle.layout_bytes.specs.declared.node.Node.{Node}
use Rattle.layout_bytes.specs.declared.node.NodeKind.{NodeKind}
use Rattle.layout_bytes.specs.declared.node.NodeKind.TheVariants.{Free, Dir, File, Snapshot}
use Rattle.layout_bytes.specs.Bytes.{when}
use Rattle.layout_bytes.specs.Node.{node_at, node_bytes, node_fields, node_fits, node_of, node_with, spare_zeros}
use Rattle.crash_stands.specs.Kept.{kept_nodes}
use Rattle.crash_stands.specs.Places.{is_copied, kept_table}
use Rattle.fs_files.specs.Places.{when_some}

used_with : (g : Geometry) (b : List ℕ) (kind : NodeKind) (node : Node) → kind ≢ Free → node_with g b (Some kind) ≡ Some node → node.kind ≢ Free
used_with g b kind node used e =
    let spare = when_some (spare_zeros g.layout b) (when (node_fits g (node_fields kind b)) (Some (node_fields kind b))) node e in
    let fits = when_some (node_fits g (node_fields kind b)) (Some (node_fields kind b)) node spare.1 in
    λ free. used (ap (λ (m : Node). m.kind) (same_Some (node_fields kind b) node fits.1) ∙ free)

used_by : (g : Geometry) (b : List ℕ) (p q r : Bool) (node : Node) → node_with g b (if p then Some Dir else if q then Some File else if r then Some Snapshot else None) ≡ Some node → node.kind ≢ Free
used_by g b true q r node e = used_with g b Dir node (λ free. cc) e
used_by g b false true r node e = used_with g b File node (λ free. cc) e
used_by g b false false true node e = used_with g b Snapshot node (λ free. cc) e
used_by g b false false false node e = absurd (none-some node e)

read_used : (g : Geometry) (b : List ℕ) (node : Node) → node_of g b ≡ Some node → node.kind ≢ Free
unfolding node_of
read_used g b node e = used_by g b (slice_index b 0 == 1) (slice_index b 0 == 2) (slice_index b 0 == 3) node e

-- a kept node is in use
pub kept_kind : (g : Geometry) (m : Blocks) (places : List ℕ) (k : ℕ) (node : Node) → kept_nodes g m places k ≡ Some node → node.kind ≢ Free
kept_kind g m places k node e =
    let t = kept_table m places g in
    read_used g (node_bytes g t k) node (when_some (nat_le 1 k && nat_le k g.i) (node_at g t k) node e).1

-- one that has its blocks for itself and is no snapshot is a file
pub file_kind : (kind : NodeKind) → kind ≢ Free → kind ≢ Snapshot → is_copied kind ≡ false → kind ≡ File
file_kind Free used plain own = absurd (used refl)
file_kind Dir used plain own = cc
file_kind File used plain own = refl
file_kind Snapshot used plain own = absurd (plain refl)
