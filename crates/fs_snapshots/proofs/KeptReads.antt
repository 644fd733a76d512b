-- What is read of kept nodes.
use Rattle.std.proofs.Common.{◌≡◌, ◌≢◌, ℕ, ◌+◌, ◌*◌, ◌≤◌, List, length, take, All, AllPairs, Option, Some, None, option_map, refl, sym, ap, subst, ◌∙◌, arith}
use Rattle.std.proofs.lemmas.Option.{none-some, same_Some}
use Rattle.base_types.specs.Seal.{Blocks}
use Rattle.layout_geometry.specs.Geometry.{Geometry}
use Rattle.layout_bytes.specs.declared.node.Node.{Node}
use Rattle.layout_bytes.specs.declared.node.NodeKind.TheVariants.{Dir}
use Rattle.layout_bytes.specs.Node.{content_of}
use Rattle.engine_blocks.specs.Puts.{IsData}
use Rattle.crash_stands.specs.Files.{FileNode, joined}
use Rattle.crash_stands.specs.Kept.{kept_file, kept_files, kept_nodes, kept_places}
use Rattle.fs_files.specs.Calls.{block_bytes}
use Rattle.fs_files.specs.Contents.{whole_content}
use Rattle.fs_files.specs.Nodes.{AreWholeSlots}
use Rattle.fs_snapshots.specs.Kept.{IsWholeKept, places_by_node}
use Rattle.fs_snapshots.proofs.Whole.{kept_has, kept_length}

-- a kept file is that of a node in use
pub kept_node : (g : Geometry) (m : Blocks) (places : List ℕ) (k : ℕ) (x : FileNode) → kept_files g m places k ≡ Some x → (node : Node) × (kept_nodes g m places k ≡ Some node) × (x ≡ kept_file g m places k node)
kept_node g m places k x at = by (kept_nodes g m places k) at
  where
    by : (o : Option Node) → option_map (kept_file g m places k) o ≡ Some x → (node : Node) × (o ≡ Some node) × (x ≡ kept_file g m places k node)
    by None e = absurd (none-some x e)
    by (Some node) e = (node, refl, sym (same_Some (kept_file g m places k node) x e))

-- a directory's bytes are whole slots
pub file_slots : (g : Geometry) (m : Blocks) (places : List ℕ) (k : ℕ) (x : FileNode) → All (IsData g) places → IsWholeKept g m places → kept_files g m places k ≡ Some x → x.kind ≡ Dir → AreWholeSlots g.layout (length x.bytes)
file_slots g m places k x inside w at dir =
    let r = kept_node g m places k x at in
    subst (λ n. AreWholeSlots g.layout n) (sym (ap (λ (y : FileNode). length y.bytes) r.2 ∙ kept_length g m places k r.0 inside w r.1))
    (whole_content g.layout r.0.kind r.0.size (ap (λ (y : FileNode). y.kind) (sym r.2) ∙ dir))

-- it has few bytes, since its blocks are different ones of the data
pub file_few : (g : Geometry) (m : Blocks) (places : List ℕ) (k : ℕ) (x : FileNode) → All (IsData g) places → IsWholeKept g m places
    → ((ps : List ℕ) → All (IsData g) ps → AllPairs (λ a b. a ≢ b) ps → 1024 * length ps + 1024 ≤ 1073741824)
    → kept_files g m places k ≡ Some x → length x.bytes + 1024 ≤ 1073741824
file_few g m places k x inside w few at =
    let r = kept_node g m places k x at in
    let has = kept_has g m places k r.0 inside w r.1 in
    omega (arith, ap (λ (y : FileNode). length y.bytes) r.2, kept_length g m places k r.0 inside w r.1, has.count, few (kept_places g m places k r.0) has.«data» has.once)

-- the blocks of a kept node that were told are its own
pub told_places : (g : Geometry) (m : Blocks) (places : List ℕ) (k : ℕ) (node : Node) (ps : List ℕ) → kept_nodes g m places k ≡ Some node
    → ps ≡ places_by_node (kept_places g m places k) (kept_nodes g m places k) → ps ≡ kept_places g m places k node
told_places g m places k node ps used is = is ∙ ap (places_by_node (kept_places g m places k)) used

-- a block that was read begins with the bytes that the file has in it
pub block_of : (g : Geometry) (m : Blocks) (places : List ℕ) (k : ℕ) (ps : List ℕ) (x : FileNode) (index : ℕ) (block : List ℕ) → IsWholeKept g m places → All (IsData g) places
    → kept_files g m places k ≡ Some x → ps ≡ places_by_node (kept_places g m places k) (kept_nodes g m places k)
    → (All (λ b. length (m b) ≡ 1024) ps → (size : ℕ) (y : FileNode) → y.bytes ≡ take size (joined m ps) → take (length (block_bytes y index)) block ≡ block_bytes y index)
    → take (length (block_bytes x index)) block ≡ block_bytes x index
block_of g m places k ps x index block w inside at is begins =
    let r = kept_node g m places k x at in
    let same : ps ≡ kept_places g m places k r.0 = told_places g m places k r.0 ps r.1 is in
    begins (subst (All (λ b. length (m b) ≡ 1024)) (sym same) (kept_has g m places k r.0 inside w r.1).whole) (content_of g.layout r.0.kind r.0.size) x
    (ap (λ (y : FileNode). y.bytes) r.2 ∙ ap (λ qs. take (content_of g.layout r.0.kind r.0.size) (joined m qs)) (sym same))
