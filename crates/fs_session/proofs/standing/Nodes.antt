-- What a node in use has: data blocks, as many as its content needs.
use Rattle.std.proofs.Common.{◌≡◌, ℕ, ◌+◌, ◌<◌, ◌≤◌, ◌==◌, ◌&&◌, true, List, length, slice_get, Option, Some, None, refl, sym, ap, ◌∙◌, arith}
use Rattle.std.proofs.lemmas.List.{length-take-le}
use Rattle.std.proofs.lemmas.Option.{none-some}
use Rattle.base_types.specs.Seal.{Blocks}
use Rattle.base_types.specs.Runs.{run_places}
use Rattle.layout_geometry.specs.Geometry.{Geometry}
use Rattle.layout_bytes.specs.declared.node.Node.{Node}
use Rattle.layout_bytes.specs.Node.{content_blocks, content_of}
use Rattle.engine_blocks.specs.Puts.{IsData}
use Rattle.engine_blocks.specs.Running.{has}
use Rattle.crash_stands.specs.Files.{joined, content, used_node}
use Rattle.crash_stands.specs.Stands.{HasBlock}
use Rattle.fs_files.specs.Calls.{places_or_none}
use Rattle.fs_files.specs.Places.{has_place, joined_length, place_of, places_count}
pub use Rattle.fs_files.specs.Places.{first_fits, joined_same, runs_data}
use Rattle.fs_snapshots.specs.Nodes.{Fits, used_fits}

-- Its blocks are data blocks.

-- They are as many as its content needs.

pub node_count : (g : Geometry) (node : Node) → Fits g node → length (run_places node.runs) ≡ content_blocks g.layout node.kind node.size
node_count g node fits = places_count node.runs ∙ fits.count

-- its content has as many bytes as its size tells, where its blocks are whole
pub content_length : (g : Geometry) (m : Blocks) (node : Node) → Fits g node → ((b : ℕ) → has (run_places node.runs) b ≡ true → length (m b) ≡ 1024) → length (content g.layout m node) ≡ content_of g.layout node.kind node.size
content_length g m node fits whole =
    length-take-le (content_of g.layout node.kind node.size) (joined m (run_places node.runs)) (omega (arith, node_count g node fits, joined_length m (run_places node.runs) whole))

-- Which node has a block.

-- the places of node k, or none
abbrev pub places_at : Geometry → Blocks → ℕ → List ℕ
places_at g m k = places_or_none (used_node g m k)

pub block_place : (g : Geometry) (m : Blocks) (k i b : ℕ) → HasBlock g m k i b → slice_get (places_at g m k) i ≡ Some b
block_place g m k i b h = ap (λ o. slice_get (places_or_none o) i) h.is_node ∙ h.place

pub place_block : (g : Geometry) (m : Blocks) (k i b : ℕ) → slice_get (places_at g m k) i ≡ Some b → HasBlock g m k i b
place_block g m k i b e = by (used_node g m k) refl
  where
    by : (o : Option Node) → used_node g m k ≡ o → HasBlock g m k i b
    by None none = absurd (none-some b (sym (ap (λ o. slice_get (places_or_none o) i) none) ∙ e))
    by (Some node) is = record { node = node; is_node = is; place = sym (ap (λ o. slice_get (places_or_none o) i) is) ∙ e }

-- a place is that of a data block
pub place_data : (g : Geometry) (m : Blocks) (k b : ℕ) → has (places_at g m k) b ≡ true → IsData g b
place_data g m k b is =
    let r = place_of (places_at g m k) b is in
    let h = place_block g m k r.0 b r.1 in
    runs_data g 0 h.node.runs b (used_fits g m k h.node h.is_node).runs (has_place (run_places h.node.runs) r.0 b h.place)
