-- A node in use fits the disk: its blocks are data blocks, as many as its content needs.
use Rattle.std.proofs.Common.{◌≡◌, ℕ, zero, suc, ◌+◌, ◌*◌, ◌^◌, ◌≤◌, true, nat_lt, nat_le, ◌&&◌, not, ◌==◌, List, [], ◌∷◌, length, slice_get, All, Some, ap, ap₂, subst, ◌∙◌, arith}
use Rattle.std.proofs.lemmas.Bool.{and_parts, leb-true, le-leb}
use Rattle.std.proofs.lemmas.Option.{slice_get_within, get_or_from_slice_get}
use Rattle.std.proofs.lemmas.List.Elements.{All-append, All-cons}
use Rattle.base_types.specs.LayoutLaws.{few_runs}
use Rattle.base_types.specs.Seal.{Blocks}
use Rattle.base_types.specs.Runs.{blocks_from, run_places}
use Rattle.base_types.specs.declared.places.Run.{Run}
use Rattle.engine_blocks.specs.Puts.{IsData}
use Rattle.layout_geometry.specs.Geometry.{Geometry, data_start}
use Rattle.layout_bytes.specs.declared.node.Node.{Node}
use Rattle.layout_bytes.specs.Bytes.{when}
use Rattle.layout_bytes.specs.Node.{content_blocks, runs_fit, run_blocks, node_fits, node_bytes, node_at}
use Rattle.layout_bytes.specs.NodeLaws.{size_below}
use Rattle.crash_stands.specs.Files.{used_node}
use Rattle.crash_stands.specs.Stands.{HasBlock}
use Rattle.fs_files.specs.Places.{first_fits, places_count, read_fits, when_some}
use Rattle.fs_snapshots.specs.Nodes.{fits_parts}

-- what a node in use says of its number and its bytes
pub record IsUsed (g : Geometry) (m : Blocks) (k : ℕ) (node : Node) : Type 0 where
  pub from : 1 ≤ k
  pub upto : k ≤ g.i
  pub read : node_at g m k ≡ Some node
  pub fits : node_fits g node ≡ true

pub used_is : (g : Geometry) (m : Blocks) (k : ℕ) (node : Node) → used_node g m k ≡ Some node → IsUsed g m k node
used_is g m k node e =
    let outer = when_some (nat_le 1 k && nat_le k g.i) (node_at g m k) node e in
    let both = and_parts (nat_le 1 k) (nat_le k g.i) outer.0 in
    record { from = leb-true 1 k both.0; upto = leb-true k g.i both.1; read = outer.1; fits = read_fits g (node_bytes g m k) node outer.1 }

-- a node of the table is the one in its bytes
pub used_at : (g : Geometry) (m : Blocks) (k : ℕ) → 1 ≤ k → k ≤ g.i → used_node g m k ≡ node_at g m k
used_at g m k from upto = ap (λ t. when t (node_at g m k)) (ap₂ (λ x y. x && y) (le-leb 1 k from) (le-leb k g.i upto))

-- Its blocks are data.

blocks_data : (g : Geometry) (first n : ℕ) → data_start g ≤ first → first + n ≤ g.n → All (IsData g) (blocks_from first n)
blocks_data g first zero from upto = λ i d low. absurd (omega (arith, low))
blocks_data g first (suc n) from upto = All-cons (IsData g) first (blocks_from (first + 1) n) (record { from = from; below = omega (arith, upto) }) (blocks_data g (first + 1) n (omega (arith, from)) (omega (arith, upto)))

runs_data : (g : Geometry) (end : ℕ) (rs : List Run) → runs_fit g end rs ≡ true → All (IsData g) (run_places rs)
runs_data g end [] e = λ i d low. absurd (omega (arith, low))
runs_data g end (r ∷ rs) e =
    let some = and_parts (nat_lt 0 r.count) (nat_le (data_start g) r.first && (nat_le (r.first + r.count) g.n && (not (r.first == end) && runs_fit g (r.first + r.count) rs))) e in
    let from = and_parts (nat_le (data_start g) r.first) (nat_le (r.first + r.count) g.n && (not (r.first == end) && runs_fit g (r.first + r.count) rs)) some.1 in
    let upto = and_parts (nat_le (r.first + r.count) g.n) (not (r.first == end) && runs_fit g (r.first + r.count) rs) from.1 in
    let apart = and_parts (not (r.first == end)) (runs_fit g (r.first + r.count) rs) upto.1 in
    All-append (IsData g) (blocks_from r.first r.count) (run_places rs) (blocks_data g r.first r.count (leb-true (data_start g) r.first from.0) (leb-true (r.first + r.count) g.n upto.0)) (runs_data g (r.first + r.count) rs apart.1)

-- what the blocks of a node that fits are
pub record PlacesFit (g : Geometry) (node : Node) : Type 0 where
  pub «data» : All (IsData g) (run_places node.runs)
  pub count : length (run_places node.runs) ≡ content_blocks g.layout node.kind node.size

pub places_fit : (g : Geometry) (node : Node) → node_fits g node ≡ true → PlacesFit g node
places_fit g node e = let fits = fits_parts g node e in record { «data» = runs_data g 0 node.runs fits.runs; count = places_count node.runs ∙ fits.count }

-- its size is no more than its runs have room for
few_blocks : (g : Geometry) → g.n ≤ 1048576 → (end : ℕ) (rs : List Run) → runs_fit g end rs ≡ true → run_blocks rs ≤ 1048576 * length rs
few_blocks g small end [] fits = omega arith
few_blocks g small end (r ∷ rs) fits = let first = first_fits g end r rs fits in omega (arith, small, first.below, few_blocks g small (r.first + r.count) rs first.rest)

pub small_size : (g : Geometry) (node : Node) → g.n ≤ 1048576 → node_fits g node ≡ true → node.size ≤ 2 ^ 38
small_size g node small e =
    let fits = fits_parts g node e in
    omega (arith, few_runs g.layout, fits.few, fits.count, few_blocks g small 0 node.runs fits.runs, size_below g.layout node.kind node.size)

-- each block that a node has is a data block
pub has_data : (g : Geometry) (m : Blocks) (k i b : ℕ) → HasBlock g m k i b → IsData g b
has_data g m k i b h =
    let all = (places_fit g h.node (used_is g m k h.node h.is_node).fits).«data» in
    subst (IsData g) (get_or_from_slice_get (run_places h.node.runs) i b 0 h.place) (all i 0 (slice_get_within (run_places h.node.runs) i b h.place))

-- the block at a place of a list of data blocks is one
pub data_at : (g : Geometry) (places : List ℕ) (i b : ℕ) → All (IsData g) places → slice_get places i ≡ Some b → IsData g b
data_at g places i b all at = subst (IsData g) (get_or_from_slice_get places i b 0 at) (all i 0 (slice_get_within places i b at))
