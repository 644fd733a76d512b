-- A node that fits a disk within its limits has room in its bytes, and tidy runs.
use Rattle.std.proofs.Common.{◌≡◌, ℕ, zero, suc, ◌+◌, ◌*◌, ◌/◌, ◌^◌, ◌<◌, ◌≤◌, ◌≢◌, ◌==◌, true, not, nat_lt, nat_le, List, [], ◌∷◌, length, Result, Ok, Err, IfOk, refl, sym, subst, arith, eqb-true}
use Rattle.std.proofs.lemmas.Bool.{and_parts, leb-true, ltb-true, eqb-false, not-true}
use Rattle.base_types.specs.LayoutLaws.{few_runs}
use Rattle.base_types.specs.declared.places.Run.{Run}
use Rattle.layout_extent.specs.Runs.{AreTidy, LieBelow}
use Rattle.layout_geometry.specs.Geometry.{Geometry, geometry_fits, data_start}
use Rattle.layout_bytes.specs.declared.node.Node.{Node}
use Rattle.layout_bytes.specs.declared.node.NodeKind.{NodeKind}
use Rattle.layout_bytes.specs.declared.node.NodeKind.TheVariants.{Free, Dir, File, Snapshot}
use Rattle.layout_bytes.specs.Node.{content_blocks, most_runs, runs_fit, run_blocks, kind_fits, node_fits, node_spelling, FitsAs, HasRoom, IsNode}
use Rattle.layout_bytes.specs.NodeLaws.{size_below}
use Rattle.layout_node.specs.declared.read.BadNode.{BadNode}
use Rattle.layout_node.proofs.Spelled.{zeros_free}

below : (g : Geometry) (end : ℕ) (rs : List Run) → g.n ≤ 1048576 → runs_fit g end rs ≡ true → LieBelow 1048576 rs
below g end [] most fits k d more = absurd (omega arith)
below g end (r ∷ rs) most fits zero d more =
    let some = and_parts (nat_lt 0 r.count) _ fits in
    let from = and_parts (nat_le (data_start g) r.first) _ some.1 in
    let last = and_parts (nat_le (r.first + r.count) g.n) _ from.1 in
    omega (arith, leb-true (r.first + r.count) g.n last.0, most)
below g end (r ∷ rs) most fits (suc k) d more =
    let some = and_parts (nat_lt 0 r.count) _ fits in
    let from = and_parts (nat_le (data_start g) r.first) _ some.1 in
    let last = and_parts (nat_le (r.first + r.count) g.n) _ from.1 in
    let apart = and_parts (not (r.first == end)) (runs_fit g (r.first + r.count) rs) last.1 in
    below g (r.first + r.count) rs most apart.1 k d (omega arith)

blocks_below : (rs : List Run) → LieBelow 1048576 rs → run_blocks rs ≤ 1048576 * length rs
blocks_below [] low = omega arith
blocks_below (r ∷ rs) low = omega (arith, low 0 r (omega arith), blocks_below rs (λ k d more. low (suc k) d (omega arith)))

most_blocks : (g : Geometry) → geometry_fits g ≡ true → g.n ≤ 1048576
unfolding geometry_fits
most_blocks g fits = leb-true _ _ (and_parts _ _ (and_parts _ _ fits).1).0

used_room : (g : Geometry) (n : Node) → g.n ≤ 1048576 → node_fits g n ≡ true → n.links < 256 ^ 4 → HasRoom n
used_room g n most fits links =
    let some = and_parts (nat_lt 0 n.links) _ fits in
    let few = and_parts (nat_le (length n.runs) (most_runs g.layout)) _ some.1 in
    let runs = and_parts (runs_fit g 0 n.runs) _ few.1 in
    let blocks = and_parts (run_blocks n.runs == content_blocks g.layout n.kind n.size) (kind_fits n n.kind) runs.1 in
    let low = below g 0 n.runs most runs.0 in
    let bound = blocks_below n.runs low in
    let count = leb-true (length n.runs) (most_runs g.layout) few.0 in
    let same = eqb-true (run_blocks n.runs) (content_blocks g.layout n.kind n.size) blocks.0 in
    record {
      links = links;
      size = omega (arith, bound, count, few_runs g.layout, same, size_below g.layout n.kind n.size);
      runs = λ k d more. (omega (arith, low k d more), omega (arith, low k d more));
    }

room_as : (g : Geometry) (n : Node) (kind : NodeKind) → g.n ≤ 1048576 → FitsAs g n kind → n.links < 256 ^ 4 → HasRoom n
room_as g n Free most fits links = subst HasRoom (sym fits) (zeros_free g).room
room_as g n Dir most fits links = used_room g n most fits links
room_as g n File most fits links = used_room g n most fits links
room_as g n Snapshot most fits links = used_room g n most fits links

-- so it is in its spelling
pub stands : (g : Geometry) (n : Node) → geometry_fits g ≡ true → FitsAs g n n.kind → n.links < 256 ^ 4 → IsNode g (node_spelling g.layout n) n
stands g n geometry fits links = record { room = room_as g n n.kind (most_blocks g geometry) fits links; fits = fits; spelling = refl }

-- runs that fit a disk are tidy: each has blocks, and none begins right behind the one before
tidy : (g : Geometry) (end : ℕ) (rs : List Run) → runs_fit g end rs ≡ true → AreTidy rs
tidy g end [] fits = tt
tidy g end (r ∷ []) fits = ltb-true 0 r.count (and_parts (nat_lt 0 r.count) _ fits).0
tidy g end (r ∷ s ∷ rs) fits =
    let some = and_parts (nat_lt 0 r.count) _ fits in
    let from = and_parts (nat_le (data_start g) r.first) _ some.1 in
    let last = and_parts (nat_le (r.first + r.count) g.n) _ from.1 in
    let apart = and_parts (not (r.first == end)) (runs_fit g (r.first + r.count) (s ∷ rs)) last.1 in
    (ltb-true 0 r.count some.0, next s rs apart.1, tidy g (r.first + r.count) (s ∷ rs) apart.1)
  where
    next : (s : Run) (rs : List Run) → runs_fit g (r.first + r.count) (s ∷ rs) ≡ true → s.first ≢ r.first + r.count
    next s rs fits =
        let some = and_parts (nat_lt 0 s.count) _ fits in
        let from = and_parts (nat_le (data_start g) s.first) _ some.1 in
        let last = and_parts (nat_le (s.first + s.count) g.n) _ from.1 in
        let apart = and_parts (not (s.first == (r.first + r.count))) (runs_fit g (s.first + s.count) rs) last.1 in
        eqb-false s.first (r.first + r.count) (not-true _ apart.0)

used_runs : (g : Geometry) (n : Node) → g.n ≤ 1048576 → node_fits g n ≡ true → AreTidy n.runs × LieBelow 1048576 n.runs
used_runs g n most fits =
    let some = and_parts (nat_lt 0 n.links) _ fits in
    let few = and_parts (nat_le (length n.runs) (most_runs g.layout)) _ some.1 in
    let runs = and_parts (runs_fit g 0 n.runs) _ few.1 in
    (tidy g 0 n.runs runs.0, below g 0 n.runs most runs.0)

no_runs : AreTidy [] × LieBelow 1048576 []
no_runs = (tt, λ k d more. absurd (omega arith))

runs_as : (g : Geometry) (n : Node) (kind : NodeKind) → g.n ≤ 1048576 → FitsAs g n kind → AreTidy n.runs × LieBelow 1048576 n.runs
runs_as g n Free most fits = subst (λ (m : Node). AreTidy m.runs × LieBelow 1048576 m.runs) (sym fits) no_runs
runs_as g n Dir most fits = used_runs g n most fits
runs_as g n File most fits = used_runs g n most fits
runs_as g n Snapshot most fits = used_runs g n most fits

-- the runs of a node on a disk within its limits are tidy, and end by the most blocks of a disk
pub runs_of_node : (g : Geometry) (b : List ℕ) (r : Result Node BadNode) → geometry_fits g ≡ true → IfOk r (λ n. IsNode g b n) → IfOk r (λ n. AreTidy n.runs × LieBelow 1048576 n.runs)
runs_of_node g b (Ok n) geometry is = runs_as g n n.kind (most_blocks g geometry) is.fits
runs_of_node g b (Err e) geometry is = tt

pub tidy_part : (r : Result Node BadNode) → IfOk r (λ n. AreTidy n.runs × LieBelow 1048576 n.runs) → IfOk r (λ n. AreTidy n.runs)
tidy_part (Ok n) both = both.0
tidy_part (Err e) both = tt

pub below_part : (r : Result Node BadNode) → IfOk r (λ n. AreTidy n.runs × LieBelow 1048576 n.runs) → IfOk r (λ n. LieBelow 1048576 n.runs)
below_part (Ok n) both = both.1
below_part (Err e) both = tt
