-- Nodes in use: their numbers, their kinds, and their blocks, which are data blocks and as many as their content needs.
use Rattle.std.proofs.Common.{◌≡◌, ◌≢◌, ◌⊎◌, inl, inr, ℕ, zero, suc, ◌+◌, ◌<◌, ◌≤◌, ◌==◌, nat_le, nat_lt, Bool, true, false, not, ◌&&◌, if◌then◌else◌, List, [], ◌∷◌, ◌++◌, length, slice_get, slice_index, Option, None, Some, refl, subst, ap, ◌∙◌, arith}
use Rattle.std.proofs.lemmas.Bool.{and_parts, leb-true, eqb-true}
use Rattle.std.proofs.lemmas.List.{length-append}
use Rattle.std.proofs.lemmas.Option.{none-some, same_Some}
use Rattle.base_types.specs.Seal.{Blocks}
use Rattle.base_types.specs.declared.places.Run.{Run}
use Rattle.base_types.specs.Layouts.{most_runs}
use Rattle.base_types.specs.Runs.{blocks_from, run_places}
use Rattle.layout_geometry.specs.Geometry.{Geometry, data_start}
use Rattle.layout_bytes.specs.declared.node.Node.{Node}
use Rattle.layout_bytes.specs.declared.node.NodeKind.{NodeKind}
use Rattle.layout_bytes.specs.declared.node.NodeKind.TheVariants.{Free, Dir, File, Snapshot}
use Rattle.layout_bytes.specs.Bytes.{when}
use Rattle.layout_bytes.specs.Node.{content_blocks, node_of, node_with, node_at, node_bytes, node_fields, node_fits, spare_zeros, runs_fit, run_blocks, kind_fits}
use Rattle.crash_stands.specs.Files.{used_node}
use Rattle.crash_stands.specs.Places.{is_copied}

-- Its blocks.

in_append : (xs ys : List ℕ) (i b : ℕ) → slice_get (xs ++ ys) i ≡ Some b → (slice_get xs i ≡ Some b) ⊎ ((j : ℕ) × (slice_get ys j ≡ Some b))
in_append [] ys i b e = inr (i, e)
in_append (x ∷ xs) ys zero b e = inl e
in_append (x ∷ xs) ys (suc i) b e = in_append xs ys i b e

in_run : (first count i b : ℕ) → slice_get (blocks_from first count) i ≡ Some b → (first ≤ b) × (b < first + count)
in_run first zero i b e = absurd (none-some b e)
in_run first (suc count) zero b e = let same = same_Some first b e in (omega (arith, same), omega (arith, same))
in_run first (suc count) (suc i) b e = let r = in_run (first + 1) count i b e in (omega (arith, r.0), omega (arith, r.1))

runs_data : (g : Geometry) (end : ℕ) (rs : List Run) (i b : ℕ) → runs_fit g end rs ≡ true → slice_get (run_places rs) i ≡ Some b → (data_start g ≤ b) × (b < g.n)
runs_data g end [] i b fits e = absurd (none-some b e)
runs_data g end (r ∷ rs) i b fits e =
    let some = and_parts (nat_lt 0 r.count) _ fits in
    let from = and_parts (nat_le (data_start g) r.first) _ some.1 in
    let last = and_parts (nat_le (r.first + r.count) g.n) _ from.1 in
    let apart = and_parts (not (r.first == end)) (runs_fit g (r.first + r.count) rs) last.1 in
    by (leb-true _ _ from.0) (leb-true _ _ last.0) (λ j at. runs_data g (r.first + r.count) rs j b apart.1 at) (in_append (blocks_from r.first r.count) (run_places rs) i b e)
  where
    by : data_start g ≤ r.first → r.first + r.count ≤ g.n → ((j : ℕ) → slice_get (run_places rs) j ≡ Some b → (data_start g ≤ b) × (b < g.n))
        → (slice_get (blocks_from r.first r.count) i ≡ Some b) ⊎ ((j : ℕ) × (slice_get (run_places rs) j ≡ Some b)) → (data_start g ≤ b) × (b < g.n)
    by from last rest (inl at) = let r = in_run r.first r.count i b at in (omega (arith, r.0, from), omega (arith, r.1, last))
    by from last rest (inr there) = rest there.0 there.1

when_some : {A : Type 0} (t : Bool) (x : Option A) (y : A) → when t x ≡ Some y → (t ≡ true) × (x ≡ Some y)
when_some true x y e = (refl, e)
when_some false x y e = absurd (none-some y e)

run_length : (first n : ℕ) → length (blocks_from first n) ≡ n
run_length first zero = refl
run_length first (suc n) = ap suc (run_length (first + 1) n)

places_length : (rs : List Run) → length (run_places rs) ≡ run_blocks rs
places_length [] = refl
places_length (r ∷ rs) = omega (arith, length-append (blocks_from r.first r.count) (run_places rs), run_length r.first r.count, places_length rs)

-- a node in use is none that is free, its runs fit, and they have as many blocks as its content needs
record IsUsed (g : Geometry) (node : Node) : Type 0 where
  used : node.kind ≢ Free
  runs : runs_fit g 0 node.runs ≡ true
  count : run_blocks node.runs ≡ content_blocks g.layout node.kind node.size

with_parts : (g : Geometry) (b : List ℕ) (kind : NodeKind) (node : Node) → kind ≢ Free → node_with g b (Some kind) ≡ Some node → IsUsed g node
with_parts g b kind node used e =
    let spare = when_some (spare_zeros g.layout b) (when (node_fits g (node_fields kind b)) (Some (node_fields kind b))) node e in
    let fits = when_some (node_fits g (node_fields kind b)) (Some (node_fields kind b)) node spare.1 in
    let whole : node_fits g node ≡ true = subst (λ (m : Node). node_fits g m ≡ true) (same_Some (node_fields kind b) node fits.1) fits.0 in
    let some = and_parts (nat_lt 0 node.links) _ whole in
    let few = and_parts (nat_le (length node.runs) (most_runs g.layout)) _ some.1 in
    let runs = and_parts (runs_fit g 0 node.runs) _ few.1 in
    let blocks = and_parts (run_blocks node.runs == content_blocks g.layout node.kind node.size) (kind_fits node node.kind) runs.1 in
    record { used = λ free. used (ap (λ (m : Node). m.kind) (same_Some (node_fields kind b) node fits.1) ∙ free); runs = runs.0; count = eqb-true (run_blocks node.runs) (content_blocks g.layout node.kind node.size) blocks.0 }

used_by : (g : Geometry) (b : List ℕ) (p q r : Bool) (node : Node) → node_with g b (if p then Some Dir else if q then Some File else if r then Some Snapshot else None) ≡ Some node → IsUsed g node
used_by g b true q r node e = with_parts g b Dir node (λ free. cc) e
used_by g b false true r node e = with_parts g b File node (λ free. cc) e
used_by g b false false true node e = with_parts g b Snapshot node (λ free. cc) e
used_by g b false false false node e = absurd (none-some node e)

read_used : (g : Geometry) (b : List ℕ) (node : Node) → node_of g b ≡ Some node → IsUsed g node
unfolding node_of
read_used g b node e = used_by g b (slice_index b 0 == 1) (slice_index b 0 == 2) (slice_index b 0 == 3) node e

is_used : (g : Geometry) (m : Blocks) (k : ℕ) (node : Node) → used_node g m k ≡ Some node → IsUsed g node
is_used g m k node e = read_used g (node_bytes g m k) node (when_some (nat_le 1 k && nat_le k g.i) (node_at g m k) node e).1

pub used_kind_is : (g : Geometry) (m : Blocks) (k : ℕ) (node : Node) → used_node g m k ≡ Some node → node.kind ≢ Free
used_kind_is g m k node e = (is_used g m k node e).used

pub used_data : (g : Geometry) (m : Blocks) (k : ℕ) (node : Node) → used_node g m k ≡ Some node → (i b : ℕ) → slice_get (run_places node.runs) i ≡ Some b → (data_start g ≤ b) × (b < g.n)
used_data g m k node e i b at = runs_data g 0 node.runs i b (is_used g m k node e).runs at

pub used_count : (g : Geometry) (m : Blocks) (k : ℕ) (node : Node) → used_node g m k ≡ Some node → length (run_places node.runs) ≡ content_blocks g.layout node.kind node.size
used_count g m k node e = places_length node.runs ∙ (is_used g m k node e).count

pub used_within : (g : Geometry) (m : Blocks) (k : ℕ) (node : Node) → used_node g m k ≡ Some node → (1 ≤ k) × (k ≤ g.i)
used_within g m k node e =
    let is = and_parts (nat_le 1 k) (nat_le k g.i) (when_some (nat_le 1 k && nat_le k g.i) (node_at g m k) node e).0 in
    (leb-true 1 k is.0, leb-true k g.i is.1)

-- one that has its blocks for itself and is no snapshot is a file
pub file_kind : (kind : NodeKind) → kind ≢ Free → kind ≢ Snapshot → is_copied kind ≡ false → kind ≡ File
file_kind Free used plain own = absurd (used refl)
file_kind Dir used plain own = cc
file_kind File used plain own = refl
file_kind Snapshot used plain own = absurd (plain refl)
