-- What is known of a node in use that fits a disk.
use Rattle.std.proofs.Common.{◌≡◌, ℕ, ◌+◌, ◌*◌, ◌/◌, ◌^◌, ◌≤◌, true, List, [], ◌∷◌, length, All, Some, sym, ap, subst, ◌∙◌, arith, get_or}
use Rattle.std.proofs.lemmas.Option.{slice_get-get_or}
use Rattle.std.proofs.lemmas.Bool.Decides.{nat_tests}
use Rattle.base_types.specs.declared.places.Run.{Run}
use Rattle.base_types.specs.Runs.{run_places}
use Rattle.base_types.specs.declared.layout.Layout.{Layout}
use Rattle.base_types.specs.LayoutLaws.{few_runs}
use Rattle.layout_geometry.specs.Geometry.{Geometry}
use Rattle.layout_extent.specs.Runs.{runs_of, stretches}
use Rattle.layout_bytes.specs.declared.node.Node.{Node}
use Rattle.layout_bytes.specs.declared.node.NodeKind.{NodeKind}
use Rattle.layout_bytes.specs.declared.node.NodeKind.TheVariants.{Free, Dir, File, Snapshot}
use Rattle.layout_bytes.specs.Node.{node_of, content_of, size_of, run_blocks, runs_fit, kind_fits, node_fits, FitsAs, IsNode}
use Rattle.layout_bytes.specs.NodeLaws.{size_below}
use Rattle.engine_blocks.specs.Puts.{IsData}
use Rattle.fs_files.specs.declared.nodes.OpenNode.{OpenNode}
use Rattle.fs_files.specs.Contents.{blocks_of_size, whole_content}
use Rattle.fs_files.specs.Nodes.{node_of_open, AreWholeSlots, IsOpen}
use Rattle.fs_files.proofs.frames.Places.{has_place, runs_data, places_count, parts_fit, first_fits}

-- each run has at most so many blocks as the disk
most_blocks_of : (g : Geometry) (end : ℕ) (rs : List Run) → g.n ≤ 1048576 → runs_fit g end rs ≡ true → run_blocks rs ≤ length rs * 1048576
most_blocks_of g end [] most e = omega arith
most_blocks_of g end (r ∷ rs) most e =
    let f = first_fits g end r rs e in
    omega (arith, f.upto, most, most_blocks_of g (r.first + r.count) rs most f.rest)

file_most : (node : Node) (kind : NodeKind) → kind_fits node kind ≡ true → kind ≡ File → node.size ≤ 1073741824
file_most node kind e h = grind (arith, nat_tests)

-- a node that fits is open
opens : (g : Geometry) (o : OpenNode) → g.n ≤ 1048576
    → ((xs : List ℕ) → run_places (runs_of xs) ≡ xs) → ((xs : List ℕ) → length (runs_of xs) ≡ stretches xs)
    → (o.kind ≡ Free → ⊥) → (o.kind ≡ Dir → AreWholeSlots g.layout o.size) → node_fits g (node_of_open g.layout o) ≡ true → IsOpen g o
opens g o small places stretch used whole fits =
    let p = parts_fit g (node_of_open g.layout o) fits in
    let count : length o.places ≡ (o.size + 1023) / 1024 = ap length (sym (places o.places)) ∙ places_count (runs_of o.places) ∙ p.blocks ∙ blocks_of_size g.layout o.kind o.size whole in
    record {
      used = used;
      fits = fits;
      «data» = subst (All (IsData g)) (places o.places) (λ i d low. runs_data g 0 (runs_of o.places) (get_or (run_places (runs_of o.places)) i d) p.runs (has_place (run_places (runs_of o.places)) i (get_or (run_places (runs_of o.places)) i d) (slice_get-get_or (run_places (runs_of o.places)) i d low)));
      count = count;
      runs = omega (arith, stretch o.places, p.few);
      most = omega (arith, few_runs g.layout, p.few, count, ap length (places o.places), places_count (runs_of o.places), most_blocks_of g 0 (runs_of o.places) small p.runs);
      file = λ is. subst (λ kind. size_of g.layout kind o.size ≤ 1073741824) is (file_most (node_of_open g.layout o) o.kind p.kind is);
      slots = whole;
    }

-- its size is no great number
pub fits_small : (g : Geometry) (n : Node) → g.n ≤ 1048576 → node_fits g n ≡ true → n.size ≤ 2 ^ 38
fits_small g n small fits =
    let p = parts_fit g n fits in
    omega (arith, few_runs g.layout, p.few, p.blocks, most_blocks_of g 0 n.runs small p.runs, size_below g.layout n.kind n.size)

-- a node of one of these kinds is in use
dir_used : Free ≡ Dir → ⊥
dir_used e = absurd cc

pub file_used : Free ≡ File → ⊥
file_used e = absurd cc

snapshot_used : Free ≡ Snapshot → ⊥
snapshot_used e = absurd cc

-- the size of a node in these bytes
pub small_dir : (g : Geometry) (n : Node) (b : List ℕ) → g.n ≤ 1048576 → n.kind ≡ Dir → IsNode g b n → n.size ≤ 2 ^ 38
small_dir g n b small is node = fits_small g n small (subst (λ k. FitsAs g n k) is node.fits)

pub small_snapshot : (g : Geometry) (n : Node) (b : List ℕ) → g.n ≤ 1048576 → n.kind ≡ Snapshot → IsNode g b n → n.size ≤ 2 ^ 38
small_snapshot g n b small is node = fits_small g n small (subst (λ k. FitsAs g n k) is node.fits)

-- the node that was opened is the one in the bytes
pub reads_it : (g : Geometry) (o : OpenNode) (n : Node) (b : List ℕ) (l : Layout) → l ≡ g.layout → node_of_open l o ≡ n → node_of g b ≡ Some n → Some (node_of_open g.layout o) ≡ node_of g b
reads_it g o n b l same is reads = ap Some (ap (λ k. node_of_open k o) (sym same) ∙ is) ∙ sym reads

-- so is a node that was read, where it is in use
module _ (g : Geometry) (o : OpenNode) (n : Node) (b : List ℕ) (small : g.n ≤ 1048576)
    (places : (xs : List ℕ) → run_places (runs_of xs) ≡ xs) (stretch : (xs : List ℕ) → length (runs_of xs) ≡ stretches xs)
    (l : Layout) (same : l ≡ g.layout) (read : node_of_open l o ≡ n) (holds : o.size ≡ content_of l n.kind n.size) where
  e : node_of_open g.layout o ≡ n
  e = subst (λ k. node_of_open k o ≡ n) same read

  size : o.size ≡ content_of g.layout n.kind n.size
  size = subst (λ k. o.size ≡ content_of k n.kind n.size) same holds

  kind_is : o.kind ≡ n.kind
  kind_is = ap (λ (x : Node). x.kind) e

  opens_fit : (o.kind ≡ Free → ⊥) → node_fits g n ≡ true → IsOpen g o
  opens_fit used fits = opens g o small places stretch used
      (λ dir. subst (λ s. AreWholeSlots g.layout s) (sym size) (whole_content g.layout n.kind n.size (sym kind_is ∙ dir)))
      (ap (node_fits g) e ∙ fits)

  pub opens_dir : n.kind ≡ Dir → IsNode g b n → IsOpen g o
  opens_dir is node = opens_fit (λ free. dir_used (sym free ∙ kind_is ∙ is)) (subst (λ k. FitsAs g n k) is node.fits)

  pub opens_file : n.kind ≡ File → IsNode g b n → IsOpen g o
  opens_file is node = opens_fit (λ free. file_used (sym free ∙ kind_is ∙ is)) (subst (λ k. FitsAs g n k) is node.fits)

  pub opens_snapshot : n.kind ≡ Snapshot → IsNode g b n → IsOpen g o
  opens_snapshot is node = opens_fit (λ free. snapshot_used (sym free ∙ kind_is ∙ is)) (subst (λ k. FitsAs g n k) is node.fits)
