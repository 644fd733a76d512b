-- What a kept node has, where the snapshot is whole.
use Rattle.std.proofs.Common.{◌≡◌, ◌≢◌, ℕ, ◌+◌, ◌-◌, ◌*◌, ◌<◌, ◌≤◌, ◌&&◌, Bool, true, false, min, nat_le, if◌then◌else◌, List, length, take, drop, get_or, All, AllPairs, slice_get, Some, refl, sym, ap, subst, ◌∙◌, arith}
use Rattle.std.proofs.lemmas.List.{length-take, length-drop, get_or-take, get_or-drop, drop-drop}
use Rattle.std.proofs.lemmas.Bool.{and_parts, leb-true}
use Rattle.std.proofs.lemmas.Option.{slice_get-get_or, slice_get_within, get_or_from_slice_get}
use Rattle.base_types.specs.Seal.{Blocks}
use Rattle.base_types.specs.Runs.{run_places}
use Rattle.layout_geometry.specs.Geometry.{Geometry}
use Rattle.layout_bytes.specs.declared.node.Node.{Node}
use Rattle.layout_bytes.specs.declared.node.NodeKind.TheVariants.{File}
use Rattle.layout_bytes.specs.Node.{content_of, content_blocks, node_at, node_bytes}
use Rattle.layout_extent.specs.Renew.{AreOnce}
use Rattle.engine_blocks.specs.Puts.{IsData}
use Rattle.crash_stands.specs.Files.{joined, used_node}
use Rattle.crash_stands.specs.Places.{dir_part, dir_blocks, dirs_from, is_copied, kept_table, table_blocks}
use Rattle.crash_stands.specs.Kept.{kept_file, kept_nodes, kept_places}
use Rattle.fs_files.specs.Bytes.{blocks_for}
use Rattle.fs_files.specs.Places.{has_place, joined_length, place_of, places_count, read_fits, runs_data, when_some}
use Rattle.fs_snapshots.specs.Kept.{IsWholeKept}
use Rattle.fs_snapshots.specs.Nodes.{Fits, fits_parts, used_fits}
use Rattle.fs_snapshots.proofs.Counts.{dirs_less, dirs_next}
use Rattle.fs_snapshots.proofs.UsedKinds.{file_kind, kept_kind}

pub runs_inside : (g : Geometry) (node : Node) → Fits g node → All (IsData g) (run_places node.runs)
runs_inside g node fits i d low =
    let ps = run_places node.runs in
    runs_data g 0 node.runs (get_or ps i d) fits.runs (has_place ps i (get_or ps i d) (slice_get-get_or ps i d low))

-- its blocks are of the data
pub node_data : (g : Geometry) (m : Blocks) (k : ℕ) (node : Node) → used_node g m k ≡ Some node → All (IsData g) (run_places node.runs)
node_data g m k node used = runs_inside g node (used_fits g m k node used)

-- a kept node is one of the table's numbers, and fits
pub record IsKept (g : Geometry) (k : ℕ) (node : Node) : Type 0 where
  pub from : 1 ≤ k
  pub upto : k ≤ g.i
  pub fits : Fits g node

pub is_kept : (g : Geometry) (m : Blocks) (places : List ℕ) (k : ℕ) (node : Node) → kept_nodes g m places k ≡ Some node → IsKept g k node
is_kept g m places k node e =
    let t = kept_table m places g in
    let r = when_some (nat_le 1 k && nat_le k g.i) (node_at g t k) node e in
    let both = and_parts (nat_le 1 k) (nat_le k g.i) r.0 in
    record { from = leb-true 1 k both.0; upto = leb-true k g.i both.1; fits = fits_parts g node (read_fits g (node_bytes g t k) node r.1) }

-- these are blocks of a node of so many bytes: of the data, whole, each once, as many as the bytes need
pub record HasItsBlocks (g : Geometry) (m : Blocks) (size : ℕ) (ps : List ℕ) : Type 0 where
  pub «data» : All (IsData g) ps
  pub whole : All (λ b. length (m b) ≡ 1024) ps
  pub once : AllPairs (λ a b. a ≢ b) ps
  pub count : length ps ≡ blocks_for size

-- numbers that come once are different ones
pub once_pairs : (xs : List ℕ) → AreOnce xs → AllPairs (λ a b. a ≢ b) xs
once_pairs xs once i j d low high e =
    let at : slice_get xs i ≡ Some (get_or xs j d) = slice_get-get_or xs i d (omega (arith, low, high)) ∙ ap Some e in
    omega (arith, low, once i j (get_or xs j d) at (slice_get-get_or xs j d high))

-- a file has its blocks
file_has : (g : Geometry) (m : Blocks) (places : List ℕ) (k : ℕ) (node : Node) → IsWholeKept g m places → kept_nodes g m places k ≡ Some node → Fits g node → node.kind ≡ File
    → HasItsBlocks g m (content_of g.layout node.kind node.size) (run_places node.runs)
file_has g m places k node w used fits own =
    let ps = run_places node.runs in
    let at : (i d : ℕ) → i < length ps → slice_get ps i ≡ Some (get_or ps i d) = λ i d low. slice_get-get_or ps i d low in
    record {
      «data» = runs_inside g node fits;
      whole = λ i d low. w.files k i (get_or ps i d) (record { node = node; is_node = used; kind = own; place = at i d low });
      once = once_pairs ps (λ i j b first second. (w.sound.once k k i j b (record { node = node; is_node = used; kind = own; place = first }) (record { node = node; is_node = used; kind = own; place = second })).1);
      count = places_count node.runs ∙ fits.count;
    }

-- a part of numbers of which all have it
pub part_all : (P : ℕ → Type 0) (c f : ℕ) (xs : List ℕ) → All P xs → All P (take c (drop f xs))
part_all P c f xs all i d low =
    let short : length (take c (drop f xs)) ≡ min c (length xs - f) = length-take c (drop f xs) ∙ ap (min c) (length-drop f xs) in
    subst P (sym (get_or-take c (drop f xs) i d (omega (arith, low, short)) ∙ get_or-drop f xs i d)) (all (f + i) d (omega (arith, low, short)))

-- a part of different ones
part_once : (c f : ℕ) (xs : List ℕ) → AllPairs (λ a b. a ≢ b) xs → AllPairs (λ a b. a ≢ b) (take c (drop f xs))
part_once c f xs pairs i j d low high e =
    let short : length (take c (drop f xs)) ≡ min c (length xs - f) = length-take c (drop f xs) ∙ ap (min c) (length-drop f xs) in
    let at : (n : ℕ) → n < length (take c (drop f xs)) → get_or (take c (drop f xs)) n d ≡ get_or xs (f + n) d = λ n h. get_or-take c (drop f xs) n d (omega (arith, h, short)) ∙ get_or-drop f xs n d in
    pairs (f + i) (f + j) d (omega (arith, low)) (omega (arith, high, short)) (sym (at i (omega (arith, low, high))) ∙ e ∙ at j high)

-- where a kept directory's places begin among those of the snapshot
abbrev pub dir_first : Geometry → Blocks → List ℕ → ℕ → ℕ
dir_first g m places k = dirs_from g.layout (kept_nodes g m places) 1 (k - 1) + (1 + table_blocks g)

pub dir_places : (g : Geometry) (m : Blocks) (places : List ℕ) (k : ℕ) (node : Node) → is_copied node.kind ≡ true
    → kept_places g m places k node ≡ take (content_blocks g.layout node.kind node.size) (drop (dir_first g m places k) places)
dir_places g m places k node own =
    ap (λ (t : Bool). if t then take (content_blocks g.layout node.kind node.size) (drop (dirs_from g.layout (kept_nodes g m places) 1 (k - 1)) (dir_part g places)) else run_places node.runs) own
    ∙ ap (take (content_blocks g.layout node.kind node.size)) (drop-drop (dirs_from g.layout (kept_nodes g m places) 1 (k - 1)) (1 + table_blocks g) places ∙ ap (λ n. drop n places) {x = 1 + table_blocks g + dirs_from g.layout (kept_nodes g m places) 1 (k - 1)} {y = dir_first g m places k} (omega arith))

pub file_places : (g : Geometry) (m : Blocks) (places : List ℕ) (k : ℕ) (node : Node) → is_copied node.kind ≡ false → kept_places g m places k node ≡ run_places node.runs
file_places g m places k node own = ap (λ (t : Bool). if t then take (content_blocks g.layout node.kind node.size) (drop (dirs_from g.layout (kept_nodes g m places) 1 (k - 1)) (dir_part g places)) else run_places node.runs) own

-- there are as many of a directory as it needs
pub dir_ends : (g : Geometry) (m : Blocks) (places : List ℕ) (k : ℕ) (node : Node) → IsWholeKept g m places → kept_nodes g m places k ≡ Some node → IsKept g k node → is_copied node.kind ≡ true
    → dir_first g m places k + content_blocks g.layout node.kind node.size ≤ length places
dir_ends g m places k node w used kept own =
    let nodes = kept_nodes g m places in
    let here : dirs_from g.layout nodes 1 k ≡ dirs_from g.layout nodes 1 (k - 1) + content_blocks g.layout node.kind node.size =
    ap (dirs_from g.layout nodes 1) {x = k} {y = k - 1 + 1} (omega (arith, kept.from))
    ∙ dirs_next g.layout nodes 1 (k - 1)
    ∙ ap (λ n. dirs_from g.layout nodes 1 (k - 1) + n) (ap (λ n. dir_blocks g.layout (nodes n)) {x = 1 + (k - 1)} {y = k} (omega (arith, kept.from)) ∙ ap (dir_blocks g.layout) used ∙ ap (λ (t : Bool). if t then content_blocks g.layout node.kind node.size else 0) own) in
    omega (arith, here, dirs_less g.layout nodes 1 k g.i kept.upto, w.sound.long)

dir_has : (g : Geometry) (m : Blocks) (places : List ℕ) (k : ℕ) (node : Node) → All (IsData g) places → IsWholeKept g m places → kept_nodes g m places k ≡ Some node → IsKept g k node
    → is_copied node.kind ≡ true → HasItsBlocks g m (content_of g.layout node.kind node.size) (take (content_blocks g.layout node.kind node.size) (drop (dir_first g m places k) places))
dir_has g m places k node inside w used kept own = record {
  «data» = part_all (IsData g) (content_blocks g.layout node.kind node.size) (dir_first g m places k) places inside;
  whole = part_all (λ b. length (m b) ≡ 1024) (content_blocks g.layout node.kind node.size) (dir_first g m places k) places w.own;
  once = part_once (content_blocks g.layout node.kind node.size) (dir_first g m places k) places (once_pairs places w.once);
  count =
      let ends = dir_ends g m places k node w used kept own in
      omega (arith, length-take (content_blocks g.layout node.kind node.size) (drop (dir_first g m places k) places), length-drop (dir_first g m places k) places, ends);
}

-- each kept node has its blocks
pub kept_has : (g : Geometry) (m : Blocks) (places : List ℕ) (k : ℕ) (node : Node) → All (IsData g) places → IsWholeKept g m places → kept_nodes g m places k ≡ Some node
    → HasItsBlocks g m (content_of g.layout node.kind node.size) (kept_places g m places k node)
kept_has g m places k node inside w used = by (is_copied node.kind) refl
  where
    by : (t : Bool) → is_copied node.kind ≡ t → HasItsBlocks g m (content_of g.layout node.kind node.size) (kept_places g m places k node)
    by true own = subst (HasItsBlocks g m (content_of g.layout node.kind node.size)) (sym (dir_places g m places k node own)) (dir_has g m places k node inside w used (is_kept g m places k node used) own)
    by false own = subst (HasItsBlocks g m (content_of g.layout node.kind node.size)) (sym (file_places g m places k node own)) (file_has g m places k node w used (is_kept g m places k node used).fits (file_kind node.kind (kept_kind g m places k node used) (w.sound.plain k node used) own))

-- and so as many bytes as its size tells
pub kept_length : (g : Geometry) (m : Blocks) (places : List ℕ) (k : ℕ) (node : Node) → All (IsData g) places → IsWholeKept g m places → kept_nodes g m places k ≡ Some node
    → length (kept_file g m places k node).bytes ≡ content_of g.layout node.kind node.size
kept_length g m places k node inside w used =
    let has = kept_has g m places k node inside w used in
    let ps = kept_places g m places k node in
    let room : length (joined m ps) ≡ 1024 * length ps = joined_length m ps (λ b is. let p = place_of ps b is in all_at ps p.0 b has.whole p.1) in
    omega (arith, length-take (content_of g.layout node.kind node.size) (joined m ps), room, has.count)
  where
    all_at : (ps : List ℕ) (i b : ℕ) → All (λ b. length (m b) ≡ 1024) ps → slice_get ps i ≡ Some b → length (m b) ≡ 1024
    all_at ps i b all at = subst (λ c. length (m c) ≡ 1024) (get_or_from_slice_get ps i b 0 at) (all i 0 (slice_get_within ps i b at))
