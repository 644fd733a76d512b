-- Blocks that have the live blocks of others stand for the same tree, with its snapshots.
use Rattle.std.proofs.Common.{◌≡◌, ◌⊎◌, inl, inr, ℕ, ◌+◌, ◌*◌, ◌/◌, ◌<◌, ◌≤◌, nat_le, nat_lt, true, false, ◌&&◌, ◌||◌, IsTrue, List, drop, take, length, slice_get, get_or, Option, None, Some, option_map, refl, sym, subst, ap, ap₂, ◌∙◌, arith}
use Rattle.std.proofs.lemmas.Bool.{and_parts, and_from, ltb-true, le-leb, lt-ltb, or_right}
use Rattle.std.proofs.lemmas.Option.{slice_get-get_or}
use Rattle.base_types.specs.Seal.{Blocks}
use Rattle.base_types.specs.Runs.{run_places}
use Rattle.base_types.specs.Layouts.{node_block, node_byte}
use Rattle.base_types.specs.LayoutLaws.{node_in_table}
use Rattle.layout_geometry.specs.Geometry.{Geometry, IsGeometry, bitmap_start, bitmap_blocks, table_start, data_start}
use Rattle.layout_journal.specs.Run.{is_live}
use Rattle.layout_bytes.specs.declared.node.Node.{Node}
use Rattle.layout_bytes.specs.declared.node.NodeKind.TheVariants.{Dir, Snapshot}
use Rattle.layout_bytes.specs.Bitmap.{is_set, bit_in}
use Rattle.layout_bytes.specs.Bytes.{are_zeros}
use Rattle.layout_bytes.specs.Node.{node_size, content_of, node_of, node_at, node_bytes}
use Rattle.lang_tree.specs.Tree.{Tree, Kept}
use Rattle.crash_stands.specs.Files.{files_of, file_of, used_node, joined, past_content}
use Rattle.crash_stands.specs.Inodes.{IsInodeOf}
use Rattle.crash_stands.specs.Kept.{kept_nodes, HaveSameSnapshot}
use Rattle.crash_stands.specs.Places.{is_copied, kept_table}
use Rattle.crash_stands.specs.Sharing.{HasKeptBlock, IsKeptBlock, IsSoundKept}
use Rattle.crash_stands.specs.Stands.{HasBlock, AreSound, HoldsSnapshot, IsTreeOf}
use Rattle.crash_stands.proofs.KeptSame.{joined_same, nodes_same, kept_there, kept_here, sound_so, keeps_so}
use Rattle.crash_stands.proofs.UsedNodes.{used_kind_is, used_data, file_kind}

-- A sound snapshot stays where the marked data blocks stay.
module _ (g : Geometry) (m n : Blocks) (sound : AreSound g m) (same : (b : ℕ) → data_start g ≤ b → b < g.n → is_set g m b ≡ true → n b ≡ m b) where
  node_blocks_stay : (k : ℕ) (node : Node) → used_node g m k ≡ Some node → (i b : ℕ) → slice_get (run_places node.runs) i ≡ Some b → n b ≡ m b
  node_blocks_stay k node used i b at =
      let within = used_data g m k node used i b at in
      same b within.0 within.1 ((sound.marked b within.0 within.1).1 (inl (k, i, record { node = node; is_node = used; place = at })))

  kept_blocks_stay : (k : ℕ) (node : Node) → used_node g m k ≡ Some node → node.kind ≡ Snapshot → (l i b : ℕ) (file : Node) → kept_nodes g m (run_places node.runs) l ≡ Some file
      → is_copied file.kind ≡ false → slice_get (run_places file.runs) i ≡ Some b → n b ≡ m b
  kept_blocks_stay k node used kind l i b file is_file own at =
      let ok = sound.kept k node used kind in
      let table = kept_table m (run_places node.runs) g in
      let within = used_data g table l file is_file i b at in
      let has : HasKeptBlock g m (run_places node.runs) l i b = record {
        node = file;
        is_node = is_file;
        kind = file_kind file.kind (used_kind_is g table l file is_file) (ok.plain l file is_file) own;
        place = at;
      } in
      same b within.0 within.1 ((sound.marked b within.0 within.1).1 (inr (record { snapshot = k; node = node; is_node = used; kind = kind; number = l; place = i; has = has })))

  pub rests_on_marks : (k : ℕ) (node : Node) → used_node g m k ≡ Some node → node.kind ≡ Snapshot → HaveSameSnapshot g m n (run_places node.runs)
  rests_on_marks k node used kind = record {
    long = let long = (sound.kept k node used kind).long in omega (arith, long);
    own = node_blocks_stay k node used;
    files = λ l i b file is_file own at. kept_blocks_stay k node used kind l i b file is_file own at;
  }

module _ (g : Geometry) (fits : IsGeometry g) (map m : Blocks) (sound : AreSound g map) (same : (b : ℕ) → IsTrue (is_live g map b) → m b ≡ map b) where
  -- The live blocks, one kind after the other.

  -- those of the bitmap and the node table
  low_same : (b : ℕ) → bitmap_start g ≤ b → b < data_start g → m b ≡ map b
  low_same b from below =
      same b (and_from _ _ (le-leb _ _ from) (and_from _ _ (lt-ltb b g.n (omega (arith, below, fits.data_room))) (ap (λ t. t || is_set g map b) (lt-ltb _ _ below))))

  -- and the data blocks that are marked
  data_same : (b : ℕ) → data_start g ≤ b → b < g.n → is_set g map b ≡ true → m b ≡ map b
  data_same b from below set =
      same b (and_from _ _ (le-leb _ _ (omega (arith, from))) (and_from _ _ (lt-ltb b g.n below) (or_right (nat_lt b (data_start g)) (is_set g map b) set)))

  bits : (b : ℕ) → b < 8192 * bitmap_blocks g → is_set g m b ≡ is_set g map b
  bits b below = ap (λ (xs : List ℕ). bit_in (λ _. xs) b) (low_same (bitmap_start g + b / 8192) (omega arith) (omega (arith, below)))

  bit : (b : ℕ) → b < g.n → is_set g m b ≡ is_set g map b
  bit b below = bits b (omega (arith, below))

  whole : (b : ℕ) → is_live g m b ≡ true → length (m b) ≡ 1024
  whole b live =
      let from = and_parts (nat_le (bitmap_start g) b) (nat_lt b g.n && (nat_lt b (data_start g) || is_set g m b)) live in
      let below = and_parts (nat_lt b g.n) (nat_lt b (data_start g) || is_set g m b) from.1 in
      let there : is_live g map b ≡ true = ap₂ (λ s t. s && (t && (nat_lt b (data_start g) || is_set g map b))) from.0 below.0
      ∙ (ap (λ t. nat_lt b (data_start g) || t) (sym (bit b (ltb-true b g.n below.0))) ∙ below.1) in
      ap length (same b there) ∙ sound.whole b there

  -- The nodes.

  bytes_same : (k : ℕ) → 1 ≤ k → k ≤ g.i → node_bytes g m k ≡ node_bytes g map k
  bytes_same k from upto = ap (λ (xs : List ℕ). take (node_size g.layout) (drop (node_byte g.layout k) xs))
      (low_same (table_start g + node_block g.layout k) (omega arith) (omega (arith, node_in_table g.layout g.i k fits.whole_blocks from upto)))

  node_same : (k : ℕ) → 1 ≤ k → k ≤ g.i → node_at g m k ≡ node_at g map k
  node_same k from upto = ap (node_of g) (bytes_same k from upto)

  used_same : (k : ℕ) → used_node g m k ≡ used_node g map k
  used_same k = nodes_same g map m bytes_same k

  -- a node's blocks
  own_same : (k : ℕ) (node : Node) → used_node g map k ≡ Some node → (i b : ℕ) → slice_get (run_places node.runs) i ≡ Some b → m b ≡ map b
  own_same k node used i b at =
      let within = used_data g map k node used i b at in
      data_same b within.0 within.1 ((sound.marked b within.0 within.1).1 (inl (k, i, record { node = node; is_node = used; place = at })))

  places_same : (k : ℕ) (node : Node) → used_node g map k ≡ Some node → joined m (run_places node.runs) ≡ joined map (run_places node.runs)
  places_same k node used = joined_same map m (run_places node.runs) (own_same k node used)

  files_same : (k : ℕ) → files_of g m k ≡ files_of g map k
  files_same k = ap (option_map (file_of g.layout m)) (used_same k) ∙ by (used_node g map k) refl
    where
      by : (o : Option Node) → used_node g map k ≡ o → option_map (file_of g.layout m) o ≡ option_map (file_of g.layout map) o
      by None none = refl
      by (Some node) used = ap (λ (xs : List ℕ). Some (record { kind = node.kind; links = node.links; bytes = take (content_of g.layout node.kind node.size) xs })) (places_same k node used)

  -- The snapshots.

  snapshot_same : (k : ℕ) (node : Node) → used_node g map k ≡ Some node → node.kind ≡ Snapshot → HaveSameSnapshot g map m (run_places node.runs)
  snapshot_same = rests_on_marks g map m sound data_same

  is_kept_there : (b : ℕ) → IsKeptBlock g m b → IsKeptBlock g map b
  is_kept_there b is =
      let used = sym (used_same is.snapshot) ∙ is.is_node in
      let alike = snapshot_same is.snapshot is.node used is.kind in
      record {
        snapshot = is.snapshot;
        node = is.node;
        is_node = used;
        kind = is.kind;
        number = is.number;
        place = is.place;
        has = kept_there g map m (run_places is.node.runs) fits alike is.number is.place b is.has;
      }

  is_kept_here : (b : ℕ) → IsKeptBlock g map b → IsKeptBlock g m b
  is_kept_here b is =
      let alike = snapshot_same is.snapshot is.node is.is_node is.kind in
      record {
        snapshot = is.snapshot;
        node = is.node;
        is_node = used_same is.snapshot ∙ is.is_node;
        kind = is.kind;
        number = is.number;
        place = is.place;
        has = kept_here g map m (run_places is.node.runs) fits alike is.number is.place b is.has;
      }

  kept_sound : (k : ℕ) (node : Node) → used_node g map k ≡ Some node → node.kind ≡ Snapshot → IsSoundKept g m (run_places node.runs)
  kept_sound k node used kind = sound_so g map m (run_places node.runs) fits (snapshot_same k node used kind) (sound.kept k node used kind)

  -- All blocks.

  block_there : (k i b : ℕ) → HasBlock g m k i b → HasBlock g map k i b
  block_there k i b h = record { node = h.node; is_node = sym (used_same k) ∙ h.is_node; place = h.place }

  block_here : (k i b : ℕ) → HasBlock g map k i b → HasBlock g m k i b
  block_here k i b h = record { node = h.node; is_node = used_same k ∙ h.is_node; place = h.place }

  there : (b : ℕ) → ((k : ℕ) × (i : ℕ) × HasBlock g m k i b) ⊎ IsKeptBlock g m b → ((k : ℕ) × (i : ℕ) × HasBlock g map k i b) ⊎ IsKeptBlock g map b
  there b (inl h) = inl (h.0, h.1, block_there h.0 h.1 b h.2)
  there b (inr is) = inr (is_kept_there b is)

  here : (b : ℕ) → ((k : ℕ) × (i : ℕ) × HasBlock g map k i b) ⊎ IsKeptBlock g map b → ((k : ℕ) × (i : ℕ) × HasBlock g m k i b) ⊎ IsKeptBlock g m b
  here b (inl h) = inl (h.0, h.1, block_here h.0 h.1 b h.2)
  here b (inr is) = inr (is_kept_here b is)

  tail : (k : ℕ) (node : Node) → used_node g m k ≡ Some node → node.kind ≡ Dir → are_zeros (past_content g.layout m node) ≡ true
  tail k node used dir =
      let its = sym (used_same k) ∙ used in
      ap (λ (xs : List ℕ). are_zeros (drop (content_of g.layout node.kind node.size) xs)) (places_same k node its) ∙ sound.tail k node its dir

  sound_here : AreSound g m
  unfolding block_there
  sound_here = record {
    whole = whole;
    own = λ k l i j b x y. sound.own k l i j b (block_there k i b x) (block_there l j b y);
    fixed = λ b below. bit b (omega (arith, below, fits.data_room)) ∙ sound.fixed b below;
    marked = λ b from below. (
      λ set. here b ((sound.marked b from below).0 (sym (bit b below) ∙ set)),
      λ has. bit b below ∙ (sound.marked b from below).1 (there b has),
    );
    past = λ b from below. bits b below ∙ sound.past b from below;
    free = λ k from upto none. bytes_same k from upto ∙ sound.free k from upto (sym (node_same k from upto) ∙ none);
    tail = tail;
    shared = λ k i b has is. sound.shared k i b (block_there k i b has) (is_kept_there b is);
    kept = λ k node used kind. kept_sound k node (sym (used_same k) ∙ used) kind;
  }

  held_here : (name : List ℕ) (k : Kept) → HoldsSnapshot g map name k → HoldsSnapshot g m name k
  held_here name k h =
      let places = run_places h.node.runs in
      let alike = snapshot_same k.number h.node h.is_node h.kind in
      record {
        node = h.node;
        is_node = used_same k.number ∙ h.is_node;
        kind = h.kind;
        links = h.links;
        size = h.size;
        lawful = h.lawful;
        named = alike.own 0 (get_or places 0 0) (slice_get-get_or places 0 0 (omega (arith, alike.long))) ∙ h.named;
        keeps = keeps_so g map m places fits alike k h.keeps;
      }

-- so the tree is theirs too
pub tree_alive : (g : Geometry) → IsGeometry g → (map m : Blocks) (t : Tree) → ((b : ℕ) → IsTrue (is_live g map b) → m b ≡ map b) → IsTreeOf g map t → IsTreeOf g m t
tree_alive g fits map m t same h = record {
  inodes = h.inodes;
  read = λ k. subst (λ x. IsInodeOf g.layout x (h.inodes k)) (sym (files_same g fits map m h.sound same k)) (h.read k);
  map = h.map;
  sound = sound_here g fits map m h.sound same;
  keeps = λ name k at. held_here g fits map m h.sound same name k (h.keeps name k at);
  each = λ n node used kind. h.each n node (sym (used_same g fits map m h.sound same n) ∙ used) kind;
}
