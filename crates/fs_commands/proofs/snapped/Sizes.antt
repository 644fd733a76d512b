-- How long a snapshot's bytes are: whole blocks, as many as it has.
use Rattle.std.proofs.Common.{◌≡◌, ◌⊎◌, ℕ, zero, suc, ◌+◌, ◌-◌, ◌*◌, ◌/◌, ◌<◌, ◌≤◌, ◌==◌, ◌&&◌, ◌||◌, nat_lt, Bool, true, false, if◌then◌else◌, List, [], ◌∷◌, ◌++◌, length, take, drop, replicate, slice_get, slice_index, All, Option, Some, None, refl, sym, ap, ◌∙◌, arith}
use Rattle.std.specs.List.{flat_map, range_with_len}
use Rattle.std.proofs.lemmas.Bool.{or_left}
use Rattle.std.proofs.lemmas.Option.{none-some, same_Some}
use Rattle.std.proofs.lemmas.Bool.Decides.{nat_tests}
use Rattle.std.proofs.lemmas.List.{length-append, length-take, length-drop, length-replicate}
use Rattle.base_types.specs.declared.layout.Layout.{Layout}
use Rattle.base_types.specs.Layouts.{node_size, nodes_in_block, rank_byte}
use Rattle.base_types.specs.LayoutLaws.{first_rank, last_rank, next_rank, rank_within}
use Rattle.base_types.specs.Name.{is_name}
use Rattle.base_types.specs.Runs.{run_places}
use Rattle.base_types.specs.Seal.{Blocks}
use Rattle.layout_geometry.specs.Geometry.{Geometry, IsGeometry, data_start, table_start}
use Rattle.layout_bytes.specs.declared.node.Node.{Node}
use Rattle.layout_bytes.specs.declared.node.NodeKind.{NodeKind}
use Rattle.layout_bytes.specs.declared.node.NodeKind.TheVariants.{Free, Dir, File, Snapshot}
use Rattle.layout_bytes.specs.Bitmap.{is_set}
use Rattle.layout_bytes.specs.Node.{content_blocks, kind_byte}
use Rattle.layout_bytes.specs.SnapshotName.{name_block}
use Rattle.crash_stands.specs.Files.{joined, used_node}
use Rattle.crash_stands.specs.Places.{dir_blocks, dirs_from, is_copied, table_blocks}
use Rattle.crash_stands.specs.Stands.{AreSound}
use Rattle.crash_snapshots.specs.Making.{blocks_at, kept_block, kept_blocks, snapshot_of}
use Rattle.crash_snapshots.specs.Places.{all_dirs, places_of_dir}
use Rattle.engine_blocks.specs.Puts.{IsData}
use Rattle.fs_snapshots.specs.Nodes.{live, short_name}
use Rattle.fs_commands.specs.Gathering.{kept_at_rank, kept_table_block, live_dirs, snapshot_bytes, snapshot_count}
use Rattle.fs_commands.proofs.snapped.Bytes.{block_is, pieces_more}
use Rattle.fs_commands.proofs.snapped.Live.{dirs_whole}

name_long : (name : List ℕ) → length name ≤ 255 → length (name_block name) ≡ 1024
name_long name few = omega (arith, few, length-append name (replicate {A = ℕ} (1023 - length name) 0), length-replicate {A = ℕ} (1023 - length name) 0)

chosen_long : (l : Layout) (b : Bool) (bytes : List ℕ) → length bytes ≡ node_size l → length (if b then replicate {A = ℕ} (node_size l) 0 else bytes) ≡ node_size l
chosen_long l true bytes is = length-replicate {A = ℕ} (node_size l) 0
chosen_long l false bytes is = is

rank_long : (l : Layout) (table : List ℕ) (r : ℕ) → length table ≡ 1024 → r < nodes_in_block l → length (kept_at_rank l table r) ≡ node_size l
rank_long l table r whole low =
    let piece = take (node_size l) (drop (rank_byte l r) table) in
    chosen_long l (slice_index piece 0 == kind_byte Snapshot) piece (omega (arith, whole, rank_within l r low, length-take (node_size l) (drop (rank_byte l r) table), length-drop (rank_byte l r) table))

pieces_long : (l : Layout) (p : Blocks) (n : ℕ) → ((r : ℕ) → r < n → length (p r) ≡ node_size l) → length (joined p (range_with_len 0 n)) ≡ rank_byte l n
pieces_long l p zero each = sym (first_rank l)
pieces_long l p (suc n) each =
    ap (λ xs. length xs) (pieces_more p 0 n)
    ∙ omega (arith, length-append (joined p (range_with_len 0 n)) (p (0 + n)), pieces_long l p n (λ r low. each r (omega (arith, low))), each (0 + n) (omega arith), next_rank l n)
    ∙ ap (rank_byte l) {x = n + 1} {y = suc n} (omega arith)

table_block_long : (l : Layout) (table : List ℕ) → length table ≡ 1024 → length (kept_table_block l table) ≡ 1024
table_block_long l table whole = pieces_long l (kept_at_rank l table) (nodes_in_block l) (λ r low. rank_long l table r whole low) ∙ last_rank l

-- each of some blocks is whole
abbrev pub AreWhole : List (List ℕ) → Type 0
AreWhole ys = (i : ℕ) (y : List ℕ) → slice_get ys i ≡ Some y → length y ≡ 1024

one_more : (y : List ℕ) (ys : List (List ℕ)) → length y ≡ 1024 → AreWhole ys → AreWhole (y ∷ ys)
one_more y ys first rest zero z is = ap length (sym (same_Some y z is)) ∙ first
one_more y ys first rest (suc i) z is = rest i z is

both_whole : (xs ys : List (List ℕ)) → AreWhole xs → AreWhole ys → AreWhole (xs ++ ys)
both_whole [] ys first second = second
both_whole (x ∷ xs) ys first second = one_more x (xs ++ ys) (first 0 x refl) (both_whole xs ys (λ i y is. first (suc i) y is) second)

-- so they have so many bytes
pub whole_long : (ys : List (List ℕ)) → AreWhole ys → length (flat_map (λ block. block) ys) ≡ 1024 * length ys
whole_long [] h = refl
whole_long (y ∷ ys) h = omega (arith, length-append y (flat_map (λ block. block) ys), h 0 y refl, whole_long ys (λ i z is. h (suc i) z is))

-- the directories' blocks
dirs_are_whole : (m : Blocks) (bs : List ℕ) → All (λ b. length (m b) ≡ 1024) bs → AreWhole (blocks_at m bs)
dirs_are_whole m [] h = λ i y is. absurd (none-some y is)
dirs_are_whole m (b ∷ bs) h = one_more (m b) (blocks_at m bs) (h 0 0 (omega arith)) (dirs_are_whole m bs (λ i d low. h (suc i) d (omega (arith, low))))

pub dirs_count : (m : Blocks) (bs : List ℕ) → length (blocks_at m bs) ≡ length bs
dirs_count m [] = refl
dirs_count m (b ∷ bs) = ap suc (dirs_count m bs)

table_count : (g : Geometry) (m : Blocks) (i n : ℕ) → length (kept_blocks g m i n) ≡ n
table_count g m i zero = refl
table_count g m i (suc n) = ap suc (table_count g m (i + 1) n)

-- as many as are said
pub snapshot_long : (g : Geometry) (m : Blocks) (name : List ℕ) → length (snapshot_of g m name) ≡ snapshot_count g m
snapshot_long g m name =
    omega (arith, length-append (kept_blocks g m 0 (table_blocks g)) (blocks_at m (live_dirs g m)), table_count g m 0 (table_blocks g), dirs_count m (live_dirs g m))

pub below_test : (a b : ℕ) → a < b → nat_lt a b ≡ true
below_test a b low = grind (arith, nat_tests)

module _ (g : Geometry) (m : Blocks) (sound : AreSound g m) (limits : IsGeometry g) where
  table_whole : (b : ℕ) → table_start g ≤ b → b < data_start g → length (m b) ≡ 1024
  table_whole b low high = sound.whole b (live g m b (omega (arith, low)) (omega (arith, high, limits.data_room)) (or_left (nat_lt b (data_start g)) (is_set g m b) (below_test b (data_start g) high)))

  blocks_whole : (i n : ℕ) → i + n ≤ table_blocks g → AreWhole (kept_blocks g m i n)
  blocks_whole i zero fits = λ k y is. absurd (none-some y is)
  blocks_whole i (suc n) fits =
      one_more (kept_block g m i) (kept_blocks g m (i + 1) n)
      (ap length (block_is g m i) ∙ table_block_long g.layout (m (table_start g + i)) (table_whole (table_start g + i) (omega arith) (omega (arith, fits))))
      (blocks_whole (i + 1) n (omega (arith, fits)))

  -- each block of a snapshot is whole
  pub snapshot_whole : (name : List ℕ) → is_name name ≡ true → All (IsData g) (live_dirs g m) → AreWhole (snapshot_of g m (name_block name))
  snapshot_whole name lawful «data» =
      one_more (name_block name) (kept_blocks g m 0 (table_blocks g) ++ blocks_at m (live_dirs g m)) (name_long name (short_name name lawful))
      (both_whole (kept_blocks g m 0 (table_blocks g)) (blocks_at m (live_dirs g m)) (blocks_whole 0 (table_blocks g) (omega arith)) (dirs_are_whole m (live_dirs g m) (dirs_whole g m sound «data»)))

  pub bytes_long : (name : List ℕ) → is_name name ≡ true → All (IsData g) (live_dirs g m) → length (snapshot_bytes g m name) ≡ 1024 * snapshot_count g m
  bytes_long name lawful «data» = whole_long (snapshot_of g m (name_block name)) (snapshot_whole name lawful «data») ∙ ap (λ n. 1024 * n) (snapshot_long g m (name_block name))

-- directories have as many blocks as their bytes need
abbrev pub CountLaw : Type 0
CountLaw = (g : Geometry) (m : Blocks) (k : ℕ) (node : Node) → used_node g m k ≡ Some node → length (run_places node.runs) ≡ content_blocks g.layout node.kind node.size

dir_count : (l : Layout) (node : Node) → length (run_places node.runs) ≡ content_blocks l node.kind node.size → length (places_of_dir (Some node)) ≡ dir_blocks l (Some node)
dir_count l node count = by node.kind count
  where
    by : (kind : NodeKind) → length (run_places node.runs) ≡ content_blocks l kind node.size → length (if is_copied kind then run_places node.runs else []) ≡ (if is_copied kind then content_blocks l kind node.size else 0)
    by Free count = refl
    by Dir count = count
    by File count = refl
    by Snapshot count = refl

one_count : CountLaw → (g : Geometry) (m : Blocks) (k : ℕ) (o : Option Node) → used_node g m k ≡ o → length (places_of_dir o) ≡ dir_blocks g.layout o
one_count law g m k None is = refl
one_count law g m k (Some node) is = dir_count g.layout node (law g m k node is)

pub dirs_from_is : CountLaw → (g : Geometry) (m : Blocks) (k n : ℕ) → length (all_dirs (used_node g m) k n) ≡ dirs_from g.layout (used_node g m) k n
dirs_from_is law g m k zero = refl
dirs_from_is law g m k (suc n) =
    omega (arith, length-append (places_of_dir (used_node g m k)) (all_dirs (used_node g m) (k + 1) n), one_count law g m k (used_node g m k) refl, dirs_from_is law g m (k + 1) n)
