-- A kept node is opened: its node read, and its blocks found.
use Rattle.std.proofs.Common.{◌≡◌, ◌≢◌, ℕ, ◌+◌, ◌-◌, ◌*◌, ◌<◌, ◌≤◌, true, min, List, length, take, drop, get_or, slice_get, All, AllPairs, Option, Some, None, option_map, refl, sym, ap, ap₂, subst, ◌∙◌, arith}
use Rattle.std.proofs.lemmas.Option.{get_or_from_slice_get, same_Some, slice_get-get_or}
use Rattle.base_types.specs.Seal.{Blocks}
use Rattle.base_types.specs.Runs.{run_places}
use Rattle.base_types.specs.Layouts.{node_size, nodes_before, node_block, node_rank, node_byte}
use Rattle.base_types.specs.LayoutLaws.{node_in_table, node_is, rank_below}
use Rattle.layout_geometry.specs.Geometry.{Geometry, IsGeometry, table_start}
use Rattle.layout_extent.specs.Runs.{runs_of}
use Rattle.layout_bytes.specs.declared.node.Node.{Node}
use Rattle.layout_bytes.specs.declared.node.NodeKind.TheVariants.{Dir, File}
use Rattle.layout_bytes.specs.Node.{content_of, node_of}
use Rattle.engine_blocks.specs.Puts.{IsData}
use Rattle.crash_stands.specs.Files.{FileNode, joined}
use Rattle.crash_stands.specs.Places.{dirs_from, is_copied, table_blocks}
use Rattle.crash_stands.specs.Kept.{kept_file, kept_files, kept_nodes, kept_places}
use Rattle.fs_files.specs.declared.look.FileFacts.{FileFacts}
use Rattle.fs_files.specs.declared.node_blocks.OpenFile.{OpenFile}
use Rattle.fs_files.specs.Bytes.{blocks_for}
use Rattle.fs_files.specs.Calls.{facts_of}
use Rattle.fs_files.specs.Contents.{blocks_of_size, content_of_size}
use Rattle.fs_files.specs.Given.{node_of_file}
use Rattle.fs_files.specs.Nodes.{AreWholeSlots}
use Rattle.fs_snapshots.specs.Kept.{AreDirsBefore, IsWholeKept, places_by_node}
use Rattle.fs_snapshots.specs.Tables.{nodes_in}
use Rattle.fs_snapshots.proofs.Places.{dirs_there, kept_in}
use Rattle.fs_snapshots.proofs.Whole.{dir_ends, dir_first, dir_places, file_places, is_kept, kept_has, kept_length, once_pairs}
use Rattle.fs_snapshots.proofs.KeptReads.{kept_node, told_places}

-- a node's block of the node table is one of the snapshot's
pub in_table : (g : Geometry) (places : List ℕ) (k : ℕ) → IsGeometry g → 1 ≤ k → k ≤ g.i → 1 + table_blocks g ≤ length places → 1 + node_block g.layout k < length places
in_table g places k limits from upto room = omega (arith, room, node_in_table g.layout g.i k limits.whole_blocks from upto)

-- the block of a snapshot's node table that was read
pub record IsTableRead (g : Geometry) (m : Blocks) (places : List ℕ) (k : ℕ) (table : List ℕ) : Type 0 where
  pub block : ℕ
  pub place : slice_get places (1 + node_block g.layout k) ≡ Some block
  pub bytes : table ≡ m block

pub table_read : (g h : Geometry) (m : Blocks) (places qs : List ℕ) (k block start : ℕ) (table : List ℕ) → IsGeometry g → h ≡ g → qs ≡ places
    → block ≡ table_start h + node_block h.layout k → start ≡ table_start h → 1 ≤ k → k ≤ g.i → 1 + table_blocks g ≤ length places → All (λ b. length (m b) ≡ 1024) places
    → ((b : ℕ) → slice_get qs (1 + (block - start)) ≡ Some b → length (m b) ≡ 1024 → table ≡ m b) → IsTableRead g m places k table
table_read g h m places qs k block start table limits same list block_is start_is from upto room whole seen =
    let low = in_table g places k limits from upto room in
    let b = get_or places (1 + node_block g.layout k) 0 in
    let there : slice_get places (1 + node_block g.layout k) ≡ Some b = slice_get-get_or places (1 + node_block g.layout k) 0 low in
    record {
      block = b;
      place = there;
      bytes = seen b (ap (λ xs. slice_get xs (1 + (block - start))) list ∙ ap (λ n. slice_get places (1 + n)) {x = block - start} {y = node_block g.layout k} (omega (arith, block_is, start_is, ap (λ (x : Geometry). node_block x.layout k) same)) ∙ there) (whole (1 + node_block g.layout k) 0 low);
    }

-- the node in its bytes is the kept one
pub node_read : (g h : Geometry) (m : Blocks) (places : List ℕ) (k at size : ℕ) (table : List ℕ) (o : Option Node) → h ≡ g → at ≡ node_byte h.layout k → size ≡ node_size h.layout → 1 ≤ k → k ≤ g.i
    → IsTableRead g m places k table → o ≡ node_of h (take (at + size - at) (drop at table)) → kept_nodes g m places k ≡ o
node_read g h m places k at size table o same place bytes from upto read is =
    kept_in g m places k read.block from upto read.place
    ∙ ap (λ xs. node_of g (take (node_size g.layout) (drop (node_byte g.layout k) xs))) (sym read.bytes)
    ∙ ap (λ (x : Geometry). node_of x (take (node_size x.layout) (drop (node_byte x.layout k) table))) (sym same)
    ∙ ap (λ n. node_of h (take (node_size h.layout) (drop n table))) (sym place)
    ∙ ap (λ n. node_of h (take n (drop at table))) {x = node_size h.layout} {y = at + size - at} (omega (arith, bytes))
    ∙ sym is

-- what is told of none
pub none_told : (g : Geometry) (m : Blocks) (places : List ℕ) (k : ℕ) → kept_nodes g m places k ≡ None → None ≡ option_map facts_of (kept_files g m places k)
none_told g m places k none = ap (λ o. option_map facts_of (option_map (kept_file g m places k) o)) (sym none)

-- and of a node in use
pub facts_told : (g : Geometry) (m : Blocks) (places : List ℕ) (k : ℕ) (f : OpenFile) → (f.facts.kind ≡ Dir → AreWholeSlots g.layout f.facts.size) → All (IsData g) places → IsWholeKept g m places → kept_nodes g m places k ≡ Some (node_of_file g.layout f)
    → Some f.facts ≡ option_map facts_of (kept_files g m places k)
facts_told g m places k f slots inside w used =
    ap (λ n. Some (record { kind = f.facts.kind; links = f.facts.links; size = n })) (sym (kept_length g m places k (node_of_file g.layout f) inside w used ∙ content_of_size g.layout f.facts.kind f.facts.size slots))
    ∙ sym (ap (λ o. option_map facts_of (option_map (kept_file g m places k) o)) used)

-- a file's blocks are those that its node names
pub file_told : (g : Geometry) (m : Blocks) (places : List ℕ) (k : ℕ) (f : OpenFile) → ((xs : List ℕ) → run_places (runs_of xs) ≡ xs) → f.facts.kind ≡ File → kept_nodes g m places k ≡ Some (node_of_file g.layout f)
    → f.blocks ≡ places_by_node (kept_places g m places k) (kept_nodes g m places k)
file_told g m places k f runs kind used =
    sym (runs f.blocks) ∙ sym (file_places g m places k (node_of_file g.layout f) (ap is_copied kind)) ∙ sym (ap (places_by_node (kept_places g m places k)) used)

-- how many blocks the snapshot has before those of node k: fewer than 2^32
dirs_before : (g : Geometry) (m : Blocks) (places before : List ℕ) (k slot n first : ℕ) (table : List ℕ) → IsGeometry g → 1 ≤ k → k ≤ g.i → length before ≡ table_blocks g → AreDirsBefore g m places before
    → IsTableRead g m places k table → slot ≡ node_block g.layout k → n ≡ node_rank g.layout k → first ≡ get_or before slot 0 + (1 + table_blocks g + dirs_from g.layout (nodes_in g table) 1 n) → first ≡ dir_first g m places k
dirs_before g m places before k slot n first table limits from upto counts right read slot_is n_is is =
    let nodes = kept_nodes g m places in
    let i = node_block g.layout k in
    let rank = node_rank g.layout k in
    let below = node_in_table g.layout g.i k limits.whole_blocks from upto in
    let number = node_is g.layout k from in
    let own : get_or before slot 0 ≡ dirs_from g.layout nodes 1 (nodes_before g.layout i) =
    ap (λ j. get_or before j 0) slot_is ∙ get_or_from_slice_get before i (dirs_from g.layout nodes 1 (nodes_before g.layout i)) 0 (right i (omega (arith, counts, below))) in
    let there = dirs_there g m places i read.block rank (omega (arith, rank_below g.layout k)) (omega (arith, number, upto)) read.place in
    let split : dirs_from g.layout nodes 1 (k - 1) ≡ dirs_from g.layout nodes 1 (nodes_before g.layout i + rank) = ap (dirs_from g.layout nodes 1) {x = k - 1} {y = nodes_before g.layout i + rank} (omega (arith, number)) in
    let here : dirs_from g.layout (nodes_in g table) 1 n ≡ dirs_from g.layout (nodes_in g (m read.block)) 1 rank = ap₂ (λ (t : List ℕ) (j : ℕ). dirs_from g.layout (nodes_in g t) 1 j) read.bytes n_is in
    omega (arith, is, own, there, split, here)

-- a directory's are the snapshot's own
pub dir_told : (g h : Geometry) (m : Blocks) (places before ps : List ℕ) (k slot n count : ℕ) (table : List ℕ) (f : OpenFile) → IsGeometry g → h ≡ g → 1 ≤ k → k ≤ g.i → length before ≡ table_blocks g
    → All (IsData g) places → IsWholeKept g m places → AreDirsBefore g m places before → ((ps : List ℕ) → All (IsData g) ps → AllPairs (λ a b. a ≢ b) ps → 1024 * length ps + 1024 ≤ 1073741824)
    → IsTableRead g m places k table → slot ≡ node_block g.layout k → n ≡ node_rank g.layout k → (f.facts.kind ≡ Dir → AreWholeSlots g.layout f.facts.size) → f.facts.kind ≡ Dir → count ≡ blocks_for f.facts.size → kept_nodes g m places k ≡ Some (node_of_file g.layout f)
    → ps ≡ take count (drop (min (get_or before slot 0 + (1 + table_blocks h + dirs_from h.layout (nodes_in h table) 1 n)) 4294967295) places)
    → ps ≡ places_by_node (kept_places g m places k) (kept_nodes g m places k)
dir_told g h m places before ps k slot n count table f limits same from upto counts inside w right few read slot_is n_is slots kind count_is used is =
    let node : Node = node_of_file g.layout f in
    let own : is_copied node.kind ≡ true = ap is_copied kind in
    let first = get_or before slot 0 + (1 + table_blocks g + dirs_from g.layout (nodes_in g table) 1 n) in
    let at : first ≡ dir_first g m places k = dirs_before g m places before k slot n first table limits from upto counts right read slot_is n_is refl in
    let ends = dir_ends g m places k node w used (is_kept g m places k node used) own in
    let short = few places inside (once_pairs places w.once) in
    is
    ∙ ap (λ (x : Geometry). take count (drop (min (get_or before slot 0 + (1 + table_blocks x + dirs_from x.layout (nodes_in x table) 1 n)) 4294967295) places)) same
    ∙ ap (λ j. take count (drop j places)) {x = min first 4294967295} {y = dir_first g m places k} (omega (arith, at, ends, short))
    ∙ ap (λ j. take j (drop (dir_first g m places k) places)) (count_is ∙ sym (blocks_of_size g.layout f.facts.kind f.facts.size slots))
    ∙ sym (dir_places g m places k node own)
    ∙ sym (ap (places_by_node (kept_places g m places k)) used)

-- the bytes that were read are a part of the file's
pub bytes_told : (g : Geometry) (m w : Blocks) (places : List ℕ) (k offset len : ℕ) (f : OpenFile) (x : FileNode) (got : List ℕ) → w ≡ m → All (IsData g) places → IsWholeKept g m places
    → kept_files g m places k ≡ Some x → Some f.facts ≡ option_map facts_of (kept_files g m places k) → f.blocks ≡ places_by_node (kept_places g m places k) (kept_nodes g m places k)
    → (All (λ b. length (w b) ≡ 1024) f.blocks → AllPairs (λ a b. a ≢ b) f.blocks → got ≡ take len (drop offset (take f.facts.size (joined w f.blocks))))
    → got ≡ take len (drop offset x.bytes)
bytes_told g m w places k offset len f x got same inside whole at facts is read =
    let r = kept_node g m places k x at in
    let has = kept_has g m places k r.0 inside whole r.1 in
    let own : f.blocks ≡ kept_places g m places k r.0 = told_places g m places k r.0 f.blocks r.1 is in
    let size : f.facts.size ≡ content_of g.layout r.0.kind r.0.size =
    size_of f.facts (facts_of x) (facts ∙ ap (option_map facts_of) at) ∙ ap (λ (y : FileNode). length y.bytes) r.2 ∙ kept_length g m places k r.0 inside whole r.1 in
    read (subst (λ v. All (λ b. length (v b) ≡ 1024) f.blocks) (sym same) (subst (All (λ b. length (m b) ≡ 1024)) (sym own) has.whole)) (subst (AllPairs (λ a b. a ≢ b)) (sym own) has.once)
    ∙ ap (λ v. take len (drop offset (take f.facts.size (joined v f.blocks)))) same
    ∙ ap (λ n. take len (drop offset (take n (joined m f.blocks)))) size
    ∙ ap (λ ps. take len (drop offset (take (content_of g.layout r.0.kind r.0.size) (joined m ps)))) own
    ∙ sym (ap (λ (y : FileNode). take len (drop offset y.bytes)) r.2)
  where
    size_of : (a b : FileFacts) → Some a ≡ Some b → a.size ≡ b.size
    size_of a b e = ap (λ (y : FileFacts). y.size) (same_Some a b e)
