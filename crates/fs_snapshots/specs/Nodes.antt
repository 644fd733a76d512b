-- Lemmas on nodes that are read, on the bytes of nodes that a snapshot keeps, and on the names of snapshots, that crates above cite too. They add no meaning to the promises.
use Rattle.std.proofs.Common.{◌≡◌, ℕ, ◌-◌, ◌<◌, ◌≤◌, ◌==◌, ◌&&◌, ◌||◌, nat_lt, nat_le, Bool, true, false, if◌then◌else◌, List, [], length, take, drop, replicate, get_or, slice_index, All, Option, Some, None, option_map, refl, sym, ap, subst, ◌∙◌, arith}
use Rattle.std.proofs.Math.Seq.{take-append_seam}
use Rattle.std.proofs.lemmas.List.{get_or-replicate}
use Rattle.std.proofs.lemmas.Bool.{and_parts, eqb-true, false≢true, leb-true, ltb-true}
use Rattle.std.proofs.lemmas.Bool.Decides.{nat_tests}
use Rattle.std.proofs.lemmas.List.Elements.{All-drop, All-take}
use Rattle.std.proofs.lemmas.Option.{none-some, same_Some}
use Rattle.base_types.specs.LayoutLaws.{node_size_is}
use Rattle.base_types.specs.Name.{is_name}
use Rattle.base_types.specs.Seal.{Blocks}
use Rattle.layout_geometry.specs.Geometry.{Geometry, bitmap_start, data_start}
use Rattle.layout_bytes.specs.declared.node.Node.{Node}
use Rattle.layout_bytes.specs.declared.node.NodeKind.{NodeKind}
use Rattle.layout_bytes.specs.declared.node.NodeKind.TheVariants.{Free, Dir, File, Snapshot}
use Rattle.layout_bytes.specs.declared.slot.Slot.{Slot}
use Rattle.layout_bytes.specs.Bitmap.{is_set}
use Rattle.layout_bytes.specs.Bytes.{when}
use Rattle.layout_bytes.specs.Node.{most_runs, node_size, content_blocks, kind_fits, node_at, node_bytes, node_fields, node_fits, node_of, node_with, run_blocks, runs_fit, spare_zeros, used_kind}
use Rattle.layout_bytes.specs.SnapshotName.{name_block}
use Rattle.layout_journal.specs.Run.{is_live}
use Rattle.engine_blocks.specs.Puts.{IsData}
use Rattle.crash_stands.specs.Files.{FileNode, used_node}
use Rattle.crash_stands.specs.Inodes.{ADir, AFile}
use Rattle.crash_snapshots.specs.Kept.{is_snapshot, kept_bytes}
use Rattle.fs_files.specs.declared.look.FileFacts.{FileFacts}
use Rattle.fs_files.specs.Calls.{facts_of}
use Rattle.fs_files.specs.Places.{read_fits, when_some}
use Rattle.fs_snapshots.specs.Known.{file_blocks}

-- A node in use fits the disk.

pub record Fits (g : Geometry) (node : Node) : Type 0 where
  pub links : 0 < node.links
  pub few : length node.runs ≤ most_runs g.layout
  pub runs : runs_fit g 0 node.runs ≡ true
  pub count : run_blocks node.runs ≡ content_blocks g.layout node.kind node.size
  pub kind : kind_fits node node.kind ≡ true

pub fits_parts : (g : Geometry) (node : Node) → node_fits g node ≡ true → Fits g node
fits_parts g node fits =
    let some = and_parts (nat_lt 0 node.links) _ fits in
    let few = and_parts (nat_le (length node.runs) (most_runs g.layout)) _ some.1 in
    let runs = and_parts (runs_fit g 0 node.runs) _ few.1 in
    let blocks = and_parts (run_blocks node.runs == content_blocks g.layout node.kind node.size) (kind_fits node node.kind) runs.1 in
    record {
      links = ltb-true 0 node.links some.0;
      few = leb-true (length node.runs) (most_runs g.layout) few.0;
      runs = runs.0;
      count = eqb-true (run_blocks node.runs) (content_blocks g.layout node.kind node.size) blocks.0;
      kind = blocks.1;
    }

pub used_fits : (g : Geometry) (m : Blocks) (k : ℕ) (node : Node) → used_node g m k ≡ Some node → Fits g node
used_fits g m k node e = fits_parts g node (read_fits g (node_bytes g m k) node (when_some (nat_le 1 k && nat_le k g.i) (node_at g m k) node e).1)

-- Its kind, and what it reads as.

-- a kind that is a snapshot's
pub snapshot_kind : (kind : NodeKind) → is_snapshot kind ≡ true → kind ≡ Snapshot
snapshot_kind Free is = absurd (false≢true is)
snapshot_kind Dir is = absurd (false≢true is)
snapshot_kind File is = absurd (false≢true is)
snapshot_kind Snapshot is = refl

-- what reads as a directory isn't a file
pub not_file : (t : Bool) (o : Option (List Slot)) (links : ℕ) (bytes : List ℕ) → when t (option_map ADir o) ≡ Some (AFile links bytes) → ⊥
not_file false o links bytes e = absurd cc
not_file true None links bytes e = absurd cc
not_file true (Some slots) links bytes e = absurd cc

-- a directory reads as one list of slots
pub same_slots : (slots others : List Slot) → Some (ADir slots) ≡ Some (ADir others) → slots ≡ others
same_slots slots others e = cc

-- where something is known of a node, it is in use
pub facts_are : (o : Option FileNode) (facts : FileFacts) → Some facts ≡ option_map facts_of o → (x : FileNode) × (o ≡ Some x) × (facts ≡ facts_of x)
facts_are None facts e = absurd (none-some facts (sym e))
facts_are (Some x) facts e = (x, refl, same_Some facts (facts_of x) e)

-- Its blocks.

-- a part of blocks of the data are such blocks
pub part_data : (g : Geometry) (places ps : List ℕ) (count first : ℕ) → All (IsData g) places → ps ≡ take count (drop first places) → All (IsData g) ps
part_data g places ps count first inside is = subst (All (IsData g)) (sym is) (All-take (IsData g) count (drop first places) (All-drop (IsData g) first places inside))

-- a block of the bitmap, the node table, or one that is marked, is live
pub live : (g : Geometry) (m : Blocks) (b : ℕ) → bitmap_start g ≤ b → b < g.n → (nat_lt b (data_start g) || is_set g m b) ≡ true → is_live g m b ≡ true
live g m b low high one = grind (arith, nat_tests)

-- The blocks of a file are read from what a snapshot keeps of its node's bytes.

none_in_zeros : (g : Geometry) → file_blocks (node_of g (replicate (node_size g.layout) 0)) ≡ []
unfolding node_of
none_in_zeros g = ap (λ n. file_blocks (node_with g (replicate (node_size g.layout) 0) (used_kind n))) {x = slice_index (replicate (node_size g.layout) 0) 0} {y = 0} (get_or-replicate (node_size g.layout) 0 0 0 (omega (arith, node_size_is g.layout)))

none_in_snapshot : (g : Geometry) (b : List ℕ) → slice_index b 0 ≡ 3 → file_blocks (node_of g b) ≡ []
unfolding node_of
none_in_snapshot g b is = ap (λ n. file_blocks (node_with g b (used_kind n))) is ∙ by (spare_zeros g.layout b) (node_fits g (node_fields Snapshot b))
  where
    by : (s t : Bool) → file_blocks (when s (when t (Some (node_fields Snapshot b)))) ≡ []
    by true true = refl
    by true false = refl
    by false t = refl

read_kept : (g : Geometry) (b : List ℕ) (t : Bool) → (slice_index b 0 == 3) ≡ t → file_blocks (node_of g (if t then replicate (node_size g.layout) 0 else b)) ≡ file_blocks (node_of g b)
read_kept g b false is = refl
read_kept g b true is = none_in_zeros g ∙ sym (none_in_snapshot g b (eqb-true (slice_index b 0) 3 is))

pub read_table : (g : Geometry) (m n : Blocks) → ((k : ℕ) → 1 ≤ k → k ≤ g.i → node_bytes g n k ≡ kept_bytes g.layout (node_bytes g m k)) → (k : ℕ) → file_blocks (used_node g n k) ≡ file_blocks (used_node g m k)
read_table g m n same k = by (nat_le 1 k && nat_le k g.i) refl
  where
    by : (t : Bool) → (nat_le 1 k && nat_le k g.i) ≡ t → file_blocks (when t (node_at g n k)) ≡ file_blocks (when t (node_at g m k))
    by false is = refl
    by true is =
        let number = and_parts (nat_le 1 k) (nat_le k g.i) is in
        ap (λ (bytes : List ℕ). file_blocks (node_of g bytes)) (same k (leb-true 1 k number.0) (leb-true k g.i number.1))
        ∙ read_kept g (node_bytes g m k) (slice_index (node_bytes g m k) 0 == 3) refl

-- The names of snapshots.

-- the bytes behind the first one of a name's block, so many as the name has, are the name
pub behind : (name : List ℕ) → take (length name) (drop 1 (name_block name)) ≡ name
behind name = take-append_seam name (replicate (1023 - length name) 0)

-- names with one block are one name
pub one_name : (a b : List ℕ) → name_block a ≡ name_block b → a ≡ b
one_name a b e =
    let long : length a ≡ length b = ap (λ (xs : List ℕ). get_or xs 0 0) e in
    sym (behind a) ∙ ap (λ (xs : List ℕ). take (length a) (drop 1 xs)) e ∙ ap (λ n. take n (drop 1 (name_block b))) long ∙ behind b

-- a name has 255 bytes at most
pub short_name : (name : List ℕ) → is_name name ≡ true → length name ≤ 255
short_name name lawful =
    let tail = and_parts (nat_lt 0 (length name)) _ lawful in
    leb-true (length name) 255 (and_parts (nat_le (length name) 255) _ tail.1).0
