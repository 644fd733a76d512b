-- The blocks of a node: data blocks, as many as its bytes need, with as many bytes as its size says and more.
use Rattle.std.proofs.Common.{◌≡◌, ◌≢◌, ℕ, ◌+◌, ◌/◌, ◌<◌, ◌≤◌, ◌==◌, Bool, true, false, List, ◌∷◌, length, get_or, slice_get, slice_index, if◌then◌else◌, Option, Some, None, option_map, refl, sym, ap, subst, ◌∙◌, arith}
use Rattle.std.specs.List.{All, AllPairs}
use Rattle.std.proofs.lemmas.List.{length-take-le}
use Rattle.std.proofs.lemmas.Bool.{cases_order, false≢true}
use Rattle.std.proofs.lemmas.Option.{none-some, same_Some, slice_get_within, slice_get-get_or, get_or_from_slice_get}
use Rattle.std.proofs.lemmas.Bool.Decides.{nat_tests}
use Rattle.base_types.specs.Seal.{Blocks}
use Rattle.base_types.specs.declared.places.Run.{Run}
use Rattle.base_types.specs.Runs.{run_places}
use Rattle.base_types.specs.declared.layout.Layout.{Layout}
use Rattle.base_types.specs.Layouts.{most_runs}
use Rattle.layout_geometry.specs.Geometry.{Geometry, data_start}
use Rattle.layout_bytes.specs.declared.node.Node.{Node}
use Rattle.layout_bytes.specs.declared.node.NodeKind.{NodeKind}
use Rattle.layout_bytes.specs.declared.node.NodeKind.TheVariants.{Free, Dir, File, Snapshot}
use Rattle.layout_bytes.specs.Bytes.{when}
use Rattle.layout_bytes.specs.Node.{content_of, content_blocks, node_of, node_with, node_at, node_bytes, node_fields, node_fits, spare_zeros, used_kind, runs_fit, run_blocks, kind_fits}
use Rattle.engine_blocks.specs.Running.{has}
use Rattle.engine_blocks.specs.Puts.{IsData}
use Rattle.crash_stands.specs.Files.{FileNode, joined, content, used_node, file_of, files_of}
use Rattle.crash_stands.specs.Stands.{HasBlock}
use Rattle.fs_files.specs.Calls.{places_or_none}
use Rattle.fs_files.specs.Sound.{AreSoundBy}
pub use Rattle.fs_files.specs.Places.{has_place, joined_length, joined_same, place_of, places_count, read_fits, runs_data, when_some}
use Rattle.fs_files.proofs.frames.Cells.{number_is}

-- Numbers of a list.

-- what holds of each number holds of all
pub all_of : (P : ℕ → Type 0) (xs : List ℕ) → ((b : ℕ) → has xs b ≡ true → P b) → All P xs
all_of P xs each i d low = each (get_or xs i d) (has_place xs i (get_or xs i d) (slice_get-get_or xs i d low))

-- a number has one place where no number is there twice
pub one_place : (xs : List ℕ) → AllPairs (λ a b. a ≢ b) xs → (i j b : ℕ) → slice_get xs i ≡ Some b → slice_get xs j ≡ Some b → i ≡ j
one_place xs once i j b at_i at_j = grind (arith, nat_tests, cases_order, get_or_from_slice_get, slice_get_within)

-- Bytes of blocks.

-- Nodes that fit.

with_fits : (g : Geometry) (b : List ℕ) (o : Option NodeKind) (node : Node) → node_with g b o ≡ Some node → (kind : NodeKind) × (o ≡ Some kind) × (node_fits g node ≡ true) × (node.kind ≡ kind)
with_fits g b None node e = absurd (none-some node e)
with_fits g b (Some kind) node e =
    let spare = when_some (spare_zeros g.layout b) (when (node_fits g (node_fields kind b)) (Some (node_fields kind b))) node e in
    let fits = when_some (node_fits g (node_fields kind b)) (Some (node_fields kind b)) node spare.1 in
    let same : node_fields kind b ≡ node = same_Some (node_fields kind b) node fits.1 in
    (kind, refl, subst (λ (m : Node). node_fits g m ≡ true) same fits.0, sym (ap (λ (m : Node). m.kind) same))

abbrev is_free : NodeKind → Bool
is_free Free = true
is_free Dir = false
is_free File = false
is_free Snapshot = false

kind_used : (p q r : Bool) (kind : NodeKind) → (if p then Some Dir else if q then Some File else if r then Some Snapshot else None) ≡ Some kind → kind ≢ Free
kind_used true q r kind e f = false≢true (ap is_free (same_Some Dir kind e ∙ f))
kind_used false true r kind e f = false≢true (ap is_free (same_Some File kind e ∙ f))
kind_used false false true kind e f = false≢true (ap is_free (same_Some Snapshot kind e ∙ f))
kind_used false false false kind e f = none-some kind e

pub read_used : (g : Geometry) (b : List ℕ) (node : Node) → node_of g b ≡ Some node → node.kind ≢ Free
unfolding node_of
read_used g b node e f =
    let r = with_fits g b (used_kind (slice_index b 0)) node e in
    kind_used (slice_index b 0 == 1) (slice_index b 0 == 2) (slice_index b 0 == 3) r.0 r.1 (sym r.3 ∙ f)

-- what fits says

-- what the runs' test says of the first run
pub record FirstFits (g : Geometry) (r : Run) (rs : List Run) : Type 0 where
  pub from : data_start g ≤ r.first
  pub upto : r.first + r.count ≤ g.n
  pub rest : runs_fit g (r.first + r.count) rs ≡ true

pub first_fits : (g : Geometry) (end : ℕ) (r : Run) (rs : List Run) → runs_fit g end (r ∷ rs) ≡ true → FirstFits g r rs
first_fits g end r rs e = grind (arith, nat_tests)

-- what the test of a node says of its parts
pub record PartsFit (g : Geometry) (node : Node) : Type 0 where
  pub links : 0 < node.links
  pub few : length node.runs ≤ most_runs g.layout
  pub runs : runs_fit g 0 node.runs ≡ true
  pub blocks : run_blocks node.runs ≡ content_blocks g.layout node.kind node.size
  pub kind : kind_fits node node.kind ≡ true

pub parts_fit : (g : Geometry) (node : Node) → node_fits g node ≡ true → PartsFit g node
parts_fit g node e = grind (arith, nat_tests)

-- A node of sound blocks.

pub used_within : (g : Geometry) (m : Blocks) (k : ℕ) (node : Node) → used_node g m k ≡ Some node → (1 ≤ k) × (k ≤ g.i) × (node_at g m k ≡ Some node)
used_within g m k node e = grind (arith, nat_tests, when_some, number_is)

pub used_fits : (g : Geometry) (m : Blocks) (k : ℕ) (node : Node) → used_node g m k ≡ Some node → node_fits g node ≡ true
used_fits g m k node e = read_fits g (node_bytes g m k) node (used_within g m k node e).2

pub used_kind_is : (g : Geometry) (m : Blocks) (k : ℕ) (node : Node) → used_node g m k ≡ Some node → node.kind ≢ Free
used_kind_is g m k node e = read_used g (node_bytes g m k) node (used_within g m k node e).2

pub used_data : (g : Geometry) (m : Blocks) (k : ℕ) (node : Node) → used_node g m k ≡ Some node → (b : ℕ) → has (run_places node.runs) b ≡ true → IsData g b
used_data g m k node e b is = runs_data g 0 node.runs b (parts_fit g node (used_fits g m k node e)).runs is

pub has_block : (g : Geometry) (m : Blocks) (k : ℕ) (node : Node) → used_node g m k ≡ Some node → (b : ℕ) → has (run_places node.runs) b ≡ true → (i : ℕ) × HasBlock g m k i b
has_block g m k node e b is = let r = place_of (run_places node.runs) b is in (r.0, record { node = node; is_node = e; place = r.1 })

-- its blocks are marked
pub used_marked : (g : Geometry) (marks : ℕ → Bool) (m : Blocks) (k : ℕ) (node : Node) → AreSoundBy g marks m → used_node g m k ≡ Some node → (b : ℕ) → has (run_places node.runs) b ≡ true → marks b ≡ true
used_marked g marks m k node sound e b is = grind (arith, nat_tests, used_data, has_block)

-- and whole
pub used_whole : (g : Geometry) (marks : ℕ → Bool) (m : Blocks) (k : ℕ) (node : Node) → AreSoundBy g marks m → used_node g m k ≡ Some node → (b : ℕ) → has (run_places node.runs) b ≡ true → length (m b) ≡ 1024
used_whole g marks m k node sound e b is = grind (arith, nat_tests, used_data, used_marked)

-- the content of a node that fits has as many bytes as its size tells
pub content_length : (g : Geometry) (m : Blocks) (node : Node) → node_fits g node ≡ true → ((b : ℕ) → has (run_places node.runs) b ≡ true → length (m b) ≡ 1024) → length (content g.layout m node) ≡ content_of g.layout node.kind node.size
content_length g m node fits whole =
    length-take-le (content_of g.layout node.kind node.size) (joined m (run_places node.runs)) (omega (arith, joined_length m (run_places node.runs) whole, places_count node.runs, (parts_fit g node fits).blocks))

-- the blocks of a node that fits are as many as its bytes need
pub places_needed : (g : Geometry) (node : Node) → node_fits g node ≡ true → length (run_places node.runs) ≡ content_blocks g.layout node.kind node.size
places_needed g node fits = places_count node.runs ∙ (parts_fit g node fits).blocks

pub used_length : (g : Geometry) (marks : ℕ → Bool) (m : Blocks) (k : ℕ) (node : Node) → AreSoundBy g marks m → used_node g m k ≡ Some node → length (content g.layout m node) ≡ content_of g.layout node.kind node.size
used_length g marks m k node sound e = content_length g m node (used_fits g m k node e) (used_whole g marks m k node sound e)

map_some : (l : Layout) (m : Blocks) (o : Option Node) (x : FileNode) → option_map (file_of l m) o ≡ Some x → (node : Node) × (o ≡ Some node) × (x ≡ file_of l m node)
map_some l m o x e = grind (arith, nat_tests)

-- a file is a node in use with its content, of as many bytes as its size tells
pub file_node : (g : Geometry) (marks : ℕ → Bool) (m : Blocks) (k : ℕ) (x : FileNode) → AreSoundBy g marks m → files_of g m k ≡ Some x
    → (node : Node) × (used_node g m k ≡ Some node) × (x ≡ file_of g.layout m node) × (length x.bytes ≡ content_of g.layout node.kind node.size)
file_node g marks m k x sound e = grind (arith, nat_tests, map_some, used_length)

-- and a node in use is a file
pub node_file : (g : Geometry) (m : Blocks) (k : ℕ) (node : Node) → used_node g m k ≡ Some node → files_of g m k ≡ Some (file_of g.layout m node)
node_file g m k node e = ap (option_map (file_of g.layout m)) e

-- a file has as many blocks as its bytes need
pub file_places : (g : Geometry) (marks : ℕ → Bool) (m : Blocks) (k : ℕ) (x : FileNode) → AreSoundBy g marks m → files_of g m k ≡ Some x
    → length (places_or_none (used_node g m k)) ≡ (length x.bytes + 1023) / 1024
file_places g marks m k x sound e =
    let r = file_node g marks m k x sound e in
    ap (λ o. length (places_or_none o)) r.1 ∙ places_needed g r.0 (used_fits g m k r.0 r.1) ∙ ap (λ n. (n + 1023) / 1024) (sym r.3)
