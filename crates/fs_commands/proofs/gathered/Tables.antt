-- A node table is gone through block by block, and the blocks of its nodes are gathered.
use Rattle.std.proofs.Common.{Option, Some, slice_get, get_or, suc, append_assoc, ◌≡◌, ℕ, ◌+◌, ◌-◌, ◌<◌, ◌≤◌, true, false, Bool, IsTrue, List, [], ◌++◌, length, take, drop, All, sym, ap, ap₂, ◌∙◌, arith}
use Rattle.std.proofs.lemmas.Bool.Decides.{nat_tests}
use Rattle.std.proofs.lemmas.Option.{slice_get-get_or}
use Rattle.base_types.specs.Layouts.{node_block, node_byte, node_size, nodes_before, nodes_in_block, rank_byte, table_blocks as blocks_of_table}
use Rattle.base_types.specs.LayoutLaws.{all_nodes_before, block_of_rank, byte_of_rank, next_nodes_before, nodes_in_table}
use Rattle.base_types.specs.Seal.{Blocks}
use Rattle.layout_geometry.specs.Geometry.{Geometry, IsGeometry, bitmap_start, table_start, data_start}
use Rattle.layout_bytes.specs.declared.node.Node.{Node}
use Rattle.layout_bytes.specs.Node.{node_of}
use Rattle.crash_stands.specs.Files.{used_node}
use Rattle.crash_stands.specs.Places.{NodesInUse, kept_table, table_blocks}
use Rattle.crash_snapshots.specs.Places.{all_dirs, places_of_dir}
use Rattle.engine_blocks.specs.Puts.{IsData}
use Rattle.engine_blocks.specs.Defined.{table_defined}
use Rattle.engine_blocks.specs.State.{Bookkeeping, State, is_defined}
use Rattle.fs_files.specs.Effects.{LooksOnly}
use Rattle.fs_files.specs.Places.{looks_more}
use Rattle.fs_snapshots.specs.Known.{file_blocks, node_blocks}
use Rattle.fs_snapshots.specs.Tables.{nodes_in}
use Rattle.fs_commands.specs.declared.gathering.Gathered.{Gathered}
use Rattle.fs_commands.specs.Gathering.{files_in_table}
use Rattle.fs_commands.proofs.gathered.Lists.{blocks_add, blocks_same, dirs_are}

-- a node of the table is in the bytes of its block
in_block : (g : Geometry) (m : Blocks) (k : ℕ) → 1 ≤ k → k ≤ g.i → used_node g m k ≡ node_of g (take (node_size g.layout) (drop (node_byte g.layout k) (m (table_start g + node_block g.layout k))))
in_block g m k from upto = grind (arith, nat_tests)

-- and the one of its number there
there : (g : Geometry) (m : Blocks) (slot r : ℕ) → 1 ≤ r → r ≤ nodes_in_block g.layout → nodes_before g.layout slot + r ≤ g.i → used_node g m (nodes_before g.layout slot + r) ≡ nodes_in g (m (table_start g + slot)) r
there g m slot r from upto within =
    let l = g.layout in
    let same : nodes_before l slot + r ≡ nodes_before l slot + (r - 1) + 1 = omega (arith, from) in
    let low : r - 1 < nodes_in_block l = omega (arith, from, upto) in
    in_block g m (nodes_before l slot + r) (omega (arith, from)) within
    ∙ ap₂ (λ b n. node_of g (take (node_size l) (drop n (m (table_start g + b))))) (ap (node_block l) same ∙ block_of_rank l slot (r - 1) low) (ap (node_byte l) same ∙ byte_of_rank l slot (r - 1) low)

-- the next node in the bytes of a block
pub block_next : (g : Geometry) (table : List ℕ) (f : Option Node → List ℕ) (r at end : ℕ) (old mid new : List ℕ) → at ≡ rank_byte g.layout r → end ≡ at + node_size g.layout → mid ≡ old ++ node_blocks (λ r. f (nodes_in g table r)) r
    → new ≡ mid ++ f (node_of g (take (end - at) (drop at table))) → new ≡ old ++ node_blocks (λ r. f (nodes_in g table r)) (r + 1)
block_next g table f r at end old mid new place ends before more =
    more ∙ ap (λ xs. xs ++ f (node_of g (take (end - at) (drop at table)))) before
    ∙ append_assoc old (node_blocks (λ r. f (nodes_in g table r)) r) (f (node_of g (take (end - at) (drop at table))))
    ∙ ap (λ xs. old ++ (node_blocks (λ r. f (nodes_in g table r)) r ++ xs))
    (ap (λ n. f (node_of g (take n (drop at table)))) {x = end - at} {y = node_size g.layout} (omega (arith, ends))
    ∙ ap (λ n. f (node_of g (take (node_size g.layout) (drop n table)))) (place ∙ ap (rank_byte g.layout) {x = r} {y = suc r - 1} (omega arith)))
    ∙ ap (λ n. old ++ node_blocks (λ r. f (nodes_in g table r)) n) {x = suc r} {y = r + 1} (omega arith)

-- so many blocks of the table were read, and the blocks of the nodes in them gathered
pub record GathersTo (known : Type 0) (tells : Bool) (s t : State) (m : Blocks) (slot : ℕ) (found : Gathered) : Type 0 where
  pub looks : LooksOnly tells false s t
  pub upto : slot ≤ table_blocks s.books.geom
  pub files : known → found.files.items ≡ node_blocks (λ k. file_blocks (used_node s.books.geom m k)) (nodes_before s.books.geom.layout slot)
  pub dirs : known → found.dirs.items ≡ node_blocks (λ k. places_of_dir (used_node s.books.geom m k)) (nodes_before s.books.geom.layout slot)
  pub «data» : All (IsData s.books.geom) found.files.items
  pub dirs_data : All (IsData s.books.geom) found.dirs.items

module _ (g : Geometry) (m : Blocks) (slot : ℕ) (limits : IsGeometry g) (low : slot < table_blocks g) (table : List ℕ) (is : table ≡ m (table_start g + slot)) where
  one_more : (f : NodesInUse → ℕ → List ℕ) → ((nodes others : NodesInUse) (k l : ℕ) → nodes k ≡ others l → f nodes k ≡ f others l)
      → node_blocks (f (used_node g m)) (nodes_before g.layout slot) ++ node_blocks (f (nodes_in g table)) (nodes_in_block g.layout) ≡ node_blocks (f (used_node g m)) (nodes_before g.layout (slot + 1))
  one_more f by =
      let below : slot < blocks_of_table g.layout g.i = omega (arith, low) in
      sym (ap (node_blocks (f (used_node g m))) (next_nodes_before g.layout slot)
      ∙ blocks_add (f (used_node g m)) (nodes_before g.layout slot) (nodes_in_block g.layout)
      ∙ ap (λ xs. node_blocks (f (used_node g m)) (nodes_before g.layout slot) ++ xs) (blocks_same (λ r. f (used_node g m) (nodes_before g.layout slot + r)) (f (nodes_in g table)) (nodes_in_block g.layout)
      (λ r from upto. by (used_node g m) (nodes_in g table) (nodes_before g.layout slot + r) r
      (there g m slot r from upto (omega (arith, upto, nodes_in_table g.layout g.i slot limits.whole_blocks below)) ∙ ap (λ xs. nodes_in g xs r) (sym is)))))

-- a block of the table was read
pub table_read : (tells : Bool) (s t : State) (slot b : ℕ) (table : List ℕ) → LooksOnly tells false s t → IsTrue tells → b ≡ table_start s.books.geom + slot → slot < table_blocks s.books.geom
    → (is_defined t.books b ≡ true → table ≡ t.map b) → table ≡ s.map (table_start s.books.geom + slot)
table_read tells s t slot b table looks told place low read =
    let same = looks.books in
    read (table_defined t.books b (omega (arith, place, ap (λ (k : Bookkeeping). bitmap_start k.geom) same)) (omega (arith, place, low, ap (λ (k : Bookkeeping). data_start k.geom) same)))
    ∙ ap (λ (m : Blocks). m b) (looks.map told) ∙ ap s.map place

-- a snapshot's table is there where the blocks are known, it has enough of them, and they are whole
abbrev pub IsThere : Bool → State → List ℕ → Type 0
IsThere tells s places = IsTrue tells × (All (λ b. length (s.map b) ≡ 1024) places × (1 + table_blocks s.books.geom ≤ length places))

-- and a block of it was read
pub kept_read : (tells : Bool) (s t : State) (places : List ℕ) (slot index : ℕ) (table : List ℕ) → LooksOnly tells false s t → IsThere tells s places → index ≡ 1 + slot → slot < table_blocks s.books.geom
    → ((b : ℕ) → slice_get places index ≡ Some b → length (t.map b) ≡ 1024 → table ≡ t.map b) → table ≡ kept_table s.map places s.books.geom (table_start s.books.geom + slot)
kept_read tells s t places slot index table looks (told, (whole, long)) place low read =
    let b = get_or places index 0 in
    let inside : index < length places = omega (arith, place, low, long) in
    let same = looks.map told in
    read b (slice_get-get_or places index 0 inside) (ap (λ (m : Blocks). length (m b)) same ∙ whole index 0 inside) ∙ ap (λ (m : Blocks). m b) same
    ∙ ap (λ n. s.map (get_or places n 0)) {x = index} {y = 1 + (table_start s.books.geom + slot - table_start s.books.geom)} (omega (arith, place))

-- one block more
pub gathers_more : (known : Type 0) (tells : Bool) (s t u : State) (m : Blocks) (slot : ℕ) (old new : Gathered) (table : List ℕ) → IsGeometry s.books.geom → GathersTo known tells s t m slot old → slot < table_blocks s.books.geom
    → LooksOnly tells false t u → (known → table ≡ m (table_start s.books.geom + slot))
    → new.files.items ≡ old.files.items ++ node_blocks (λ r. file_blocks (nodes_in s.books.geom table r)) (nodes_in_block s.books.geom.layout) → new.dirs.items ≡ old.dirs.items ++ node_blocks (λ r. places_of_dir (nodes_in s.books.geom table r)) (nodes_in_block s.books.geom.layout)
    → (All (IsData s.books.geom) old.files.items → All (IsData s.books.geom) new.files.items) → (All (IsData s.books.geom) old.dirs.items → All (IsData s.books.geom) new.dirs.items) → GathersTo known tells s u m (slot + 1) new
gathers_more known tells s t u m slot old new table limits h low looks is files dirs files_data dirs_data = record {
  looks = looks_more tells false s t u h.looks looks;
  upto = omega (arith, low);
  files = λ told. files ∙ ap (λ xs. xs ++ node_blocks (λ r. file_blocks (nodes_in s.books.geom table r)) (nodes_in_block s.books.geom.layout)) (h.files told)
      ∙ one_more s.books.geom m slot limits low table (is told) (λ nodes k. file_blocks (nodes k)) (λ nodes others k l e. ap file_blocks e);
  dirs = λ told. dirs ∙ ap (λ xs. xs ++ node_blocks (λ r. places_of_dir (nodes_in s.books.geom table r)) (nodes_in_block s.books.geom.layout)) (h.dirs told)
      ∙ one_more s.books.geom m slot limits low table (is told) (λ nodes k. places_of_dir (nodes k)) (λ nodes others k l e. ap places_of_dir e);
  «data» = files_data h.«data»;
  dirs_data = dirs_data h.dirs_data;
}

-- at the end all nodes were met
pub all_files : (known : Type 0) (tells : Bool) (s t : State) (m : Blocks) (slot : ℕ) (found : Gathered) → IsGeometry s.books.geom → GathersTo known tells s t m slot found → slot ≡ table_blocks s.books.geom → known
    → found.files.items ≡ files_in_table s.books.geom m
all_files known tells s t m slot found limits h end told =
    let last : slot ≡ blocks_of_table s.books.geom.layout s.books.geom.i = omega (arith, end) in
    h.files told ∙ ap (node_blocks (λ k. file_blocks (used_node s.books.geom m k))) (ap (nodes_before s.books.geom.layout) last ∙ all_nodes_before s.books.geom.layout s.books.geom.i limits.whole_blocks)

pub all_of_dirs : (known : Type 0) (tells : Bool) (s t : State) (m : Blocks) (slot : ℕ) (found : Gathered) → IsGeometry s.books.geom → GathersTo known tells s t m slot found → slot ≡ table_blocks s.books.geom → known
    → found.dirs.items ≡ all_dirs (used_node s.books.geom m) 1 s.books.geom.i
all_of_dirs known tells s t m slot found limits h end told =
    let last : slot ≡ blocks_of_table s.books.geom.layout s.books.geom.i = omega (arith, end) in
    h.dirs told ∙ ap (node_blocks (λ k. places_of_dir (used_node s.books.geom m k))) (ap (nodes_before s.books.geom.layout) last ∙ all_nodes_before s.books.geom.layout s.books.geom.i limits.whole_blocks) ∙ sym (dirs_are (used_node s.books.geom m) s.books.geom.i)
