-- A snapshot keeps the same files as long as its own blocks and those of its files stay.
use Rattle.std.proofs.Common.{◌≡◌, ℕ, zero, suc, ◌+◌, ◌-◌, ◌<◌, ◌≤◌, ◌&&◌, nat_le, Bool, true, false, if◌then◌else◌, List, [], ◌∷◌, ◌++◌, take, drop, get_or, slice_get, Option, Some, None, option_map, refl, sym, ap, subst, ◌∙◌, arith}
use Rattle.std.proofs.lemmas.Bool.{and_parts, leb-true}
use Rattle.std.proofs.lemmas.Option.{none-some, slice_get-get_or}
use Rattle.base_types.specs.Seal.{Blocks}
use Rattle.base_types.specs.Runs.{run_places}
use Rattle.base_types.specs.declared.layout.Layout.{Layout}
use Rattle.base_types.specs.Layouts.{node_block, node_byte}
use Rattle.base_types.specs.LayoutLaws.{node_in_table}
use Rattle.layout_geometry.specs.Geometry.{Geometry, IsGeometry, table_start}
use Rattle.layout_bytes.specs.declared.node.Node.{Node}
use Rattle.layout_bytes.specs.Bytes.{are_zeros, when}
use Rattle.layout_bytes.specs.Node.{node_size, content_of, content_blocks, node_of, node_at, node_bytes}
use Rattle.lang_tree.specs.Tree.{Kept}
use Rattle.crash_stands.specs.Files.{FileNode, joined, used_node}
use Rattle.crash_stands.specs.Inodes.{AreInodesOf}
use Rattle.crash_stands.specs.Kept.{kept_nodes, kept_places, kept_file, kept_files, HaveSameSnapshot}
use Rattle.crash_stands.specs.Places.{NodesInUse, is_copied, table_blocks, kept_table, dir_part, dirs_from, places_by}
use Rattle.crash_stands.specs.Sharing.{HasKeptBlock, IsSoundKept}
use Rattle.crash_stands.specs.Stands.{KeepsTree}
use Rattle.crash_stands.proofs.OneMap.{everywhere}

-- the bytes of blocks that are as before
pub joined_same : (m n : Blocks) (bs : List ℕ) → ((i b : ℕ) → slice_get bs i ≡ Some b → n b ≡ m b) → joined n bs ≡ joined m bs
joined_same m n [] same = refl
joined_same m n (b ∷ bs) same =
    ap (λ xs. xs ++ joined n bs) (same 0 b refl) ∙ ap (λ xs. m b ++ xs) (joined_same m n bs (λ i c e. same (suc i) c e))

-- what holds of the numbers of a list holds of those of its front and of its rest

in_front : (P : ℕ → Type 0) (c : ℕ) (xs : List ℕ) → ((i b : ℕ) → slice_get xs i ≡ Some b → P b) → (i b : ℕ) → slice_get (take c xs) i ≡ Some b → P b
in_front P zero xs each i b e = absurd (none-some b e)
in_front P (suc c) [] each i b e = absurd (none-some b e)
in_front P (suc c) (x ∷ xs) each zero b e = each 0 b e
in_front P (suc c) (x ∷ xs) each (suc i) b e = in_front P c xs (λ j d is. each (suc j) d is) i b e

in_rest : (P : ℕ → Type 0) (c : ℕ) (xs : List ℕ) → ((i b : ℕ) → slice_get xs i ≡ Some b → P b) → (i b : ℕ) → slice_get (drop c xs) i ≡ Some b → P b
in_rest P zero xs each i b e = each i b e
in_rest P (suc c) [] each i b e = absurd (none-some b e)
in_rest P (suc c) (x ∷ xs) each i b e = in_rest P c xs (λ j d is. each (suc j) d is) i b e

when_same : {A : Type 0} (t : Bool) (x y : Option A) → (t ≡ true → x ≡ y) → when t x ≡ when t y
when_same true x y e = e refl
when_same false x y e = refl

-- nodes with the same bytes are the same
pub nodes_same : (g : Geometry) (m n : Blocks) → ((k : ℕ) → 1 ≤ k → k ≤ g.i → node_bytes g n k ≡ node_bytes g m k) → (k : ℕ) → used_node g n k ≡ used_node g m k
nodes_same g m n same k = when_same (nat_le 1 k && nat_le k g.i) (node_at g n k) (node_at g m k) (λ is.
    let number = and_parts (nat_le 1 k) (nat_le k g.i) is in
    ap (node_of g) (same k (leb-true 1 k number.0) (leb-true k g.i number.1)))

-- what a node has, by the bytes of its blocks
abbrev with_bytes : Layout → Node → List ℕ → FileNode
with_bytes l node bytes = record { kind = node.kind; links = node.links; bytes = take (content_of l node.kind node.size) bytes }

module _ (g : Geometry) (m n : Blocks) (places : List ℕ) (fits : IsGeometry g) (same : HaveSameSnapshot g m n places) where
  -- the node table that it keeps
  table_same : (b : ℕ) → b < table_blocks g → n (get_or places (1 + b) 0) ≡ m (get_or places (1 + b) 0)
  table_same b below = same.own (1 + b) (get_or places (1 + b) 0) (slice_get-get_or places (1 + b) 0 (omega (arith, below, same.long)))

  kept_bytes_same : (k : ℕ) → 1 ≤ k → k ≤ g.i → node_bytes g (kept_table n places g) k ≡ node_bytes g (kept_table m places g) k
  kept_bytes_same k from upto = ap (λ (xs : List ℕ). take (node_size g.layout) (drop (node_byte g.layout k) xs))
      (table_same (table_start g + node_block g.layout k - table_start g) (omega (arith, node_in_table g.layout g.i k fits.whole_blocks from upto)))

  pub kept_nodes_same : kept_nodes g n places ≡ kept_nodes g m places
  kept_nodes_same = everywhere (kept_nodes g n places) (kept_nodes g m places) (nodes_same g (kept_table m places g) (kept_table n places g) kept_bytes_same)

  same_by : (k : ℕ) (node : Node) → kept_nodes g m places k ≡ Some node → (t : Bool) → is_copied node.kind ≡ t
      → joined n (if t then take (content_blocks g.layout node.kind node.size) (drop (dirs_from g.layout (kept_nodes g m places) 1 (k - 1)) (dir_part g places)) else run_places node.runs)
      ≡ joined m (if t then take (content_blocks g.layout node.kind node.size) (drop (dirs_from g.layout (kept_nodes g m places) 1 (k - 1)) (dir_part g places)) else run_places node.runs)
  same_by k node used true dir =
      let P : ℕ → Type 0 = λ b. n b ≡ m b in
      joined_same m n (take (content_blocks g.layout node.kind node.size) (drop (dirs_from g.layout (kept_nodes g m places) 1 (k - 1)) (dir_part g places)))
      (in_front P (content_blocks g.layout node.kind node.size) (drop (dirs_from g.layout (kept_nodes g m places) 1 (k - 1)) (dir_part g places))
      (in_rest P (dirs_from g.layout (kept_nodes g m places) 1 (k - 1)) (dir_part g places) (in_rest P (1 + table_blocks g) places same.own)))
  same_by k node used false file = joined_same m n (run_places node.runs) (λ i b at. same.files k i b node used file at)

  -- the bytes of the blocks of a kept node
  kept_joined_same : (k : ℕ) (node : Node) → kept_nodes g m places k ≡ Some node → joined n (kept_places g n places k node) ≡ joined m (kept_places g m places k node)
  kept_joined_same k node used =
      ap (λ (ns : NodesInUse). joined n (places_by g.layout ns (dir_part g places) k node)) kept_nodes_same ∙ same_by k node used (is_copied node.kind) refl

  pub stays_the_same : (k : ℕ) → kept_files g n places k ≡ kept_files g m places k
  stays_the_same k =
      ap (λ (ns : NodesInUse). option_map (kept_file g n places k) (ns k)) kept_nodes_same
      ∙ by (kept_nodes g m places k) refl
    where
      by : (o : Option Node) → kept_nodes g m places k ≡ o → option_map (kept_file g n places k) o ≡ option_map (kept_file g m places k) o
      by None none = refl
      by (Some node) used = ap (λ bytes. Some (with_bytes g.layout node bytes)) (kept_joined_same k node used)

  pub keeps_so : (k : Kept) → KeepsTree g m places k → KeepsTree g n places k
  keeps_so k keeps = record {
    inodes = keeps.inodes;
    read = subst (λ f. AreInodesOf g.layout f keeps.inodes) (sym (everywhere (kept_files g n places) (kept_files g m places) stays_the_same)) keeps.read;
    map = keeps.map;
  }

  -- the same blocks of files
  pub kept_there : (k i b : ℕ) → HasKeptBlock g n places k i b → HasKeptBlock g m places k i b
  kept_there k i b h = record { node = h.node; is_node = sym (ap (λ (ns : NodesInUse). ns k) kept_nodes_same) ∙ h.is_node; kind = h.kind; place = h.place }

  pub kept_here : (k i b : ℕ) → HasKeptBlock g m places k i b → HasKeptBlock g n places k i b
  kept_here k i b h = record { node = h.node; is_node = ap (λ (ns : NodesInUse). ns k) kept_nodes_same ∙ h.is_node; kind = h.kind; place = h.place }

  pub sound_so : IsSoundKept g m places → IsSoundKept g n places
  sound_so ok = record {
    long = ok.long ∙ ap (λ (ns : NodesInUse). 1 + table_blocks g + dirs_from g.layout ns 1 g.i) (sym kept_nodes_same);
    plain = λ k node is. ok.plain k node (sym (ap (λ (ns : NodesInUse). ns k) kept_nodes_same) ∙ is);
    once = λ k l i j b x y. ok.once k l i j b (kept_there k i b x) (kept_there l j b y);
    free = λ k from upto none. kept_bytes_same k from upto ∙ ok.free k from upto (sym (ap (λ (ns : NodesInUse). ns k) kept_nodes_same) ∙ none);
    tail = λ k node is dir.
        let there = sym (ap (λ (ns : NodesInUse). ns k) kept_nodes_same) ∙ is in
        ap (λ (xs : List ℕ). are_zeros (drop (content_of g.layout node.kind node.size) xs)) (kept_joined_same k node there) ∙ ok.tail k node there dir;
  }
