-- The search for a node that isn't in use, from a number on, one block of the node table behind the other.
use Rattle.std.proofs.Common.{◌≡◌, ◌≢◌, ℕ, ◌+◌, ◌-◌, ◌%◌, ◌<◌, ◌≤◌, ◌&&◌, nat_le, Bool, true, false, List, length, drop, replicate, get_or, slice_index, Option, None, Some, is_some, refl, sym, ap, ◌∙◌, arith, IsTrue}
use Rattle.std.proofs.lemmas.List.{get_or-drop, get_or-replicate, get_or-take}
use Rattle.std.proofs.lemmas.Bool.Decides.{nat_tests}
use Rattle.base_types.specs.Seal.{Blocks}
use Rattle.base_types.specs.declared.layout.Layout.{Layout}
use Rattle.base_types.specs.Layouts.{node_byte, node_size, nodes_before, node_block as block_of}
use Rattle.base_types.specs.LayoutLaws.{block_of_rank, next_nodes_before, node_in_table, node_is, node_size_is, nodes_in_table, rank_below, some_node}
use Rattle.layout_geometry.specs.Geometry.{Geometry, IsGeometry}
use Rattle.layout_bytes.specs.declared.node.Node.{Node}
use Rattle.layout_bytes.specs.Bytes.{when}
use Rattle.layout_bytes.specs.Node.{node_at, node_bytes, node_of, node_with, used_kind}
use Rattle.engine_blocks.specs.State.{Bookkeeping, State}
use Rattle.crash_stands.specs.Files.{used_node}
use Rattle.fs_files.specs.Calls.{AreUsed, IsFirstUnused}
use Rattle.fs_files.specs.Drafts.{DraftState, drafted}
use Rattle.fs_files.specs.Effects.{LooksOnly}
use Rattle.fs_files.specs.Nodes.{block_end, kind_in, node_block}
use Rattle.fs_files.specs.Sound.{IsSoundDraft}
use Rattle.fs_files.proofs.calling.Nodes.{has_table}
use Rattle.fs_files.specs.Places.{looks_more}
use Rattle.fs_files.proofs.frames.Cells.{when_true, is_number}

-- What the kind byte tells.

-- it is the first byte of the node's
kind_first : (g : Geometry) (m : Blocks) (k : ℕ) → slice_index (node_bytes g m k) 0 ≡ kind_in g.layout (m (node_block g k)) k
kind_first g m k =
    get_or-take (node_size g.layout) (drop (node_byte g.layout k) (m (node_block g k))) 0 0 (omega (arith, node_size_is g.layout))
    ∙ get_or-drop (node_byte g.layout k) (m (node_block g k)) 0 0
    ∙ ap (λ i. get_or (m (node_block g k)) i 0) {x = node_byte g.layout k + 0} {y = node_byte g.layout k} (omega arith)

no_kind : (g : Geometry) (b : List ℕ) → slice_index b 0 ≡ 0 → node_of g b ≡ None
unfolding node_of
no_kind g b e = ap (λ n. node_with g b (used_kind n)) e

when_none : {A : Type 0} (t : Bool) (o : Option A) → o ≡ None → when t o ≡ None
when_none t o e = grind (arith, nat_tests)

-- a node of kind byte zero isn't in use
unused_by_kind : (g : Geometry) (m : Blocks) (k : ℕ) → kind_in g.layout (m (node_block g k)) k ≡ 0 → used_node g m k ≡ None
unused_by_kind g m k e = when_none (nat_le 1 k && nat_le k g.i) (node_at g m k) (no_kind g (node_bytes g m k) (kind_first g m k ∙ e))

-- one of another kind byte is, where those that aren't are zeros
used_by_kind : (g : Geometry) (m : Blocks) (k : ℕ) → 1 ≤ k → k ≤ g.i → (node_at g m k ≡ None → node_bytes g m k ≡ replicate (node_size g.layout) 0) → kind_in g.layout (m (node_block g k)) k ≢ 0 → is_some (used_node g m k) ≡ true
used_by_kind g m k from upto zeros kind = ap is_some (when_true (nat_le 1 k && nat_le k g.i) (node_at g m k) (is_number g k from upto)) ∙ by (node_at g m k) refl
  where
    by : (o : Option Node) → node_at g m k ≡ o → is_some (node_at g m k) ≡ true
    by None e = absurd (kind (sym (kind_first g m k) ∙ ap (λ xs. slice_index xs 0) (zeros e) ∙ get_or-replicate (node_size g.layout) 0 0 0 (omega (arith, node_size_is g.layout))))
    by (Some node) e = ap is_some e

-- One block.

-- the numbers up to the first one of the next block are those of one block
block_of_end : (l : Layout) (number k : ℕ) → 1 ≤ number → number ≤ k → k < block_end l number → block_of l k ≡ block_of l number
block_of_end l number k from low high =
    let block = block_of l number in
    let rank = k - 1 - nodes_before l block in
    let first = node_is l number from in
    ap (block_of l) {x = k} {y = nodes_before l block + rank + 1} (omega (arith, from, low, first))
    ∙ block_of_rank l block rank (omega (arith, high, next_nodes_before l block, some_node l))

-- a node's number is before the first one of the next block
pub before_end : (l : Layout) (number : ℕ) → 1 ≤ number → number < block_end l number
before_end l number from = omega (arith, node_is l number from, rank_below l number, next_nodes_before l (block_of l number))

-- the nodes from one number on are in one block
one_block : (g : Geometry) (number l : ℕ) → 1 ≤ number → number ≤ l → l < block_end g.layout number → node_block g l ≡ node_block g number
one_block g number l from low high = omega (arith, block_of_end g.layout number l from low high)

-- the block of a node as it was read
pub block_read : (s : State) (d : DraftState) (h : Geometry) (number b : ℕ) (table : List ℕ) → h ≡ s.books.geom → IsGeometry s.books.geom → 1 ≤ number → number ≤ s.books.geom.i → IsSoundDraft s.books s.map d
    → b ≡ node_block h number → (length (drafted d s.map b) ≡ 1024 → table ≡ drafted d s.map b) → table ≡ drafted d s.map (node_block s.books.geom number)
block_read s d h number b table same geom from upto sound block bytes = grind (arith, nat_tests, has_table)

-- all of them are nodes of the table
in_table : (g : Geometry) (number l : ℕ) → g.i % 4 ≡ 0 → 1 ≤ number → number ≤ g.i → l < block_end g.layout number → l ≤ g.i
in_table g number l whole from upto high =
    let inside = node_in_table g.layout g.i number whole from upto in
    omega (arith, high, next_nodes_before g.layout (block_of g.layout number), nodes_in_table g.layout g.i (block_of g.layout number) whole inside)

-- those of other kind bytes than zero are in use
pub block_used : (k : Bookkeeping) (m : Blocks) (d : DraftState) (number upto : ℕ) (table : List ℕ) → k.geom.i % 4 ≡ 0 → IsSoundDraft k m d → 1 ≤ number → number ≤ k.geom.i → upto ≤ block_end k.geom.layout number
    → table ≡ drafted d m (node_block k.geom number) → ((l : ℕ) → number ≤ l → l < upto → kind_in k.geom.layout table l ≢ 0) → AreUsed k.geom (drafted d m) number upto
block_used k m d number upto table whole sound from in_it end bytes kinds l low high =
    let inside : l ≤ k.geom.i = in_table k.geom number l whole from in_it (omega (arith, high, end)) in
    let block : table ≡ drafted d m (node_block k.geom l) = bytes ∙ ap (drafted d m) (sym (one_block k.geom number l from low (omega (arith, high, end)))) in
    used_by_kind k.geom (drafted d m) l (omega (arith, from, low)) inside (sound.blocks.free l (omega (arith, from, low)) inside) (λ zero. kinds l low high (ap (λ t. kind_in k.geom.layout t l) block ∙ zero))

-- and the first one of kind byte zero is the first that isn't
pub block_first : (k : Bookkeeping) (m : Blocks) (d : DraftState) (number first : ℕ) (table : List ℕ) → k.geom.i % 4 ≡ 0 → IsSoundDraft k m d → 1 ≤ number → number ≤ k.geom.i → number ≤ first → first < block_end k.geom.layout number
    → table ≡ drafted d m (node_block k.geom number) → ((l : ℕ) → number ≤ l → l < first → kind_in k.geom.layout table l ≢ 0) → kind_in k.geom.layout table first ≡ 0
    → IsFirstUnused k.geom (drafted d m) number first × (table ≡ drafted d m (node_block k.geom first))
block_first k m d number first table whole sound from in_it low high bytes kinds zero =
    let block : table ≡ drafted d m (node_block k.geom first) = bytes ∙ ap (drafted d m) (sym (one_block k.geom number first from low high)) in (
      record {
        above = low;
        unused = unused_by_kind k.geom (drafted d m) first (ap (λ b. kind_in k.geom.layout b first) (sym block) ∙ zero);
        below = block_used k m d number first table whole sound from in_it (omega (arith, high)) bytes kinds;
      },
      block,
    )

-- Block behind block.

-- the search came to a number: all before it are in use
pub record SeenUpTo (tells : Bool) (s t : State) (d : DraftState) (from at : ℕ) : Type 0 where
  pub low : from ≤ at
  pub looks : LooksOnly tells false s t
  pub used : IsTrue tells → AreUsed s.books.geom (drafted d s.map) from at

-- those from one number to another, and on to a third
used_on : (g : Geometry) (m : Blocks) (from at end : ℕ) → AreUsed g m from at → AreUsed g m at end → AreUsed g m from end
used_on g m from at end front rest = grind (arith, nat_tests)

-- what is known of nodes in the state at hand is known in the first one
was_so : (tells : Bool) (s t : State) (d : DraftState) (P : Geometry → Blocks → Type 0) → LooksOnly tells false s t → IsTrue tells → P t.books.geom (drafted d t.map) → P s.books.geom (drafted d s.map)
was_so tells s t d P e h p = grind (arith, nat_tests)

-- one more block is in use
pub seen_more : (tells : Bool) (s t u : State) (d : DraftState) (from at end : ℕ) → SeenUpTo tells s t d from at → at ≤ end → LooksOnly tells false t u
    → (IsTrue tells → AreUsed t.books.geom (drafted d t.map) at end) → SeenUpTo tells s u d from end
seen_more tells s t u d from at end seen ordered looks used = grind (arith, nat_tests, looks_more, used_on, was_so)
