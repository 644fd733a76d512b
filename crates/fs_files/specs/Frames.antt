-- What changes where one node of the node table changes, with its blocks, and nothing else. It is described in docs/FILES.md.
use Rattle.std.specs.Prelude.{◌≡◌, ◌≢◌, ℕ, ◌<◌, ◌≤◌, Bool, true, false, IsTrue, not, ◌&&◌, ◌||◌, length, replicate, Option, None, Some}
use Rattle.std.specs.List.{All, AllPairs}
use Rattle.base_types.specs.Seal.{Blocks}
use Rattle.layout_geometry.specs.Geometry.{Geometry, table_start, data_start}
use Rattle.layout_bytes.specs.declared.node.Node.{Node}
use Rattle.layout_bytes.specs.declared.node.NodeKind.{NodeKind}
use Rattle.layout_bytes.specs.declared.node.NodeKind.TheVariants.{Free, Dir, File, Snapshot}
use Rattle.layout_bytes.specs.Bytes.{are_zeros}
use Rattle.layout_bytes.specs.Node.{node_size, node_of, node_bytes, node_spelling}
use Rattle.engine_blocks.specs.Running.{has}
use Rattle.engine_blocks.specs.Puts.{IsData}
use Rattle.crash_stands.specs.Files.{used_node, past_content}
use Rattle.fs_files.specs.Calls.{places_or_none}

abbrev pub used_by : Node → NodeKind → Option Node
used_by node Free = None
used_by node Dir = Some node
used_by node File = Some node
used_by node Snapshot = Some node

-- the node in use that a node is: a free one is none
abbrev pub used_of : Node → Option Node
used_of node = used_by node node.kind

-- Its spelling has as many bytes as a node, and is read as the node in use that it is; that of a free node is zeros.
pub record ReadsBack (g : Geometry) (node : Node) : Type 0 where
  pub size : length (node_spelling g.layout node) ≡ node_size g.layout
  pub reads : node_of g (node_spelling g.layout node) ≡ used_of node
  pub zeros : node.kind ≡ Free → node_spelling g.layout node ≡ replicate (node_size g.layout) 0

-- The blocks of the node table but this one are as before.
abbrev pub KeepsTable : Geometry → Blocks → Blocks → ℕ → Type 0
KeepsTable g m n own = (b : ℕ) → table_start g ≤ b → b < data_start g → b ≢ own → n b ≡ m b

-- The node table has this node under number k, and every other as before. One out of use is zeros.
pub record HasNewNode (g : Geometry) (m n : Blocks) (k : ℕ) (new : Option Node) : Type 0 where
  pub own : used_node g n k ≡ new
  pub free : new ≡ None → node_bytes g n k ≡ replicate (node_size g.layout) 0
  pub others : (l : ℕ) → 1 ≤ l → l ≤ g.i → l ≢ k → node_bytes g n l ≡ node_bytes g m l
  pub table : (b : ℕ) → table_start g ≤ b → b < data_start g → length (n b) ≡ 1024

-- Node k became another, or none, with the blocks of both, and nothing else changed: blocks that are its own alone have other bytes, its new ones are marked, and those that it gave up aren't.
pub record ChangesNode (g : Geometry) (marks new_marks : ℕ → Bool) (m n : Blocks) (k : ℕ) (old new : Option Node) : Type 0 where
  pub from : 1 ≤ k
  pub upto : k ≤ g.i
  pub was : used_node g m k ≡ old
  pub node : HasNewNode g m n k new
  pub elsewhere : (b : ℕ) → data_start g ≤ b → b < g.n → has (places_or_none old) b ≡ false → has (places_or_none new) b ≡ false → n b ≡ m b
  pub marked : (b : ℕ) → data_start g ≤ b → b < g.n → new_marks b ≡ (has (places_or_none new) b || (marks b && not (has (places_or_none old) b)))
  pub fresh : (b : ℕ) → has (places_or_none new) b ≡ true → has (places_or_none old) b ≡ false → marks b ≡ false
  pub once : AllPairs (λ a b. a ≢ b) (places_or_none new)
  pub inside : All (IsData g) (places_or_none new)
  pub whole : All (λ b. length (n b) ≡ 1024) (places_or_none new)
  pub tail : (node : Node) → new ≡ Some node → node.kind ≡ Dir → IsTrue (are_zeros (past_content g.layout n node))
