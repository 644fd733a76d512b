-- What blocks have less than others where a snapshot of these went.
use Rattle.std.specs.Prelude.{◌≡◌, ◌≢◌, ◌↔◌, ◌⊎◌, ℕ, ◌*◌, ◌<◌, ◌≤◌, true, IsTrue, length, replicate, None, Some}
use Rattle.base_types.specs.Seal.{Blocks}
use Rattle.layout_geometry.specs.Geometry.{Geometry, bitmap_blocks, data_start}
use Rattle.layout_bytes.specs.declared.node.Node.{Node}
use Rattle.layout_bytes.specs.declared.node.NodeKind.TheVariants.{Snapshot}
use Rattle.layout_bytes.specs.Bitmap.{is_set}
use Rattle.layout_bytes.specs.Node.{node_size, node_at, node_bytes}
use Rattle.layout_journal.specs.Run.{is_live}
use Rattle.crash_stands.specs.Files.{used_node}
use Rattle.crash_stands.specs.Sharing.{IsKeptBlock}
use Rattle.crash_stands.specs.Stands.{HasBlock}

-- another node than n has block b, or another snapshot keeps it
abbrev pub IsElsewhere : Geometry → Blocks → ℕ → ℕ → Type 0
IsElsewhere g m n b = ((k : ℕ) × (i : ℕ) × (h : HasBlock g m k i b) × (k ≢ n)) ⊎ ((one : IsKeptBlock g m b) × (one.snapshot ≢ n))

-- Node n, which is a snapshot of the blocks `old`, is out of use. Of the data just what is elsewhere too is still marked, all that is marked is as it was, and a node out of use is zeros.
pub record TakesSnapshot (g : Geometry) (old new : Blocks) (n : ℕ) : Type 0 where
  pub node : Node
  pub is_node : used_node g old n ≡ Some node
  pub kind : node.kind ≡ Snapshot
  pub gone : used_node g new n ≡ None
  pub others : (k : ℕ) → k ≢ n → used_node g new k ≡ used_node g old k
  pub bare : (k : ℕ) → 1 ≤ k → k ≤ g.i → node_at g new k ≡ None → node_bytes g new k ≡ replicate (node_size g.layout) 0
  pub bits : (b : ℕ) → b < 8192 * bitmap_blocks g → (is_set g new b ≡ true) ↔ ((is_set g old b ≡ true) × ((b < data_start g) ⊎ IsElsewhere g old n b))
  pub stays : (b : ℕ) → data_start g ≤ b → b < g.n → is_set g new b ≡ true → new b ≡ old b
  pub whole : (b : ℕ) → IsTrue (is_live g new b) → length (new b) ≡ 1024
