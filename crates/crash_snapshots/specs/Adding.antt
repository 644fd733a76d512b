-- What blocks have more than others where a snapshot was made of these.
use Rattle.std.specs.Prelude.{◌≡◌, ◌≢◌, ◌↔◌, ◌⊎◌, ℕ, ◌+◌, ◌*◌, ◌<◌, ◌≤◌, true, false, IsTrue, List, length, replicate, get_or, None, Some}
use Rattle.base_types.specs.Name.{is_name}
use Rattle.base_types.specs.Seal.{Blocks}
use Rattle.base_types.specs.Runs.{run_places}
use Rattle.layout_geometry.specs.Geometry.{Geometry, bitmap_blocks, data_start}
use Rattle.layout_bytes.specs.declared.node.Node.{Node}
use Rattle.layout_bytes.specs.declared.node.NodeKind.TheVariants.{Snapshot}
use Rattle.layout_bytes.specs.Bitmap.{is_set}
use Rattle.layout_bytes.specs.Node.{node_size, node_at, node_bytes}
use Rattle.layout_bytes.specs.SnapshotName.{name_block}
use Rattle.layout_extent.specs.Renew.{AreOnce, IsAmong}
use Rattle.layout_journal.specs.Run.{is_live}
use Rattle.crash_stands.specs.Files.{used_node}
use Rattle.crash_stands.specs.Places.{table_blocks, dirs_from}
use Rattle.crash_snapshots.specs.Kept.{HasSnapshot}

-- A number that no node had is a snapshot of this name, made of the blocks `old` at these places, which were not marked. Just these are marked besides, all else is as it was, and a node out of use is zeros.
pub record AddsSnapshot (g : Geometry) (old new : Blocks) (n : ℕ) (name places : List ℕ) : Type 0 where
  pub free : used_node g old n ≡ None
  pub node : Node
  pub is_node : used_node g new n ≡ Some node
  pub kind : node.kind ≡ Snapshot
  pub runs : run_places node.runs ≡ places
  pub links : node.links ≡ 1
  pub size : node.size ≡ 1024 * length places
  pub others : (k : ℕ) → k ≢ n → used_node g new k ≡ used_node g old k
  pub bare : (k : ℕ) → 1 ≤ k → k ≤ g.i → node_at g new k ≡ None → node_bytes g new k ≡ replicate (node_size g.layout) 0
  pub lawful : IsTrue (is_name name)
  pub named : new (get_or places 0 0) ≡ name_block name
  pub made : HasSnapshot g old new places
  pub long : length places ≡ 1 + table_blocks g + dirs_from g.layout (used_node g old) 1 g.i
  pub once : AreOnce places
  pub unmarked : (b : ℕ) → IsAmong places b → is_set g old b ≡ false
  pub bits : (b : ℕ) → b < 8192 * bitmap_blocks g → (is_set g new b ≡ true) ↔ ((is_set g old b ≡ true) ⊎ IsAmong places b)
  pub stays : (b : ℕ) → data_start g ≤ b → b < g.n → is_set g old b ≡ true → new b ≡ old b
  pub whole : (b : ℕ) → IsTrue (is_live g new b) → length (new b) ≡ 1024
