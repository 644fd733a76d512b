-- What a check knows of the snapshots that it found, once it went through some of the nodes: their names and numbers, and how many keep each block. It is described in docs/FSCK.md.
use Rattle.std.specs.Prelude.{◌≡◌, ◌↔◌, ℕ, ◌-◌, ◌<◌, true, List, length, option_map, Some}
use Rattle.std.specs.List.{filter, range_with_len}
use Rattle.std.specs.FinMap.{FinMap, from_entries, get}
use Rattle.std.specs.Ordering.{nat_cmp}
use Rattle.std.specs.Cmp.Lexicographic.{slice_cmp}
use Rattle.base_types.specs.Runs.{run_places}
use Rattle.base_types.specs.Seal.{Blocks, blocks_of}
use Rattle.layout_geometry.specs.Geometry.{Geometry}
use Rattle.layout_bytes.specs.declared.node.Node.{Node}
use Rattle.layout_bytes.specs.declared.node.NodeKind.TheVariants.{Snapshot}
use Rattle.layout_bytes.specs.Bitmap.{bit_in, is_set}
use Rattle.lang_tree.specs.Tree.{Kept, Snapshots}
use Rattle.crash_stands.specs.Files.{used_node}
use Rattle.crash_stands.specs.Sharing.{HasKeptBlock, IsKeptBlock, IsSoundKept}
use Rattle.crash_stands.specs.Stands.{HoldsSnapshot}
use Rattle.fs_files.specs.Shared.{keepers}
use Rattle.fs_snapshots.specs.Known.{keeps_block}
use Rattle.fs_check.specs.BrokenSnapshots.{IsFirm}

-- numbers of nodes by names
abbrev pub Numbers : Type 0
Numbers = FinMap (slice_cmp nat_cmp) ℕ

-- the numbers in these entries
abbrev pub numbers_in : List (List ℕ × ℕ) → Numbers
numbers_in es = from_entries es

-- snapshot k keeps block b
abbrev pub KeepsBlock : Geometry → Blocks → ℕ → ℕ → Type 0
KeepsBlock g m k b = (is : IsKeptBlock g m b) × (is.snapshot ≡ k)

-- how many snapshots among the nodes below `bound` keep block b
abbrev pub keepers_below : Geometry → Blocks → ℕ → ℕ → ℕ
keepers_below g m bound b = length (filter (keeps_block g m b) (range_with_len 1 (bound - 1)))

-- each name of a snapshot has its number, and no other name has one
abbrev pub AreNumbers : Snapshots → Numbers → Type 0
AreNumbers snapshots numbers = (name : List ℕ) → get numbers name ≡ option_map (λ k. k.number) (get snapshots name)

-- the bits are those of just the blocks that directories and snapshots have
abbrev pub AreFirm : Geometry → Blocks → List (List ℕ) → Type 0
AreFirm g m firm = (b : ℕ) → b < g.n → (bit_in (blocks_of firm) b ≡ true) ↔ IsFirm g m b

-- What holds of snapshot k with this node, once it was checked: it is sound, and the blocks of its files are marked, and no directory's and no snapshot's.
pub record IsGoodSnapshot (g : Geometry) (m : Blocks) (node : Node) : Type 0 where
  pub sound : IsSoundKept g m (run_places node.runs)
  pub marked : (k i b : ℕ) → HasKeptBlock g m (run_places node.runs) k i b → is_set g m b ≡ true
  pub apart : (k i b : ℕ) → HasKeptBlock g m (run_places node.runs) k i b → IsFirm g m b → ⊥

-- The snapshots among the nodes below `bound` were checked, and nothing is broken there: each is held under its name, and these are their numbers and the counts of their keepers.
pub record AreCheckedBelow (g : Geometry) (m : Blocks) (bound : ℕ) (numbers : Numbers) (counts : List ℕ) : Type 0 where
  pub snapshots : Snapshots
  pub keeps : (name : List ℕ) (k : Kept) → get snapshots name ≡ Some k → HoldsSnapshot g m name k × (k.number < bound)
  pub each : (n : ℕ) (node : Node) → n < bound → used_node g m n ≡ Some node → node.kind ≡ Snapshot → (name : List ℕ) × (k : Kept) × (get snapshots name ≡ Some k) × (k.number ≡ n)
  pub good : (n : ℕ) (node : Node) → n < bound → used_node g m n ≡ Some node → node.kind ≡ Snapshot → IsGoodSnapshot g m node
  pub named : AreNumbers snapshots numbers
  pub counted : (b : ℕ) → keepers counts b ≡ keepers_below g m bound b
