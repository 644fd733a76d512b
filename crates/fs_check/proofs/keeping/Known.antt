-- What is known of the snapshots, once all were checked and the tree with them stands.
use Rattle.std.proofs.Common.{◌≡◌, ◌⊎◌, ℕ, ◌+◌, ◌-◌, List, [], length, filter, option_map, sym, ap, ◌∙◌, arith}
use Rattle.std.specs.FinMap.{get}
use Rattle.std.specs.List.{range_with_len}
use Rattle.base_types.specs.Seal.{Blocks}
use Rattle.layout_geometry.specs.Geometry.{Geometry}
use Rattle.lang_tree.specs.Tree.{Kept, Tree}
use Rattle.crash_stands.specs.Bounds.{bounds_of}
use Rattle.crash_stands.specs.Files.{files_of}
use Rattle.crash_stands.specs.Stands.{AreSound, IsTreeOf}
use Rattle.fs_snapshots.specs.Known.{CountsKeepers, KnowsSnapshots, keeps_block, snapshot_number}
use Rattle.fs_check.specs.Snapshots.{AreCheckedBelow, Numbers}
use Rattle.fs_check.proofs.Refuted.{ReadsAsTree}
use Rattle.fs_check.proofs.keeping.Trees.{stands}

pub counts_keepers : (g : Geometry) (m : Blocks) (numbers : Numbers) (counts : List ℕ) → AreCheckedBelow g m (g.i + 1) numbers counts → (counts ≡ []) ⊎ (length counts ≡ g.n) → CountsKeepers g m counts
counts_keepers g m numbers counts h room = record {
  each = λ b. h.counted b ∙ ap (λ n. length (filter (keeps_block g m b) (range_with_len 1 n))) {x = g.i + 1 - 1} {y = g.i} (omega arith);
  room = room;
}

-- The law that is used: where blocks stand for a tree, names have the numbers of its snapshots.
abbrev pub AreNamed : Type 0
AreNamed = (g : Geometry) (m : Blocks) (t : Tree) (name : List ℕ) → IsTreeOf g m t → snapshot_number g m name ≡ option_map (λ (k : Kept). k.number) (get t.snapshots name)

pub knows : AreNamed → (g : Geometry) (m : Blocks) (numbers : Numbers) (counts : List ℕ) → ReadsAsTree (bounds_of g) (files_of g m) → AreSound g m → AreCheckedBelow g m (g.i + 1) numbers counts → (counts ≡ []) ⊎ (length counts ≡ g.n)
    → KnowsSnapshots g m counts (get numbers)
knows are_named g m numbers counts r sound h room =
    let tree = stands g m numbers counts r sound h in
    record { kept = counts_keepers g m numbers counts h room; named = λ name. tree.2 name ∙ sym (are_named g m tree.0 name tree.1) }
