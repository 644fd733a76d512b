-- How many blocks directories have that a snapshot keeps, and which of its own are those of one of them.
use Rattle.std.proofs.Common.{◌≡◌, ℕ, zero, suc, ◌+◌, ◌-◌, ◌≤◌, Bool, true, if◌then◌else◌, min, List, length, take, drop, Some, sym, ap, subst, ◌∙◌, arith}
use Rattle.std.proofs.lemmas.List.Elements.{All-drop, All-take}
use Rattle.std.proofs.lemmas.List.{drop-drop, length-drop, length-take-le}
use Rattle.base_types.specs.Runs.{run_places}
use Rattle.base_types.specs.Seal.{Blocks}
use Rattle.base_types.specs.declared.layout.Layout.{Layout}
use Rattle.layout_geometry.specs.Geometry.{Geometry}
use Rattle.layout_bytes.specs.declared.node.Node.{Node}
use Rattle.layout_bytes.specs.declared.node.NodeKind.TheVariants.{Dir}
use Rattle.layout_bytes.specs.Node.{content_blocks}
use Rattle.crash_stands.specs.Places.{NodesInUse, dir_blocks, dir_part, dirs_from, is_copied, kept_table, table_blocks}
use Rattle.crash_stands.specs.Kept.{kept_nodes, kept_places}
use Rattle.fs_snapshots.specs.Kept.{HasItsParts}
use Rattle.fs_check.proofs.sound.Nodes.{places_fit, used_is}
use Rattle.fs_check.proofs.sound.Tails.{AreWhole}

-- one number more
dirs_suc : (l : Layout) (nodes : NodesInUse) (k n : ℕ) → dirs_from l nodes k (suc n) ≡ dirs_from l nodes k n + dir_blocks l (nodes (k + n))
dirs_suc l nodes k zero = let same = ap (λ j. dir_blocks l (nodes j)) {x = k} {y = k + 0} (omega arith) in omega (arith, same)
dirs_suc l nodes k (suc n) =
    let rest = dirs_suc l nodes (k + 1) n in
    let same = ap (λ j. dir_blocks l (nodes j)) {x = k + 1 + n} {y = k + suc n} (omega arith) in omega (arith, rest, same)

-- the directories before node k, and those up to it
pub dirs_with : (l : Layout) (nodes : NodesInUse) (k : ℕ) → 1 ≤ k → dirs_from l nodes 1 k ≡ dirs_from l nodes 1 (k - 1) + dir_blocks l (nodes k)
dirs_with l nodes zero from = absurd (omega (arith, from))
dirs_with l nodes (suc k) from =
    let less = ap (dirs_from l nodes 1) {x = suc k - 1} {y = k} (omega arith) in
    let same = ap (λ j. dir_blocks l (nodes j)) {x = 1 + k} {y = suc k} (omega arith) in omega (arith, dirs_suc l nodes 1 k, less, same)

dirs_upto : (l : Layout) (nodes : NodesInUse) (k n : ℕ) → dirs_from l nodes 1 k ≤ dirs_from l nodes 1 (k + n)
dirs_upto l nodes k zero = let same = ap (dirs_from l nodes 1) {x = k + 0} {y = k} (omega arith) in omega (arith, same)
dirs_upto l nodes k (suc n) =
    let same = ap (dirs_from l nodes 1) {x = k + suc n} {y = suc (k + n)} (omega arith) in omega (arith, same, dirs_suc l nodes 1 (k + n), dirs_upto l nodes k n)

dirs_within : (l : Layout) (nodes : NodesInUse) (k n : ℕ) → k ≤ n → dirs_from l nodes 1 k ≤ dirs_from l nodes 1 n
dirs_within l nodes k n low = let same = ap (dirs_from l nodes 1) {x = k + (n - k)} {y = n} (omega (arith, low)) in omega (arith, same, dirs_upto l nodes k (n - k))

-- what is known of the blocks that a kept directory has in the snapshot, behind those of so many directories' blocks
pub record HasDir (g : Geometry) (m : Blocks) (own : List ℕ) (k dirs count : ℕ) (node : Node) (places : List ℕ) : Type 0 where
  pub at : places ≡ kept_places g m own k node
  pub long : length places ≡ content_blocks g.layout node.kind node.size
  pub behind : min (dirs + count) 4294967295 ≡ dirs_from g.layout (kept_nodes g m own) 1 k

pub has_dir : (g : Geometry) (m : Blocks) (own : List ℕ) (k dirs count : ℕ) (node : Node) (places : List ℕ) → kept_nodes g m own k ≡ Some node → node.kind ≡ Dir → HasItsParts g m own → length own ≤ 62914560
    → dirs ≡ dirs_from g.layout (kept_nodes g m own) 1 (k - 1) → count ≡ length (run_places node.runs) → places ≡ take count (drop (min (dirs + (1 + table_blocks g)) 4294967295) own) → HasDir g m own k dirs count node places
has_dir g m own k dirs count node places used kind parts most before count_is is =
    let nodes = kept_nodes g m own in
    let of = used_is g (kept_table m own g) k node used in
    let from = of.from in
    let upto = of.upto in
    let copied : is_copied node.kind ≡ true = ap is_copied kind in
    let size : length (run_places node.runs) ≡ content_blocks g.layout node.kind node.size = (places_fit g node of.fits).count in
    let here : dir_blocks g.layout (nodes k) ≡ content_blocks g.layout node.kind node.size = ap (dir_blocks g.layout) used ∙ ap (λ (t : Bool). if t then content_blocks g.layout node.kind node.size else 0) copied in
    let with_it = dirs_with g.layout nodes k from in
    let all = dirs_within g.layout nodes k g.i upto in
    let first : min (dirs + (1 + table_blocks g)) 4294967295 ≡ 1 + table_blocks g + dirs_from g.layout nodes 1 (k - 1) = omega (arith, before, with_it, all, parts, most) in
    let at : places ≡ take (content_blocks g.layout node.kind node.size) (drop (1 + table_blocks g + dirs_from g.layout nodes 1 (k - 1)) own) =
    is ∙ ap (λ j. take j (drop (min (dirs + (1 + table_blocks g)) 4294967295) own)) (count_is ∙ size) ∙ ap (λ j. take (content_blocks g.layout node.kind node.size) (drop j own)) first in
    record {
      at = at
          ∙ ap (take (content_blocks g.layout node.kind node.size)) (sym (drop-drop (dirs_from g.layout nodes 1 (k - 1)) (1 + table_blocks g) own))
          ∙ ap (λ (t : Bool). if t then take (content_blocks g.layout node.kind node.size) (drop (dirs_from g.layout nodes 1 (k - 1)) (dir_part g own)) else run_places node.runs) (sym copied);
      long = ap length at ∙ length-take-le (content_blocks g.layout node.kind node.size) (drop (1 + table_blocks g + dirs_from g.layout nodes 1 (k - 1)) own)
          (omega (arith, length-drop (1 + table_blocks g + dirs_from g.layout nodes 1 (k - 1)) own, parts, all, with_it, here));
      behind = omega (arith, before, with_it, all, parts, most, here, size, count_is);
    }

-- a part of a snapshot's blocks are whole ones
pub part_whole : (m : Blocks) (own places : List ℕ) (count first : ℕ) → AreWhole m own → places ≡ take count (drop first own) → AreWhole m places
part_whole m own places count first all is = subst (AreWhole m) (sym is) (All-take (λ b. length (m b) ≡ 1024) count (drop first own) (All-drop (λ b. length (m b) ≡ 1024) first own all))
