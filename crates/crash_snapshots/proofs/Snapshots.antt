-- A snapshot has the files of the blocks of which it was made.
use Rattle.std.proofs.Common.{◌≡◌, ℕ, ◌+◌, ◌-◌, Bool, true, false, if◌then◌else◌, List, take, drop, Option, Some, None, option_map, option_and_then, refl, sym, ap, subst, ◌∙◌, arith}
use Rattle.base_types.specs.Seal.{Blocks}
use Rattle.base_types.specs.Runs.{run_places}
use Rattle.base_types.specs.declared.layout.Layout.{Layout}
use Rattle.layout_geometry.specs.Geometry.{Geometry}
use Rattle.layout_bytes.specs.declared.node.Node.{Node}
use Rattle.layout_bytes.specs.Node.{content_of, content_blocks}
use Rattle.crash_stands.specs.Files.{FileNode, joined, file_of, files_of, used_node}
use Rattle.crash_stands.specs.Kept.{kept_nodes, kept_files}
use Rattle.crash_stands.specs.Places.{NodesInUse, is_copied, kept_table, dir_part, dirs_from, places_by}
use Rattle.crash_snapshots.specs.Kept.{AreCopies, is_snapshot, without_snapshots, HasSnapshot}
use Rattle.crash_snapshots.specs.Places.{all_dirs}
use Rattle.crash_snapshots.proofs.Copies.{joined_copies, own_copies}
use Rattle.crash_snapshots.proofs.Nodes.{NodeLaws, unless_snapshot, plain_nodes, plain_is, file_kind, nodes_kept, same_dirs, dir_copies}

-- functions that agree everywhere are the same
pub everywhere : {A : Type 0} (f h : ℕ → A) → ((k : ℕ) → f k ≡ h k) → f ≡ h
everywhere f h same i k = same k i

-- what a node has, by the bytes of its blocks
abbrev with_bytes : Layout → Node → List ℕ → FileNode
with_bytes l node bytes = record { kind = node.kind; links = node.links; bytes = take (content_of l node.kind node.size) bytes }

module _ (laws : NodeLaws) (g : Geometry) (old new : Blocks) (places : List ℕ) (has : HasSnapshot g old new places) where
  pub nodes : kept_nodes g new places ≡ plain_nodes (used_node g old)
  nodes = everywhere (kept_nodes g new places) (plain_nodes (used_node g old)) (nodes_kept g old (kept_table new places g) has.table)

  dirs : AreCopies old new (all_dirs (plain_nodes (used_node g old)) 1 g.i) (dir_part g places)
  dirs = subst (λ bs. AreCopies old new bs (dir_part g places)) (sym (same_dirs (used_node g old) 1 g.i)) has.dirs

  -- the bytes of a node are where the snapshot looks for them
  bytes_by : (k : ℕ) (node : Node) → used_node g old k ≡ Some node → is_snapshot node.kind ≡ false → (t : Bool) → is_copied node.kind ≡ t
      → joined new (if t then take (content_blocks g.layout node.kind node.size) (drop (dirs_from g.layout (plain_nodes (used_node g old)) 1 (k - 1)) (dir_part g places)) else run_places node.runs) ≡ joined old (run_places node.runs)
  bytes_by k node used other true dir =
      let number = laws.number g old k node used in
      joined_copies old new (run_places node.runs) (take (content_blocks g.layout node.kind node.size) (drop (dirs_from g.layout (plain_nodes (used_node g old)) 1 (k - 1)) (dir_part g places)))
      (dir_copies g.layout old new (plain_nodes (used_node g old)) (λ l x e. laws.count g old l x (plain_is (used_node g old l) x e).0) 1 g.i (k - 1) (dir_part g places) node dirs (omega (arith, number.0, number.1))
      (ap (plain_nodes (used_node g old)) {x = 1 + (k - 1)} {y = k} (omega (arith, number.0)) ∙ ap (option_and_then unless_snapshot) used ∙ ap (λ t. if t then None else Some node) other) dir)
  bytes_by k node used other false own = joined_copies old new (run_places node.runs) (run_places node.runs) (own_copies old new (run_places node.runs) (λ i b at. has.files k i b node used (file_kind node.kind (laws.kind g old k node used) own other) at))

  pub bytes_kept : (k : ℕ) (node : Node) → used_node g old k ≡ Some node → is_snapshot node.kind ≡ false
      → joined new (places_by g.layout (plain_nodes (used_node g old)) (dir_part g places) k node) ≡ joined old (run_places node.runs)
  bytes_kept k node used other = bytes_by k node used other (is_copied node.kind) refl

  pub reads_as_before : (k : ℕ) → kept_files g new places k ≡ without_snapshots (files_of g old) k
  reads_as_before k =
      ap (λ (ns : NodesInUse). option_map (λ (node : Node). with_bytes g.layout node (joined new (places_by g.layout ns (dir_part g places) k node))) (ns k)) nodes
      ∙ by (used_node g old k) refl
    where
      look : Node → FileNode
      look node = with_bytes g.layout node (joined new (places_by g.layout (plain_nodes (used_node g old)) (dir_part g places) k node))

      in_use : (node : Node) (t : Bool) → used_node g old k ≡ Some node → is_snapshot node.kind ≡ t → option_map look (if t then None else Some node) ≡ (if t then None else Some (file_of g.layout old node))
      in_use node true used is = refl
      in_use node false used is = ap (λ bytes. Some (with_bytes g.layout node bytes)) (bytes_kept k node used is)

      by : (o : Option Node) → used_node g old k ≡ o
          → option_map look (option_and_then unless_snapshot o) ≡ option_and_then (λ (file : FileNode). if is_snapshot file.kind then None else Some file) (option_map (file_of g.layout old) o)
      by None none = refl
      by (Some node) used = in_use node (is_snapshot node.kind) used refl
