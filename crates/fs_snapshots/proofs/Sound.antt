-- A snapshot of sound blocks is whole.
use Rattle.std.proofs.Common.{◌≡◌, ◌⊎◌, inl, inr, ℕ, nat_lt, List, length, get_or, slice_get, Some, subst, arith}
use Rattle.std.proofs.lemmas.Bool.{or_right}
use Rattle.std.proofs.lemmas.Option.{get_or_from_slice_get, slice_get-get_or, slice_get_within}
use Rattle.base_types.specs.Runs.{run_places}
use Rattle.base_types.specs.Seal.{Blocks}
use Rattle.layout_geometry.specs.Geometry.{Geometry, data_start}
use Rattle.layout_bytes.specs.declared.node.Node.{Node}
use Rattle.layout_bytes.specs.declared.node.NodeKind.TheVariants.{Snapshot}
use Rattle.layout_bytes.specs.Bitmap.{is_set}
use Rattle.engine_blocks.specs.Puts.{IsData}
use Rattle.crash_stands.specs.Files.{used_node}
use Rattle.crash_stands.specs.Sharing.{HasKeptBlock, IsKeptBlock}
use Rattle.crash_stands.specs.Stands.{AreSound, HasBlock}
use Rattle.fs_snapshots.specs.Kept.{IsWholeKept}
use Rattle.fs_snapshots.specs.Nodes.{live}
use Rattle.fs_snapshots.proofs.Whole.{is_kept, node_data, runs_inside}

-- a data block that a node has, or a snapshot keeps, has 1,024 bytes
has_bytes : (g : Geometry) (m : Blocks) (b : ℕ) → AreSound g m → IsData g b → ((k : ℕ) × (i : ℕ) × HasBlock g m k i b) ⊎ IsKeptBlock g m b → length (m b) ≡ 1024
has_bytes g m b sound at has = sound.whole b (live g m b (omega (arith, at.from)) at.below (or_right (nat_lt b (data_start g)) (is_set g m b) ((sound.marked b at.from at.below).1 has)))

pub is_whole : (g : Geometry) (m : Blocks) (k : ℕ) (node : Node) → AreSound g m → used_node g m k ≡ Some node → node.kind ≡ Snapshot → IsWholeKept g m (run_places node.runs)
is_whole g m k node sound used kind =
    let ps = run_places node.runs in
    let own : (i b : ℕ) → slice_get ps i ≡ Some b → HasBlock g m k i b = λ i b at. record { node = node; is_node = used; place = at } in
    record {
      sound = sound.kept k node used kind;
      once = λ i j b first second. (sound.own k k i j b (own i b first) (own j b second)).1;
      own = λ i d low. has_bytes g m (get_or ps i d) sound (node_data g m k node used i d low) (inl (k, i, own i (get_or ps i d) (slice_get-get_or ps i d low)));
      files = λ l i b has. has_bytes g m b sound (kept_data g m ps l i b has) (inr (record { snapshot = k; node = node; is_node = used; kind = kind; number = l; place = i; has = has }));
    }
  where
    kept_data : (g : Geometry) (m : Blocks) (ps : List ℕ) (l i b : ℕ) → HasKeptBlock g m ps l i b → IsData g b
    kept_data g m ps l i b has =
        let inside = runs_inside g has.node (is_kept g m ps l has.node has.is_node).fits in
        subst (IsData g) (get_or_from_slice_get (run_places has.node.runs) i b 0 has.place) (inside i 0 (slice_get_within (run_places has.node.runs) i b has.place))
