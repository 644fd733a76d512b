-- Counts of how many snapshots keep each block say which are kept.
use Rattle.std.proofs.Common.{◌≡◌, ◌↔◌, ℕ, ◌==◌, ◌&&◌, not, true, List, [], ◌∷◌, length, filter, Option, Some, None, refl, sym, ap, ap₂, ◌∙◌, arith}
use Rattle.std.proofs.lemmas.Bool.{and_parts, eq-eqb, ne_eqb, or_left, false≢true}
use Rattle.std.specs.List.{range_with_len}
use Rattle.base_types.specs.Seal.{Blocks}
use Rattle.base_types.specs.Runs.{run_places}
use Rattle.layout_geometry.specs.Geometry.{Geometry}
use Rattle.layout_bytes.specs.declared.node.Node.{Node}
use Rattle.layout_bytes.specs.declared.node.NodeKind.{NodeKind}
use Rattle.layout_bytes.specs.declared.node.NodeKind.TheVariants.{Free, Dir, File, Snapshot}
use Rattle.crash_stands.specs.Files.{used_node}
use Rattle.crash_stands.specs.Kept.{kept_nodes}
use Rattle.crash_stands.specs.Places.{kept_table}
use Rattle.crash_stands.specs.Sharing.{HasKeptBlock, IsKeptBlock}
use Rattle.crash_snapshots.specs.Kept.{is_snapshot}
use Rattle.engine_blocks.specs.Running.{has}
use Rattle.fs_files.specs.Calls.{places_of, places_or_none}
use Rattle.fs_files.specs.Places.{has_place, place_of}
use Rattle.fs_files.specs.Shared.{is_kept}
use Rattle.fs_files.specs.Sound.{TellsKept}
use Rattle.fs_snapshots.specs.Known.{node_blocks, CountsKeepers, blocks_by_kind, count_keepers, file_blocks, is_snapshot_node, keeps_block, blocks_kept}
use Rattle.fs_snapshots.specs.Among.{among_nodes, is_among, kept_is, node_among, used_number}
use Rattle.fs_snapshots.specs.Nodes.{snapshot_kind}

-- a list that has something isn't empty, and the other way round
some_has : (xs : List ℕ) → not (length xs == 0) ≡ true → (x : ℕ) × (has xs x ≡ true)
some_has [] is = absurd (false≢true is)
some_has (x ∷ xs) is = (x, or_left (x == x) (has xs x) (eq-eqb x x refl))

has_some : (xs : List ℕ) (x : ℕ) → has xs x ≡ true → not (length xs == 0) ≡ true
has_some [] x is = absurd (false≢true is)
has_some (y ∷ xs) x is = ap not (ne_eqb (length (y ∷ xs)) 0 (omega arith))

-- a block of a file
file_has : (kind : NodeKind) (places : List ℕ) (b : ℕ) → has (blocks_by_kind kind places) b ≡ true → (kind ≡ File) × (has places b ≡ true)
file_has Free places b is = absurd (false≢true is)
file_has Dir places b is = absurd (false≢true is)
file_has File places b is = (refl, is)
file_has Snapshot places b is = absurd (false≢true is)

module _ (g : Geometry) (m : Blocks) where
  -- what a node keeps
  kept_file : (places : List ℕ) (l b : ℕ) (o : Option Node) → kept_nodes g m places l ≡ o → has (file_blocks o) b ≡ true → (i : ℕ) × HasKeptBlock g m places l i b
  kept_file places l b None at is = absurd (false≢true is)
  kept_file places l b (Some node) at is =
      let f = file_has node.kind (run_places node.runs) b is in
      let r = place_of (run_places node.runs) b f.1 in
      (r.0, record { node = node; is_node = at; kind = f.0; place = r.1 })

  keeps_one : (b k : ℕ) (o : Option Node) → used_node g m k ≡ o → is_snapshot_node o ≡ true → has (node_blocks (blocks_kept g m k) g.i) b ≡ true → (is : IsKeptBlock g m b) × (is.snapshot ≡ k)
  keeps_one b k None used is there = absurd (false≢true is)
  keeps_one b k (Some node) used is there =
      let r = node_among (blocks_kept g m k) g.i b there in
      let places : places_of g m k ≡ run_places node.runs = ap places_or_none used in
      let f = kept_file (run_places node.runs) r.0 b (kept_nodes g m (run_places node.runs) r.0) refl (ap (λ (ps : List ℕ). has (file_blocks (kept_nodes g m ps r.0)) b) (sym places) ∙ r.1) in
      (record { snapshot = k; node = node; is_node = used; kind = snapshot_kind node.kind is; number = r.0; place = f.0; has = f.1 }, refl)

  one_keeps : (b : ℕ) (one : IsKeptBlock g m b) → keeps_block g m b one.snapshot ≡ true
  one_keeps b one =
      let number = used_number g (kept_table m (run_places one.node.runs) g) one.number one.has.node one.has.is_node in
      let places : places_of g m one.snapshot ≡ run_places one.node.runs = ap places_or_none one.is_node in
      let there : has (blocks_kept g m one.snapshot one.number) b ≡ true =
      ap (λ (ps : List ℕ). has (file_blocks (kept_nodes g m ps one.number)) b) places
      ∙ ap (λ o. has (file_blocks o) b) one.has.is_node
      ∙ ap (λ kind. has (blocks_by_kind kind (run_places one.has.node.runs)) b) one.has.kind
      ∙ has_place (run_places one.has.node.runs) one.place b one.has.place in
      ap₂ (λ x y. x && y) (ap is_snapshot_node one.is_node ∙ ap is_snapshot one.kind) (among_nodes (blocks_kept g m one.snapshot) g.i one.number b number.0 number.1 there)

  pub keeps : (b k : ℕ) → (keeps_block g m b k ≡ true) ↔ ((is : IsKeptBlock g m b) × (is.snapshot ≡ k))
  keeps b k = (
    λ is. let parts = and_parts (is_snapshot_node (used_node g m k)) (has (node_blocks (blocks_kept g m k) g.i) b) is in keeps_one b k (used_node g m k) refl parts.0 parts.1,
    λ one. ap (keeps_block g m b) (sym one.1) ∙ one_keeps b one.0,
  )

  counted_kept : (b : ℕ) → not (count_keepers g m b == 0) ≡ true → IsKeptBlock g m b
  counted_kept b is =
      let some = some_has (filter (keeps_block g m b) (range_with_len 1 g.i)) is in
      let at = kept_is (keeps_block g m b) 1 g.i some.0 some.1 in
      let parts = and_parts (is_snapshot_node (used_node g m some.0)) (has (node_blocks (blocks_kept g m some.0) g.i) b) at.2 in
      (keeps_one b some.0 (used_node g m some.0) refl parts.0 parts.1).0

  kept_counted : (b : ℕ) → IsKeptBlock g m b → not (count_keepers g m b == 0) ≡ true
  kept_counted b one =
      let number = used_number g m one.snapshot one.node one.is_node in
      has_some (filter (keeps_block g m b) (range_with_len 1 g.i)) one.snapshot (is_among (keeps_block g m b) 1 g.i one.snapshot number.0 (omega (arith, number.1)) (one_keeps b one))

  pub counts_tell : (counts : List ℕ) → CountsKeepers g m counts → TellsKept g (is_kept counts) m
  counts_tell counts known b = (
    λ is. counted_kept b (ap (λ n. not (n == 0)) (sym (known.each b)) ∙ is),
    λ one. ap (λ n. not (n == 0)) (known.each b) ∙ kept_counted b one,
  )
