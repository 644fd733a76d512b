-- What a snapshot keeps, by lists: the same where its node has the same blocks and keeps the same, and by its name where both trees have it.
use Rattle.std.proofs.Common.{◌≡◌, ◌↔◌, ℕ, zero, suc, List, [], ◌∷◌, slice_get, Option, Some, None, option_map, refl, sym, ap, ap₂, ◌∙◌}
use Rattle.std.proofs.lemmas.Option.{none-some, same_Some}
use Rattle.std.specs.FinMap.{get}
use Rattle.base_types.specs.Seal.{Blocks}
use Rattle.base_types.specs.Runs.{run_places}
use Rattle.layout_geometry.specs.Geometry.{Geometry}
use Rattle.layout_bytes.specs.declared.node.Node.{Node}
use Rattle.layout_bytes.specs.declared.node.NodeKind.{NodeKind}
use Rattle.layout_bytes.specs.declared.node.NodeKind.TheVariants.{Free, Dir, File, Snapshot}
use Rattle.lang_tree.specs.Tree.{Tree, Kept}
use Rattle.crash_stands.specs.Kept.{kept_nodes}
use Rattle.crash_stands.specs.Sharing.{HasKeptBlock}
use Rattle.fs_files.specs.Calls.{places_of}
use Rattle.fs_snapshots.specs.Known.{blocks_by_kind, blocks_kept, file_blocks, snapshot_number}
use Rattle.fs_session.specs.Snapshots.{kept_by_one, kept_lists}

-- lists that have the same at each place are the same
same_places : (xs ys : List ℕ) → ((i b : ℕ) → slice_get xs i ≡ Some b → slice_get ys i ≡ Some b) → ((i b : ℕ) → slice_get ys i ≡ Some b → slice_get xs i ≡ Some b) → xs ≡ ys
same_places [] [] there back = refl
same_places [] (y ∷ ys) there back = absurd (none-some y (back zero y refl))
same_places (x ∷ xs) [] there back = absurd (none-some x (there zero x refl))
same_places (x ∷ xs) (y ∷ ys) there back = ap₂ (λ z (zs : List ℕ). z ∷ zs) (sym (same_Some y x (there zero x refl))) (same_places xs ys (λ i b at. there (suc i) b at) (λ i b at. back (suc i) b at))

module _ (g : Geometry) where
  -- the blocks of a kept file, by their places

  kept_place : (m : Blocks) (places : List ℕ) (l i b : ℕ) (o : Option Node) → kept_nodes g m places l ≡ o → slice_get (file_blocks o) i ≡ Some b → HasKeptBlock g m places l i b
  kept_place m places l i b None at is = absurd (none-some b is)
  kept_place m places l i b (Some node) at is = by node.kind refl is
    where
      by : (kind : NodeKind) → node.kind ≡ kind → slice_get (blocks_by_kind kind (run_places node.runs)) i ≡ Some b → HasKeptBlock g m places l i b
      by Free of is = absurd (none-some b is)
      by Dir of is = absurd (none-some b is)
      by File of is = record { node = node; is_node = at; kind = of; place = is }
      by Snapshot of is = absurd (none-some b is)

  place_kept : (m : Blocks) (places : List ℕ) (l i b : ℕ) → HasKeptBlock g m places l i b → slice_get (file_blocks (kept_nodes g m places l)) i ≡ Some b
  place_kept m places l i b h =
      ap (λ (o : Option Node). slice_get (file_blocks o) i) h.is_node
      ∙ ap (λ (kind : NodeKind). slice_get (blocks_by_kind kind (run_places h.node.runs)) i) h.kind
      ∙ h.place

  -- a snapshot that has its blocks and keeps its files' keeps the same
  pub kept_alike : (m n : Blocks) (k l : ℕ) (places : List ℕ) → places_of g m k ≡ places → places_of g n k ≡ places → ((i b : ℕ) → HasKeptBlock g n places l i b ↔ HasKeptBlock g m places l i b)
      → blocks_kept g n k l ≡ blocks_kept g m k l
  kept_alike m n k l places were are same =
      ap (λ (ps : List ℕ). file_blocks (kept_nodes g n ps l)) are
      ∙ same_places (file_blocks (kept_nodes g n places l)) (file_blocks (kept_nodes g m places l))
      (λ i b at. place_kept m places l i b ((same i b).0 (kept_place n places l i b (kept_nodes g n places l) refl at)))
      (λ i b at. place_kept n places l i b ((same i b).1 (kept_place m places l i b (kept_nodes g m places l) refl at)))
      ∙ sym (ap (λ (ps : List ℕ). file_blocks (kept_nodes g m ps l)) were)

  -- Two maps that stand for trees: what is listed under a name.
  module _ (m n : Blocks) (t u : Tree)
      (named_m : (name : List ℕ) → snapshot_number g m name ≡ option_map (λ (k : Kept). k.number) (get t.snapshots name))
      (named_n : (name : List ℕ) → snapshot_number g n name ≡ option_map (λ (k : Kept). k.number) (get u.snapshots name)) where
    pub listed_alike : (name : List ℕ) → get u.snapshots name ≡ get t.snapshots name → ((k : Kept) → get t.snapshots name ≡ Some k → (l : ℕ) → blocks_kept g n k.number l ≡ blocks_kept g m k.number l)
        → (l : ℕ) → kept_lists g n name l ≡ kept_lists g m name l
    listed_alike name same each l = by (get t.snapshots name) refl
      where
        was : (o : Option Kept) → get t.snapshots name ≡ o → kept_lists g m name l ≡ kept_by_one g m (option_map (λ (k : Kept). k.number) o) l
        was o at = ap (λ x. kept_by_one g m x l) (named_m name ∙ ap (option_map (λ (k : Kept). k.number)) at)

        is : (o : Option Kept) → get t.snapshots name ≡ o → kept_lists g n name l ≡ kept_by_one g n (option_map (λ (k : Kept). k.number) o) l
        is o at = ap (λ x. kept_by_one g n x l) (named_n name ∙ ap (option_map (λ (k : Kept). k.number)) (same ∙ at))

        by : (o : Option Kept) → get t.snapshots name ≡ o → kept_lists g n name l ≡ kept_lists g m name l
        by None at = is None at ∙ sym (was None at)
        by (Some k) at = is (Some k) at ∙ each k at l ∙ sym (was (Some k) at)

    -- a snapshot that is there
    pub listed_one : (name : List ℕ) (k : Kept) (l : ℕ) → get u.snapshots name ≡ Some k → kept_lists g n name l ≡ blocks_kept g n k.number l
    listed_one name k l at = ap (λ x. kept_by_one g n x l) (named_n name ∙ ap (option_map (λ (k : Kept). k.number)) at)

    -- and one that isn't
    pub listed_none : (name : List ℕ) (l : ℕ) → get u.snapshots name ≡ None → kept_lists g n name l ≡ []
    listed_none name l at = ap (λ x. kept_by_one g n x l) (named_n name ∙ ap (option_map (λ (k : Kept). k.number)) at)
