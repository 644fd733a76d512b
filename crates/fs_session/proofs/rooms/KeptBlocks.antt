-- Where blocks stand for a tree, the lists of its snapshots have just the blocks that snapshots keep.
use Rattle.std.proofs.Common.{⊎_elim, ◌≡◌, ◌↔◌, ℕ, zero, suc, ◌≤◌, ◌==◌, Bool, true, false, ◌&&◌, ◌||◌, cond, List, [], ◌∷◌, ◌++◌, map, Option, Some, None, option_map, refl, sym, ap, ap₂, ◌∙◌}
use Rattle.std.specs.List.{list_any}
use Rattle.std.specs.Ordering.{is_eq, nat_cmp}
use Rattle.std.specs.Cmp.{Equal-is}
use Rattle.std.specs.Cmp.Lexicographic.{slice_cmp}
use Rattle.std.specs.FinMap.{get, keys, entries, find as look, get-entries, nat_cmp-IsAntisymmetric, slice_cmp-IsAntisymmetric}
use Rattle.std.proofs.lemmas.Bool.{false≢true, true≢false, or_cases, or_left, or_right}
use Rattle.std.proofs.lemmas.Option.{none-some}
use Rattle.base_types.specs.Seal.{Blocks}
use Rattle.layout_geometry.specs.Geometry.{Geometry}
use Rattle.layout_bytes.specs.declared.node.Node.{Node}
use Rattle.lang_tree.specs.Tree.{Kept, Tree}
use Rattle.engine_blocks.specs.Running.{has}
use Rattle.crash_stands.specs.Kept.{kept_nodes}
use Rattle.crash_stands.specs.Places.{kept_table}
use Rattle.crash_stands.specs.Sharing.{IsKeptBlock}
use Rattle.crash_stands.specs.Stands.{IsTreeOf}
use Rattle.crash_snapshots.specs.Kept.{is_snapshot}
use Rattle.fs_files.specs.Calls.{places_of}
use Rattle.fs_snapshots.specs.Among.{among_nodes, used_number}
use Rattle.fs_snapshots.specs.Known.{blocks_kept, file_blocks, is_snapshot_node, keeps_block, node_blocks, snapshot_number}
use Rattle.fs_session.specs.Lists.{is_kept_block}
use Rattle.fs_session.specs.Snapshots.{kept_by_one, kept_lists}

-- The keys of a map.

pub tie : (a b : List ℕ) → is_eq (slice_cmp nat_cmp a b) ≡ true → a ≡ b
tie a b e = slice_cmp-IsAntisymmetric nat_cmp-IsAntisymmetric a b ((Equal-is (slice_cmp nat_cmp a b)).0 e)

-- a key of the map that passes is among the keys
pub among_keys : (test : List ℕ → Bool) (name : List ℕ) (k : Kept) (es : List (List ℕ × Kept)) → test name ≡ true → look (slice_cmp nat_cmp) name es ≡ Some k → list_any test (map (λ e. e.0) es) ≡ true
among_keys test name k [] passes at = absurd (none-some k at)
among_keys test name k (e ∷ es) passes at = by (is_eq (slice_cmp nat_cmp name e.0)) refl (among_keys test name k es passes) at
  where
    by : (b : Bool) → is_eq (slice_cmp nat_cmp name e.0) ≡ b → (look (slice_cmp nat_cmp) name es ≡ Some k → list_any test (map (λ e. e.0) es) ≡ true) → cond b (Some e.1) (look (slice_cmp nat_cmp) name es) ≡ Some k → (test e.0 || list_any test (map (λ e. e.0) es)) ≡ true
    by true same later at = or_left (test e.0) _ (ap test (sym (tie name e.0 same)) ∙ passes)
    by false other later at = or_right (test e.0) _ (later at)

-- what the laws say of snapshots: which one keeps a block, and which number one has by its name
pub record SnapshotLaws : Type 0 where
  pub each : (g : Geometry) (m : Blocks) (b k : ℕ) → (keeps_block g m b k ≡ true) ↔ ((is : IsKeptBlock g m b) × (is.snapshot ≡ k))
  pub named : (g : Geometry) (m : Blocks) (t : Tree) (name : List ℕ) → IsTreeOf g m t → snapshot_number g m name ≡ option_map (λ (k : Kept). k.number) (get t.snapshots name)

-- nodes without blocks have none
none_have : (n b : ℕ) → has (node_blocks (λ k. []) n) b ≡ false
none_have zero b = refl
none_have (suc n) b = bare (node_blocks (λ k. []) n) (none_have n b)
  where
    bare : (xs : List ℕ) → has xs b ≡ false → has (xs ++ []) b ≡ false
    bare [] none = none
    bare (x ∷ xs) none = by (b == x) none (bare xs)
      where
        by : (t : Bool) → (t || has xs b) ≡ false → (has xs b ≡ false → has (xs ++ []) b ≡ false) → (t || has (xs ++ []) b) ≡ false
        by true none further = none
        by false none further = further none

module _ (laws : SnapshotLaws) (g : Geometry) (m : Blocks) (t : Tree) (stands : IsTreeOf g m t) where
  -- the lists of a snapshot are those of the node of its number, and there are none of another name
  pub its_lists : (name : List ℕ) (k : Kept) → get t.snapshots name ≡ Some k → (l : ℕ) → kept_lists g m name l ≡ blocks_kept g m k.number l
  its_lists name k at l = ap (λ o. kept_by_one g m o l) (laws.named g m t name stands ∙ ap (option_map (λ (x : Kept). x.number)) at)

  no_lists : (name : List ℕ) → get t.snapshots name ≡ None → (l : ℕ) → kept_lists g m name l ≡ []
  no_lists name at l = ap (λ o. kept_by_one g m o l) (laws.named g m t name stands ∙ ap (option_map (λ (x : Kept). x.number)) at)

  nodes_same : (f h : ℕ → List ℕ) (n : ℕ) → ((l : ℕ) → f l ≡ h l) → node_blocks f n ≡ node_blocks h n
  nodes_same f h zero same = refl
  nodes_same f h (suc n) same = ap₂ (λ (xs ys : List ℕ). xs ++ ys) (nodes_same f h n same) (same (suc n))

  pub its_blocks : (name : List ℕ) (k : Kept) → get t.snapshots name ≡ Some k → node_blocks (kept_lists g m name) g.i ≡ node_blocks (blocks_kept g m k.number) g.i
  its_blocks name k at = nodes_same (kept_lists g m name) (blocks_kept g m k.number) g.i (its_lists name k at)

  -- so they have a block where that node keeps it
  pub its_keeps : (name : List ℕ) (k : Kept) → get t.snapshots name ≡ Some k → (b : ℕ) → has (node_blocks (kept_lists g m name) g.i) b ≡ keeps_block g m b k.number
  its_keeps name k at b =
      let h = stands.keeps name k at in
      ap (λ xs. has xs b) (its_blocks name k at) ∙ ap (λ t. t && has (node_blocks (blocks_kept g m k.number) g.i) b) (sym (ap is_snapshot_node h.is_node ∙ ap is_snapshot h.kind))

  pub has_none : (name : List ℕ) → get t.snapshots name ≡ None → (b : ℕ) → has (node_blocks (kept_lists g m name) g.i) b ≡ false
  has_none name at b = ap (λ xs. has xs b) (nodes_same (kept_lists g m name) (λ l. []) g.i (no_lists name at)) ∙ none_have g.i b

  -- a block that is listed some snapshot keeps
  pub named_kept : (name : List ℕ) (b : ℕ) → has (node_blocks (kept_lists g m name) g.i) b ≡ true → IsKeptBlock g m b
  named_kept name b is = by (get t.snapshots name) refl
    where
      by : (o : Option Kept) → get t.snapshots name ≡ o → IsKeptBlock g m b
      by None at = absurd (true≢false (sym is ∙ has_none name at b))
      by (Some k) at = ((laws.each g m b k.number).0 (sym (its_keeps name k at b) ∙ is)).0

  pub listed_kept : (names : List (List ℕ)) (b : ℕ) → is_kept_block g.i (kept_lists g m) names b ≡ true → IsKeptBlock g m b
  listed_kept [] b is = absurd (false≢true is)
  listed_kept (name ∷ names) b is = ⊎_elim (named_kept name b) (listed_kept names b) (or_cases (has (node_blocks (kept_lists g m name) g.i) b) _ is)

  -- a kept file has a number of the geometry's
  file_number : (number l b : ℕ) → has (blocks_kept g m number l) b ≡ true → (1 ≤ l) × (l ≤ g.i)
  file_number number l b is = by (kept_nodes g m (places_of g m number) l) refl
    where
      by : (o : Option Node) → kept_nodes g m (places_of g m number) l ≡ o → (1 ≤ l) × (l ≤ g.i)
      by None at = absurd (false≢true (sym (ap (λ o. has (file_blocks o) b) at) ∙ is))
      by (Some node) at = used_number g (kept_table m (places_of g m number) g) l node at

  pub name_kept : (name : List ℕ) (l b : ℕ) → has (kept_lists g m name l) b ≡ true → IsKeptBlock g m b
  name_kept name l b is = by (get t.snapshots name) refl
    where
      by : (o : Option Kept) → get t.snapshots name ≡ o → IsKeptBlock g m b
      by None at = absurd (false≢true (sym (ap (λ xs. has xs b) (no_lists name at l)) ∙ is))
      by (Some k) at =
          let number = file_number k.number l b (sym (ap (λ xs. has xs b) (its_lists name k at l)) ∙ is) in
          named_kept name b (among_nodes (kept_lists g m name) g.i l b number.0 number.1 is)

  -- and a block that some snapshot keeps is listed, by its name
  pub kept_named : (b : ℕ) (x : IsKeptBlock g m b) → (name : List ℕ) × (k : Kept) × (get t.snapshots name ≡ Some k) × (k.number ≡ x.snapshot) × (has (node_blocks (kept_lists g m name) g.i) b ≡ true)
  kept_named b x =
      let its = stands.each x.snapshot x.node x.is_node x.kind in
      (its.0, its.1, its.2, its.3, its_keeps its.0 its.1 its.2 b ∙ (laws.each g m b its.1.number).1 (x, sym its.3))

  pub kept_listed : (b : ℕ) → IsKeptBlock g m b → is_kept_block g.i (kept_lists g m) (keys t.snapshots) b ≡ true
  kept_listed b x =
      let its = kept_named b x in
      among_keys (λ name. has (node_blocks (kept_lists g m name) g.i) b) its.0 its.1 (entries t.snapshots) its.4 (sym (get-entries t.snapshots its.0) ∙ its.2)
