-- The snapshots of blocks that stand for a tree: they are the tree's, they are sound, and their numbers are no inodes'.
use Rattle.std.proofs.Common.{◌≡◌, ◌↔◌, ℕ, ◌-◌, ◌<◌, ◌≤◌, ◌&&◌, ◌⊎◌, inl, inr, Bool, true, false, not, IsTrue, is_none, List, length, take, drop, replicate, get_or, Option, Some, None, option_map, find, refl, sym, ap, ap₂, subst, ◌∙◌}
use Rattle.std.proofs.Math.Seq.{take-append_seam}
use Rattle.std.proofs.lemmas.Bool.{and_right, cases_Bool}
use Rattle.std.proofs.lemmas.Option.{none-some, same_Some}
use Rattle.std.specs.List.{range_with_len}
use Rattle.std.specs.Cmp.{nat_cmp_total}
use Rattle.std.specs.Cmp.Lexicographic.{lists_total}
use Rattle.std.specs.FinMap.{nat_cmp-IsAntisymmetric, slice_cmp-IsAntisymmetric, get, empty, get-empty, same_map}
use Rattle.base_types.specs.Seal.{Blocks}
use Rattle.base_types.specs.Runs.{run_places}
use Rattle.base_types.specs.declared.layout.Layout.{Layout}
use Rattle.layout_geometry.specs.Geometry.{Geometry, data_start}
use Rattle.layout_bytes.specs.declared.node.Node.{Node}
use Rattle.layout_bytes.specs.declared.node.NodeKind.TheVariants.{Snapshot}
use Rattle.layout_bytes.specs.Bitmap.{is_set}
use Rattle.layout_bytes.specs.SnapshotName.{name_block}
use Rattle.lang_tree.specs.Tree.{Tree, Snapshots, Kept, kept_tree, HasSoundSnapshots}
use Rattle.lang_tree.specs.Conditions.{is_snapshot, least_unused}
use Rattle.crash_stands.specs.Files.{FileNode, files_of, file_of, used_node}
use Rattle.crash_stands.specs.Inodes.{Inode, IsInodeOf, thing_of}
use Rattle.crash_stands.specs.Kept.{kept_files}
use Rattle.crash_stands.specs.Sharing.{IsKeptBlock}
use Rattle.crash_stands.specs.Stands.{HasBlock, AreSound, HasNoSnapshots, KeepsTree, HoldsSnapshot, IsTreeOf}
use Rattle.crash_stands.proofs.OneMap.{everywhere, alike, one_tree, one_map, no_inode}
use Rattle.crash_stands.proofs.SoundTree.{is_sound}
use Rattle.crash_stands.proofs.UsedNodes.{used_within}

-- a block has one name
name_in : (a b : List ℕ) → name_block a ≡ name_block b → a ≡ b
name_in a b e =
    let long : length a ≡ length b = ap (λ xs. get_or xs 0 0) e in
    sym (take-append_seam a (replicate (1023 - length a) 0)) ∙ ap₂ take long (ap (drop 1) e) ∙ take-append_seam b (replicate (1023 - length b) 0)

-- a snapshot keeps one tree
pub keeps_one : (g : Geometry) (m : Blocks) (places : List ℕ) (k l : Kept) → KeepsTree g m places k → KeepsTree g m places l → (k.names ≡ l.names) × (k.nodes ≡ l.nodes)
keeps_one g m places k l x y =
    one_tree g.i x.inodes (kept_tree k) (kept_tree l) x.map (alike g.i y.inodes x.inodes (kept_tree l) (one_map g.layout (kept_files g m places) y.inodes x.inodes y.read x.read) y.map)

-- a number has one name, and one tree that is kept
held_once : (g : Geometry) (m : Blocks) (a b : List ℕ) (k l : Kept) → HoldsSnapshot g m a k → HoldsSnapshot g m b l → k.number ≡ l.number → (a ≡ b) × (k ≡ l)
held_once g m a b k l x y e =
    let node : x.node ≡ y.node = same_Some x.node y.node (sym x.is_node ∙ ap (used_node g m) e ∙ y.is_node) in
    let one = keeps_one g m (run_places x.node.runs) k l x.keeps (subst (λ (node : Node). KeepsTree g m (run_places node.runs) l) (sym node) y.keeps) in (
      name_in a b (sym x.named ∙ ap (λ (node : Node). m (get_or (run_places node.runs) 0 0)) node ∙ y.named),
      λ i. record { number = e i; names = one.0 i; nodes = one.1 i },
    )

-- blocks have the same snapshots for each tree that they stand for
has_too : (g : Geometry) (m : Blocks) (t u : Tree) → IsTreeOf g m t → IsTreeOf g m u → (name : List ℕ) (k : Kept) → get t.snapshots name ≡ Some k → get u.snapshots name ≡ Some k
has_too g m t u x y name k at =
    let held = x.keeps name k at in
    let its = y.each k.number held.node held.is_node held.kind in
    let same = held_once g m name its.0 k its.1 held (y.keeps its.0 its.1 its.2) (sym its.3) in
    ap (get u.snapshots) same.0 ∙ its.2 ∙ ap Some (sym same.1)

same_option : (a b : Option Kept) → ((k : Kept) → a ≡ Some k → b ≡ Some k) → ((k : Kept) → b ≡ Some k → a ≡ Some k) → a ≡ b
same_option (Some k) b there back = sym (there k refl)
same_option None None there back = refl
same_option None (Some k) there back = back k refl

pub same_snapshots : (g : Geometry) (m : Blocks) (t u : Tree) → IsTreeOf g m t → IsTreeOf g m u → t.snapshots ≡ u.snapshots
same_snapshots g m t u x y =
    same_map (lists_total nat_cmp_total) (slice_cmp-IsAntisymmetric nat_cmp-IsAntisymmetric) t.snapshots u.snapshots
    (λ name. same_option (get t.snapshots name) (get u.snapshots name) (has_too g m t u x y name) (has_too g m u t y x name))

-- Numbers.

-- a snapshot's number is no inode's
not_inode : (l : Layout) (file : FileNode) (o : Option Inode) → file.kind ≡ Snapshot → IsInodeOf l (Some file) o → o ≡ None
not_inode l file None is reads = refl
not_inode l file (Some x) is reads = absurd (none-some x (sym (no_inode l file is) ∙ reads))

module _ (g : Geometry) (m : Blocks) (t : Tree) (is : IsTreeOf g m t) where
  -- a node reads as what the tree has under its number
  reads_so : (n : ℕ) (o : Option Node) → used_node g m n ≡ o → IsInodeOf g.layout (option_map (file_of g.layout m) o) (is.inodes n)
  reads_so n o used = subst (λ (p : Option Node). IsInodeOf g.layout (option_map (file_of g.layout m) p) (is.inodes n)) used (is.read n)

  no_node : (n : ℕ) (node : Node) → used_node g m n ≡ Some node → node.kind ≡ Snapshot → get t.nodes n ≡ None
  no_node n node used kind = is.map.shows.nodes n ∙ ap (option_map thing_of) (not_inode g.layout (file_of g.layout m node) (is.inodes n) kind (reads_so n (Some node) used))

  pub sound_snapshots : HasSoundSnapshots g.i t
  sound_snapshots = record {
    within = λ name k at. let held = is.keeps name k at in used_within g m k.number held.node held.is_node;
    apart = λ name k at. let held = is.keeps name k at in no_node k.number held.node held.is_node held.kind;
    once = λ a b k l at_a at_b e. (held_once g m a b k l (is.keeps a k at_a) (is.keeps b l at_b) e).0;
    sound = λ name k at. let held = is.keeps name k at in is_sound g.i held.keeps.inodes (kept_tree k) held.keeps.map;
  }

  -- what the law of lang_tree says of numbers
  module _ (number : (s : Snapshots) (name : List ℕ) (k : Kept) → get s name ≡ Some k → is_snapshot s k.number ≡ true)
      (named : (s : Snapshots) (n : ℕ) → is_snapshot s n ≡ true → (name : List ℕ) × (k : Kept) × (get s name ≡ Some k) × (k.number ≡ n)) where
    -- a number out of use is no snapshot's
    no_snapshot : (n : ℕ) → used_node g m n ≡ None → is_snapshot t.snapshots n ≡ false
    no_snapshot n unused = by (cases_Bool (is_snapshot t.snapshots n))
      where
        by : (is_snapshot t.snapshots n ≡ true) ⊎ (is_snapshot t.snapshots n ≡ false) → is_snapshot t.snapshots n ≡ false
        by (inr e) = e
        by (inl e) =
            let its = named t.snapshots n e in
            let held = is.keeps its.0 its.1 its.2 in
            absurd (none-some held.node (sym unused ∙ ap (used_node g m) (sym its.3) ∙ held.is_node))

    in_use : (n : ℕ) (node : Node) (o : Option Inode) → used_node g m n ≡ Some node → is.inodes n ≡ o → IsInodeOf g.layout (Some (file_of g.layout m node)) o
        → (is_none (get t.nodes n) && not (is_snapshot t.snapshots n)) ≡ false
    in_use n node None used at kind =
        let its = is.each n node used kind in
        and_right (is_none (get t.nodes n)) (not (is_snapshot t.snapshots n)) (ap not (ap (is_snapshot t.snapshots) (sym its.3) ∙ number t.snapshots its.0 its.1 its.2))
    in_use n node (Some x) used at reads = ap (λ o. is_none o && not (is_snapshot t.snapshots n)) (is.map.shows.nodes n ∙ ap (option_map thing_of) at)

    pub unused : (n : ℕ) → is_none (files_of g m n) ≡ (is_none (get t.nodes n) && not (is_snapshot t.snapshots n))
    unused n = by (used_node g m n) refl
      where
        by : (o : Option Node) → used_node g m n ≡ o → is_none (option_map (file_of g.layout m) o) ≡ (is_none (get t.nodes n) && not (is_snapshot t.snapshots n))
        by None none =
            sym (ap₂ (λ a b. a && not b) (ap is_none (is.map.shows.nodes n ∙ ap (option_map thing_of) (reads_so n None none))) (no_snapshot n none))
        by (Some node) used = sym (in_use n node (is.inodes n) used refl (reads_so n (Some node) used))

    pub least : least_unused g.i t ≡ find (λ n. is_none (files_of g m n)) (range_with_len 1 g.i)
    unfolding least_unused
    least = ap (λ (test : ℕ → Bool). find test (range_with_len 1 g.i))
        (everywhere (λ n. is_none (get t.nodes n) && not (is_snapshot t.snapshots n)) (λ n. is_none (files_of g m n)) (λ n. sym (unused n)))

-- Without snapshots.

pub none_kept : (g : Geometry) (m : Blocks) → HasNoSnapshots g m → (b : ℕ) → IsKeptBlock g m b → ⊥
none_kept g m none b is = none is.snapshot is.node is.is_node is.kind

pub own_marks : (g : Geometry) (m : Blocks) → HasNoSnapshots g m → AreSound g m → (b : ℕ) → data_start g ≤ b → b < g.n → IsTrue (is_set g m b) ↔ ((k : ℕ) × (i : ℕ) × HasBlock g m k i b)
own_marks g m none s b from below = (λ set. own ((s.marked b from below).0 set), λ has. (s.marked b from below).1 (inl has))
  where
    own : ((k : ℕ) × (i : ℕ) × HasBlock g m k i b) ⊎ IsKeptBlock g m b → (k : ℕ) × (i : ℕ) × HasBlock g m k i b
    own (inl has) = has
    own (inr is) = absurd (none_kept g m none b is)

pub none_held : (g : Geometry) (m : Blocks) (t : Tree) → IsTreeOf g m t → t.snapshots ≡ empty → HasNoSnapshots g m
none_held g m t is none k node used kind =
    let its = is.each k node used kind in
    none-some its.1 (sym (ap (λ s. get s its.0) none ∙ get-empty _ its.0) ∙ its.2)
