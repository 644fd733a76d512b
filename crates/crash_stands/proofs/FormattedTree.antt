-- The blocks of a formatted disk stand for the tree of the root alone.
use Rattle.std.proofs.Common.{◌≡◌, ◌≢◌, ℕ, zero, suc, ◌*◌, ◌<◌, ◌≤◌, ◌&&◌, ◌||◌, true, false, true≢false, IsTrue, nat_lt, nat_le, if◌then◌else◌, [], length, take, drop, replicate, slice_get, Some, None, unwrap_or, option_map, sym, refl, subst, ap, ◌∙◌, ◌⊎◌, inl, inr, arith}
use Rattle.std.proofs.lemmas.Bool.{cases_Bool, cases_eq, and_parts, and_from, ltb-true, ltb-false, leb-true, lt-ltb, le-ltb, le-leb}
use Rattle.std.proofs.lemmas.Option.{none-some}
use Rattle.std.specs.Ordering.{nat_cmp}
use Rattle.std.specs.Cmp.Lexicographic.{slice_cmp}
use Rattle.std.specs.FinMap.{get-empty}
use Rattle.base_types.specs.Seal.{Blocks}
use Rattle.base_types.specs.Runs.{run_places}
use Rattle.base_types.specs.declared.layout.Layout.{Layout}
use Rattle.base_types.specs.Layouts.{slots_held}
use Rattle.base_types.specs.LayoutLaws.{no_directory, directory_count}
use Rattle.layout_geometry.specs.Geometry.{Geometry, IsGeometry, bitmap_start, bitmap_blocks, data_start}
use Rattle.layout_bytes.specs.declared.node.Node.{Node}
use Rattle.layout_bytes.specs.declared.node.NodeKind.TheVariants.{Snapshot}
use Rattle.layout_bytes.specs.Bytes.{when, are_zeros}
use Rattle.layout_bytes.specs.Bitmap.{is_set}
use Rattle.layout_bytes.specs.Node.{node_size, node_bytes, node_at}
use Rattle.layout_bytes.specs.Slot.{slots_in}
use Rattle.layout_journal.specs.Run.{is_live, live_part}
use Rattle.layout_journal.specs.Formatted.{formatted, empty_root}
use Rattle.lang_tree.specs.Step.{start}
use Rattle.crash_stands.specs.Bounds.{bounds_of}
use Rattle.crash_stands.specs.Files.{used_node, files_of, file_of, past_content}
use Rattle.crash_stands.specs.Inodes.{ADir, AreInodesOf, IsInodeOf, inode_of, root_alone}
use Rattle.crash_stands.specs.Sharing.{IsKeptBlock}
use Rattle.crash_stands.specs.Stands.{HasBlock, HasNoSnapshots, AreSound, IsTreeOf}
use Rattle.crash_stands.proofs.Root.{root_is_map}
use Rattle.crash_stands.proofs.Holding.{none_kept}
use Rattle.crash_stands.proofs.FormattedBlocks.{IsFormatted, bits, root_node, other_bytes, other_nodes}

-- no bytes hold no slot
none_held : (l : Layout) → slots_held l 0 ≡ 0
none_held l = ap (slots_held l) (sym (no_directory l)) ∙ directory_count l 0

-- the root has no bytes, and so it reads as a directory without slots
root_inode : (l : Layout) (m : Blocks) → inode_of l (file_of l m empty_root) ≡ Some (ADir [])
root_inode l m =
    ap (λ n. option_map ADir (slots_in l (slots_held l (length (take {A = ℕ} n []))) (take n []))) (no_directory l)
    ∙ ap (λ n. option_map ADir (slots_in l n [])) (none_held l)

root_tail : (l : Layout) (m : Blocks) → are_zeros (past_content l m empty_root) ≡ true
root_tail l m = ap (λ n. are_zeros (drop n [])) (no_directory l)

module _ (g : Geometry) (m : Blocks) (same : (b : ℕ) → bitmap_start g ≤ b → b < data_start g → m b ≡ formatted g b) (is : IsGeometry g) (law : IsFormatted g) where
  used_root : used_node g m 1 ≡ Some empty_root
  used_root = ap (λ b. when b (node_at g m 1)) (le-leb 1 g.i (omega (arith, is.least_nodes))) ∙ root_node g m same is law

  -- no other number is in use
  used_other : (k : ℕ) → 2 ≤ k → used_node g m k ≡ None
  used_other k low = by (cases_Bool (nat_le 1 k && nat_le k g.i))
    where
      by : ((nat_le 1 k && nat_le k g.i) ≡ true) ⊎ ((nat_le 1 k && nat_le k g.i) ≡ false) → used_node g m k ≡ None
      by (inl e) = ap (λ b. when b (node_at g m k)) e ∙ other_nodes g m same is law k low (leb-true _ _ (and_parts _ _ e).1)
      by (inr e) = ap (λ b. when b (node_at g m k)) e

  -- a node in use is the root
  used_is : (k : ℕ) (node : Node) → used_node g m k ≡ Some node → node ≡ empty_root
  used_is zero node e = absurd (none-some node e)
  used_is (suc zero) node e = ap (λ o. unwrap_or o node) (sym e ∙ used_root)
  used_is (suc (suc k)) node e = absurd (none-some node (sym (used_other (suc (suc k)) (omega arith)) ∙ e))

  -- no node has a block
  no_block : (k i b : ℕ) → HasBlock g m k i b → ⊥
  no_block k i b h = none-some b (subst (λ node. slice_get (run_places node.runs) i ≡ Some b) (used_is k h.node h.is_node) h.place)

  -- no node is a snapshot, and no snapshot keeps a block
  no_snapshot : HasNoSnapshots g m
  no_snapshot k node e kind = dir (ap (λ (n : Node). n.kind) (sym (used_is k node e)) ∙ kind)
    where
      dir : empty_root.kind ≡ Snapshot → ⊥
      dir e = cc

  nothing_at : (b : ℕ) → ((k : ℕ) × (i : ℕ) × HasBlock g m k i b) ⊎ IsKeptBlock g m b → ⊥
  nothing_at b (inl h) = no_block h.0 h.1 b h.2
  nothing_at b (inr is) = none_kept g m no_snapshot b is

  are_inodes : AreInodesOf g.layout (files_of g m) root_alone
  are_inodes zero = refl
  are_inodes (suc zero) = subst (λ file. IsInodeOf g.layout file (Some (ADir []))) (sym (ap (option_map (file_of g.layout m)) used_root)) (root_inode g.layout m)
  are_inodes (suc (suc k)) = subst (λ file. IsInodeOf g.layout file None) (sym (ap (option_map (file_of g.layout m)) (used_other (suc (suc k)) (omega arith)))) refl

  data_clear : (b : ℕ) → data_start g ≤ b → b < 8192 * bitmap_blocks g → is_set g m b ≡ false
  data_clear b low high = bits g m same is law b high ∙ le-ltb _ _ low

  -- a live block lies before the data
  live_within : (b : ℕ) → IsTrue (is_live g m b) → (bitmap_start g ≤ b) × (b < data_start g)
  live_within b live =
      let low = and_parts _ _ live in
      let high = and_parts _ _ low.1 in
      let from : bitmap_start g ≤ b = leb-true _ _ low.0 in
      let below : b < g.n = ltb-true _ _ high.0 in
      (from, by below high.1 (cases_Bool (nat_lt b (data_start g))))
    where
      by : b < g.n → (nat_lt b (data_start g) || is_set g m b) ≡ true → (nat_lt b (data_start g) ≡ true) ⊎ (nat_lt b (data_start g) ≡ false) → b < data_start g
      by below e (inl l) = ltb-true _ _ l
      by below e (inr l) = absurd (true≢false (sym e ∙ ap (λ x. x || is_set g m b) l ∙ data_clear b (ltb-false _ _ l) (omega (arith, below))))

  zeros_where_none : (k : ℕ) → 1 ≤ k → k ≤ g.i → node_at g m k ≡ None → node_bytes g m k ≡ replicate (node_size g.layout) 0
  zeros_where_none k low high none = by (cases_eq k 1)
    where
      by : (k ≡ 1) ⊎ (k ≢ 1) → node_bytes g m k ≡ replicate (node_size g.layout) 0
      by (inl e) = absurd (none-some empty_root (sym none ∙ ap (node_at g m) e ∙ root_node g m same is law))
      by (inr d) = other_bytes g m same is law k (omega (arith, low, d)) high

  sound : AreSound g m
  sound = record {
    whole = λ b live. let at = live_within b live in ap length (same b at.0 at.1) ∙ law.whole b;
    own = λ k l i j b h. absurd (no_block k i b h);
    fixed = λ b low. bits g m same is law b (omega (arith, low, is.data_room)) ∙ lt-ltb _ _ low;
    marked = λ b low high. (λ set. absurd (true≢false (sym set ∙ data_clear b low (omega (arith, high)))), λ has. absurd (nothing_at b has));
    past = λ b low high. data_clear b (omega (arith, is.data_room, low)) high;
    free = zeros_where_none;
    tail = λ k node e dir. subst (λ node. IsTrue (are_zeros (past_content g.layout m node))) (sym (used_is k node e)) (root_tail g.layout m);
    shared = λ k i b has is. absurd (no_block k i b has);
    kept = λ k node e kind. absurd (no_snapshot k node e kind);
  }

  -- and so they are the tree of the root
  pub root_stands : IsTreeOf g m (start (bounds_of g)).tree
  root_stands = record {
    inodes = root_alone;
    read = are_inodes;
    map = root_is_map (bounds_of g) (omega (arith, is.least_nodes));
    sound = sound;
    keeps = λ name k at. absurd (none-some k (sym (get-empty (slice_cmp nat_cmp) name) ∙ at));
    each = λ n node used kind. absurd (no_snapshot n node used kind);
  }

-- the live part of a formatted disk has its bitmap and its node table
live_there : (g : Geometry) → IsGeometry g → (b : ℕ) → bitmap_start g ≤ b → b < data_start g → live_part g (formatted g) b ≡ formatted g b
live_there g is b low high = ap (λ t. if t then formatted g b else []) live
  where
    live : is_live g (formatted g) b ≡ true
    live = and_from _ _ (le-leb _ _ low) (and_from _ _ (lt-ltb b g.n (omega (arith, high, is.data_room))) (ap (λ t. t || is_set g (formatted g) b) (lt-ltb _ _ high)))

pub live_blocks_stand : (g : Geometry) → IsGeometry g → IsFormatted g → IsTreeOf g (live_part g (formatted g)) (start (bounds_of g)).tree
live_blocks_stand g is law = root_stands g (live_part g (formatted g)) (live_there g is) is law
