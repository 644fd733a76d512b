-- Blocks that have a snapshot more stand for the tree with it.
use Rattle.std.proofs.Common.{◌≡◌, ◌≢◌, ◌↔◌, ◌⊎◌, inl, inr, ℕ, ◌+◌, ◌*◌, ◌<◌, ◌≤◌, ◌==◌, Bool, true, false, true≢false, cond, if◌then◌else◌, List, length, take, drop, replicate, slice_get, slice_index, get_or, Option, None, Some, option_map, refl, sym, ap, subst, ◌∙◌, arith}
use Rattle.std.proofs.lemmas.Bool.{le-leb, and_from, cases_Bool, cases_eq}
use Rattle.std.proofs.lemmas.Option.{none-some, same_Some, slice_get-get_or}
use Rattle.std.specs.Ordering.{nat_cmp, eq_by_cmp, is_eq}
use Rattle.std.specs.Cmp.{Equal-is, nat_cmp_total, tied_itself}
use Rattle.std.specs.Cmp.Lexicographic.{slice_cmp, lists_total}
use Rattle.std.specs.FinMap.{nat_cmp-IsAntisymmetric, slice_cmp-IsAntisymmetric, get, insert, get-insert}
use Rattle.base_types.specs.Seal.{Blocks}
use Rattle.base_types.specs.Runs.{run_places}
use Rattle.layout_geometry.specs.Geometry.{Geometry, IsGeometry, bitmap_blocks, data_start}
use Rattle.layout_bytes.specs.declared.node.Node.{Node}
use Rattle.layout_bytes.specs.declared.node.NodeKind.{NodeKind}
use Rattle.layout_bytes.specs.declared.node.NodeKind.TheVariants.{Dir, File, Snapshot}
use Rattle.layout_bytes.specs.Bitmap.{is_set}
use Rattle.layout_bytes.specs.Bytes.{are_zeros, when}
use Rattle.layout_bytes.specs.Node.{node_size, content_of, node_of, node_at, node_bytes}
use Rattle.layout_extent.specs.Renew.{IsAmong}
use Rattle.lang_tree.specs.Tree.{Tree, Kept}
use Rattle.crash_stands.specs.Files.{files_of, file_of, used_node, joined, past_content}
use Rattle.crash_stands.specs.Inodes.{Inode, IsInodeOf}
use Rattle.crash_stands.specs.Kept.{kept_nodes, HaveSameSnapshot}
use Rattle.crash_stands.specs.Places.{NodesInUse, table_blocks, kept_table, dirs_from, dir_part, places_by}
use Rattle.crash_stands.specs.Sharing.{HasKeptBlock, IsKeptBlock, IsSoundKept}
use Rattle.crash_stands.specs.Stands.{HasBlock, AreSound, KeepsTree, HoldsSnapshot, IsTreeOf}
use Rattle.crash_snapshots.specs.Adding.{AddsSnapshot}
use Rattle.crash_snapshots.specs.Kept.{is_snapshot}
use Rattle.crash_snapshots.proofs.Copies.{joined_copies, own_copies}
use Rattle.crash_snapshots.proofs.Nodes.{NodeLaws, plain_is, same_counts}
use Rattle.crash_snapshots.proofs.Snapshots.{nodes, bytes_kept}
use Rattle.crash_snapshots.proofs.Standing.{other_snapshots, made_of}

-- What crash_stands promises of snapshots whose blocks stay.
pub record KeptLaws : Type 0 where
  pub tree : (g : Geometry) (m n : Blocks) (places : List ℕ) (k : Kept) → IsGeometry g → HaveSameSnapshot g m n places → KeepsTree g m places k → KeepsTree g n places k
  pub sound : (g : Geometry) (m n : Blocks) (places : List ℕ) → IsGeometry g → HaveSameSnapshot g m n places → IsSoundKept g m places → IsSoundKept g n places
  pub blocks : (g : Geometry) (m n : Blocks) (places : List ℕ) → IsGeometry g → HaveSameSnapshot g m n places → (k i b : ℕ) → HasKeptBlock g n places k i b ↔ HasKeptBlock g m places k i b
  pub marked : (g : Geometry) (m n : Blocks) → AreSound g m → ((b : ℕ) → data_start g ≤ b → b < g.n → is_set g m b ≡ true → n b ≡ m b)
      → (k : ℕ) (node : Node) → used_node g m k ≡ Some node → node.kind ≡ Snapshot → HaveSameSnapshot g m n (run_places node.runs)

pub not_both : (t : Bool) → t ≡ true → t ≡ false → ⊥
not_both t set clear = true≢false (sym set ∙ clear)

plain_kind : (kind : NodeKind) → is_snapshot kind ≡ false → kind ≢ Snapshot
plain_kind kind is same = true≢false (sym (ap is_snapshot same) ∙ is)

module _ (laws : NodeLaws) (kept : KeptLaws) (g : Geometry) (fits : IsGeometry g) (old new : Blocks) (t : Tree) (n : ℕ) (name places : List ℕ) (is : IsTreeOf g old t)
    (fresh : get t.snapshots name ≡ None) (adds : AddsSnapshot g old new n name places) where
  -- The nodes: the new one, and the others as they were.

  not_new : (k : ℕ) (node : Node) → used_node g old k ≡ Some node → k ≢ n
  not_new k node used same = none-some node (sym adds.free ∙ sym (ap (used_node g old) same) ∙ used)

  used_here : (k : ℕ) (node : Node) → used_node g old k ≡ Some node → used_node g new k ≡ Some node
  used_here k node used = adds.others k (not_new k node used) ∙ used

  -- a node in use is the new one or one that was there
  either : (k : ℕ) (node : Node) → used_node g new k ≡ Some node → ((k ≡ n) × (node ≡ adds.node)) ⊎ (used_node g old k ≡ Some node)
  either k node used = by (cases_eq k n)
    where
      by : (k ≡ n) ⊎ (k ≢ n) → ((k ≡ n) × (node ≡ adds.node)) ⊎ (used_node g old k ≡ Some node)
      by (inl same) = inl (same, same_Some node adds.node (sym used ∙ ap (used_node g new) same ∙ adds.is_node))
      by (inr apart) = inr (sym (adds.others k apart) ∙ used)

  -- Their blocks.

  among : (node : Node) (i b : ℕ) → node ≡ adds.node → slice_get (run_places node.runs) i ≡ Some b → slice_get places i ≡ Some b
  among node i b same at = ap (λ ps. slice_get ps i) (sym adds.runs) ∙ sym (ap (λ (x : Node). slice_get (run_places x.runs) i) same) ∙ at

  -- a block is the new node's, or one of a node that was there
  whose : (k i b : ℕ) (h : HasBlock g new k i b) → ((k ≡ n) × (slice_get places i ≡ Some b)) ⊎ HasBlock g old k i b
  whose k i b h = by (either k h.node h.is_node)
    where
      by : ((k ≡ n) × (h.node ≡ adds.node)) ⊎ (used_node g old k ≡ Some h.node) → ((k ≡ n) × (slice_get places i ≡ Some b)) ⊎ HasBlock g old k i b
      by (inl one) = inl (one.0, among h.node i b one.1 h.place)
      by (inr used) = inr (record { node = h.node; is_node = used; place = h.place })

  block_here : (k i b : ℕ) → HasBlock g old k i b → HasBlock g new k i b
  block_here k i b h = record { node = h.node; is_node = used_here k h.node h.is_node; place = h.place }

  set_by : (k i b : ℕ) → HasBlock g old k i b → is_set g old b ≡ true
  set_by k i b h = let at = laws.within g old k h.node h.is_node i b h.place in (is.sound.marked b at.0 at.1).1 (inl (k, i, h))

  -- the new node's blocks were no node's
  never : (k i b : ℕ) → IsAmong places b → HasBlock g old k i b → ⊥
  never k i b mine h = not_both (is_set g old b) (set_by k i b h) (adds.unmarked b mine)

  stays : (k i b : ℕ) → HasBlock g old k i b → new b ≡ old b
  stays k i b h = let at = laws.within g old k h.node h.is_node i b h.place in adds.stays b at.0 at.1 (set_by k i b h)

  joined_stays : (k : ℕ) (node : Node) → used_node g old k ≡ Some node → joined new (run_places node.runs) ≡ joined old (run_places node.runs)
  joined_stays k node used =
      joined_copies old new (run_places node.runs) (run_places node.runs)
      (own_copies old new (run_places node.runs) (λ i b at. stays k i b (record { node = node; is_node = used; place = at })))

  -- What is read.

  nothing_there : is.inodes n ≡ None
  nothing_there = subst (λ (o : Option Node). IsInodeOf g.layout (option_map (file_of g.layout old) o) (is.inodes n)) adds.free (is.read n)

  reads : (k : ℕ) → IsInodeOf g.layout (files_of g new k) (is.inodes k)
  reads k = by (cases_eq k n)
    where
      other : (o : Option Node) → used_node g old k ≡ o → IsInodeOf g.layout (option_map (file_of g.layout old) o) (is.inodes k) → IsInodeOf g.layout (option_map (file_of g.layout new) o) (is.inodes k)
      other None none read = read
      other (Some node) used read =
          subst (λ (xs : List ℕ). IsInodeOf g.layout (Some (record { kind = node.kind; links = node.links; bytes = take (content_of g.layout node.kind node.size) xs })) (is.inodes k)) (sym (joined_stays k node used)) read

      by : (k ≡ n) ⊎ (k ≢ n) → IsInodeOf g.layout (files_of g new k) (is.inodes k)
      by (inl same) =
          subst (λ l. IsInodeOf g.layout (files_of g new l) (is.inodes l)) (sym same)
          (subst (λ (o : Option Node). IsInodeOf g.layout (option_map (file_of g.layout new) o) (is.inodes n)) (sym adds.is_node)
          (subst (λ (x : Option Inode). IsInodeOf g.layout (Some (file_of g.layout new adds.node)) x) (sym nothing_there) adds.kind))
      by (inr apart) =
          subst (λ (o : Option Node). IsInodeOf g.layout (option_map (file_of g.layout new) o) (is.inodes k)) (sym (adds.others k apart)) (other (used_node g old k) refl (is.read k))

  -- What the new snapshot keeps.

  kept_is : (k : ℕ) (node : Node) → kept_nodes g new places k ≡ Some node → (used_node g old k ≡ Some node) × (is_snapshot node.kind ≡ false)
  kept_is k node used = plain_is (used_node g old k) node (sym (ap (λ (ns : NodesInUse). ns k) (nodes laws g old new places adds.made)) ∙ used)

  kept_block : (k i b : ℕ) → HasKeptBlock g new places k i b → HasBlock g old k i b
  kept_block k i b h = record { node = h.node; is_node = (kept_is k h.node h.is_node).0; place = h.place }

  long : length places ≡ 1 + table_blocks g + dirs_from g.layout (kept_nodes g new places) 1 g.i
  long =
      adds.long ∙ ap (λ c. 1 + table_blocks g + c) (sym (same_counts g.layout (used_node g old) 1 g.i))
      ∙ ap (λ (ns : NodesInUse). 1 + table_blocks g + dirs_from g.layout ns 1 g.i) (sym (nodes laws g old new places adds.made))

  zeros_where_none : (k : ℕ) → 1 ≤ k → k ≤ g.i → kept_nodes g new places k ≡ None → node_bytes g (kept_table new places g) k ≡ replicate (node_size g.layout) 0
  zeros_where_none k from upto none = by (slice_index (node_bytes g old k) 0 == 3) refl
    where
      bytes : (b : Bool) → (slice_index (node_bytes g old k) 0 == 3) ≡ b → node_bytes g (kept_table new places g) k ≡ (if b then replicate (node_size g.layout) 0 else node_bytes g old k)
      bytes b e = adds.made.table k from upto ∙ ap (λ s. if s then replicate (node_size g.layout) 0 else node_bytes g old k) e

      here : node_at g (kept_table new places g) k ≡ None
      here = sym (ap (λ s. when s (node_at g (kept_table new places g) k)) (and_from _ _ (le-leb _ _ from) (le-leb _ _ upto))) ∙ none

      by : (b : Bool) → (slice_index (node_bytes g old k) 0 == 3) ≡ b → node_bytes g (kept_table new places g) k ≡ replicate (node_size g.layout) 0
      by true e = bytes true e
      by false e = bytes false e ∙ is.sound.free k from upto (sym (ap (node_of g) (bytes false e)) ∙ here)

  sound_new : IsSoundKept g new places
  sound_new = record {
    long = long;
    plain = λ k node used. plain_kind node.kind (kept_is k node used).1;
    once = λ k l i j b x y. is.sound.own k l i j b (kept_block k i b x) (kept_block l j b y);
    free = zeros_where_none;
    tail = λ k node used dir.
        let its = kept_is k node used in
        ap (λ (ns : NodesInUse). are_zeros (drop (content_of g.layout node.kind node.size) (joined new (places_by g.layout ns (dir_part g places) k node)))) (nodes laws g old new places adds.made)
        ∙ ap (λ (xs : List ℕ). are_zeros (drop (content_of g.layout node.kind node.size) xs)) (bytes_kept laws g old new places adds.made k node its.0 its.1)
        ∙ is.sound.tail k node its.0 dir;
  }

  -- The snapshots that were there.

  same_snapshot : (k : ℕ) (node : Node) → used_node g old k ≡ Some node → node.kind ≡ Snapshot → HaveSameSnapshot g old new (run_places node.runs)
  same_snapshot = kept.marked g old new is.sound adds.stays

  is_kept_here : (b : ℕ) → IsKeptBlock g old b → IsKeptBlock g new b
  is_kept_here b is = record {
    snapshot = is.snapshot;
    node = is.node;
    is_node = used_here is.snapshot is.node is.is_node;
    kind = is.kind;
    number = is.number;
    place = is.place;
    has = (kept.blocks g old new (run_places is.node.runs) fits (same_snapshot is.snapshot is.node is.is_node is.kind) is.number is.place b).1 is.has;
  }

  -- what is kept is a file's block that the new one keeps, or was kept
  keeper : (b : ℕ) → IsKeptBlock g new b → ((k : ℕ) × (i : ℕ) × (h : HasBlock g old k i b) × (h.node.kind ≡ File)) ⊎ IsKeptBlock g old b
  keeper b one = by (either one.snapshot one.node one.is_node)
    where
      file : (h : HasKeptBlock g new places one.number one.place b) → (k : ℕ) × (i : ℕ) × (h : HasBlock g old k i b) × (h.node.kind ≡ File)
      file h = (one.number, one.place, record { node = h.node; is_node = (kept_is one.number h.node h.is_node).0; place = h.place }, h.kind)

      by : ((one.snapshot ≡ n) × (one.node ≡ adds.node)) ⊎ (used_node g old one.snapshot ≡ Some one.node)
          → ((k : ℕ) × (i : ℕ) × (h : HasBlock g old k i b) × (h.node.kind ≡ File)) ⊎ IsKeptBlock g old b
      by (inl mine) = inl (file (subst (λ ps. HasKeptBlock g new ps one.number one.place b) (ap (λ (x : Node). run_places x.runs) mine.1 ∙ adds.runs) one.has))
      by (inr used) = inr (record {
        snapshot = one.snapshot;
        node = one.node;
        is_node = used;
        kind = one.kind;
        number = one.number;
        place = one.place;
        has = (kept.blocks g old new (run_places one.node.runs) fits (same_snapshot one.snapshot one.node used one.kind) one.number one.place b).0 one.has;
      })

  -- Soundness.

  own : (k l i j b : ℕ) → ((k ≡ n) × (slice_get places i ≡ Some b)) ⊎ HasBlock g old k i b → ((l ≡ n) × (slice_get places j ≡ Some b)) ⊎ HasBlock g old l j b → (k ≡ l) × (i ≡ j)
  own k l i j b (inl x) (inl y) = (x.0 ∙ sym y.0, adds.once i j b x.1 y.1)
  own k l i j b (inl x) (inr y) = absurd (never l j b (i, x.1) y)
  own k l i j b (inr x) (inl y) = absurd (never k i b (j, y.1) x)
  own k l i j b (inr x) (inr y) = is.sound.own k l i j b x y

  marks_from : (b : ℕ) → data_start g ≤ b → b < g.n → (is_set g old b ≡ true) ⊎ IsAmong places b → ((k : ℕ) × (i : ℕ) × HasBlock g new k i b) ⊎ IsKeptBlock g new b
  marks_from b from below (inr mine) =
      inl (n, mine.0, record { node = adds.node; is_node = adds.is_node; place = ap (λ ps. slice_get ps mine.0) adds.runs ∙ mine.1 })
  marks_from b from below (inl set) = by ((is.sound.marked b from below).0 set)
    where
      by : ((k : ℕ) × (i : ℕ) × HasBlock g old k i b) ⊎ IsKeptBlock g old b → ((k : ℕ) × (i : ℕ) × HasBlock g new k i b) ⊎ IsKeptBlock g new b
      by (inl h) = inl (h.0, h.1, block_here h.0 h.1 b h.2)
      by (inr one) = inr (is_kept_here b one)

  set_old : (b : ℕ) → data_start g ≤ b → b < g.n → ((k : ℕ) × (i : ℕ) × (h : HasBlock g old k i b) × (h.node.kind ≡ File)) ⊎ IsKeptBlock g old b → is_set g old b ≡ true
  set_old b from below (inl h) = set_by h.0 h.1 b h.2
  set_old b from below (inr one) = (is.sound.marked b from below).1 (inr one)

  marks_to : (b : ℕ) → data_start g ≤ b → b < g.n → ((k : ℕ) × (i : ℕ) × HasBlock g new k i b) ⊎ IsKeptBlock g new b → (is_set g old b ≡ true) ⊎ IsAmong places b
  marks_to b from below (inr one) = inl (set_old b from below (keeper b one))
  marks_to b from below (inl h) = by (whose h.0 h.1 b h.2)
    where
      by : ((h.0 ≡ n) × (slice_get places h.1 ≡ Some b)) ⊎ HasBlock g old h.0 h.1 b → (is_set g old b ≡ true) ⊎ IsAmong places b
      by (inl mine) = inr (h.1, mine.1)
      by (inr there) = inl (set_by h.0 h.1 b there)

  past : (b : ℕ) → g.n ≤ b → b < 8192 * bitmap_blocks g → is_set g new b ≡ false
  past b from below = by (cases_Bool (is_set g new b))
    where
      out : (is_set g old b ≡ true) ⊎ IsAmong places b → is_set g new b ≡ false
      out (inl set) = absurd (not_both (is_set g old b) set (is.sound.past b from below))
      out (inr mine) =
          let at = laws.within g new n adds.node adds.is_node mine.0 b (ap (λ ps. slice_get ps mine.0) adds.runs ∙ mine.1) in
          absurd (omega (arith, at.1, from))

      by : (is_set g new b ≡ true) ⊎ (is_set g new b ≡ false) → is_set g new b ≡ false
      by (inl set) = out ((adds.bits b below).0 set)
      by (inr clear) = clear

  shared : (b : ℕ) (k i : ℕ) (h : HasBlock g new k i b) → ((l : ℕ) × (j : ℕ) × (x : HasBlock g old l j b) × (x.node.kind ≡ File)) ⊎ IsKeptBlock g old b → h.node.kind ≡ File
  shared b k i h one = by (either k h.node h.is_node) one
    where
      by : ((k ≡ n) × (h.node ≡ adds.node)) ⊎ (used_node g old k ≡ Some h.node) → ((l : ℕ) × (j : ℕ) × (x : HasBlock g old l j b) × (x.node.kind ≡ File)) ⊎ IsKeptBlock g old b → h.node.kind ≡ File
      by (inl mine) one =
          let at = laws.within g new k h.node h.is_node i b h.place in
          absurd (not_both (is_set g old b) (set_old b at.0 at.1 one) (adds.unmarked b (i, among h.node i b mine.1 h.place)))
      by (inr used) (inl file) =
          let same = is.sound.own k file.0 i file.1 b (record { node = h.node; is_node = used; place = h.place }) file.2 in
          ap (λ (x : Node). x.kind) (same_Some h.node file.2.node (sym used ∙ ap (used_node g old) same.0 ∙ file.2.is_node)) ∙ file.3
      by (inr used) (inr one) = is.sound.shared k i b (record { node = h.node; is_node = used; place = h.place }) one

  tail : (k : ℕ) (node : Node) → ((k ≡ n) × (node ≡ adds.node)) ⊎ (used_node g old k ≡ Some node) → node.kind ≡ Dir → are_zeros (past_content g.layout new node) ≡ true
  tail k node (inl mine) dir = absurd (no_dir (sym adds.kind ∙ ap (λ (x : Node). x.kind) (sym mine.1) ∙ dir))
    where
      no_dir : Snapshot ≡ Dir → ⊥
      no_dir e = cc
  tail k node (inr used) dir = ap (λ (xs : List ℕ). are_zeros (drop (content_of g.layout node.kind node.size) xs)) (joined_stays k node used) ∙ is.sound.tail k node used dir

  sound_kept : (k : ℕ) (node : Node) → ((k ≡ n) × (node ≡ adds.node)) ⊎ (used_node g old k ≡ Some node) → node.kind ≡ Snapshot → IsSoundKept g new (run_places node.runs)
  sound_kept k node (inl mine) kind = subst (λ ps. IsSoundKept g new ps) (sym (ap (λ (x : Node). run_places x.runs) mine.1 ∙ adds.runs)) sound_new
  sound_kept k node (inr used) kind = kept.sound g old new (run_places node.runs) fits (same_snapshot k node used kind) (is.sound.kept k node used kind)

  sound : AreSound g new
  sound = record {
    whole = adds.whole;
    own = λ k l i j b x y. own k l i j b (whose k i b x) (whose l j b y);
    fixed = λ b below. (adds.bits b (omega (arith, below, fits.data_room))).1 (inl (is.sound.fixed b below));
    marked = λ b from below. (
      λ set. marks_from b from below ((adds.bits b (omega (arith, below))).0 set),
      λ has. (adds.bits b (omega (arith, below))).1 (marks_to b from below has),
    );
    past = past;
    free = adds.bare;
    tail = λ k node used dir. tail k node (either k node used) dir;
    shared = λ k i b h one. shared b k i h (keeper b one);
    kept = λ k node used kind. sound_kept k node (either k node used) kind;
  }

  -- The tree.

  its : Kept
  its = record { number = n; names = t.names; nodes = t.nodes }

  -- what the map of snapshots has now
  now : (a : List ℕ) → ((a ≡ name) × (get (insert t.snapshots name its) a ≡ Some its)) ⊎ ((a ≢ name) × (get (insert t.snapshots name its) a ≡ get t.snapshots a))
  now a = by (eq_by_cmp (slice_cmp nat_cmp) a name) refl
    where
      there : get (insert t.snapshots name its) a ≡ cond (eq_by_cmp (slice_cmp nat_cmp) a name) (Some its) (get t.snapshots a)
      there = get-insert (lists_total nat_cmp_total) t.snapshots name its a

      apart : eq_by_cmp (slice_cmp nat_cmp) a name ≡ false → a ≢ name
      apart e same = true≢false (sym (ap is_eq (tied_itself (lists_total nat_cmp_total) name)) ∙ sym (ap (λ x. eq_by_cmp (slice_cmp nat_cmp) x name) same) ∙ e)

      by : (b : Bool) → eq_by_cmp (slice_cmp nat_cmp) a name ≡ b
          → ((a ≡ name) × (get (insert t.snapshots name its) a ≡ Some its)) ⊎ ((a ≢ name) × (get (insert t.snapshots name its) a ≡ get t.snapshots a))
      by true e = inl (slice_cmp-IsAntisymmetric nat_cmp-IsAntisymmetric a name ((Equal-is (slice_cmp nat_cmp a name)).0 e), there ∙ ap (λ b. cond b (Some its) (get t.snapshots a)) e)
      by false e = inr (apart e, there ∙ ap (λ b. cond b (Some its) (get t.snapshots a)) e)

  held_new : HoldsSnapshot g new name its
  unfolding its
  held_new = record {
    node = adds.node;
    is_node = adds.is_node;
    kind = adds.kind;
    links = adds.links;
    size = adds.size ∙ ap (λ (ps : List ℕ). 1024 * length ps) (sym adds.runs);
    lawful = adds.lawful;
    named = ap (λ ps. new (get_or ps 0 0)) adds.runs ∙ adds.named;
    keeps = subst (λ ps. KeepsTree g new ps its) (sym adds.runs) (made_of laws g old new places t n is adds.made);
  }

  held_old : (a : List ℕ) (k : Kept) → HoldsSnapshot g old a k → HoldsSnapshot g new a k
  held_old a k h =
      let alike = same_snapshot k.number h.node h.is_node h.kind in
      record {
        node = h.node;
        is_node = used_here k.number h.node h.is_node;
        kind = h.kind;
        links = h.links;
        size = h.size;
        lawful = h.lawful;
        named = alike.own 0 (get_or (run_places h.node.runs) 0 0) (slice_get-get_or (run_places h.node.runs) 0 0 (omega (arith, alike.long))) ∙ h.named;
        keeps = kept.tree g old new (run_places h.node.runs) k fits alike h.keeps;
      }

  holds : (a : List ℕ) (k : Kept) → get (insert t.snapshots name its) a ≡ Some k → HoldsSnapshot g new a k
  holds a k at = by (now a)
    where
      by : ((a ≡ name) × (get (insert t.snapshots name its) a ≡ Some its)) ⊎ ((a ≢ name) × (get (insert t.snapshots name its) a ≡ get t.snapshots a)) → HoldsSnapshot g new a k
      by (inl mine) =
          subst (λ x. HoldsSnapshot g new x k) (sym mine.0) (subst (λ l. HoldsSnapshot g new name l) (same_Some its k (sym mine.1 ∙ at)) held_new)
      by (inr other) = held_old a k (is.keeps a k (sym other.1 ∙ at))

  named : (m : ℕ) (node : Node) → used_node g new m ≡ Some node → node.kind ≡ Snapshot → (a : List ℕ) × (k : Kept) × (get (insert t.snapshots name its) a ≡ Some k) × (k.number ≡ m)
  unfolding its
  named m node used kind = by (either m node used)
    where
      mine : (m ≡ n) → ((name ≡ name) × (get (insert t.snapshots name its) name ≡ Some its)) ⊎ ((name ≢ name) × (get (insert t.snapshots name its) name ≡ get t.snapshots name))
          → (a : List ℕ) × (k : Kept) × (get (insert t.snapshots name its) a ≡ Some k) × (k.number ≡ m)
      mine same (inl one) = (name, its, one.1, sym same)
      mine same (inr other) = absurd (other.0 refl)

      there : (a : List ℕ) (k : Kept) → get t.snapshots a ≡ Some k → k.number ≡ m
          → ((a ≡ name) × (get (insert t.snapshots name its) a ≡ Some its)) ⊎ ((a ≢ name) × (get (insert t.snapshots name its) a ≡ get t.snapshots a))
          → (a : List ℕ) × (k : Kept) × (get (insert t.snapshots name its) a ≡ Some k) × (k.number ≡ m)
      there a k at number (inl one) = absurd (none-some k (sym fresh ∙ ap (get t.snapshots) (sym one.0) ∙ at))
      there a k at number (inr other) = (a, k, other.1 ∙ at, number)

      by : ((m ≡ n) × (node ≡ adds.node)) ⊎ (used_node g old m ≡ Some node) → (a : List ℕ) × (k : Kept) × (get (insert t.snapshots name its) a ≡ Some k) × (k.number ≡ m)
      by (inl one) = mine one.0 (now name)
      by (inr used) = let one = is.each m node used kind in there one.0 one.1 one.2 one.3 (now one.0)

  pub stands : IsTreeOf g new (record t { snapshots = insert t.snapshots name (record { number = n; names = t.names; nodes = t.nodes }) })
  unfolding its
  stands = record {
    inodes = is.inodes;
    read = reads;
    map = other_snapshots g.i is.inodes t (insert t.snapshots name its) is.map;
    sound = sound;
    keeps = holds;
    each = named;
  }
