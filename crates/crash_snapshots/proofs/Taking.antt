-- Blocks that have a snapshot less stand for the tree without it.
use Rattle.std.proofs.Common.{◌≡◌, ◌≢◌, ◌⊎◌, inl, inr, ℕ, ◌*◌, ◌<◌, ◌≤◌, Bool, true, false, true≢false, cond, List, take, drop, slice_get, get_or, Option, None, Some, option_map, refl, sym, ap, subst, ◌∙◌, arith}
use Rattle.std.proofs.lemmas.Bool.{cases_Bool, cases_eq}
use Rattle.std.proofs.lemmas.Option.{none-some, same_Some, slice_get-get_or}
use Rattle.std.specs.Ordering.{nat_cmp, eq_by_cmp, is_eq}
use Rattle.std.specs.Cmp.{Equal-is, nat_cmp_total, tied_itself}
use Rattle.std.specs.Cmp.Lexicographic.{slice_cmp, lists_total}
use Rattle.std.specs.FinMap.{nat_cmp-IsAntisymmetric, slice_cmp-IsAntisymmetric, get, remove, get-remove}
use Rattle.base_types.specs.Seal.{Blocks}
use Rattle.base_types.specs.Runs.{run_places}
use Rattle.layout_geometry.specs.Geometry.{Geometry, IsGeometry, bitmap_blocks, data_start}
use Rattle.layout_bytes.specs.declared.node.Node.{Node}
use Rattle.layout_bytes.specs.declared.node.NodeKind.TheVariants.{Snapshot}
use Rattle.layout_bytes.specs.Bitmap.{is_set}
use Rattle.layout_bytes.specs.Bytes.{are_zeros}
use Rattle.layout_bytes.specs.Node.{content_of}
use Rattle.lang_tree.specs.Tree.{Tree, Kept, HasSoundSnapshots}
use Rattle.crash_stands.specs.Files.{files_of, file_of, used_node, joined}
use Rattle.crash_stands.specs.Inodes.{Inode, IsInodeOf, inode_by}
use Rattle.crash_stands.specs.Kept.{kept_nodes, HaveSameSnapshot}
use Rattle.crash_stands.specs.Places.{is_copied, kept_table}
use Rattle.crash_stands.specs.Sharing.{HasKeptBlock, IsKeptBlock}
use Rattle.crash_stands.specs.Stands.{HasBlock, AreSound, HoldsSnapshot, IsTreeOf}
use Rattle.crash_snapshots.specs.Kept.{is_snapshot}
use Rattle.crash_snapshots.specs.Taking.{IsElsewhere, TakesSnapshot}
use Rattle.crash_snapshots.proofs.Adding.{KeptLaws, not_both}
use Rattle.crash_snapshots.proofs.Copies.{joined_copies, own_copies}
use Rattle.crash_snapshots.proofs.Nodes.{NodeLaws, file_kind, snapshot_is}
use Rattle.crash_snapshots.proofs.Standing.{other_snapshots}

module _ (laws : NodeLaws) (kept : KeptLaws) (g : Geometry) (fits : IsGeometry g) (old new : Blocks) (t : Tree) (name : List ℕ) (its : Kept) (is : IsTreeOf g old t)
    (at_name : get t.snapshots name ≡ Some its) (ok : HasSoundSnapshots g.i t) (takes : TakesSnapshot g old new its.number) where
  -- The nodes: one is gone, and the others are as they were.

  used_gone : (k : ℕ) → k ≡ its.number → used_node g new k ≡ None
  used_gone k same = ap (used_node g new) same ∙ takes.gone

  left : (k : ℕ) (node : Node) → used_node g new k ≡ Some node → (k ≢ its.number) × (used_node g old k ≡ Some node)
  left k node used = by (cases_eq k its.number)
    where
      by : (k ≡ its.number) ⊎ (k ≢ its.number) → (k ≢ its.number) × (used_node g old k ≡ Some node)
      by (inl same) = absurd (none-some node (sym (used_gone k same) ∙ used))
      by (inr apart) = (apart, sym (takes.others k apart) ∙ used)

  -- Their blocks.

  block_there : (k i b : ℕ) → HasBlock g new k i b → HasBlock g old k i b
  block_there k i b h = record { node = h.node; is_node = (left k h.node h.is_node).1; place = h.place }

  block_here : (k i b : ℕ) → k ≢ its.number → HasBlock g old k i b → HasBlock g new k i b
  block_here k i b apart h = record { node = h.node; is_node = takes.others k apart ∙ h.is_node; place = h.place }

  -- what is elsewhere is still marked, and as it was
  set_still : (b : ℕ) → data_start g ≤ b → b < g.n → IsElsewhere g old its.number b → is_set g new b ≡ true
  set_still b from below there = (takes.bits b (omega (arith, below))).1 (was there, inr there)
    where
      was : IsElsewhere g old its.number b → is_set g old b ≡ true
      was (inl h) = (is.sound.marked b from below).1 (inl (h.0, h.1, h.2))
      was (inr one) = (is.sound.marked b from below).1 (inr one.0)

  node_stays : (k : ℕ) (node : Node) → k ≢ its.number → used_node g old k ≡ Some node → (i b : ℕ) → slice_get (run_places node.runs) i ≡ Some b → new b ≡ old b
  node_stays k node apart used i b at =
      let within = laws.within g old k node used i b at in
      takes.stays b within.0 within.1 (set_still b within.0 within.1 (inl (k, i, record { node = node; is_node = used; place = at }, apart)))

  joined_stays : (k : ℕ) (node : Node) → k ≢ its.number → used_node g old k ≡ Some node → joined new (run_places node.runs) ≡ joined old (run_places node.runs)
  joined_stays k node apart used =
      joined_copies old new (run_places node.runs) (run_places node.runs) (own_copies old new (run_places node.runs) (node_stays k node apart used))

  -- The other snapshots.

  kept_stays : (k : ℕ) (node : Node) → k ≢ its.number → used_node g old k ≡ Some node → node.kind ≡ Snapshot → (l i b : ℕ) (file : Node) → kept_nodes g old (run_places node.runs) l ≡ Some file
      → is_copied file.kind ≡ false → slice_get (run_places file.runs) i ≡ Some b → new b ≡ old b
  kept_stays k node apart used kind l i b file is_file own at =
      let table = kept_table old (run_places node.runs) g in
      let within = laws.within g table l file is_file i b at in
      let plain = (is.sound.kept k node used kind).plain l file is_file in
      let has : HasKeptBlock g old (run_places node.runs) l i b = record {
        node = file;
        is_node = is_file;
        kind = file_kind file.kind (laws.kind g table l file is_file) own (no_snapshot plain (cases_Bool (is_snapshot file.kind)));
        place = at;
      } in
      takes.stays b within.0 within.1
      (set_still b within.0 within.1 (inr (record { snapshot = k; node = node; is_node = used; kind = kind; number = l; place = i; has = has }, apart)))
    where
      no_snapshot : file.kind ≢ Snapshot → (is_snapshot file.kind ≡ true) ⊎ (is_snapshot file.kind ≡ false) → is_snapshot file.kind ≡ false
      no_snapshot plain (inl one) = absurd (plain (snapshot_is file.kind one))
      no_snapshot plain (inr none) = none

  same_snapshot : (k : ℕ) (node : Node) → k ≢ its.number → used_node g old k ≡ Some node → node.kind ≡ Snapshot → HaveSameSnapshot g old new (run_places node.runs)
  same_snapshot k node apart used kind = record {
    long = let long = (is.sound.kept k node used kind).long in omega (arith, long);
    own = node_stays k node apart used;
    files = λ l i b file is_file own at. kept_stays k node apart used kind l i b file is_file own at;
  }

  kept_there : (b : ℕ) → IsKeptBlock g new b → (one : IsKeptBlock g old b) × (one.snapshot ≢ its.number)
  kept_there b one =
      let was = left one.snapshot one.node one.is_node in
      let alike = same_snapshot one.snapshot one.node was.0 was.1 one.kind in (
        record {
          snapshot = one.snapshot;
          node = one.node;
          is_node = was.1;
          kind = one.kind;
          number = one.number;
          place = one.place;
          has = (kept.blocks g old new (run_places one.node.runs) fits alike one.number one.place b).0 one.has;
        },
        was.0,
      )

  kept_here : (b : ℕ) (one : IsKeptBlock g old b) → one.snapshot ≢ its.number → IsKeptBlock g new b
  kept_here b one apart =
      let alike = same_snapshot one.snapshot one.node apart one.is_node one.kind in
      record {
        snapshot = one.snapshot;
        node = one.node;
        is_node = takes.others one.snapshot apart ∙ one.is_node;
        kind = one.kind;
        number = one.number;
        place = one.place;
        has = (kept.blocks g old new (run_places one.node.runs) fits alike one.number one.place b).1 one.has;
      }

  -- What is read.

  number_free : is.inodes its.number ≡ None
  number_free = by (is.inodes its.number) (subst (λ (o : Option Node). IsInodeOf g.layout (option_map (file_of g.layout old) o) (is.inodes its.number)) takes.is_node (is.read its.number))
    where
      by : (x : Option Inode) → IsInodeOf g.layout (Some (file_of g.layout old takes.node)) x → x ≡ None
      by None reads = refl
      by (Some x) reads =
          let file = file_of g.layout old takes.node in
          absurd (none-some x (sym (ap (λ kind. inode_by g.layout kind file.links file.bytes) takes.kind) ∙ reads))

  reads : (k : ℕ) → IsInodeOf g.layout (files_of g new k) (is.inodes k)
  reads k = by (cases_eq k its.number)
    where
      other : k ≢ its.number → (o : Option Node) → used_node g old k ≡ o → IsInodeOf g.layout (option_map (file_of g.layout old) o) (is.inodes k) → IsInodeOf g.layout (option_map (file_of g.layout new) o) (is.inodes k)
      other apart None none read = read
      other apart (Some node) used read =
          subst (λ (xs : List ℕ). IsInodeOf g.layout (Some (record { kind = node.kind; links = node.links; bytes = take (content_of g.layout node.kind node.size) xs })) (is.inodes k)) (sym (joined_stays k node apart used)) read

      by : (k ≡ its.number) ⊎ (k ≢ its.number) → IsInodeOf g.layout (files_of g new k) (is.inodes k)
      by (inl same) =
          subst (λ (o : Option Node). IsInodeOf g.layout (option_map (file_of g.layout new) o) (is.inodes k)) (sym (used_gone k same)) (ap is.inodes same ∙ number_free)
      by (inr apart) =
          subst (λ (o : Option Node). IsInodeOf g.layout (option_map (file_of g.layout new) o) (is.inodes k)) (sym (takes.others k apart)) (other apart (used_node g old k) refl (is.read k))

  -- Soundness.

  here : (b : ℕ) → data_start g ≤ b → (b < data_start g) ⊎ IsElsewhere g old its.number b → ((k : ℕ) × (i : ℕ) × HasBlock g new k i b) ⊎ IsKeptBlock g new b
  here b from (inl low) = absurd (omega (arith, from, low))
  here b from (inr (inl h)) = inl (h.0, h.1, block_here h.0 h.1 b h.3 h.2)
  here b from (inr (inr one)) = inr (kept_here b one.0 one.1)

  elsewhere : (b : ℕ) → ((k : ℕ) × (i : ℕ) × HasBlock g new k i b) ⊎ IsKeptBlock g new b → IsElsewhere g old its.number b
  elsewhere b (inl h) = inl (h.0, h.1, block_there h.0 h.1 b h.2, (left h.0 h.2.node h.2.is_node).0)
  elsewhere b (inr one) = inr (kept_there b one)

  past : (b : ℕ) → g.n ≤ b → b < 8192 * bitmap_blocks g → is_set g new b ≡ false
  past b from below = by (cases_Bool (is_set g new b))
    where
      by : (is_set g new b ≡ true) ⊎ (is_set g new b ≡ false) → is_set g new b ≡ false
      by (inl set) = absurd (not_both (is_set g old b) ((takes.bits b below).0 set).0 (is.sound.past b from below))
      by (inr clear) = clear

  sound : AreSound g new
  unfolding block_there
  sound = record {
    whole = takes.whole;
    own = λ k l i j b x y. is.sound.own k l i j b (block_there k i b x) (block_there l j b y);
    fixed = λ b below. (takes.bits b (omega (arith, below, fits.data_room))).1 (is.sound.fixed b below, inl below);
    marked = λ b from below. (
      λ set. here b from ((takes.bits b (omega (arith, below))).0 set).1,
      λ has. set_still b from below (elsewhere b has),
    );
    past = past;
    free = takes.bare;
    tail = λ k node used dir.
        let was = left k node used in
        ap (λ (xs : List ℕ). are_zeros (drop (content_of g.layout node.kind node.size) xs)) (joined_stays k node was.0 was.1) ∙ is.sound.tail k node was.1 dir;
    shared = λ k i b h one. is.sound.shared k i b (block_there k i b h) (kept_there b one).0;
    kept = λ k node used kind.
        let was = left k node used in
        kept.sound g old new (run_places node.runs) fits (same_snapshot k node was.0 was.1 kind) (is.sound.kept k node was.1 kind);
  }

  -- The tree.

  -- what the map of snapshots has now
  now : (a : List ℕ) → (get (remove t.snapshots name) a ≡ None) ⊎ ((a ≢ name) × (get (remove t.snapshots name) a ≡ get t.snapshots a))
  now a = by (eq_by_cmp (slice_cmp nat_cmp) a name) refl
    where
      there : get (remove t.snapshots name) a ≡ cond (eq_by_cmp (slice_cmp nat_cmp) a name) None (get t.snapshots a)
      there = get-remove (lists_total nat_cmp_total) t.snapshots name a

      apart : eq_by_cmp (slice_cmp nat_cmp) a name ≡ false → a ≢ name
      apart e same = true≢false (sym (ap is_eq (tied_itself (lists_total nat_cmp_total) name)) ∙ sym (ap (λ x. eq_by_cmp (slice_cmp nat_cmp) x name) same) ∙ e)

      by : (b : Bool) → eq_by_cmp (slice_cmp nat_cmp) a name ≡ b → (get (remove t.snapshots name) a ≡ None) ⊎ ((a ≢ name) × (get (remove t.snapshots name) a ≡ get t.snapshots a))
      by true e = inl (there ∙ ap (λ b. cond b None (get t.snapshots a)) e)
      by false e = inr (apart e, there ∙ ap (λ b. cond b None (get t.snapshots a)) e)

  -- what is there under a name that isn't this one has another number
  apart_from : (a : List ℕ) (k : Kept) → a ≢ name → get t.snapshots a ≡ Some k → k.number ≢ its.number
  apart_from a k apart at same = apart (ok.once a name k its at at_name same)

  held_still : (a : List ℕ) (k : Kept) → k.number ≢ its.number → HoldsSnapshot g old a k → HoldsSnapshot g new a k
  held_still a k apart h =
      let alike = same_snapshot k.number h.node apart h.is_node h.kind in
      record {
        node = h.node;
        is_node = takes.others k.number apart ∙ h.is_node;
        kind = h.kind;
        links = h.links;
        size = h.size;
        lawful = h.lawful;
        named = alike.own 0 (get_or (run_places h.node.runs) 0 0) (slice_get-get_or (run_places h.node.runs) 0 0 (omega (arith, alike.long))) ∙ h.named;
        keeps = kept.tree g old new (run_places h.node.runs) k fits alike h.keeps;
      }

  holds : (a : List ℕ) (k : Kept) → get (remove t.snapshots name) a ≡ Some k → HoldsSnapshot g new a k
  holds a k at = by (now a)
    where
      by : (get (remove t.snapshots name) a ≡ None) ⊎ ((a ≢ name) × (get (remove t.snapshots name) a ≡ get t.snapshots a)) → HoldsSnapshot g new a k
      by (inl none) = absurd (none-some k (sym none ∙ at))
      by (inr other) = let was = sym other.1 ∙ at in held_still a k (apart_from a k other.0 was) (is.keeps a k was)

  named : (m : ℕ) (node : Node) → used_node g new m ≡ Some node → node.kind ≡ Snapshot → (a : List ℕ) × (k : Kept) × (get (remove t.snapshots name) a ≡ Some k) × (k.number ≡ m)
  named m node used kind =
      let was = left m node used in
      let one = is.each m node was.1 kind in
      by was.0 one.0 one.1 one.2 one.3 (eq_by_cmp (slice_cmp nat_cmp) one.0 name) refl
    where
      by : m ≢ its.number → (a : List ℕ) (k : Kept) → get t.snapshots a ≡ Some k → k.number ≡ m → (b : Bool) → eq_by_cmp (slice_cmp nat_cmp) a name ≡ b
          → (a : List ℕ) × (k : Kept) × (get (remove t.snapshots name) a ≡ Some k) × (k.number ≡ m)
      by apart a k at number true e =
          let same : a ≡ name = slice_cmp-IsAntisymmetric nat_cmp-IsAntisymmetric a name ((Equal-is (slice_cmp nat_cmp a name)).0 e) in
          absurd (apart (sym number ∙ ap (λ (x : Kept). x.number) (same_Some k its (sym at ∙ ap (get t.snapshots) same ∙ at_name))))
      by apart a k at number false e =
          (a, k, get-remove (lists_total nat_cmp_total) t.snapshots name a ∙ ap (λ b. cond b None (get t.snapshots a)) e ∙ at, number)

  pub stands_without : IsTreeOf g new (record t { snapshots = remove t.snapshots name })
  stands_without = record {
    inodes = is.inodes;
    read = reads;
    map = other_snapshots g.i is.inodes t (remove t.snapshots name) is.map;
    sound = sound;
    keeps = holds;
    each = named;
  }
