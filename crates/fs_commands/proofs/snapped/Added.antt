-- What the draft of a new snapshot makes of the blocks: they have just that snapshot more.
use Rattle.base_types.specs.declared.layout.Layout.{Layout}
use Rattle.base_types.specs.Layouts.{most_runs}
use Rattle.base_types.specs.LayoutLaws.{node_in_table}
use Rattle.std.proofs.Common.{◌≡◌, ◌≢◌, ◌↔◌, ◌⊎◌, inl, inr, ℕ, ◌+◌, ◌-◌, ◌*◌, ◌/◌, ◌<◌, ◌≤◌, ◌||◌, ◌&&◌, ◌==◌, nat_lt, not, Bool, true, false, IsTrue, if◌then◌else◌, List, [], ◌∷◌, ◌++◌, length, take, get_or, slice_get, min, All, Option, None, Some, is_some, option_map, refl, sym, ap, ap₂, subst, ◌∙◌, arith}
use Rattle.std.proofs.lemmas.Bool.{eqb-true, or_cases, or_left, or_right, true≢false}
use Rattle.std.proofs.lemmas.List.{length-take, take_all}
use Rattle.std.proofs.lemmas.Option.{none-some, same_Some, slice_get-get_or, slice_get_within}
use Rattle.std.specs.List.{flat_map}
use Rattle.base_types.specs.Name.{is_name}
use Rattle.base_types.specs.Runs.{run_places}
use Rattle.base_types.specs.Seal.{Blocks}
use Rattle.layout_geometry.specs.Geometry.{Geometry, IsGeometry, bitmap_blocks, data_start}
use Rattle.layout_extent.specs.Renew.{AreOnce, IsAmong}
use Rattle.layout_bytes.specs.declared.node.Node.{Node}
use Rattle.layout_bytes.specs.declared.node.NodeKind.{NodeKind}
use Rattle.layout_bytes.specs.declared.node.NodeKind.TheVariants.{Snapshot}
use Rattle.layout_bytes.specs.Bitmap.{is_set}
use Rattle.layout_bytes.specs.Node.{content_blocks, content_of}
use Rattle.layout_bytes.specs.SnapshotName.{name_block}
use Rattle.lang_tree.specs.Figures.{blocks_for}
use Rattle.crash_stands.specs.Files.{FileNode, Files, content, file_of, files_of, joined, used_node}
use Rattle.crash_stands.specs.Stands.{AreSound, IsTreeOf}
use Rattle.lang_tree.specs.Tree.{Tree}
use Rattle.crash_snapshots.specs.Adding.{AddsSnapshot}
use Rattle.crash_snapshots.specs.Kept.{HasSnapshot}
use Rattle.crash_snapshots.specs.Making.{CanHold, snapshot_of, with_blocks}
use Rattle.engine_blocks.specs.Calls.{IsSound}
use Rattle.engine_blocks.specs.Crashes.{IsTold}
use Rattle.engine_blocks.specs.Puts.{IsData}
use Rattle.engine_blocks.specs.Running.{has}
use Rattle.engine_blocks.specs.State.{IsReusable, MayBeTaken, State, reusable_blocks}
use Rattle.fs_files.specs.Calls.{IsWithFile, IsWithPlaces, files_in, places_in, places_of as blocks_of_node, places_or_none}
use Rattle.fs_files.specs.Drafts.{DraftState, bytes_or, change_of, drafted, nothing_drafted}
use Rattle.fs_files.specs.Effects.{LooksAndSettles}
use Rattle.fs_files.specs.Finish.{ChangesOnly}
use Rattle.fs_files.specs.Nodes.{node_block}
use Rattle.layout_extent.specs.Runs.{stretches}
use Rattle.fs_files.specs.Places.{has_place, place_of}
use Rattle.fs_files.specs.Sound.{IsDraftOf}
use Rattle.fs_snapshots.specs.Nodes.{live}
use Rattle.fs_session.specs.Plans.{HasDrafted}
use Rattle.fs_commands.specs.Gathering.{live_dirs, snapshot_bytes, snapshot_count}
use Rattle.fs_commands.specs.Snapping.{DraftsSnapshot, MaySnap}
use Rattle.fs_commands.specs.declared.snapping.NewSnapshot.{NewSnapshot}
use Rattle.fs_commands.proofs.looking.Found.{settled_files}
use Rattle.fs_commands.proofs.naming.Least.{least_unused}
use Rattle.fs_commands.proofs.snapped.Live.{DataLaw}
use Rattle.fs_commands.proofs.snapped.Placed.{Have, as_written, has_alike, have, joined_long, once_of}
use Rattle.fs_commands.proofs.snapped.Sizes.{CountLaw, below_test, bytes_long, dirs_from_is, snapshot_long, snapshot_whole}
use Rattle.fs_commands.proofs.unsnapped.Taken.{BareLaw, SameLaw, none_there, nothing_in}

-- a snapshot can be made where it has blocks to lie in
abbrev pub HoldLaw : Type 0
HoldLaw = (g : Geometry) (m : Blocks) (name places : List ℕ) → IsGeometry g → CanHold g m name places → HasSnapshot g m (with_blocks m places (snapshot_of g m name)) places

-- where nothing changed of the blocks, the draft is one of them as they are
pub drafts_now : (s v : State) (n : ℕ) (name : List ℕ) (d : DraftState) → v.books.geom ≡ s.books.geom → v.map ≡ s.map → DraftsSnapshot s v n name d → DraftsSnapshot v v n name d
drafts_now s v n name d geom map h = record {
  file = both (λ k m. IsWithFile (files_of k (drafted nothing_drafted m)) (files_in v d) n (Some (record { kind = Snapshot; links = 1; bytes = snapshot_bytes k m name }))) h.file;
  places = both (λ k m. IsWithPlaces (blocks_of_node k (drafted nothing_drafted m)) (places_in v d) n (take (snapshot_count k m) (reusable_blocks v.books))) h.places;
  enough = both (λ k m. snapshot_count k m ≤ length (reusable_blocks v.books)) h.enough;
  runs = both (λ k m. stretches (take (snapshot_count k m) (reusable_blocks v.books)) ≤ most_runs k.layout) h.runs;
  taken = both (λ k m. d.taken ≡ take (snapshot_count k m) (reusable_blocks v.books)) h.taken;
  freed = h.freed;
  fresh = both (λ k m. length d.fresh ≤ snapshot_count k m) h.fresh;
  only = both (λ k m. ChangesOnly (node_block k n ∷ []) d) h.only;
  changes = h.changes;
}
  where
    both : (Q : Geometry → Blocks → Type 0) → Q s.books.geom s.map → Q v.books.geom v.map
    both Q q = subst (λ (k : Geometry). Q k v.map) (sym geom) (subst (Q s.books.geom) (sym map) q)

node_is : (l : Layout) (m : Blocks) (o : Option Node) (x : FileNode) → option_map (file_of l m) o ≡ Some x → (node : Node) × (o ≡ Some node) × (file_of l m node ≡ x)
node_is l m None x e = absurd (none-some x e)
node_is l m (Some node) x e = (node, refl, same_Some (file_of l m node) x e)

whole_size : (size count : ℕ) → min size (1024 * count) ≡ 1024 * count → blocks_for size ≡ count → size ≡ 1024 * count
whole_size size count fits count_is = omega (arith, fits, count_is)

module _ (tells : Bool) (v : State) (n : ℕ) (name : List ℕ) (d : DraftState) (told : IsTrue tells) (snap : DraftsSnapshot v v n name d) (draft : IsDraftOf tells v d) (unused : files_in v nothing_drafted n ≡ None)
    (sound : AreSound v.books.geom v.map) (limits : IsGeometry v.books.geom) (is : IsTold v) (books : IsSound v.books) (lawful : is_name name ≡ true) (inside : All (IsData v.books.geom) (live_dirs v.books.geom v.map))
    (count : CountLaw) (hold : HoldLaw) (same : SameLaw tells v) (bare : BareLaw tells v) (within : DataLaw) (number : n ≤ v.books.geom.i) (above : 1 ≤ n) where
  abbrev g : Geometry
  g = v.books.geom

  abbrev size : ℕ
  size = snapshot_count g v.map

  -- its blocks
  abbrev pub its : List ℕ
  its = take size (reusable_blocks v.books)

  its_count : length its ≡ size
  its_count = omega (arith, length-take size (reusable_blocks v.books), snap.enough)

  may_be_taken : MayBeTaken g v.books.reusable its
  may_be_taken = subst (MayBeTaken g v.books.reusable) snap.taken draft.fits.taken

  at_place : (i b : ℕ) → slice_get its i ≡ Some b → IsReusable g v.books.reusable b
  at_place i b at =
      let low = slice_get_within its i b at in
      subst (IsReusable g v.books.reusable) (same_Some (get_or its i 0) b (sym (slice_get-get_or its i 0 low) ∙ at)) (may_be_taken.each i 0 low)

  unmarked_at : (i b : ℕ) → slice_get its i ≡ Some b → is_set g v.map b ≡ false
  unmarked_at i b at = let r = at_place i b at in sym (is.bits b r.below) ∙ books.unmarked b r

  once_here : AreOnce its
  once_here = once_of its may_be_taken.distinct

  module _ (m : Blocks) (made : HasDrafted v d m) where
    set_is : (b : ℕ) → b < 8192 * bitmap_blocks g → is_set g m b ≡ (has its b || is_set g v.map b)
    set_is b low = made.bits b low ∙ ap₂ (λ xs ys. not (has xs b) && (has ys b || is_set g v.map b)) snap.freed snap.taken

    set_at : (i b : ℕ) → slice_get its i ≡ Some b → is_set g m b ≡ true
    set_at i b at = let r = at_place i b at in set_is b (omega (arith, r.below)) ∙ or_left (has its b) (is_set g v.map b) (has_place its i b at)

    whole_at : (i b : ℕ) → slice_get its i ≡ Some b → length (m b) ≡ 1024
    whole_at i b at = let r = at_place i b at in made.whole b (live g m b (omega (arith, r.from)) r.below (or_right (nat_lt b (data_start g)) (is_set g m b) (set_at i b at)))

    -- a block that was marked is as it was
    stays : (b : ℕ) → data_start g ≤ b → b < g.n → is_set g v.map b ≡ true → m b ≡ v.map b
    stays b from below set =
        made.lies b (omega (arith, from)) below
        ∙ ap (λ xs. if has xs b then [] else bytes_or (bytes_or (v.map b) (change_of d.fresh b)) (change_of d.changed b)) snap.freed
        ∙ ap₂ (λ x y. bytes_or (bytes_or (v.map b) x) y) (none_there (change_of d.fresh b) not_fresh) (none_there (change_of d.changed b) not_changed)
      where
        taken_not : has its b ≡ true → ⊥
        taken_not h = let p = place_of its b h in true≢false (sym set ∙ unmarked_at p.0 b p.1)

        some_is : {A : Type 0} (o : Option A) → is_some o ≡ true → (x : A) × (o ≡ Some x)
        some_is None e = absurd (true≢false (sym e))
        some_is (Some x) e = (x, refl)

        not_fresh : is_some (change_of d.fresh b) ≡ true → ⊥
        not_fresh h = let c = some_is (change_of d.fresh b) h in taken_not (ap (λ xs. has xs b) (sym snap.taken) ∙ draft.fits.fresh b c.0 c.1)

        not_changed : is_some (change_of d.changed b) ≡ true → ⊥
        not_changed h = by (or_cases (b == node_block g n) false (snap.only b h))
          where
            by : ((b == node_block g n) ≡ true) ⊎ (false ≡ true) → ⊥
            by (inl at) = omega (arith, eqb-true b (node_block g n) at, from, node_in_table g.layout g.i n limits.whole_blocks above number)
            by (inr never) = true≢false (sym never)

    -- The new node.
    abbrev new_node : (node : Node) × (used_node g m n ≡ Some node) × (file_of g.layout m node ≡ record { kind = Snapshot; links = 1; bytes = snapshot_bytes g v.map name })
    new_node = node_is g.layout m (used_node g m n) (record { kind = Snapshot; links = 1; bytes = snapshot_bytes g v.map name }) (made.files n ∙ snap.file.own)

    abbrev node : Node
    node = new_node.0

    used : used_node g m n ≡ Some node
    used = new_node.1

    runs : run_places node.runs ≡ its
    runs = sym (ap places_or_none used) ∙ made.places n ∙ snap.places.own

    bytes : content g.layout m node ≡ snapshot_bytes g v.map name
    bytes = ap (λ (x : FileNode). x.bytes) new_node.2

    kind_is : node.kind ≡ Snapshot
    kind_is = ap (λ (x : FileNode). x.kind) new_node.2

    -- all of its bytes are its content
    all_content : content_of g.layout node.kind node.size ≡ node.size
    all_content = ap (λ (k : NodeKind). content_of g.layout k node.size) kind_is

    lie : length (joined m its) ≡ 1024 * size
    lie = joined_long m its whole_at ∙ ap (λ k. 1024 * k) its_count

    node_size_is : node.size ≡ 1024 * size
    node_size_is =
        whole_size node.size size
        (ap (λ k. min node.size k) (sym lie ∙ ap (λ ps. length (joined m ps)) (sym runs)) ∙ sym (length-take node.size (joined m (run_places node.runs)))
        ∙ ap (λ k. length (take k (joined m (run_places node.runs)))) (sym all_content) ∙ ap length bytes ∙ bytes_long g v.map sound limits name lawful inside)
        (sym (count g m n node used ∙ ap (λ (k : NodeKind). content_blocks g.layout k node.size) kind_is) ∙ ap length runs ∙ its_count)

    all_bytes : joined m its ≡ flat_map (λ block. block) (snapshot_of g v.map (name_block name))
    all_bytes =
        sym (take_all node.size (joined m its) (omega (arith, lie, node_size_is))) ∙ ap (λ ps. take node.size (joined m ps)) (sym runs)
        ∙ ap (λ k. take k (joined m (run_places node.runs))) (sym all_content) ∙ bytes

    -- its blocks have what a snapshot has
    they_have : Have m its (snapshot_of g v.map (name_block name))
    they_have = have m its (snapshot_of g v.map (name_block name)) (its_count ∙ sym (snapshot_long g v.map (name_block name))) whole_at (snapshot_whole g v.map sound limits name lawful inside) all_bytes

    -- a file's block was marked, so it is none of them
    file_block : (k i b : ℕ) (x : Node) → used_node g v.map k ≡ Some x → slice_get (run_places x.runs) i ≡ Some b → (is_set g v.map b ≡ true) × (IsData g b)
    file_block k i b x used_x at =
        let inside_x = within g v.map k x used_x in
        let low = slice_get_within (run_places x.runs) i b at in
        let in_data = subst (IsData g) (same_Some (get_or (run_places x.runs) i 0) b (sym (slice_get-get_or (run_places x.runs) i 0 low) ∙ at)) (inside_x i 0 low) in
        ((sound.marked b in_data.from in_data.below).1 (inl (k, i, record { node = x; is_node = used_x; place = at })), in_data)

    can_hold : CanHold g v.map (name_block name) its
    can_hold = record {
      count = its_count ∙ sym (snapshot_long g v.map (name_block name));
      once = once_here;
      apart = λ k i b x used_x kind at among. true≢false (sym (file_block k i b x used_x at).0 ∙ unmarked_at among.0 b among.1);
      table = λ b low high. sound.whole b (live g v.map b (omega (arith, low)) (omega (arith, high, limits.data_room)) (or_left (nat_lt b (data_start g)) (is_set g v.map b) (below_test b (data_start g) high)));
    }

    pub adds : AddsSnapshot g v.map m n name its
    adds = record {
      free = nothing_in (file_of g.layout v.map) (used_node g v.map n) unused;
      node = node;
      is_node = used;
      kind = kind_is;
      runs = runs;
      links = ap (λ (x : FileNode). x.links) new_node.2;
      size = node_size_is ∙ ap (λ k. 1024 * k) (sym its_count);
      others = λ k other. same d m k sound draft made (snap.file.others k other) (snap.places.others k other);
      bare = λ k from upto none. bare d m k draft made from upto none;
      lawful = lawful;
      named = first its they_have;
      made = has_alike g v.map m (with_blocks v.map its (snapshot_of g v.map (name_block name))) its limits (omega (arith, its_count))
          (λ i p at. as_written v.map m its (snapshot_of g v.map (name_block name)) p they_have (has_place its i p at))
          (λ k i b x used_x kind at. let f = file_block k i b x used_x at in stays b f.1.from f.1.below f.0)
          (hold g v.map (name_block name) its limits can_hold);
      long = omega (arith, its_count, dirs_from_is count g v.map 1 g.i);
      once = once_here;
      unmarked = λ b among. unmarked_at among.0 b among.1;
      bits = λ b low. (to_either b low, from_either b low);
      stays = stays;
      whole = made.whole;
    }
      where
        first : (ps : List ℕ) → Have m ps (snapshot_of g v.map (name_block name)) → m (get_or ps 0 0) ≡ name_block name
        first [] h = absurd h
        first (p ∷ ps) h = h.0

        to_either : (b : ℕ) → b < 8192 * bitmap_blocks g → is_set g m b ≡ true → (is_set g v.map b ≡ true) ⊎ IsAmong its b
        to_either b low set = by (or_cases (has its b) (is_set g v.map b) (sym (set_is b low) ∙ set))
          where
            by : (has its b ≡ true) ⊎ (is_set g v.map b ≡ true) → (is_set g v.map b ≡ true) ⊎ IsAmong its b
            by (inl h) = inr (place_of its b h)
            by (inr was) = inl was

        from_either : (b : ℕ) → b < 8192 * bitmap_blocks g → (is_set g v.map b ≡ true) ⊎ IsAmong its b → is_set g m b ≡ true
        from_either b low (inl was) = set_is b low ∙ or_right (has its b) (is_set g v.map b) was
        from_either b low (inr among) = set_at among.0 b among.1

-- The same behind a settling, for a snapshot that might be made before it.
module _ (tells read_failed failed : Bool) (s v : State) (settles : LooksAndSettles tells read_failed failed s v) (told : IsTrue tells) (name : List ℕ) (new : NewSnapshot) (may : MaySnap tells s name new) (sound : AreSound s.books.geom s.map) (limits : IsGeometry s.books.geom) where
  geom : v.books.geom ≡ s.books.geom
  geom = settles.pipeline.geom

  map : v.map ≡ s.map
  map = settles.map told

  abbrev P : (Geometry → Blocks → Type 0) → Type 0
  P Q = Q s.books.geom s.map → Q v.books.geom v.map

  still : (Q : Geometry → Blocks → Type 0) → P Q
  still Q h = subst (λ (k : Geometry). Q k v.map) (sym geom) (subst (Q s.books.geom) (sym map) h)

  pub added : (d : DraftState) → DraftsSnapshot s v new.number name d → IsDraftOf tells v d → IsTold v → IsSound v.books → is_name name ≡ true → CountLaw → HoldLaw → SameLaw tells v → BareLaw tells v → DataLaw → (m : Blocks) → HasDrafted v d m
      → AddsSnapshot v.books.geom v.map m new.number name (take (snapshot_count s.books.geom s.map) (reusable_blocks v.books))
  added d snap draft is books lawful count hold same bare within m made =
      subst (λ k. AddsSnapshot v.books.geom v.map m new.number name (take k (reusable_blocks v.books))) (ap₂ snapshot_count geom map)
      (adds tells v new.number name d told (drafts_now s v new.number name d geom map snap) draft
      (ap (λ (files : Files). files new.number) (settled_files tells read_failed failed s v settles told) ∙ least_unused s.books.geom.i (files_in s nothing_drafted) new.number (may.least told))
      (still AreSound sound) (subst IsGeometry (sym geom) limits) is books lawful
      (still (λ k n. All (IsData k) (live_dirs k n)) (subst (All (IsData s.books.geom)) (may.dirs told) may.«data»)) count hold same bare within
      (omega (arith, may.number.upto, ap (λ (k : Geometry). k.i) geom)) may.number.from m made)

-- A tree stands still behind a settling.
pub tree_settled : (tells read_failed failed : Bool) (s v : State) → LooksAndSettles tells read_failed failed s v → IsTrue tells → (t : Tree) → IsTreeOf s.books.geom s.map t → IsTreeOf v.books.geom v.map t
tree_settled tells read_failed failed s v settles told t stands = subst (λ (k : Geometry). IsTreeOf k v.map t) (sym settles.pipeline.geom) (subst (λ m. IsTreeOf s.books.geom m t) (sym (settles.map told)) stands)

-- a node's blocks are of the data
pub data_law : ((g : Geometry) (m : Blocks) (k : ℕ) (node : Node) → used_node g m k ≡ Some node → (i p : ℕ) → slice_get (run_places node.runs) i ≡ Some p → (data_start g ≤ p) × (p < g.n)) → DataLaw
data_law law g m k node used i d low =
    let at = law g m k node used i (get_or (run_places node.runs) i d) (slice_get-get_or (run_places node.runs) i d low) in
    record { from = at.0; below = at.1 }
