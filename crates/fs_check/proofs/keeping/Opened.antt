-- A snapshot that was opened: its size is right or that is what is broken; once its kept nodes were gone through it is whole and may be read.
use Rattle.std.proofs.Common.{◌≡◌, inl, ℕ, ◌+◌, ◌*◌, ◌≤◌, Bool, false, IsTrue, if◌then◌else◌, List, length, take, slice_get, Some, sym, ap, subst, ◌∙◌, arith, take_all}
use Rattle.std.specs.List.{All}
use Rattle.base_types.specs.Seal.{Blocks, blocks_of}
use Rattle.layout_extent.specs.TidyLaws.{places_of_runs}
use Rattle.layout_geometry.specs.Geometry.{Geometry}
use Rattle.layout_bytes.specs.declared.node.NodeKind.{NodeKind}
use Rattle.layout_bytes.specs.declared.node.NodeKind.TheVariants.{Snapshot}
use Rattle.layout_bytes.specs.Node.{size_of}
use Rattle.layout_bytes.specs.Bitmap.{bit_in}
use Rattle.engine_blocks.specs.Crashes.{IsTold}
use Rattle.engine_blocks.specs.Puts.{IsData}
use Rattle.engine_blocks.specs.Running.{HasNoBare}
use Rattle.engine_blocks.specs.State.{Bookkeeping, State}
use Rattle.crash_stands.specs.Files.{used_node}
use Rattle.crash_stands.specs.Places.{kept_table, table_blocks}
use Rattle.crash_stands.specs.Stands.{HasBlock}
use Rattle.fs_files.specs.declared.node_blocks.OpenFile.{OpenFile}
use Rattle.fs_files.specs.Asks.{MayRead}
use Rattle.fs_files.specs.Effects.{LooksOnly}
use Rattle.fs_files.specs.Given.{node_of_file}
use Rattle.fs_snapshots.specs.Kept.{AreDirsBefore, HasItsParts, IsGoneThrough, IsWholeKept, KeptState, MayReadKept}
use Rattle.fs_check.specs.declared.checking.CheckRefusal.{CheckRefusal}
use Rattle.fs_check.specs.declared.checking.CheckRefusal.TheVariants as refusal
use Rattle.fs_check.specs.declared.checking.Damage.TheVariants as whole
use Rattle.fs_check.specs.declared.kept_meeting.Maps.{Maps}
use Rattle.fs_check.specs.declared.kept_meeting.Tally.{Tally}
use Rattle.fs_check.specs.declared.kept_table.SnapshotIn.{SnapshotIn}
use Rattle.fs_check.specs.declared.snapshot_damage.SnapshotDamage.TheVariants.{WrongSize}
use Rattle.fs_check.specs.BrokenSnapshots.{IsSnapshot, places_of}
use Rattle.fs_check.specs.KeptGoing.{IsKeptTo}
use Rattle.fs_check.specs.KeptMeeting.{CountsMet, IsKeptSoundBelow}
use Rattle.fs_check.specs.SnapshotCalls.{IsOpened}
use Rattle.fs_check.specs.Whole.{IsDamaged, OnDamage}
use Rattle.fs_check.proofs.keeping.Broken.{kept_data}
use Rattle.fs_check.proofs.keeping.Steps.{kept_begins, kept_sound}
use Rattle.fs_check.proofs.sound.Nodes.{used_is}
use Rattle.fs_check.proofs.sound.Tails.{AreWhole}
use Rattle.fs_check.proofs.sound.Told.{whole_at}

-- a snapshot whose size isn't right
pub size_broken : (g : Geometry) (m : Blocks) (k : ℕ) (f : OpenFile) (why : CheckRefusal) → used_node g m k ≡ Some (node_of_file g.layout f) → f.facts.kind ≡ Snapshot
    → (f.facts.links ≡ 1 → f.facts.size ≡ 1024 * length f.blocks → HasItsParts g m f.blocks → ⊥) → why ≡ refusal.Damaged (whole.Snapshot (WrongSize k)) → OnDamage why (IsDamaged g m)
size_broken g m k f why used kind wrong is = subst (λ w. OnDamage w (IsDamaged g m)) (sym is) (record {
  is = record { node = node_of_file g.layout f; is_node = used; kind = kind };
  wrong = subst (λ ps. f.facts.links ≡ 1 → size_of g.layout f.facts.kind f.facts.size ≡ 1024 * length ps → HasItsParts g m ps → ⊥) (sym (places_of_runs f.blocks))
      (λ links size parts. wrong links (ap (λ (t : NodeKind). size_of g.layout t f.facts.size) (sym kind) ∙ size) parts);
})

-- or hasn't its parts
pub parts_broken : (g h : Geometry) (m : Blocks) (k n : ℕ) (f : OpenFile) (places : List ℕ) (why : CheckRefusal) → h ≡ g → used_node g m k ≡ Some (node_of_file g.layout f) → f.facts.kind ≡ Snapshot → n ≡ length f.blocks → places ≡ take n f.blocks
    → OnDamage why (λ what. (what ≡ whole.Snapshot (WrongSize k)) × (HasItsParts h m places → ⊥)) → OnDamage why (IsDamaged g m)
parts_broken g h m k n f places refusal.ReadFault same used kind all are is = tt
parts_broken g h m k n f places refusal.NoMemory same used kind all are is = tt
parts_broken g h m k n f places (refusal.Damaged what) same used kind all are is =
    size_broken g m k f (refusal.Damaged what) used kind
    (λ links size parts. is.1 (subst (λ (x : Geometry). HasItsParts x m places) (sym same) (subst (HasItsParts g m) (sym (are ∙ take_all n f.blocks (omega (arith, all)))) parts)))
    (ap (λ d. refusal.Damaged d) is.0)

-- before its first node
pub opened_begins : (g : Geometry) (m : Blocks) (maps : Maps) (tally : Tally) (snapshot : SnapshotIn) → IsOpened g m maps snapshot → AreWhole m snapshot.places → ((b : ℕ) → bit_in (blocks_of tally.met.items) b ≡ false) → tally.dirs ≡ 0 → IsKeptTo g m maps tally snapshot 1
opened_begins g m maps tally snapshot opened are_whole clear none = record {
  maps_true = opened.maps_true;
  is = opened.is;
  at = opened.at;
  parts = opened.parts;
  whole = are_whole;
  below = subst (λ dirs. IsKeptSoundBelow g m snapshot.places 1 dirs (blocks_of tally.met.items)) (sym none) (kept_begins g m snapshot.places (blocks_of tally.met.items) clear);
}

-- where no block was met none has a keeper more
pub counts_begin : (met : Blocks) (counts : List ℕ) → ((b : ℕ) → bit_in met b ≡ false) → CountsMet met counts counts
counts_begin met counts clear b = let none = ap {B = ℕ} (λ t. if t then 1 else 0) (clear b) in omega (arith, none)

-- behind its last node
pub whole_kept : (s : State) (g : Geometry) (maps : Maps) (tally : Tally) (snapshot : SnapshotIn) → s.books.geom ≡ g → HasNoBare s.books.running → IsTold s → IsOpened g s.map maps snapshot → AreWhole s.map snapshot.places
    → IsKeptTo g s.map maps tally snapshot (g.i + 1) → IsWholeKept g s.map snapshot.places
whole_kept s g maps tally snapshot same none told opened are_whole kept = record {
  sound = kept_sound g s.map snapshot.places tally.dirs (blocks_of tally.met.items) opened.parts kept.below;
  once = λ i j b at other. (opened.nodes.own snapshot.number snapshot.number i j b (here i b at) (here j b other)).1;
  own = are_whole;
  files = λ k i b has. whole_at s g b same none told (kept_data g s.map snapshot.places k i b has)
      (kept.below.blocks.marked k i b (inl (let upto = (used_is g (kept_table s.map snapshot.places g) k has.node has.is_node).upto in omega (arith, upto))) has);
}
  where
    here : (i b : ℕ) → slice_get snapshot.places i ≡ Some b → HasBlock g s.map snapshot.number i b
    here i b at = record { node = opened.is.node; is_node = opened.is.is_node; place = ap (λ ps. slice_get ps i) opened.at ∙ at }

-- The kept nodes may be read behind a look.

gone_stays : (tells : Bool) (s t : State) (v : KeptState) → LooksOnly tells false s t → IsGoneThrough tells s v → IsGoneThrough tells t v
gone_stays tells s t v looks gone = record {
  «data» = subst (λ (k : Bookkeeping). All (IsData k.geom) v.places) (sym looks.books) gone.«data»;
  table = subst (λ (k : Bookkeeping). 1 + table_blocks k.geom ≤ length v.places) (sym looks.books) gone.table;
  counts = subst (λ (k : Bookkeeping). length v.before ≡ table_blocks k.geom) (sym looks.books) gone.counts;
  right = λ told. subst (λ (k : Bookkeeping). AreDirsBefore k.geom t.map v.places v.before) (sym looks.books) (subst (λ (m : Blocks). AreDirsBefore s.books.geom m v.places v.before) (sym (looks.map told)) (gone.right told));
}

pub may_read : (tells : Bool) (s t : State) (g : Geometry) (v : KeptState) (own : List ℕ) → s.books.geom ≡ g → LooksOnly tells false s t → s.books.stopped ≡ false → IsGoneThrough tells s v → v.places ≡ own → (IsTrue tells → IsWholeKept g s.map own) → MayRead (MayReadKept tells t v) t
may_read tells s t g v own same looks going gone are sound = record {
  going = ap (λ (k : Bookkeeping). k.stopped) looks.books ∙ going;
  may = record {
    gone = gone_stays tells s t v looks gone;
    whole = λ told. subst (λ (k : Bookkeeping). IsWholeKept k.geom t.map v.places) (sym looks.books)
        (subst (λ (m : Blocks). IsWholeKept s.books.geom m v.places) (sym (looks.map told))
        (subst (λ ps. IsWholeKept s.books.geom s.map ps) (sym are) (subst (λ (x : Geometry). IsWholeKept x s.map own) (sym same) (sound told))));
  };
}

-- what is broken in the tree is so in the map before the look
pub tree_damage : (g h : Geometry) (m n : Blocks) (k : ℕ) (places : List ℕ) (why : CheckRefusal) → h ≡ g → n ≡ m → ((is : IsSnapshot h n k) → places_of is.node ≡ places → OnDamage why (IsDamaged h n))
    → (is : IsSnapshot g m k) → places_of is.node ≡ places → OnDamage why (IsDamaged g m)
tree_damage g h m n k places why same map broken =
    subst (λ (x : Geometry). (is : IsSnapshot x m k) → places_of is.node ≡ places → OnDamage why (IsDamaged x m)) same
    (subst (λ (w : Blocks). (is : IsSnapshot h w k) → places_of is.node ≡ places → OnDamage why (IsDamaged h w)) map broken)
