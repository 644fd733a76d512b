-- One snapshot more was checked: its blocks, its name, and what it keeps.
use Rattle.std.proofs.Common.{◌≡◌, ◌↔◌, inl, ℕ, ◌+◌, ◌*◌, ◌<◌, true, List, length, get_or, slice_get, Option, None, Some, option_map, refl, sym, ap, subst, ◌∙◌, arith}
use Rattle.std.specs.List.{All}
use Rattle.std.specs.FinMap.{get}
use Rattle.std.proofs.lemmas.Option.{none-some, same_Some, slice_get-get_or}
use Rattle.base_types.specs.Runs.{run_places}
use Rattle.base_types.specs.Seal.{Blocks}
use Rattle.layout_extent.specs.TidyLaws.{places_of_runs}
use Rattle.layout_geometry.specs.Geometry.{Geometry}
use Rattle.layout_bytes.specs.declared.node.Node.{Node}
use Rattle.layout_bytes.specs.declared.node.NodeKind.{NodeKind}
use Rattle.layout_bytes.specs.declared.node.NodeKind.TheVariants.{Snapshot}
use Rattle.layout_bytes.specs.Node.{size_of}
use Rattle.layout_bytes.specs.Bitmap.{bit_in}
use Rattle.lang_tree.specs.Tree.{Kept}
use Rattle.engine_blocks.specs.Crashes.{IsTold}
use Rattle.engine_blocks.specs.Puts.{IsData}
use Rattle.engine_blocks.specs.Running.{HasNoBare}
use Rattle.engine_blocks.specs.State.{State}
use Rattle.crash_stands.specs.Bounds.{bounds_of}
use Rattle.crash_stands.specs.Files.{used_node}
use Rattle.crash_stands.specs.Kept.{kept_files}
use Rattle.crash_stands.specs.Places.{kept_table}
use Rattle.crash_stands.specs.Sharing.{HasKeptBlock, IsKeptBlock}
use Rattle.fs_files.specs.declared.node_blocks.OpenFile.{OpenFile}
use Rattle.fs_files.specs.Given.{node_of_file}
use Rattle.fs_snapshots.specs.Kept.{HasItsParts}
use Rattle.fs_check.specs.declared.checking.CheckRefusal.{CheckRefusal}
use Rattle.fs_check.specs.declared.checking.CheckRefusal.TheVariants as refusal
use Rattle.fs_check.specs.declared.checking.Damage.TheVariants as whole
use Rattle.fs_check.specs.declared.kept_meeting.Maps.{Maps}
use Rattle.fs_check.specs.declared.snapshot_damage.SnapshotDamage.TheVariants as one
use Rattle.fs_check.specs.declared.snapshots.Found.{Found}
use Rattle.fs_check.specs.BrokenSnapshots.{HasSameName, IsBroken}
use Rattle.fs_check.specs.KeptMeeting.{CountsMet, IsKeptMet, IsKeptSoundBelow}
use Rattle.fs_check.specs.Rules.{AreTreeFiles}
use Rattle.fs_check.specs.SnapshotCalls.{AreSoundNodes, IsKnownBelow, IsMisnamed, IsNamed, IsOpened, NamesOther}
use Rattle.fs_check.specs.Snapshots.{IsGoodSnapshot, KeepsBlock, Numbers, numbers_in}
use Rattle.fs_check.specs.Whole.{IsDamaged, OnDamage}
use Rattle.fs_check.proofs.Refuted.{MakesTree, Reads, tree_read}
use Rattle.fs_check.proofs.keeping.Counts.{Each}
use Rattle.fs_check.proofs.keeping.Found.{IsMore, checked_more}
use Rattle.fs_check.proofs.keeping.Steps.{kept_sound}
use Rattle.fs_check.proofs.keeping.Trees.{holds, kept_of}
use Rattle.fs_check.proofs.sound.Nodes.{used_is}
use Rattle.fs_check.proofs.sound.Tails.{AreWhole}
use Rattle.fs_check.proofs.sound.Told.{whole_marked}

-- a node's blocks are whole where nodes were checked
pub own_whole : (s : State) (g : Geometry) (k : ℕ) (f : OpenFile) → s.books.geom ≡ g → HasNoBare s.books.running → IsTold s → All (IsData g) f.blocks → AreSoundNodes g s.map → used_node g s.map k ≡ Some (node_of_file g.layout f) → AreWhole s.map f.blocks
own_whole s g k f same none told all nodes used =
    whole_marked s g f.blocks same none told all (λ i d low. nodes.marked k i (get_or f.blocks i d)
    (record { node = node_of_file g.layout f; is_node = used; place = ap (λ ps. slice_get ps i) (places_of_runs f.blocks) ∙ slice_get-get_or f.blocks i d low }))

-- the node is a snapshot with these blocks
pub opened : (g : Geometry) (m : Blocks) (maps : Maps) (k : ℕ) (found : Found) (f : OpenFile) → IsKnownBelow g m maps k found → used_node g m k ≡ Some (node_of_file g.layout f) → f.facts.kind ≡ Snapshot → HasItsParts g m f.blocks → IsOpened g m maps (record { number = k; places = f.blocks })
opened g m maps k found f known used kind parts = record {
  nodes = known.nodes;
  maps_true = known.maps_true;
  is = record { node = node_of_file g.layout f; is_node = used; kind = kind };
  at = places_of_runs f.blocks;
  parts = parts;
}

-- What is broken where its name can't be added.

other_named : (g : Geometry) (m : Blocks) (maps : Maps) (k l : ℕ) (found : Found) (f : OpenFile) → IsKnownBelow g m maps k found → used_node g m k ≡ Some (node_of_file g.layout f) → f.facts.kind ≡ Snapshot
    → NamesOther m (record { number = k; places = f.blocks }) (numbers_in found.numbers.entries) l → HasSameName g m k l
other_named g m maps k l found f known used kind other = by (get known.below.snapshots other.name) refl (known.below.named other.name)
  where
    by : (o : Option Kept) → get known.below.snapshots other.name ≡ o → get (numbers_in found.numbers.entries) other.name ≡ option_map (λ (x : Kept). x.number) (get known.below.snapshots other.name) → HasSameName g m k l
    by None e named = absurd (none-some l (sym (ap (option_map (λ (x : Kept). x.number)) e) ∙ sym named ∙ other.there))
    by (Some kept) e named =
        let held = known.below.keeps other.name kept e in
        let h = held.0 in
        let low = held.1 in
        let number : kept.number ≡ l = same_Some kept.number l (sym (ap (option_map (λ (x : Kept). x.number)) e) ∙ sym named ∙ other.there) in
        record {
          is = record { node = node_of_file g.layout f; is_node = used; kind = kind };
          other = record { node = h.node; is_node = ap (used_node g m) (sym number) ∙ h.is_node; kind = h.kind };
          before = omega (arith, low, number);
          same = ap (λ ps. m (get_or ps 0 0)) (places_of_runs f.blocks) ∙ other.named ∙ sym h.named;
        }

pub misnamed : (g : Geometry) (m : Blocks) (maps : Maps) (k : ℕ) (found : Found) (f : OpenFile) (why : CheckRefusal) → IsKnownBelow g m maps k found → used_node g m k ≡ Some (node_of_file g.layout f) → f.facts.kind ≡ Snapshot
    → OnDamage why (IsMisnamed m (record { number = k; places = f.blocks }) (numbers_in found.numbers.entries)) → OnDamage why (IsDamaged g m)
misnamed g m maps k found f refusal.ReadFault known used kind is = tt
misnamed g m maps k found f refusal.NoMemory known used kind is = tt
misnamed g m maps k found f (refusal.Damaged (whole.Blocks what)) known used kind is = absurd is
misnamed g m maps k found f (refusal.Damaged (whole.Tree what)) known used kind is = absurd is
misnamed g m maps k found f (refusal.Damaged (whole.Snapshot (one.WrongSize j))) known used kind is = absurd is
misnamed g m maps k found f (refusal.Damaged (whole.Snapshot (one.BadName j))) known used kind is = subst (λ n. IsBroken g m (one.BadName n)) (sym is.0) (record {
  is = record { node = node_of_file g.layout f; is_node = used; kind = kind };
  unnamed = λ name lawful named. is.1 name lawful (sym (ap (λ ps. m (get_or ps 0 0)) (places_of_runs f.blocks)) ∙ named);
})
misnamed g m maps k found f (refusal.Damaged (whole.Snapshot (one.SameName j l))) known used kind is = subst (λ n. IsBroken g m (one.SameName n l)) (sym is.0) (other_named g m maps k l found f known used kind is.1)
misnamed g m maps k found f (refusal.Damaged (whole.Snapshot (one.KeptNode j l))) known used kind is = absurd is
misnamed g m maps k found f (refusal.Damaged (whole.Snapshot (one.KeptTail j l))) known used kind is = absurd is
misnamed g m maps k found f (refusal.Damaged (whole.Snapshot (one.KeptUnmarked j b))) known used kind is = absurd is
misnamed g m maps k found f (refusal.Damaged (whole.Snapshot (one.KeptShared j b))) known used kind is = absurd is
misnamed g m maps k found f (refusal.Damaged (whole.Snapshot (one.KeptElsewhere j b))) known used kind is = absurd is
misnamed g m maps k found f (refusal.Damaged (whole.Snapshot (one.InSnapshot j what))) known used kind is = absurd is

-- What is known once all of it was checked.

-- what was found of a snapshot with these blocks
pub record IsChecked (g : Geometry) (m : Blocks) (f : OpenFile) (dirs : ℕ) (met : Blocks) : Type 0 where
  pub parts : HasItsParts g m f.blocks
  pub below : IsKeptSoundBelow g m f.blocks (g.i + 1) dirs met
  pub rules : AreTreeFiles (bounds_of g) (kept_files g m f.blocks)
  pub links : f.facts.links ≡ 1
  pub size : f.facts.size ≡ 1024 * length f.blocks

module _ (g : Geometry) (m : Blocks) (k : ℕ) (node : Node) (dirs : ℕ) (met : Blocks) (below : IsKeptSoundBelow g m (run_places node.runs) (g.i + 1) dirs met) where
  upto : (j i b : ℕ) → HasKeptBlock g m (run_places node.runs) j i b → j < g.i + 1
  upto j i b has = let high = (used_is g (kept_table m (run_places node.runs) g) j has.node has.is_node).upto in omega (arith, high)

  good : HasItsParts g m (run_places node.runs) → IsGoodSnapshot g m node
  good parts = record {
    sound = kept_sound g m (run_places node.runs) dirs met parts below;
    marked = λ j i b has. below.blocks.marked j i b (inl (upto j i b has)) has;
    apart = λ j i b has. below.blocks.apart j i b (inl (upto j i b has)) has;
  }

  just : used_node g m k ≡ Some node → node.kind ≡ Snapshot → (b : ℕ) → (bit_in met b ≡ true) ↔ KeepsBlock g m k b
  just used kind b = (
    λ is. let of = (below.blocks.bits b).0 is in (record { snapshot = k; node = node; is_node = used; kind = kind; number = of.node; place = of.place; has = of.has }, refl),
    λ keeps. (below.blocks.bits b).1 (back keeps.0 keeps.1),
  )
    where
      back : (is : IsKeptBlock g m b) → is.snapshot ≡ k → IsKeptMet g m (run_places node.runs) (g.i + 1) 0 b
      back is same =
          let one : is.node ≡ node = same_Some is.node node (sym is.is_node ∙ ap (used_node g m) same ∙ used) in
          let has : HasKeptBlock g m (run_places node.runs) is.number is.place b = subst (λ (n : Node). HasKeptBlock g m (run_places n.runs) is.number is.place b) one is.has in
          record { node = is.number; place = is.place; before = inl (upto is.number is.place b has); has = has }

pub one_more : Reads → MakesTree → (g : Geometry) (m : Blocks) (k : ℕ) (f : OpenFile) (dirs : ℕ) (met : Blocks) (numbers new : Numbers) (counts later : List ℕ) → used_node g m k ≡ Some (node_of_file g.layout f) → f.facts.kind ≡ Snapshot → IsChecked g m f dirs met
    → IsNamed m (record { number = k; places = f.blocks }) numbers new → CountsMet met counts later → IsMore g m k (node_of_file g.layout f) numbers new counts later
one_more reads makes g m k f dirs met numbers new counts later used kind checked named counts_met =
    let node = node_of_file g.layout f in
    let at : f.blocks ≡ run_places node.runs = sym (places_of_runs f.blocks) in
    let below = subst (λ ps. IsKeptSoundBelow g m ps (g.i + 1) dirs met) at checked.below in
    let r = tree_read reads makes (bounds_of g) (kept_files g m (run_places node.runs)) (subst (λ ps. AreTreeFiles (bounds_of g) (kept_files g m ps)) at checked.rules) in
    record {
      used = used;
      kind = kind;
      good = good g m k node dirs met below (subst (HasItsParts g m) at checked.parts);
      name = named.name;
      kept = kept_of k r.tree;
      number = refl;
      holds = holds g m k node named.name r used kind checked.links (ap (λ (t : NodeKind). size_of g.layout t f.facts.size) kind ∙ subst (λ ps. f.facts.size ≡ 1024 * length ps) at checked.size) named.lawful (ap (λ ps. m (get_or ps 0 0)) (sym at) ∙ named.named);
      fresh = named.fresh;
      grows = named.grows;
      met = met;
      just = just g m k node dirs met below used kind;
      counts_met = counts_met;
    }

pub known_more : Each → Reads → MakesTree → (g : Geometry) (m : Blocks) (maps : Maps) (k : ℕ) (found later : Found) (f : OpenFile) (dirs : ℕ) (met : Blocks) → used_node g m k ≡ Some (node_of_file g.layout f) → f.facts.kind ≡ Snapshot → IsChecked g m f dirs met
    → IsNamed m (record { number = k; places = f.blocks }) (numbers_in found.numbers.entries) (numbers_in later.numbers.entries) → CountsMet met found.tally.counts later.tally.counts → IsKnownBelow g m maps k found → IsKnownBelow g m maps (k + 1) later
known_more each reads makes g m maps k found later f dirs met used kind checked named counts_met known = record {
  nodes = known.nodes;
  maps_true = known.maps_true;
  below = checked_more each g m k (node_of_file g.layout f) (numbers_in found.numbers.entries) (numbers_in later.numbers.entries) found.tally.counts later.tally.counts
      (one_more reads makes g m k f dirs met (numbers_in found.numbers.entries) (numbers_in later.numbers.entries) found.tally.counts later.tally.counts used kind checked named counts_met) known.below;
}
