-- Where something is broken in a snapshot the blocks stand for no tree.
use Rattle.std.proofs.Common.{◌≡◌, inr, ℕ, ◌*◌, List, length, get_or, Some, sym, ap, subst, ◌∙◌, arith, ⊎_elim}
use Rattle.std.proofs.lemmas.Bool.{both_ways}
use Rattle.std.proofs.lemmas.Option.{same_Some}
use Rattle.std.specs.FinMap.{get}
use Rattle.base_types.specs.Runs.{run_places}
use Rattle.base_types.specs.Seal.{Blocks}
use Rattle.layout_geometry.specs.Geometry.{Geometry}
use Rattle.layout_bytes.specs.declared.node.Node.{Node}
use Rattle.layout_bytes.specs.SnapshotName.{name_block}
use Rattle.lang_tree.specs.Tree.{Kept, Tree, kept_tree}
use Rattle.engine_blocks.specs.Puts.{IsData}
use Rattle.crash_stands.specs.Bounds.{bounds_of}
use Rattle.crash_stands.specs.Files.{used_node}
use Rattle.crash_stands.specs.Places.{kept_table}
use Rattle.crash_stands.specs.Kept.{kept_files}
use Rattle.crash_stands.specs.Sharing.{HasKeptBlock, IsKeptBlock}
use Rattle.crash_stands.specs.Stands.{HoldsSnapshot, IsTreeOf, KeepsTree}
use Rattle.fs_check.specs.declared.snapshot_damage.SnapshotDamage.{SnapshotDamage}
use Rattle.fs_check.specs.declared.snapshot_damage.SnapshotDamage.TheVariants as damage
use Rattle.fs_check.specs.BrokenSnapshots.{IsBroken, IsSnapshot, KeepsAt, places_of}
use Rattle.fs_check.proofs.Refuted.{Alike, HasRules, OneMap, none_in_tree}
use Rattle.fs_snapshots.specs.Nodes.{one_name}
use Rattle.fs_check.proofs.sound.Broken.{not_before}
use Rattle.fs_check.proofs.sound.Nodes.{has_data}

-- what a standing tree says of a snapshot
record IsHeld (g : Geometry) (m : Blocks) (t : Tree) (k : ℕ) (is : IsSnapshot g m k) : Type 0 where
  name : List ℕ
  kept : Kept
  there : get t.snapshots name ≡ Some kept
  number : kept.number ≡ k
  holds : HoldsSnapshot g m name kept
  same : holds.node ≡ is.node

held : (g : Geometry) (m : Blocks) (t : Tree) (k : ℕ) (is : IsSnapshot g m k) → IsTreeOf g m t → IsHeld g m t k is
held g m t k is stands =
    let e = stands.each k is.node is.is_node is.kind in
    let h = stands.keeps e.0 e.1 e.2 in
    record { name = e.0; kept = e.1; there = e.2; number = e.3; holds = h; same = same_Some h.node is.node (sym h.is_node ∙ ap (used_node g m) e.3 ∙ is.is_node) }

named : (g : Geometry) (m : Blocks) (t : Tree) (k : ℕ) (is : IsSnapshot g m k) (h : IsHeld g m t k is) → m (get_or (places_of is.node) 0 0) ≡ name_block h.name
named g m t k is h = subst (λ (n : Node). m (get_or (run_places n.runs) 0 0) ≡ name_block h.name) h.same h.holds.named

-- two snapshots of one name are one
one_number : (g : Geometry) (m : Blocks) (t : Tree) (k l : ℕ) (is : IsSnapshot g m k) (other : IsSnapshot g m l) → IsHeld g m t k is → IsHeld g m t l other → m (get_or (places_of is.node) 0 0) ≡ m (get_or (places_of other.node) 0 0) → k ≡ l
one_number g m t k l is other h o same =
    let name : h.name ≡ o.name = one_name h.name o.name (sym (named g m t k is h) ∙ same ∙ named g m t l other o) in
    let kept : h.kept ≡ o.kept = same_Some h.kept o.kept (sym h.there ∙ ap (get t.snapshots) name ∙ o.there) in
    sym h.number ∙ ap (λ (x : Kept). x.number) kept ∙ o.number

-- a block that a snapshot keeps is one of the data
pub kept_data : (g : Geometry) (m : Blocks) (places : List ℕ) (k i b : ℕ) → HasKeptBlock g m places k i b → IsData g b
kept_data g m places k i b has = has_data g (kept_table m places g) k i b (record { node = has.node; is_node = has.is_node; place = has.place })

pub is_kept_by : (g : Geometry) (m : Blocks) (k b : ℕ) → KeepsAt g m k b → IsKeptBlock g m b
is_kept_by g m k b keeps = record { snapshot = k; node = keeps.is.node; is_node = keeps.is.is_node; kind = keeps.is.kind; number = keeps.number; place = keeps.place; has = keeps.has }

pub broken_none : OneMap → Alike → HasRules → (g : Geometry) (m : Blocks) (what : SnapshotDamage) (t : Tree) → IsBroken g m what → IsTreeOf g m t → ⊥
broken_none one alike rules g m (damage.WrongSize k) t bad stands =
    let h = held g m t k bad.is stands in
    bad.wrong (ap (λ (n : Node). n.links) (sym h.same) ∙ h.holds.links)
    (subst (λ (n : Node). n.size ≡ 1024 * length (run_places n.runs)) h.same h.holds.size)
    (stands.sound.kept k bad.is.node bad.is.is_node bad.is.kind).long
broken_none one alike rules g m (damage.BadName k) t bad stands =
    let h = held g m t k bad.is stands in bad.unnamed h.name h.holds.lawful (named g m t k bad.is h)
broken_none one alike rules g m (damage.SameName k l) t bad stands =
    let e = one_number g m t k l bad.is bad.other (held g m t k bad.is stands) (held g m t l bad.other stands) bad.same in
    omega (arith, e, bad.before)
broken_none one alike rules g m (damage.KeptNode k l) t bad stands =
    let sound = stands.sound.kept k bad.is.node bad.is.is_node bad.is.kind in
    ⊎_elim (λ keeps. sound.plain l keeps.0 keeps.1 keeps.2) (λ none. none.1 (sound.free l bad.from bad.upto none.0)) bad.keeps
broken_none one alike rules g m (damage.KeptTail k l) t bad stands =
    both_ways _ bad.carries ((stands.sound.kept k bad.is.node bad.is.is_node bad.is.kind).tail l bad.node bad.is_node bad.is_dir)
broken_none one alike rules g m (damage.KeptUnmarked k b) t bad stands =
    let is = kept_data g m (places_of bad.keeps.is.node) bad.keeps.number bad.keeps.place b bad.keeps.has in
    both_ways _ bad.clear ((stands.sound.marked b is.from is.below).1 (inr (is_kept_by g m k b bad.keeps)))
broken_none one alike rules g m (damage.KeptShared k b) t bad stands =
    not_before bad.other bad.other_place bad.keeps.number bad.keeps.place
    ((stands.sound.kept k bad.keeps.is.node bad.keeps.is.is_node bad.keeps.is.kind).once bad.other bad.keeps.number bad.other_place bad.keeps.place b bad.other_has bad.keeps.has) bad.before
broken_none one alike rules g m (damage.KeptElsewhere k b) t bad stands =
    bad.firm.kind (stands.sound.shared bad.firm.number bad.firm.place b bad.firm.has (is_kept_by g m k b bad.keeps))
broken_none one alike rules g m (damage.InSnapshot k what) t bad stands =
    let h = held g m t k bad.is stands in
    let keeps : KeepsTree g m (places_of bad.is.node) h.kept = subst (λ (n : Node). KeepsTree g m (run_places n.runs) h.kept) h.same h.holds.keeps in
    none_in_tree one alike rules (bounds_of g) (kept_files g m (places_of bad.is.node)) keeps.inodes (kept_tree h.kept) what keeps.read keeps.map bad.broken
