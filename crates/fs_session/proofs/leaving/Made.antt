-- What the draft of a command that the tree accepts makes of the snapshots: the finished map stands for the command's tree, and snapshots keep what is said.
use Rattle.std.proofs.Common.{◌≡◌, ℕ, Bool, false, List, [], ◌∷◌, Option, Some, None, is_none, is_some, refl, sym, ap, subst, ◌∙◌}
use Rattle.std.proofs.lemmas.Option.{none-some}
use Rattle.std.specs.FinMap.{get, insert}
use mathlib.Core.Path.{fun_ext}
use Rattle.base_types.specs.Seal.{Blocks}
use Rattle.base_types.specs.Runs.{run_places}
use Rattle.layout_geometry.specs.Geometry.{Geometry, IsGeometry}
use Rattle.lang_tree.specs.declared.command.Cmd.{Cmd}
use Rattle.lang_tree.specs.declared.command.Cmd.TheVariants.{Snap, Unsnap}
use Rattle.lang_tree.specs.declared.command.Refusal.{Refusal}
use Rattle.lang_tree.specs.declared.command.Refusal.TheVariants.{Exists, NoNode}
use Rattle.lang_tree.specs.Conditions.{first_reason, least_unused, refusal, when}
use Rattle.lang_tree.specs.Step.{Session, answered, changes_snapshots, kept_of, snapped_by, step, unsnapped}
use Rattle.lang_tree.specs.Tree.{Tree, Bounds, Kept, Snapshots, HasSoundSnapshots}
use Rattle.crash_stands.specs.Bounds.{bounds_of}
use Rattle.crash_stands.specs.Inodes.{AreInodesOf, inodes_of}
use Rattle.crash_stands.specs.Maps.{IsMapOf}
use Rattle.crash_stands.specs.Stands.{IsTreeOf}
use Rattle.crash_snapshots.specs.Adding.{AddsSnapshot}
use Rattle.crash_snapshots.specs.Taking.{TakesSnapshot}
use Rattle.engine_blocks.specs.Crashes.{IsTold}
use Rattle.engine_blocks.specs.State.{State}
use Rattle.fs_files.specs.Calls.{files_in, places_or_none}
use Rattle.fs_files.specs.Drafts.{DraftState}
use Rattle.fs_files.specs.Sound.{IsSoundDraft}
use Rattle.fs_snapshots.specs.Known.{blocks_kept}
use Rattle.fs_session.specs.Commands.{kept_in, places_of}
use Rattle.fs_session.specs.Lists.{kept_after, kept_by, kept_unless}
use Rattle.fs_session.specs.Plans.{HasDrafted, LosesSnapshot, MakesSnapshot, MakesSnapshots, StaysBeside}
use Rattle.fs_session.specs.Snapshots.{kept_lists}
use Rattle.fs_session.proofs.leaving.Coming.{coming_lists}
use Rattle.fs_session.proofs.leaving.Going.{going_lists}
use Rattle.fs_session.proofs.leaving.Leaving.{found, places_same, same_snapshot}
use Rattle.fs_session.proofs.leaving.Listed.{kept_alike, listed_alike}
use Rattle.fs_session.proofs.leaving.Stays.{NamesSnapshots, StayLaws, stands_still}

-- what the laws say of snapshots that come and go, and of a command that changes none
pub record MadeLaws : Type 0 where
  pub stays : StayLaws
  pub named : NamesSnapshots
  pub comes : (g : Geometry) (old new : Blocks) (t : Tree) (n : ℕ) (name places : List ℕ) → IsGeometry g → IsTreeOf g old t → get t.snapshots name ≡ None → AddsSnapshot g old new n name places
      → IsTreeOf g new (record t { snapshots = insert t.snapshots name (record { number = n; names = t.names; nodes = t.nodes }) })
  pub goes : (g : Geometry) (old new : Blocks) (t : Tree) (name : List ℕ) (k : Kept) → IsGeometry g → IsTreeOf g old t → get t.snapshots name ≡ Some k → TakesSnapshot g old new k.number → IsTreeOf g new (unsnapped t name)
  pub ok : (g : Geometry) (m : Blocks) (t : Tree) → IsTreeOf g m t → HasSoundSnapshots g.i t
  pub same : (s : Session) (cmd : Cmd) → changes_snapshots cmd ≡ false → (step s cmd).0.tree.snapshots ≡ s.tree.snapshots

-- A snap that is accepted comes under a new name.
new_name : (o : Option Kept) (full : Bool) → first_reason (when (is_some o) Exists ∷ when full NoNode ∷ []) ≡ None → o ≡ None
new_name None full e = refl
new_name (Some k) full e = absurd (none-some Exists (sym e))

module _ (laws : MadeLaws) (now : State) (fits : IsGeometry now.books.geom) (w : Blocks) (d : DraftState) (f : Session) (told : IsTold now) (stands : IsTreeOf now.books.geom now.map f.tree) (limit : f.limit ≡ bounds_of now.books.geom)
    (sound : IsSoundDraft now.books now.map d) (fin : HasDrafted now d w) where
  -- the tree with the snapshot that comes
  snapped_is : (name : List ℕ) (n : ℕ) → refusal f.limit f.tree (Snap name) ≡ None → least_unused f.limit.nodes f.tree ≡ Some n → (step f (Snap name)).0.tree ≡ record f.tree { snapshots = insert f.tree.snapshots name (kept_of n f.tree) }
  snapped_is name n accepted least = ap (λ (r : Option Refusal). (answered f (Snap name) r).0.tree) accepted ∙ ap (snapped_by f.tree name) least

  unsnapped_is : (name : List ℕ) → refusal f.limit f.tree (Unsnap name) ≡ None → (step f (Unsnap name)).0.tree ≡ unsnapped f.tree name
  unsnapped_is name accepted = ap (λ (r : Option Refusal). (answered f (Unsnap name) r).0.tree) accepted

  comes_so : (name : List ℕ) → refusal f.limit f.tree (Snap name) ≡ None → (made : MakesSnapshot name d now f) → IsTreeOf now.books.geom w (record f.tree { snapshots = insert f.tree.snapshots name (kept_of made.number f.tree) })
  comes_so name accepted made = laws.comes now.books.geom now.map w f.tree made.number name made.places fits stands (new_name (get f.tree.snapshots name) (is_none (least_unused f.limit.nodes f.tree)) accepted) (made.adds w fin)

  goes_so : (name : List ℕ) → LosesSnapshot name d now f → IsTreeOf now.books.geom w (unsnapped f.tree name)
  goes_so name lost = laws.goes now.books.geom now.map w f.tree name lost.kept fits stands lost.is (lost.takes w fin)

  stays_so : (cmd : Cmd) → changes_snapshots cmd ≡ false → StaysBeside d now → AreInodesOf now.books.geom.layout (files_in now d) (inodes_of now.books.geom.layout (files_in now d)) → IsMapOf f.limit.nodes (inodes_of now.books.geom.layout (files_in now d)) (step f cmd).0.tree → IsTreeOf now.books.geom w (step f cmd).0.tree
  stays_so cmd leaves stays reads map =
      stands_still laws.stays now fits w d f.tree told stands sound stays fin (step f cmd).0.tree (inodes_of now.books.geom.layout (files_in now d)) (laws.same f cmd leaves) reads (subst (λ (b : Bounds). IsMapOf b.nodes (inodes_of now.books.geom.layout (files_in now d)) (step f cmd).0.tree) limit map)

  -- The finished map stands for the tree of the command.
  pub tree_made : (cmd : Cmd) → refusal f.limit f.tree cmd ≡ None → MakesSnapshots cmd d now f → AreInodesOf now.books.geom.layout (files_in now d) (inodes_of now.books.geom.layout (files_in now d)) → IsMapOf f.limit.nodes (inodes_of now.books.geom.layout (files_in now d)) (step f cmd).0.tree
      → IsTreeOf now.books.geom w (step f cmd).0.tree
  tree_made (Snap name) accepted made reads map = subst (IsTreeOf now.books.geom w) (sym (snapped_is name made.number accepted made.least)) (comes_so name accepted made)
  tree_made (Unsnap name) accepted lost reads map = subst (IsTreeOf now.books.geom w) (sym (unsnapped_is name accepted)) (goes_so name lost)
  tree_made cmd accepted stays reads map = stays_so cmd refl stays reads map

  -- What snapshots keep in it.

  -- all as before where they stay
  stay_lists : (u : Tree) → u.snapshots ≡ f.tree.snapshots → StaysBeside d now → IsTreeOf now.books.geom w u → (name : List ℕ) (l : ℕ) → kept_lists now.books.geom w name l ≡ kept_lists now.books.geom now.map name l
  stay_lists u same stays becomes name l =
      listed_alike now.books.geom now.map w f.tree u (λ a. laws.named now.books.geom now.map f.tree a stands) (λ a. laws.named now.books.geom w u a becomes) name (ap (λ (m : Snapshots). get m name) same) each l
    where
      each : (k : Kept) → get f.tree.snapshots name ≡ Some k → (l : ℕ) → blocks_kept now.books.geom w k.number l ≡ blocks_kept now.books.geom now.map k.number l
      each k at l =
          let held = stands.keeps name k at in
          let there = found now w d f.tree told stands sound stays fin laws.stays.kinds k.number held.node held.is_node held.kind in
          let places = places_same now w d f.tree told stands sound stays fin laws.stays.kinds k.number held.node held.is_node held.kind in
          kept_alike now.books.geom now.map w k.number l (run_places held.node.runs) (ap places_or_none held.is_node) (ap places_or_none there.1 ∙ places)
          (λ i b. laws.stays.blocks now.books.geom now.map w (run_places held.node.runs) fits (same_snapshot now w d f.tree told stands sound stays fin laws.stays.kinds k.number held.node held.is_node held.kind) l i b)

  -- what is kept behind a command, by cases of it
  by_command : (cmd : Cmd) → refusal f.limit f.tree cmd ≡ None → MakesSnapshots cmd d now f → IsTreeOf now.books.geom w (step f cmd).0.tree → (name : List ℕ) (l : ℕ)
      → kept_lists now.books.geom w name l ≡ kept_by f.tree (places_of now) (kept_in now) cmd name l
  by_command (Snap name) accepted made becomes other l =
      coming_lists laws.stays laws.named now.books.geom fits now.map w f.tree made.number name made.places stands (made.adds w fin) (comes_so name accepted made) other l
  by_command (Unsnap name) accepted lost becomes other l =
      going_lists laws.stays laws.named now.books.geom fits now.map w f.tree name lost.kept stands lost.is (laws.ok now.books.geom now.map f.tree stands) (lost.takes w fin) (goes_so name lost) other l
  by_command cmd accepted stays becomes name l = stay_lists (step f cmd).0.tree (laws.same f cmd refl) stays becomes name l

  pub lists_made : (cmd : Cmd) → refusal f.limit f.tree cmd ≡ None → MakesSnapshots cmd d now f → IsTreeOf now.books.geom w (step f cmd).0.tree → kept_lists now.books.geom w ≡ kept_after f (places_of now) (kept_in now) cmd
  lists_made cmd accepted made becomes =
      fun_ext (λ name. fun_ext (λ l. by_command cmd accepted made becomes name l))
      ∙ sym (ap (λ (r : Option Refusal). kept_unless r (kept_in now) (kept_by f.tree (places_of now) (kept_in now) cmd)) accepted)
