-- A snapshot that goes keeps nothing, and the others what they kept.
use Rattle.std.proofs.Common.{◌≡◌, ◌≢◌, ◌⊎◌, inl, inr, ℕ, Bool, true, false, if◌then◌else◌, List, [], bytes_eq, Some, sym, ap, subst, ◌∙◌}
use Rattle.std.proofs.lemmas.Bool.{cases_Bool, true≢false}
use Rattle.std.proofs.lemmas.Slice.Eq.{bytes_eq-Decides}
use Rattle.std.specs.FinMap.{get}
use Rattle.base_types.specs.Seal.{Blocks}
use Rattle.base_types.specs.Runs.{run_places}
use Rattle.layout_geometry.specs.Geometry.{Geometry, IsGeometry}
use Rattle.lang_tree.specs.declared.command.Cmd.TheVariants.{Unsnap}
use Rattle.lang_tree.specs.Step.{unsnapped}
use Rattle.lang_tree.specs.Tree.{Tree, Kept, HasSoundSnapshots}
use Rattle.crash_stands.specs.Files.{used_node}
use Rattle.crash_stands.specs.Stands.{IsTreeOf}
use Rattle.crash_snapshots.specs.Taking.{TakesSnapshot}
use Rattle.fs_files.specs.Calls.{places_of, places_or_none}
use Rattle.fs_snapshots.specs.Known.{blocks_kept}
use Rattle.fs_session.specs.Lists.{kept_by}
use Rattle.fs_session.specs.Snapshots.{kept_lists}
use Rattle.fs_session.proofs.leaving.Coming.{gone_other, gone_same}
use Rattle.fs_session.proofs.leaving.Listed.{kept_alike, listed_alike, listed_none}
use Rattle.fs_session.proofs.leaving.Stays.{NamesSnapshots, StayLaws}

module _ (laws : StayLaws) (named : NamesSnapshots) (g : Geometry) (fits : IsGeometry g) (old new : Blocks) (t : Tree) (name : List ℕ) (its : Kept) (stands : IsTreeOf g old t) (at_name : get t.snapshots name ≡ Some its) (ok : HasSoundSnapshots g.i t)
    (takes : TakesSnapshot g old new its.number) (becomes : IsTreeOf g new (unsnapped t name)) where
  -- what another one keeps
  other_kept : (k : Kept) (other : List ℕ) → other ≢ name → get t.snapshots other ≡ Some k → (l : ℕ) → blocks_kept g new k.number l ≡ blocks_kept g old k.number l
  other_kept k other apart at l =
      let held = becomes.keeps other k (gone_other t.snapshots name other apart ∙ at) in
      let was : used_node g old k.number ≡ Some held.node =
      sym (takes.others k.number (λ e. apart (ok.once other name k its at at_name e))) ∙ held.is_node in
      let same = laws.marked g new old becomes.sound (λ b from below set. sym (takes.stays b from below set)) k.number held.node held.is_node held.kind in
      kept_alike g old new k.number l (run_places held.node.runs) (ap places_or_none was) (ap places_or_none held.is_node)
      (λ i b. let both = laws.blocks g new old (run_places held.node.runs) fits same l i b in (both.1, both.0))

  pub going_lists : (other : List ℕ) (l : ℕ) → kept_lists g new other l ≡ kept_by t (places_of g old) (kept_lists g old) (Unsnap name) other l
  going_lists other l = by (cases_Bool (bytes_eq other name))
    where
      Goal : Bool → Type 0
      Goal b = kept_lists g new other l ≡ (if b then [] else kept_lists g old other l)

      by : (bytes_eq other name ≡ true) ⊎ (bytes_eq other name ≡ false) → Goal (bytes_eq other name)
      by (inl is) =
          subst Goal (sym is) (ap (λ (a : List ℕ). kept_lists g new a l) ((bytes_eq-Decides other name).0 is)
          ∙ listed_none g old new t (unsnapped t name) (λ a. named g old t a stands) (λ a. named g new (unsnapped t name) a becomes) name l (gone_same t.snapshots name))
      by (inr isnt) =
          let apart : other ≢ name = λ e. true≢false (sym ((bytes_eq-Decides other name).1 e) ∙ isnt) in
          subst Goal (sym isnt) (listed_alike g old new t (unsnapped t name) (λ a. named g old t a stands) (λ a. named g new (unsnapped t name) a becomes) other (gone_other t.snapshots name other apart) (λ k at l. other_kept k other apart at l) l)
