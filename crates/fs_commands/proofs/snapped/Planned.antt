-- A new snapshot's draft makes the tree of its command, and is within its cost.
use Rattle.base_types.specs.Layouts.{most_runs}
use Rattle.std.proofs.Common.{◌≡◌, ◌≢◌, ◌⊎◌, inl, inr, ℕ, ◌+◌, ◌*◌, ◌<◌, ◌≤◌, is_none, is_some, List, [], ◌∷◌, ◌++◌, length, take, Option, None, Some, option_and_then, refl, sym, ap, ap₂, subst, ◌∙◌, arith}
use Rattle.std.proofs.lemmas.Bool.{cases_eq}
use Rattle.std.proofs.lemmas.List.{length-take, take_all}
use Rattle.std.proofs.lemmas.Option.{same_Some}
use Rattle.std.specs.FinMap.{get}
use mathlib.Core.Path.{fun_ext}
use Rattle.base_types.specs.declared.layout.Layout.{Layout}
use Rattle.base_types.specs.Seal.{Blocks}
use Rattle.layout_geometry.specs.Geometry.{bitmap_blocks}
use Rattle.layout_extent.specs.Runs.{stretches}
use Rattle.layout_bytes.specs.declared.node.NodeKind.TheVariants.{Snapshot}
use Rattle.lang_tree.specs.declared.command.Cmd.TheVariants.{Snap}
use Rattle.lang_tree.specs.declared.command.Refusal.TheVariants.{Exists, NoNode}
use Rattle.lang_tree.specs.Conditions.{first_reason, least_unused, refusal, when}
use Rattle.lang_tree.specs.Figures.{Figures, snapping, snapshot_blocks}
use Rattle.lang_tree.specs.Sharing.{figures_over_by}
use Rattle.lang_tree.specs.Step.{Session, answered, snapped_by, step}
use Rattle.lang_tree.specs.Tree.{Kept, Bounds}
use Rattle.crash_stands.specs.Files.{FileNode, Files, file_of, files_of, used_node}
use Rattle.crash_stands.specs.Inodes.{AreInodesOf, Inode, inode_of, inodes_of}
use Rattle.crash_stands.specs.Maps.{IsMapOf}
use Rattle.crash_stands.specs.Places.{table_blocks}
use Rattle.crash_snapshots.specs.Adding.{AddsSnapshot}
use Rattle.crash_snapshots.specs.Places.{all_dirs}
use Rattle.engine_blocks.specs.State.{State, reusable_blocks}
use Rattle.fs_files.specs.Calls.{IsUsed, IsWithFile, files_in, places_in, places_or_none}
use Rattle.fs_files.specs.Drafts.{DraftState, drafted, nothing_drafted}
use Rattle.fs_files.specs.Finish.{price}
use Rattle.fs_files.specs.Nodes.{node_block}
use Rattle.fs_session.specs.Changes.{IsWithinCost, Uses}
use Rattle.fs_session.specs.Commands.{GrowsInRuns, alone_on, figures_on, least_number, places_of, renewed_on, shared_on}
use Rattle.fs_session.specs.NothingKept.{grows_unrenewed, renews_without_bytes, runs_behind, uses_unrenewed}
use Rattle.fs_session.specs.Plans.{HasDrafted, MakesTree}
use Rattle.fs_session.specs.Sessions.{IsSession, KeepsUsed, inodes}
use Rattle.fs_session.specs.declared.unused.NodeUse.TheVariants.{Taken}
use Rattle.fs_commands.proofs.keeping.Laid.{inodes_laid, reads_laid}
use Rattle.fs_commands.proofs.looking.Found.{uses_of}
use Rattle.fs_commands.proofs.looking.InUse.{still_used}
use Rattle.layout_extent.specs.Renew.{renew}
use Rattle.engine_blocks.specs.Calls.{IsSound, MovesPipeline}
use Rattle.fs_files.specs.declared.refusal.FileRefusal.{FileRefusal}
use Rattle.fs_files.specs.Calls.{GrowthRefused}
use Rattle.fs_session.specs.Commands.{IsRefusedFor}
use Rattle.fs_commands.specs.Refusals.{refusal_of}
use Rattle.fs_commands.proofs.growing.Refused.{growth_refused, refused_alike}
use Rattle.fs_commands.proofs.snapped.Drafting.{used_below}
use Rattle.fs_session.specs.Space.{HasRoom, none_renewed}
use Rattle.fs_commands.specs.Gathering.{snapshot_count}
use Rattle.fs_commands.specs.Snapping.{DraftsSnapshot, figures_to_snap}
use Rattle.fs_commands.proofs.Placing.{placed_by}
use Rattle.fs_commands.proofs.naming.Drafting.{DoesRead}
use Rattle.fs_commands.proofs.unsnapped.Taken.{nothing_in}

-- A snapshot of this name, under this number, is accepted.
pub record AcceptsSnapshot (s : State) (f : Session) (name : List ℕ) (number : ℕ) : Type 0 where
  pub accepted : refusal f.limit f.tree (Snap name) ≡ None
  pub least : least_unused f.limit.nodes f.tree ≡ Some number
  pub figures : figures_on s f (Snap name) ≡ figures_to_snap s

pub snap_accepted : (s : State) (f : Session) (name : List ℕ) (number : ℕ) → IsSession s f → get f.tree.snapshots name ≡ None → least_unused f.limit.nodes f.tree ≡ Some number
    → snapshot_blocks f.limit f.tree.names ≡ 1 + (table_blocks s.books.geom + length (all_dirs (used_node s.books.geom s.map) 1 f.limit.nodes)) → AcceptsSnapshot s f name number
snap_accepted s f name number h free least live =
    let accepted : refusal f.limit f.tree (Snap name) ≡ None = ap₂ (λ (o : Option Kept) (n : Option ℕ). first_reason (when (is_some o) Exists ∷ when (is_none n) NoNode ∷ [])) free least in
    record {
      accepted = accepted;
      least = least;
      figures =
          ap (λ r. figures_over_by (bitmap_blocks s.books.geom) (shared_on s f) (alone_on s f) f.limit f.tree (Snap name) r) accepted
          ∙ ap (snapping (bitmap_blocks s.books.geom)) (live ∙ ap (λ (b : Bounds). 1 + (table_blocks s.books.geom + length (all_dirs (used_node s.books.geom s.map) 1 b.nodes))) h.limit);
    }

-- the files that are no inodes as before
module _ (l : Layout) (old new : Files) (number : ℕ) (x : FileNode) (with_it : IsWithFile old new number (Some x)) (kind : x.kind ≡ Snapshot) (unused : old number ≡ None) where
  pub same_inodes : inodes_of l new ≡ inodes_of l old
  same_inodes = fun_ext (λ k. by k (cases_eq k number))
    where
      by : (k : ℕ) → (k ≡ number) ⊎ (k ≢ number) → inodes_of l new k ≡ inodes_of l old k
      by k (inl e) = ap (inodes_of l new) e ∙ ap (option_and_then (inode_of l)) with_it.own ∙ none_of x kind ∙ sym (ap (option_and_then (inode_of l)) unused) ∙ ap (inodes_of l old) (sym e)
        where
          none_of : (x : FileNode) → x.kind ≡ Snapshot → inode_of l x ≡ None
          none_of x is = cc
      by k (inr ne) = ap (option_and_then (inode_of l)) (with_it.others k ne)

  pub reads_still : DoesRead l old → DoesRead l new
  reads_still reads k file is plain = by (cases_eq k number)
    where
      by : (k ≡ number) ⊎ (k ≢ number) → (i : Inode) × (inode_of l file ≡ Some i)
      by (inl e) = absurd (plain (ap (λ (y : FileNode). y.kind) (same_Some file x (sym is ∙ ap new e ∙ with_it.own)) ∙ kind))
      by (inr ne) = reads k file (sym (with_it.others k ne) ∙ is) plain

-- The map that the inodes have is that of the tree with the snapshot.
map_of_session : (s : State) (f : Session) (name : List ℕ) (m : ℕ → Option Inode) → refusal f.limit f.tree (Snap name) ≡ None → IsMapOf f.limit.nodes m f.tree → IsMapOf f.limit.nodes m (step f (Snap name)).0.tree
map_of_session s f name m accepted map =
    subst (λ r. IsMapOf f.limit.nodes m (answered f (Snap name) r).0.tree) (sym accepted) (by (least_unused f.limit.nodes f.tree))
  where
    by : (o : Option ℕ) → IsMapOf f.limit.nodes m (snapped_by f.tree name o)
    by None = map
    by (Some n) = record {
      root = map.root;
      distinct = map.distinct;
      within = map.within;
      shows = record { names = map.shows.names; nodes = map.shows.nodes; links = map.shows.links; only = map.shows.only; reached = map.shows.reached; used = map.shows.used };
    }

-- The draft of a snapshot that may be made makes the tree.
module _ (s v : State) (f : Session) (name : List ℕ) (number cost : ℕ) (d : DraftState) (h : IsSession s f) (a : AcceptsSnapshot s f name number) (snap : DraftsSnapshot s v number name d) (unused : files_in s nothing_drafted number ≡ None)
    (least : least_number s ≡ Some number) (geom : v.books.geom ≡ s.books.geom) (costs : cost ≡ (figures_to_snap s).cost) (room : HasRoom s.books (figures_to_snap s)) where
  abbrev size : ℕ
  size = snapshot_count s.books.geom s.map

  abbrev more : List ℕ
  more = take size (reusable_blocks v.books)

  need_is : (figures_on s f (Snap name)).need ≡ size
  need_is = ap (λ (n : Figures). n.need) a.figures

  -- no place is renewed
  unrenewed : renewed_on s f (Snap name) ≡ none_renewed
  unrenewed = renews_without_bytes s f (Snap name) refl

  -- the node had no blocks
  bare : places_of s number ≡ []
  bare = ap places_or_none (nothing_in (file_of s.books.geom.layout (drafted nothing_drafted s.map)) (used_node s.books.geom (drafted nothing_drafted s.map) number) unused)

  within : IsWithinCost v.books.geom d cost
  within = record {
    blocks = node_block s.books.geom number ∷ [];
    only = snap.only;
    price = omega (arith, costs, snap.fresh, ap (λ (xs : List ℕ). length xs) snap.taken, ap (λ (xs : List ℕ). length xs) snap.freed, length-take size (reusable_blocks v.books), snap.enough, ap bitmap_blocks geom);
    some = λ c. snap.changes;
  }

  runs : GrowsInRuns (renewed_on s f (Snap name) number) s v.books number size
  runs = grows_unrenewed s f (Snap name) unrenewed v.books number size
      (runs_behind s v.books number size snap.enough (subst (λ ps. stretches (ps ++ more) ≤ most_runs s.books.geom.layout) (sym bare) snap.runs))

  uses : Uses size 0 (reusable_blocks v.books) (renewed_on s f (Snap name)) (places_of s) (places_in v d) d
  uses = uses_unrenewed s f (Snap name) unrenewed size 0 (reusable_blocks v.books) (places_of s) (places_in v d) d (record {
    taken = snap.taken;
    freed_are = ap (λ (xs : List ℕ). length xs) snap.freed;
    placed = placed_by (places_of s) (places_in v d) number more more snap.places (subst (λ ps. more ≡ take (length more) (ps ++ more)) (sym bare) (sym (take_all (length more) more (omega arith))));
  })

  module _ (map : IsMapOf f.limit.nodes (inodes s) f.tree) (reads : DoesRead s.books.geom.layout (files_in s nothing_drafted)) (read : (l : Layout) (files : Files) → DoesRead l files → AreInodesOf l files (inodes_of l files))
      (adds : (m : Blocks) → HasDrafted v d m → AddsSnapshot v.books.geom v.map m number name more) (rests : size ≤ length (reusable_blocks s.books) → v.books ≡ s.books) where
    pub makes : MakesTree (Snap name) d cost s v f
    makes = record {
      accepted = a.accepted;
      answer = ap (λ r. (answered f (Snap name) r).1) a.accepted;
      costs = ap (λ (n : Figures). n.cost) a.figures ∙ sym costs;
      room = subst (HasRoom s.books) (sym a.figures) room;
      runs = λ k some grown. subst (λ l. GrowsInRuns (renewed_on s f (Snap name) l) s v.books l (figures_on s f (Snap name)).need) (same_Some number k (sym least ∙ grown))
          (subst (λ n. GrowsInRuns (renewed_on s f (Snap name) number) s v.books number n) (sym need_is) runs);
      reads = reads_laid s v geom d (read s.books.geom.layout (files_in v d) (reads_still s.books.geom.layout (files_in s nothing_drafted) (files_in v d) number _ snap.file refl unused reads));
      map = subst (λ m. IsMapOf f.limit.nodes m (step f (Snap name)).0.tree) (sym (inodes_laid s v geom d ∙ same_inodes s.books.geom.layout (files_in s nothing_drafted) (files_in v d) number _ snap.file refl unused)) (map_of_session s f name (inodes s) a.accepted map);
      snapshots = record { number = number; least = a.least; places = more; adds = adds };
      within = within;
      uses = subst (λ (n : Figures). Uses n.need n.freed (reusable_blocks v.books) (renewed_on s f (Snap name)) (places_of s) (places_in v d) d) (sym a.figures) uses;
      enough = omega (arith, need_is, snap.enough);
      rests = λ few. rests (omega (arith, need_is, few));
    }

-- Nodes in use stay so, and all up to the new one are.
pub keeps_used : (s v : State) (name : List ℕ) (number : ℕ) (d : DraftState) → DraftsSnapshot s v number name d → files_in v nothing_drafted ≡ files_in s nothing_drafted → least_number s ≡ Some number → KeepsUsed (Taken number) (files_of v.books.geom v.map) (files_in v d)
keeps_used s v name number d snap same least = uses_of (Taken number) s v d same (still, λ l above below. by l above below (cases_eq l number))
  where
    still : (l : ℕ) → IsUsed (files_in s nothing_drafted) l → IsUsed (files_in v d) l
    still l u = still_used (files_in s nothing_drafted) (files_in v d) number _ snap.file l u

    by : (l : ℕ) → 1 ≤ l → l < number + 1 → (l ≡ number) ⊎ (l ≢ number) → IsUsed (files_in v d) l
    by l above below (inl e) = (_, ap (files_in v d) e ∙ snap.file.own)
    by l above below (inr ne) = still l (used_below s number least l above (omega (arith, below, ne)))

-- Why the draft of a snapshot that may be made is refused.
pub snap_refused : (s v : State) (f : Session) (name : List ℕ) (number : ℕ) → AcceptsSnapshot s f name number → files_in s nothing_drafted number ≡ None → least_number s ≡ Some number → HasRoom s.books (figures_to_snap s) → IsSound v.books → MovesPipeline s.books v.books → s.books.geom.n ≤ 1048576
    → (why : FileRefusal) → GrowthRefused (snapshot_count s.books.geom s.map) (λ more. more) s.books v.books why → IsRefusedFor s v f (Snap name) (refusal_of why)
snap_refused s v f name number a unused least room sound moves small why h =
    let bare : places_of s number ≡ [] = ap places_or_none (nothing_in (file_of s.books.geom.layout (drafted nothing_drafted s.map)) (used_node s.books.geom (drafted nothing_drafted s.map) number) unused) in
    growth_refused s v f (Snap name) number sound moves small a.accepted (subst (HasRoom s.books) (sym a.figures) room) least (omega (arith, ap (λ (ps : List ℕ). length ps) bare)) why
    (refused_alike (figures_on s f (Snap name)).need (λ more. more) (λ more. renew (renewed_on s f (Snap name) number) 0 (places_of s number) more) s.books v.books (λ more. sym (ap (λ ps. renew (renewed_on s f (Snap name) number) 0 ps more) bare)) why
    (subst (λ n. GrowthRefused n (λ more. more) s.books v.books why) (sym (ap (λ (n : Figures). n.need) a.figures)) h))
