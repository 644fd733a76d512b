-- What is found of a snapshot that is to come: the tree refuses it, or there is no room, or it may be made.
use Rattle.std.proofs.Common.{◌≡◌, ℕ, ◌+◌, ◌≤◌, true, false, if◌then◌else◌, List, ◌∷◌, [], length, slice_get, All, is_none, is_some, Option, None, Some, refl, sym, ap, ap₂, subst, ◌∙◌, arith}
use Rattle.std.proofs.lemmas.Bool.{false≢true, true≢false}
use Rattle.std.proofs.lemmas.Option.{none-some}
use Rattle.base_types.specs.Runs.{run_places}
use Rattle.base_types.specs.Seal.{Blocks}
use Rattle.layout_bytes.specs.declared.node.Node.{Node}
use Rattle.layout_bytes.specs.declared.node.NodeKind.{NodeKind}
use Rattle.layout_bytes.specs.declared.node.NodeKind.TheVariants.{Dir, File, Free, Snapshot}
use Rattle.layout_geometry.specs.Geometry.{Geometry, IsGeometry, bitmap_blocks}
use Rattle.lang_tree.specs.declared.command.Cmd.TheVariants.{Snap}
use Rattle.lang_tree.specs.declared.command.Refusal.TheVariants.{Exists, NoNode}
use Rattle.lang_tree.specs.Conditions.{first_reason, least_unused, refusal, when}
use Rattle.lang_tree.specs.Figures.{Figures, snapping, snapshot_blocks}
use Rattle.lang_tree.specs.Sharing.{figures_over_by}
use Rattle.lang_tree.specs.Step.{Session}
use Rattle.lang_tree.specs.Tree.{Kept, Bounds}
use Rattle.crash_stands.specs.Files.{used_node}
use Rattle.crash_stands.specs.Places.{is_copied, table_blocks}
use Rattle.crash_stands.specs.Stands.{AreSound}
use Rattle.crash_snapshots.specs.Places.{all_dirs, places_of_dir}
use Rattle.engine_blocks.specs.Puts.{IsData}
use Rattle.engine_blocks.specs.State.{State}
use Rattle.fs_snapshots.specs.Known.{snapshot_number}
use Rattle.fs_session.specs.Commands.{alone_on, figures_on, least_number, shared_on}
use Rattle.fs_session.specs.Sessions.{IsSession}
use Rattle.fs_commands.specs.Gathering.{live_dirs}
use Rattle.fs_commands.specs.Snapping.{figures_to_snap}
use Rattle.fs_commands.proofs.gathered.Lists.{dirs_are}
use Rattle.fs_commands.proofs.snapped.Answers.{NamedLaw, none_named, one_named}
use Rattle.fs_commands.proofs.unsnapped.Found.{few_below}
use Rattle.fs_commands.proofs.unsnapped.Once.{IsOnce, nodes_once}

-- a snapshot's blocks are as many as the tree says
abbrev pub LiveLaw : State → Session → Type 0
LiveLaw s f = snapshot_blocks f.limit f.tree.names ≡ 1 + (table_blocks s.books.geom + length (all_dirs (used_node s.books.geom s.map) 1 f.limit.nodes))

-- there is a number where one is told
pub told_number : (o : Option ℕ) → is_some o ≡ true → (n : ℕ) × (o ≡ Some n)
told_number None e = absurd (false≢true e)
told_number (Some n) e = (n, refl)

pub told_none : (o : Option ℕ) → is_some o ≡ false → o ≡ None
told_none None e = refl
told_none (Some n) e = absurd (true≢false e)

module _ (law : NamedLaw) (s : State) (f : Session) (h : IsSession s f) (name : List ℕ) where
  -- another one has the name
  pub name_there : (n : ℕ) → snapshot_number s.books.geom s.map name ≡ Some n → refusal f.limit f.tree (Snap name) ≡ Some Exists
  name_there n e =
      let k = one_named s.books.geom s.map f.tree name h.tree law n e in
      ap (λ (o : Option Kept). first_reason (when (is_some o) Exists ∷ when (is_none (least_unused f.limit.nodes f.tree)) NoNode ∷ [])) k.1

  module _ (none : snapshot_number s.books.geom s.map name ≡ None) (least : least_unused f.limit.nodes f.tree ≡ least_number s) where
    reasons : refusal f.limit f.tree (Snap name) ≡ first_reason (when false Exists ∷ when (is_none (least_number s)) NoNode ∷ [])
    reasons = ap₂ (λ (o : Option Kept) (l : Option ℕ). first_reason (when (is_some o) Exists ∷ when (is_none l) NoNode ∷ [])) (none_named s.books.geom s.map f.tree name h.tree law none) least

    -- no number is left
    pub no_number : least_number s ≡ None → refusal f.limit f.tree (Snap name) ≡ Some NoNode
    no_number e = reasons ∙ ap (λ (l : Option ℕ). first_reason (when false Exists ∷ when (is_none l) NoNode ∷ [])) e

    -- the tree accepts it, and it needs so much
    pub accepts : (n : ℕ) → least_number s ≡ Some n → LiveLaw s f → (refusal f.limit f.tree (Snap name) ≡ None) × (figures_on s f (Snap name) ≡ figures_to_snap s)
    accepts n e live = (
      reasons ∙ ap (λ (l : Option ℕ). first_reason (when false Exists ∷ when (is_none l) NoNode ∷ [])) e,
      ap (figures_over_by (bitmap_blocks s.books.geom) (shared_on s f) (alone_on s f) f.limit f.tree (Snap name)) (reasons ∙ ap (λ (l : Option ℕ). first_reason (when false Exists ∷ when (is_none l) NoNode ∷ [])) e)
          ∙ ap (snapping (bitmap_blocks s.books.geom)) (live ∙ ap (λ (b : Bounds). 1 + (table_blocks s.books.geom + length (all_dirs (used_node s.books.geom s.map) 1 b.nodes))) h.limit),
    )

-- A directory's block is one of its node.
dir_place : (o : Option Node) (i b : ℕ) → slice_get (places_of_dir o) i ≡ Some b → (node : Node) × (o ≡ Some node) × (slice_get (run_places node.runs) i ≡ Some b)
dir_place None i b at = absurd (none-some b at)
dir_place (Some node) i b at = (node, refl, by node.kind at)
  where
    by : (kind : NodeKind) → slice_get (if is_copied kind then run_places node.runs else []) i ≡ Some b → slice_get (run_places node.runs) i ≡ Some b
    by Free e = absurd (none-some b e)
    by Dir e = e
    by File e = absurd (none-some b e)
    by Snapshot e = absurd (none-some b e)

-- none of them is there twice
pub dirs_once : (g : Geometry) (m : Blocks) → AreSound g m → IsOnce (live_dirs g m)
dirs_once g m sound = subst IsOnce (sym (dirs_are (used_node g m) g.i)) (nodes_once (λ k. places_of_dir (used_node g m k)) g.i (λ k l i j b x y.
    let e = dir_place (used_node g m k) i b x in
    let f = dir_place (used_node g m l) j b y in
    sound.own k l i j b (record { node = e.0; is_node = e.1; place = e.2 }) (record { node = f.0; is_node = f.1; place = f.2 })))

-- so they are no more than the disk has blocks
pub dirs_few : (g : Geometry) (m : Blocks) (dirs : List ℕ) → IsGeometry g → AreSound g m → dirs ≡ live_dirs g m → All (IsData g) dirs → length dirs ≤ 1048576
dirs_few g m dirs limits sound is inside =
    omega (arith, few_below dirs g.n (subst IsOnce (sym is) (dirs_once g m sound)) (λ i d low. (inside i d low).below), limits.most_blocks)

-- so much was weighed
pub costs : (s : State) (k : Geometry) (figures : Figures) (bitmap count : ℕ) (dirs : List ℕ) → k ≡ s.books.geom → figures ≡ snapping bitmap count → bitmap ≡ bitmap_blocks k → (length dirs ≤ 1048576 → count ≡ 1 + (table_blocks k + length dirs))
    → dirs ≡ live_dirs s.books.geom s.map → IsGeometry s.books.geom → AreSound s.books.geom s.map → All (IsData s.books.geom) dirs → figures ≡ figures_to_snap s
costs s k figures bitmap count dirs geom is bits value are limits sound inside =
    is ∙ ap₂ snapping (bits ∙ ap bitmap_blocks geom) (value (dirs_few s.books.geom s.map dirs limits sound are inside) ∙ ap₂ (λ (j : Geometry) (bs : List ℕ). 1 + (table_blocks j + length bs)) geom are)
