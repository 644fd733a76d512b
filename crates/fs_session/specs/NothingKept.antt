-- Lemmas where no snapshot is there, or a command puts no bytes into a file: no place is renewed, and new blocks stand behind all. Without snapshots a command needs what it needs of the tree alone. They are described in docs/SPACE.md.
use Rattle.std.proofs.Common.{◌≡◌, ℕ, ◌+◌, ◌-◌, ◌≤◌, ◌==◌, Bool, true, false, ◌&&◌, is_none, min, List, [], ◌∷◌, ◌++◌, length, take, map, slice_get, Option, None, Some, refl, sym, subst, ap, ◌∙◌}
use Rattle.std.proofs.Math.Bool.{and-false, or-false}
use Rattle.std.proofs.lemmas.Bool.{false≢true}
use Rattle.std.proofs.lemmas.List.{append-nil, nil_from_length}
use Rattle.std.specs.FinMap.{empty, entries, get, get-empty, keys, len-empty, len-entries}
use Rattle.std.specs.List.{list_any}
use Rattle.std.specs.Ordering.{nat_cmp}
use Rattle.std.specs.Cmp.Lexicographic.{slice_cmp}
use mathlib.Core.Path.{fun_ext}
use Rattle.base_types.specs.Layouts.{most_runs}
use Rattle.layout_geometry.specs.Geometry.{Geometry, bitmap_blocks, data_start}
use Rattle.layout_extent.specs.Renew.{renew}
use Rattle.layout_extent.specs.Runs.{stretches}
use Rattle.lang_tree.specs.declared.command.Cmd.{Cmd}
use Rattle.lang_tree.specs.declared.command.Cmd.TheVariants.{Write, Fill, Truncate, Unsnap}
use Rattle.lang_tree.specs.declared.command.Refusal.{Refusal}
use Rattle.lang_tree.specs.declared.command.Refusal.TheVariants.{NoSnap}
use Rattle.lang_tree.specs.Conditions.{is_snapshot, refusal, when}
use Rattle.lang_tree.specs.Figures.{blocks, figures, touches}
use Rattle.lang_tree.specs.Sharing.{BlocksAlone, SharedNodes, SharedPlaces, accepted_over, figures_over, figures_over_by, none_alone, none_shared}
use Rattle.lang_tree.specs.Step.{Session}
use Rattle.lang_tree.specs.Tree.{Bounds, Kept, Snapshots, Tree}
use Rattle.lang_tree.specs.Walk.{are_same, content}
use Rattle.engine_blocks.specs.Running.{has}
use Rattle.engine_blocks.specs.State.{Bookkeeping, State, reusable_blocks}
use Rattle.fs_files.specs.Drafts.{DraftState}
use Rattle.fs_session.specs.Changes.{Uses}
use Rattle.fs_session.specs.Commands.{GrowsInRuns, places_of, renewed_on, shared_on}
use Rattle.fs_session.specs.Lists.{is_listed, kept_at, shared_in}
use Rattle.fs_snapshots.specs.Known.{node_blocks}
use Rattle.fs_session.specs.Room.{HoldsTree, Room, alone_by, figures_in, is_in_use, left_in, renewed_in, runs_with, shared_by}
use Rattle.fs_session.specs.Space.{ArePlaced, grown_in, none_renewed, renewed_by, touched_by}

-- New blocks stand behind all where no place is renewed.

pub behind_all : (i : ℕ) (xs more : List ℕ) → renew none_shared i xs more ≡ xs ++ more
behind_all i [] more = refl
behind_all i (b ∷ bs) [] = sym (append-nil (b ∷ bs))
behind_all i (b ∷ bs) (c ∷ more) = ap (λ (xs : List ℕ). b ∷ xs) (behind_all (i + 1) bs (c ∷ more))

-- with no new blocks, none is
pub renews_nothing : (renewed : ℕ → Bool) (i : ℕ) (xs : List ℕ) → renew renewed i xs [] ≡ xs
renews_nothing renewed i [] = refl
renews_nothing renewed i (b ∷ bs) = refl

-- so nodes are placed where each has the first of its own blocks, and behind them the first of these
pub placed_behind : (old new : ℕ → List ℕ) (more : List ℕ) → ((k : ℕ) → new k ≡ take (length (new k)) (old k ++ more)) → ArePlaced none_renewed old new more
placed_behind old new more each k = each k ∙ ap (take (length (new k))) (sym (behind_all 0 (old k) more))

pub behind_placed : (old new : ℕ → List ℕ) (more : List ℕ) → ArePlaced none_renewed old new more → (k : ℕ) → new k ≡ take (length (new k)) (old k ++ more)
behind_placed old new more placed k = placed k ∙ ap (take (length (new k))) (behind_all 0 (old k) more)

-- and a node has room for its runs with these behind it
pub runs_behind : (old : State) (settled : Bookkeeping) (k need : ℕ) → need ≤ length (reusable_blocks settled) → stretches (places_of old k ++ take need (reusable_blocks settled)) ≤ most_runs old.books.geom.layout → GrowsInRuns none_shared old settled k need
runs_behind old settled k need enough few = record { enough = enough; runs = subst (λ (xs : List ℕ). stretches xs ≤ most_runs old.books.geom.layout) (sym (behind_all 0 (places_of old k) (take need (reusable_blocks settled)))) few }

-- No command renews what isn't shared.

touches_none : (t : Tree) (cmd : Cmd) (i : ℕ) → touched_by t cmd none_shared i ≡ false
touches_none t (Write path offset bytes) i = and-false (touches (min offset (length (content t path))) (offset + length bytes) i)
touches_none t (Fill path offset count byte) i = and-false (touches (min offset (length (content t path))) (offset + count) i)
touches_none t (Truncate path size) i = and-false (touches (length (content t path)) size i)
touches_none t cmd i = refl

renews_none : (f : Session) (cmd : Cmd) → renewed_by f cmd none_renewed ≡ none_renewed
renews_none f cmd = fun_ext (λ k. fun_ext (λ i. ap (λ b. b && are_same (grown_in f cmd) (Some k)) (touches_none f.tree cmd i)))

-- what the law says of figures where nothing is shared
abbrev pub CostsAsAlone : Type 0
CostsAsAlone = (bitmap : ℕ) (f : Session) (cmd : Cmd) → figures_over bitmap none_renewed none_alone f cmd ≡ figures bitmap f cmd

-- What a snapshot alone has counts where it goes.

unless_it_goes : (bitmap : ℕ) (shared : SharedNodes) (alone : BlocksAlone) (limit : Bounds) (t : Tree) (cmd : Cmd) (why : Option Refusal)
    → accepted_over bitmap shared alone limit t cmd ≡ accepted_over bitmap shared none_alone limit t cmd → figures_over_by bitmap shared alone limit t cmd why ≡ figures_over_by bitmap shared none_alone limit t cmd why
unless_it_goes bitmap shared alone limit t cmd None same = same
unless_it_goes bitmap shared alone limit t cmd (Some why) same = refl

-- where there is none, none goes
none_goes : (bitmap : ℕ) (shared : SharedNodes) (alone : BlocksAlone) (f : Session) (cmd : Cmd) → f.tree.snapshots ≡ empty → figures_over bitmap shared alone f cmd ≡ figures_over bitmap shared none_alone f cmd
none_goes bitmap shared alone f (Unsnap name) none =
    ap (figures_over_by bitmap shared alone f.limit f.tree (Unsnap name)) refused ∙ sym (ap (figures_over_by bitmap shared none_alone f.limit f.tree (Unsnap name)) refused)
  where
    refused : refusal f.limit f.tree (Unsnap name) ≡ Some NoSnap
    refused = ap (λ (m : Snapshots). when (is_none (get m name)) NoSnap) none ∙ ap (λ (o : Option Kept). when (is_none o) NoSnap) (get-empty (slice_cmp nat_cmp) name)
none_goes bitmap shared alone f cmd none = unless_it_goes bitmap shared alone f.limit f.tree cmd (refusal f.limit f.tree cmd) refl

-- No snapshot is there.

no_entries : entries (empty {X = Kept} {R = slice_cmp nat_cmp}) ≡ []
no_entries = nil_from_length (entries (empty {X = Kept} {R = slice_cmp nat_cmp})) (sym (len-entries (empty {X = Kept} {R = slice_cmp nat_cmp})) ∙ len-empty (slice_cmp nat_cmp) Kept)

-- no number is a snapshot's
pub no_snapshot : (t : Tree) (k : ℕ) → t.snapshots ≡ empty → is_snapshot t.snapshots k ≡ false
no_snapshot t k none = ap (λ (m : Snapshots). is_snapshot m k) none ∙ ap (λ (es : List (List ℕ × Kept)). list_any (λ e. e.1.number == k) es) no_entries

module _ (g : Geometry) (f : Session) (r : Room) (none : f.tree.snapshots ≡ empty) where
  no_names : keys f.tree.snapshots ≡ []
  no_names = ap (λ (m : Snapshots). keys m) none ∙ ap (λ (es : List (List ℕ × Kept)). map (λ e. e.0) es) no_entries

  alone_shares : shared_by g f.tree r ≡ none_renewed
  alone_shares = ap (λ (names : List (List ℕ)). shared_in g.i r.places r.kept names) no_names ∙ fun_ext (λ k. fun_ext (λ i. by (slice_get (r.places k) i)))
    where
      by : (o : Option ℕ) → kept_at g.i r.kept [] o ≡ false
      by None = refl
      by (Some b) = refl

  pub alone_renews : (cmd : Cmd) → renewed_in g f r cmd ≡ none_renewed
  alone_renews cmd = ap (renewed_by f cmd) alone_shares ∙ renews_none f cmd

  alone_figures : (cmd : Cmd) → figures_in g f r cmd ≡ figures_over (bitmap_blocks g) none_renewed none_alone f cmd
  alone_figures cmd =
      ap (λ (shared : SharedNodes). figures_over (bitmap_blocks g) shared (alone_by g f.tree r) f cmd) alone_shares
      ∙ none_goes (bitmap_blocks g) none_renewed (alone_by g f.tree r) f cmd none

  pub alone_costs : CostsAsAlone → (cmd : Cmd) → figures_in g f r cmd ≡ figures (bitmap_blocks g) f cmd
  alone_costs law cmd = alone_figures cmd ∙ law (bitmap_blocks g) f cmd

  -- the blocks in use are those of nodes
  pub alone_uses : (b : ℕ) → is_in_use g f.tree r b ≡ has (node_blocks r.places g.i) b
  alone_uses b = ap (λ (names : List (List ℕ)). is_listed g.i r.places r.kept names b) no_names ∙ or-false (has (node_blocks r.places g.i) b)

  -- in a room that holds the tree as many are left as the tree doesn't need
  pub alone_left : HoldsTree g f.tree r → left_in g f r ≡ (g.n - data_start g) - blocks g.layout f.tree - r.held
  alone_left holds = ap (λ n. (g.n - data_start g) - n - r.held) (holds.alone none)

  -- and new blocks stand behind a node's own
  pub alone_runs : (cmd : Cmd) (k need : ℕ) → runs_with g f r cmd k need ≡ stretches (r.places k ++ take need r.takeable)
  alone_runs cmd k need = ap (λ (renewed : SharedNodes). stretches (renew (renewed k) 0 (r.places k) (take need r.takeable))) (alone_renews cmd) ∙ ap stretches (behind_all 0 (r.places k) (take need r.takeable))

  pub alone_placed : (cmd : Cmd) (old new : ℕ → List ℕ) (more : List ℕ) → ArePlaced (renewed_in g f r cmd) old new more → (k : ℕ) → new k ≡ take (length (new k)) (old k ++ more)
  alone_placed cmd old new more placed = behind_placed old new more (subst (λ (renewed : SharedNodes). ArePlaced renewed old new more) (alone_renews cmd) placed)

-- Commands that renew no place, whatever is shared.

-- all but those that put bytes into a file
abbrev pub puts_no_bytes : Cmd → Bool
puts_no_bytes (Write path offset bytes) = false
puts_no_bytes (Fill path offset count byte) = false
puts_no_bytes (Truncate path size) = false
puts_no_bytes cmd = true

touches_nothing : (t : Tree) (cmd : Cmd) (shared : SharedPlaces) (i : ℕ) → puts_no_bytes cmd ≡ true → touched_by t cmd shared i ≡ false
touches_nothing t (Write path offset bytes) shared i is = absurd (false≢true is)
touches_nothing t (Fill path offset count byte) shared i is = absurd (false≢true is)
touches_nothing t (Truncate path size) shared i is = absurd (false≢true is)
touches_nothing t cmd shared i is = refl

pub renews_without_bytes : (s : State) (f : Session) (cmd : Cmd) → puts_no_bytes cmd ≡ true → renewed_on s f cmd ≡ none_renewed
renews_without_bytes s f cmd is = fun_ext (λ k. fun_ext (λ i. ap (λ b. b && are_same (grown_in f cmd) (Some k)) (touches_nothing f.tree cmd (shared_on s f k) i is)))

-- what a command does that renews no place
module _ (s : State) (f : Session) (cmd : Cmd) (renews : renewed_on s f cmd ≡ none_renewed) where
  pub grows_unrenewed : (settled : Bookkeeping) (k need : ℕ) → GrowsInRuns none_shared s settled k need → GrowsInRuns (renewed_on s f cmd k) s settled k need
  grows_unrenewed settled k need grows = subst (λ (renewed : SharedNodes). GrowsInRuns (renewed k) s settled k need) (sym renews) grows

  pub uses_unrenewed : (need freed : ℕ) (spare : List ℕ) (old new : ℕ → List ℕ) (d : DraftState) → Uses need freed spare none_renewed old new d → Uses need freed spare (renewed_on s f cmd) old new d
  uses_unrenewed need freed spare old new d uses = subst (λ (renewed : SharedNodes). Uses need freed spare renewed old new d) (sym renews) uses
