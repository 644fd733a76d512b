-- The figures of a command, from the sizes of inodes, and the blocks of the map after it.
use Rattle.std.proofs.Common.{◌≡◌, ℕ, ◌+◌, ◌==◌, Bool, false, length, Option, if◌then◌else◌, refl, ap, ap₂, ◌∙◌, sym, arith}
use Rattle.std.specs.FinMap.{get}
use Rattle.base_types.specs.declared.layout.Layout.{Layout}
use Rattle.base_types.specs.Layouts.{table_blocks}
use Rattle.lang_tree.specs.declared.command.Cmd.{Cmd}
use Rattle.lang_tree.specs.declared.command.Cmd.TheVariants.{Mkdir, Create, Write, Fill, Read, Truncate, Link, Unlink, Rmdir, Rename, Stat, List as ListNames, Snap, Unsnap, Snaps, At, Osync, Dsync, Durable, Dwait, Poll, Bad}
use Rattle.lang_tree.specs.declared.command.Refusal.{Refusal}
use Rattle.lang_tree.specs.Tree.{Bounds, Tree, IsSound}
use Rattle.lang_tree.specs.Paths.{parent}
use Rattle.lang_tree.specs.Figures.{Figures, blocks_for, growth, release, siblings, are_in_one, nothing, adding, removing, moving, snapping, figures, blocks}
use Rattle.lang_tree.specs.Sharing.{SharedNodes, SharedPlaces, BlocksAlone, alone_from, shared_at, alone_gone, write_over_figures, truncate_over_figures, move_over_figures, accepted_over, figures_over_by, figures_over}
use Rattle.lang_tree.specs.Step.{Session, step, changes_snapshots}
use Rattle.lang_tree.specs.Conditions.{least_unused}
use Rattle.crash_stands.specs.Inodes.{Inodes}
use Rattle.crash_stands.specs.Maps.{IsMapOf}
use Rattle.fs_inodes.specs.Figures.{slots_above, blocks_lost, move_cost, accepted_cost_over, cost_over_by, cost_over, blocks_of}
use Rattle.fs_inodes.specs.Lookups.{number_at}
use Rattle.fs_inodes.specs.TreeLaws.{TreeLaws}
use Rattle.fs_inodes.proofs.basics.Paths.{Path}
use Rattle.fs_inodes.proofs.agreement.Agree.{Agrees, agrees}
use Rattle.fs_inodes.proofs.lookups.Walking.{number_given, content_given, links_given, there_given, same_node_given}
use Rattle.fs_inodes.proofs.lookups.Reasons.{reason_given}
use Rattle.fs_inodes.proofs.lookups.Rows.{names_count}
use Rattle.fs_inodes.proofs.sums.Totals.{blocks_given, directories_given}

-- a move's figures, by what is asked for them
abbrev moves : ℕ → Layout → Bool → Bool → ℕ → ℕ → ℕ → Figures
moves bitmap l in_one there here target gone =
    if there then moving bitmap 0 (release l here + gone) else if in_one then moving bitmap 0 0 else moving bitmap (growth l target) (release l here)

-- the same is asked, and the figures are the same
moves_alike : (bitmap : ℕ) (l : Layout) (in_one : Bool) {there present : Bool} {here before target after gone lost : ℕ} → there ≡ present → here ≡ before → target ≡ after → gone ≡ lost
    → moves bitmap l in_one there here target gone ≡ moves bitmap l in_one present before after lost
moves_alike bitmap l in_one a b c d i = moves bitmap l in_one (a i) (b i) (c i) (d i)

-- the blocks that go with a path of so many links and bytes, with what is shared of them
abbrev gone_by : SharedPlaces → ℕ → ℕ → ℕ
gone_by shared links size = if links == 1 then alone_from shared 0 (blocks_for size) else 0

module _ (laws : TreeLaws) (bitmap : ℕ) (shared : SharedNodes) (alone : BlocksAlone) (limit : Bounds) (m : Inodes) (t : Tree) (a : Agrees limit.nodes m t) where
  -- the names beside a path are the slots of the directory above it
  siblings_given : (path : Path) → siblings t.names path ≡ slots_above m path
  siblings_given path = names_count limit.nodes m t a (parent path)

  -- what is shared of the file at a path
  shared_given : (path : Path) → shared_at shared (get t.names path) ≡ shared_at shared (number_at m path)
  shared_given path = ap (shared_at shared) (number_given limit.nodes m t a path)

  -- the blocks that go with a path are those of its inode
  gone_given : (path : Path) → alone_gone shared t path ≡ blocks_lost shared m path
  gone_given path i = gone_by (shared_given path i) (links_given limit.nodes m t a laws path i) (length (content_given limit.nodes m t a path i))

  -- the figures of a move
  move_given : (from to : Path) → move_over_figures bitmap shared limit.layout t from to ≡ move_cost bitmap shared limit.layout m from to
  move_given from to = moves_alike bitmap limit.layout (are_in_one from to) (there_given limit.nodes m t a to) (siblings_given from) (siblings_given to) (gone_given to)

  -- the figures of a command that isn't refused
  accepted_given : (cmd : Cmd) → accepted_over bitmap shared alone limit t cmd ≡ accepted_cost_over bitmap shared alone limit t.snapshots m cmd
  accepted_given (Mkdir path) = ap (λ n. adding (growth limit.layout n)) (siblings_given path)
  accepted_given (Create path) = ap (λ n. adding (growth limit.layout n)) (siblings_given path)
  accepted_given (Write path offset bytes) = ap₂ (λ s old. write_over_figures bitmap s (length old) offset (length bytes)) (shared_given path) (content_given limit.nodes m t a path)
  accepted_given (Fill path offset count byte) = ap₂ (λ s old. write_over_figures bitmap s (length old) offset count) (shared_given path) (content_given limit.nodes m t a path)
  accepted_given (Read path offset count) = refl
  accepted_given (Truncate path size) = ap₂ (λ s old. truncate_over_figures bitmap s (length old) size) (shared_given path) (content_given limit.nodes m t a path)
  accepted_given (Link path other) = ap (λ n. adding (growth limit.layout n)) (siblings_given other)
  accepted_given (Unlink path) = ap₂ (λ n gone. removing bitmap (release limit.layout n + gone)) (siblings_given path) (gone_given path)
  accepted_given (Rmdir path) = ap (λ n. removing bitmap (release limit.layout n)) (siblings_given path)
  accepted_given (Rename from to) = ap₂ (λ b f. if b then nothing else f) (same_node_given limit.nodes m t a from to) (move_given from to)
  accepted_given (Stat path) = refl
  accepted_given (ListNames path) = refl
  accepted_given (Snap name) = ap (λ n. snapping bitmap (1 + (table_blocks limit.layout limit.nodes + n))) (directories_given laws limit.nodes m t a limit.layout)
  accepted_given (Unsnap name) = refl
  accepted_given Snaps = refl
  accepted_given (At name l) = refl
  accepted_given Osync = refl
  accepted_given Dsync = refl
  accepted_given Durable = refl
  accepted_given (Dwait n) = refl
  accepted_given Poll = refl
  accepted_given Bad = refl

  -- refused or not
  pub cost_given : (cmd : Cmd) (r : Option Refusal) → figures_over_by bitmap shared alone limit t cmd r ≡ cost_over_by bitmap shared alone limit t.snapshots m cmd r
  cost_given cmd r = grind (arith, accepted_given)

-- the figures of each command come from inodes
pub figures_given : (laws : TreeLaws) (bitmap : ℕ) (shared : SharedNodes) (alone : BlocksAlone) (s : Session) (m : Inodes) → Agrees s.limit.nodes m s.tree → (cmd : Cmd)
    → figures_over bitmap shared alone s cmd ≡ cost_over bitmap shared alone s.limit (least_unused s.limit.nodes s.tree) s.tree.snapshots m cmd
figures_given laws bitmap shared alone s m a cmd =
    ap (figures_over_by bitmap shared alone s.limit s.tree cmd) (reason_given laws s.limit m s.tree a cmd) ∙ cost_given laws bitmap shared alone s.limit m s.tree a cmd _

-- After a command.

-- the blocks after a command, where the blocks of trees change by its figures
pub blocks_change : (laws : TreeLaws)
    → ((bitmap : ℕ) (s : Session) (cmd : Cmd) → changes_snapshots cmd ≡ false → IsSound s.limit.nodes s.tree → blocks s.limit.layout (step s cmd).0.tree + (figures bitmap s cmd).freed ≡ blocks s.limit.layout s.tree + (figures bitmap s cmd).need)
    → (bitmap : ℕ) (s : Session) (m new : Inodes) (cmd : Cmd) → changes_snapshots cmd ≡ false → IsMapOf s.limit.nodes m s.tree → IsMapOf s.limit.nodes new (step s cmd).0.tree
    → blocks_of s.limit new + (figures bitmap s cmd).freed ≡ blocks_of s.limit m + (figures bitmap s cmd).need
blocks_change laws tree_blocks bitmap s m new cmd live is after =
    ap (λ b. b + (figures bitmap s cmd).freed) (sym (blocks_given laws s.limit.nodes new (step s cmd).0.tree (agrees laws s.limit.nodes new (step s cmd).0.tree after) s.limit.layout))
    ∙ tree_blocks bitmap s cmd live (laws.map_sound s.limit.nodes m s.tree is)
    ∙ ap (λ b. b + (figures bitmap s cmd).need) (blocks_given laws s.limit.nodes m s.tree (agrees laws s.limit.nodes m s.tree is) s.limit.layout)
