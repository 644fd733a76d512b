-- When figures are those of a command, and what of a file's blocks snapshots keep. The figures are defined in lang_tree, and described in docs/TREE.md.
use Rattle.std.specs.Prelude.{◌≡◌, ℕ, ◌-◌, ◌<◌, ◌==◌, if◌then◌else◌, List, length, slice_get, None, Some}
use Rattle.base_types.specs.declared.layout.Layout.{Layout}
use Rattle.lang_tree.specs.declared.command.Cmd.{Cmd}
use Rattle.lang_tree.specs.Conditions.{refusal}
use Rattle.lang_tree.specs.Figures.{Figures, blocks_for}
use Rattle.lang_tree.specs.Sharing.{BlocksAlone, SharedNodes, SharedPlaces, alone_from, figures_over, shared_at, shared_met}
use Rattle.lang_tree.specs.Step.{Session}
use Rattle.crash_stands.specs.Files.{FileNode}
use Rattle.crash_stands.specs.Inodes.{Inodes}
use Rattle.crash_stands.specs.Maps.{IsMapOf}
use Rattle.engine_blocks.specs.State.{State}
use Rattle.fs_inodes.specs.Lookups.{links_in, bytes_of, inode_at, number_at}
use Rattle.fs_files.specs.Calls.{files_in}
use Rattle.fs_files.specs.Drafts.{nothing_drafted}
use Rattle.fs_files.specs.Shared.{is_kept_at}
use Rattle.fs_commands.specs.declared.paths.NodeFound.{NodeFound}
use Rattle.fs_session.specs.Commands.{places_of}

-- The command has these figures in a layout, where these blocks of nodes are shared, whichever tree has this inode map and doesn't refuse it, and whatever a snapshot alone has.
abbrev pub AreFiguresOf : Layout → ℕ → SharedNodes → Inodes → Cmd → Figures → Type 0
AreFiguresOf l bitmap shared m cmd f =
    (alone : BlocksAlone) (s : Session) → s.limit.layout ≡ l → IsMapOf s.limit.nodes m s.tree → refusal s.limit s.tree cmd ≡ None → figures_over bitmap shared alone s cmd ≡ f

-- a path has so many links, and so many bytes are there
abbrev pub HasFacts : Inodes → List (List ℕ) → ℕ → ℕ → Type 0
HasFacts m path links size = (links ≡ links_in (inode_at m path)) × (size ≡ length (bytes_of (inode_at m path)))

-- which of a node's blocks snapshots keep, by their places, where so many keep each block
abbrev pub kept_places : List ℕ → List ℕ → SharedPlaces
kept_places counts places i = is_kept_at counts (slice_get places i)

-- node k is a file of so many bytes
abbrev pub HasSize : State → ℕ → ℕ → Type 0
HasSize s k size = (x : FileNode) → files_in s nothing_drafted k ≡ Some x → length x.bytes ≡ size

-- snapshots keep so many of the blocks of node k that its bytes from lo up to hi touch
abbrev pub MeetsKept : State → List ℕ → ℕ → ℕ → ℕ → ℕ → Type 0
MeetsKept s counts k lo hi met = (x : FileNode) → files_in s nothing_drafted k ≡ Some x → met ≡ shared_met (kept_places counts (places_of s k)) (length x.bytes) lo hi

-- Snapshots keep so many of the blocks of node k that change where it gets another size: those that its new bytes touch, or those that it gives up.
pub record KeepsResized (s : State) (counts : List ℕ) (k size kept : ℕ) : Type 0 where
  pub grows : (x : FileNode) → files_in s nothing_drafted k ≡ Some x → length x.bytes < size → kept ≡ shared_met (kept_places counts (places_of s k)) (length x.bytes) (length x.bytes) size
  pub cuts : (x : FileNode) → files_in s nothing_drafted k ≡ Some x → size < length x.bytes
      → blocks_for (length x.bytes) - blocks_for size - kept ≡ alone_from (kept_places counts (places_of s k)) (blocks_for size) (blocks_for (length x.bytes) - blocks_for size)

-- so many blocks go with one link of the node: its own that no snapshot keeps, where the link is the last one
abbrev pub LosesBlocks : State → List ℕ → NodeFound → ℕ → Type 0
LosesBlocks s counts node gone = gone ≡ (if node.facts.links == 1 then alone_from (kept_places counts (places_of s node.number)) 0 (blocks_for node.facts.size) else 0)

-- where what is shared is this, a file at the path shares so many of the blocks that its bytes from lo up to hi touch
abbrev pub MeetsShared : SharedNodes → Inodes → List (List ℕ) → ℕ → ℕ → ℕ → Type 0
MeetsShared shared m path lo hi met = met ≡ shared_met (shared_at shared (number_at m path)) (length (bytes_of (inode_at m path))) lo hi
