-- What laws say that proofs take as arguments.
use Rattle.std.proofs.Common.{◌≡◌, ℕ, ◌+◌, ◌-◌, ◌*◌, ◌/◌, ◌≤◌, min, max, Bool, false, IsTrue, sym, subst, List, [], ◌++◌, length, slice_get, Some, Ok}
use Rattle.base_types.specs.declared.layout.Layout.{Layout}
use Rattle.base_types.specs.Seal.{Blocks}
use Rattle.layout_geometry.specs.Geometry.{Geometry, bitmap_blocks}
use Rattle.layout_bytes.specs.declared.node.NodeKind.TheVariants.{File}
use Rattle.layout_bytes.specs.declared.slot.Slot.{Slot}
use Rattle.layout_directory.specs.Directory.{place_of}
use Rattle.lang_tree.specs.declared.command.Cmd.{Cmd}
use Rattle.lang_tree.specs.Conditions.{least_unused, refusal}
use Rattle.lang_tree.specs.Figures.{blocks_for, blocks_met}
use Rattle.lang_tree.specs.Points.{answers_point}
use Rattle.lang_tree.specs.Step.{Session, step}
use Rattle.lang_tree.specs.Tree.{Tree, Bounds}
use Rattle.crash_stands.specs.Files.{FileNode, Files, files_of}
use Rattle.crash_stands.specs.Inodes.{AreInodesOf, Inodes, inodes_of}
use Rattle.crash_stands.specs.Maps.{IsMapOf}
use Rattle.crash_stands.specs.Stands.{IsTreeOf}
use Rattle.crash_stands.specs.Walks.{LeadsTo, node_in}
use Rattle.fs_inodes.specs.Changes.{slot_of}
use Rattle.fs_inodes.specs.Figures.{cost_over}
use Rattle.fs_inodes.specs.Lookups.{walk_on}
use Rattle.fs_inodes.specs.Refusals.{reason}
use Rattle.fs_inodes.specs.Replies.{reply_of}
use Rattle.fs_files.specs.Drafts.{DraftState, nothing_drafted}
use Rattle.fs_files.specs.Finish.{ChangesOnly, price}
use Rattle.fs_files.specs.Bytes.{met}
use Rattle.fs_files.specs.Growing.{alone}
use Rattle.fs_files.specs.Shared.{is_kept_at}
use Rattle.layout_extent.specs.Renew.{makes_way, renewals}
use Rattle.fs_dirs.specs.Changing.{Alters, IsWithSlots}
use Rattle.engine_blocks.specs.Crashes.{Advances, IssuesNothing}
use Rattle.engine_blocks.specs.State.{State}
use Rattle.fs_session.specs.Changes.{ChangesAtMost, IsWithinCost}
use Rattle.fs_session.specs.Sessions.{IsSession, inodes}
use Rattle.lang_tree.specs.Sharing.{BlocksAlone, SharedNodes, SharedPlaces, figures_over, shared_met, writing_over}
use Rattle.fs_session.specs.Commands.{places_of, shared_on}

-- the tree refuses a command for the reason that its inode map gives
abbrev pub RefusalLaw : Type 0
RefusalLaw = (limit : Bounds) (m : Inodes) (t : Tree) (cmd : Cmd) → IsMapOf limit.nodes m t → refusal limit t cmd ≡ reason limit.layout (least_unused limit.nodes t) t.snapshots m cmd

-- a command takes what its inode map says, with what is shared
abbrev pub FiguresLaw : Type 0
FiguresLaw = (bitmap : ℕ) (shared : SharedNodes) (alone : BlocksAlone) (s : Session) (m : Inodes) (cmd : Cmd) → IsMapOf s.limit.nodes m s.tree
    → figures_over bitmap shared alone s cmd ≡ cost_over bitmap shared alone s.limit (least_unused s.limit.nodes s.tree) s.tree.snapshots m cmd

-- and is answered as it says
abbrev pub ReplyLaw : Type 0
ReplyLaw = (s : Session) (m : Inodes) (cmd : Cmd) → IsMapOf s.limit.nodes m s.tree → answers_point cmd ≡ false → (step s cmd).1 ≡ reply_of s.limit.layout (least_unused s.limit.nodes s.tree) s.tree.snapshots m cmd

-- a walk along a path ends where the path leads
abbrev pub EndsLaw : Type 0
EndsLaw = (m : Inodes) (path : List (List ℕ)) (k : ℕ) → walk_on m 1 path ≡ Ok k → LeadsTo m path k

-- where a name was found, its slot is there and names the node
abbrev pub PlaceLaw : Type 0
PlaceLaw = (slots : List Slot) (name : List ℕ) (place : ℕ) → place_of name slots ≡ Some place → (node : ℕ) × (slice_get slots place ≡ Some (slot_of node name)) × (node_in slots name ≡ Some node)

-- where a directory has other slots, each node in use reads as an inode still
abbrev pub SlotsReadLaw : Type 0
SlotsReadLaw = (l : Layout) (old new : Files) (k : ℕ) (slots : List Slot) → IsWithSlots l old new k slots → AreInodesOf l old (inodes_of l old) → AreInodesOf l new (inodes_of l new)

-- a node in use has a link, and a file few
abbrev pub LinksLaw : Type 0
LinksLaw = (g : Geometry) (m : Blocks) (k : ℕ) (x : FileNode) → files_of g m k ≡ Some x → (1 ≤ x.links) × (x.kind ≡ File → x.links ≤ 65535)

-- two alterations of a draft add up to one
abbrev pub SumLaw : Type 0
SumLaw = (a b frees more : ℕ) (takes others : List ℕ) (c d e : DraftState) → Alters a takes frees c d → Alters b others more d e → Alters (a + b) (takes ++ others) (frees + more) c e

-- what is altered of an empty draft bounds its price
abbrev pub PriceLaw : Type 0
PriceLaw = (g : Geometry) (most frees : ℕ) (takes : List ℕ) (e : DraftState) → Alters most takes frees nothing_drafted e
    → (bs : List ℕ) × ChangesOnly bs e × (price g bs e ≤ 25 * (most + (min (length takes) (bitmap_blocks g) + min frees (bitmap_blocks g))))

-- the blocks that bytes meet are counted by division
abbrev pub DivisionLaw : Type 0
DivisionLaw = (size lo hi : ℕ) → min (blocks_for size) (blocks_for hi) - lo / 1024 ≡ blocks_met size lo hi

-- a draft that puts bytes into a file is within the cost of that
abbrev pub WritingLaw : Type 0
WritingLaw = (g : Geometry) (d : DraftState) (shared : SharedPlaces) (size lo hi : ℕ)
    → ChangesAtMost d (blocks_met size lo hi - shared_met shared size lo hi + 1) (shared_met shared size lo hi + (blocks_for (max size hi) - blocks_for size)) (shared_met shared size lo hi + (blocks_for (max size hi) - blocks_for size)) 0
    → IsWithinCost g d (writing_over (bitmap_blocks g) shared size lo hi).cost

-- each block that bytes meet isn't kept, or makes way for a new one
abbrev pub KeptTooLaw : Type 0
KeptTooLaw = (kept : ℕ → Bool) (lo hi : ℕ) (places : List ℕ) → length (alone kept (met lo hi places)) + renewals (makes_way (lo / 1024) (blocks_for hi) kept places) 0 places ≡ length (met lo hi places)

-- what counts tell of the blocks that a session's snapshots keep
abbrev pub SharedLaw : State → Session → List ℕ → Type 0
SharedLaw s f counts = (k i : ℕ) → shared_on s f k i ≡ is_kept_at counts (slice_get (places_of s k) i)

-- a map of blocks where a tree stands has the tree's inode map
abbrev pub MapLaw : Type 0
MapLaw = (g : Geometry) (m : Blocks) (t : Tree) → IsTreeOf g m t → IsMapOf g.i (inodes_of g.layout (files_of g m)) t

-- so its session has it
pub session_map : MapLaw → (s : State) (f : Session) → IsSession s f → IsMapOf f.limit.nodes (inodes s) f.tree
session_map law s f h = subst (λ (b : Bounds). IsMapOf b.nodes (inodes s) f.tree) (sym h.limit) (law s.books.geom s.map f.tree h.tree)

-- time goes on over calls that issue nothing and make no point
abbrev pub Rests : {S : Type 0} → Bool → (S → State) → Type 0
Rests {S} tells state = IsTrue tells → (old new : S) → (state new).books.point ≡ (state old).books.point → (state new).books.floor ≡ (state old).books.floor → IssuesNothing (state old) (state new) → Advances (state old) (state new)
