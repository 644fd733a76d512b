-- What a command that takes a name away looks up first, and what it drafts. It is described in docs/FILE-SYSTEM.md.
use Rattle.std.specs.Prelude.{◌≡◌, ◌≢◌, ℕ, ◌+◌, ◌≤◌, ◌==◌, Bool, false, if◌then◌else◌, List, [], ◌∷◌, ◌++◌, length, slice_get, Option, None, Some, option_and_then, Result, Ok, Err}
use Rattle.base_types.specs.declared.layout.Layout.{Layout}
use Rattle.layout_bytes.specs.declared.slot.Slot.{Slot}
use Rattle.lang_tree.specs.declared.command.Cmd.{Cmd}
use Rattle.lang_tree.specs.declared.command.Cmd.TheVariants.{Unlink, Rmdir}
use Rattle.lang_tree.specs.declared.command.Kind.{Kind}
use Rattle.lang_tree.specs.declared.command.Kind.TheVariants.{Dir, File}
use Rattle.lang_tree.specs.declared.command.Refusal.{Refusal}
use Rattle.lang_tree.specs.Figures.{release}
use Rattle.crash_stands.specs.Files.{FileNode, Files}
use Rattle.crash_stands.specs.Inodes.{Inode, Inodes, ADir, IsInodeOf, AreInodesOf, inodes_of}
use Rattle.crash_stands.specs.Walks.{LeadsTo}
use Rattle.fs_inodes.specs.Changes.{slot_of, one_link_less, TakesSlot}
use Rattle.fs_inodes.specs.Figures.{slots_above}
use Rattle.fs_inodes.specs.Lookups.{has_slots}
use Rattle.fs_inodes.specs.Refusals.{file_reason, rmdir_reason}
use Rattle.engine_blocks.specs.State.{State}
use Rattle.fs_files.specs.declared.look.FileFacts.{FileFacts}
use Rattle.fs_files.specs.Calls.{facts_of, files_in, places_in}
use Rattle.fs_files.specs.Drafts.{DraftState, nothing_drafted}
use Rattle.fs_files.specs.Growing.{alone}
use Rattle.fs_files.specs.Shared.{is_kept}
use Rattle.fs_dirs.specs.Changing.{Alters}
use Rattle.fs_dirs.specs.Directories.{inodes_in}
use Rattle.fs_commands.specs.declared.paths.Entry.{Entry}
use Rattle.fs_commands.specs.declared.paths.NodeFound.{NodeFound}
use Rattle.fs_commands.specs.declared.paths.Spot.TheVariants.{Inside}
use Rattle.fs_commands.specs.declared.removing.Named.{Named}
use Rattle.fs_session.specs.Commands.{places_of}
use Rattle.fs_commands.specs.Figures.{HasFacts}
use Rattle.fs_commands.specs.Looks.{ComesTo}
use Rattle.fs_session.specs.declared.unused.NodeUse.{NodeUse}
use Rattle.fs_session.specs.declared.unused.NodeUse.TheVariants.{Dropped, Stays}
use Rattle.fs_session.specs.Sessions.{KeepsUsed, inodes}
use Rattle.fs_session.specs.Space.{ArePlaced, none_renewed}

-- the command that takes the path to a node of this kind away, and why the tree refuses it
abbrev pub lose_cmd : Kind → List (List ℕ) → Cmd
lose_cmd Dir path = Rmdir path
lose_cmd File path = Unlink path

abbrev pub lose_reason : Kind → Inodes → List (List ℕ) → Option Refusal
lose_reason Dir m path = rmdir_reason m path
lose_reason File m path = file_reason m path

-- The entry may go, and is the one that was found; or the tree refuses it for this reason.
abbrev pub MayLose : Kind → Inodes → List (List ℕ) → Option Entry → Result Entry Refusal → Type 0
MayLose kind m path found (Ok entry) = (found ≡ Some entry) × (lose_reason kind m path ≡ None)
MayLose kind m path found (Err why) = lose_reason kind m path ≡ Some why

-- how many blocks go with one link of a node with these facts and blocks: its own that aren't kept, where the link is the last one
abbrev pub blocks_gone : (ℕ → Bool) → FileFacts → List ℕ → ℕ
blocks_gone kept f places = if f.links == 1 then length (alone kept places) else 0

-- what the loss of one link of the node makes of the nodes in use: it is dropped, where the link is the last one
abbrev pub use_after : NodeFound → NodeUse
use_after node = if node.facts.links == 1 then Dropped node.number else Stays

-- The node is in use with these facts.
pub record IsFound (files : Files) (node : NodeFound) : Type 0 where
  pub file : FileNode
  pub is : files node.number ≡ Some file
  pub facts : node.facts ≡ facts_of file

-- Node k has one link less, or is gone with its last one, and no other node changed.
pub record LosesLink (l : Layout) (old new : Files) (k : ℕ) : Type 0 where
  pub own : IsInodeOf l (new k) (option_and_then one_link_less (inodes_of l old k))
  pub others : (n : ℕ) → n ≢ k → new n ≡ old n

-- The slot at the entry's place names the entry's node, under this name, in a directory of so many slots. The node reads as an inode, which has no slots.
pub record IsNamed (l : Layout) (files : Files) (name : List ℕ) (n : Named) : Type 0 where
  pub slots : List Slot
  pub dir : inodes_of l files n.dir ≡ Some (ADir slots)
  pub count : n.count ≡ length slots
  pub slot : slice_get slots n.entry.place ≡ Some (slot_of n.entry.node.number name)
  pub node : IsFound files n.entry.node
  pub inode : Inode
  pub shown : inodes_of l files n.entry.node.number ≡ Some inode
  pub bare : has_slots (inodes_of l files n.entry.node.number) ≡ false

-- The name was taken away in a draft: its slot went, and its node has one link less. Each node in use reads as an inode and has the first of its own blocks, so much is altered, and the other nodes in use stay so.
pub record LosesName (old now : State) (d : DraftState) (name : List ℕ) (n : Named) : Type 0 where
  pub takes : TakesSlot (inodes old) (inodes_in now d) n.dir n.entry.node.number name
  pub reads : AreInodesOf now.books.geom.layout (files_in now d) (inodes_in now d)
  pub alters : Alters 4 [] (release old.books.geom.layout n.count + blocks_gone (is_kept d.kept) n.entry.node.facts (places_of old n.entry.node.number)) nothing_drafted d
  pub placed : ArePlaced none_renewed (places_of old) (places_in now d) []
  pub used : KeepsUsed (use_after n.entry.node) (files_in old nothing_drafted) (files_in now d)

-- The path leads to what stands under the name, and the tree accepts that the path goes.
pub record IsLoss (kind : Kind) (l : Layout) (files : Files) (path : List (List ℕ)) (n : Named) : Type 0 where
  pub comes : ComesTo l files path (Ok (Inside n.dir n.count (Some n.entry)))
  pub accepted : lose_reason kind (inodes_of l files) path ≡ None

-- What is known of what goes: the directory above the path, the slot there that names its node, how many slots there are, where the path leads, and the links and bytes there, which are few.
pub record KnowsLoss (kind : Kind) (l : Layout) (files : Files) (path : List (List ℕ)) (n : Named) : Type 0 where
  pub up : List (List ℕ)
  pub name : List ℕ
  pub is : path ≡ up ++ name ∷ []
  pub leads : LeadsTo (inodes_of l files) up n.dir
  pub named : IsNamed l files name n
  pub above : n.count ≡ slots_above (inodes_of l files) path
  pub to_node : LeadsTo (inodes_of l files) path n.entry.node.number
  pub facts : HasFacts (inodes_of l files) path n.entry.node.facts.links n.entry.node.facts.size
  pub small : n.entry.node.facts.size ≤ 1073741824
  pub accepted : lose_reason kind (inodes_of l files) path ≡ None
