-- What a rename looks up before it drafts, and what its drafts make. It is described in docs/FILE-SYSTEM.md.
use Rattle.std.specs.Prelude.{◌≡◌, ◌≢◌, ℕ, List, [], ◌∷◌, ◌++◌, length, slice_get, false, Option, None, Some, is_some, IfSome, Ok}
use Rattle.base_types.specs.declared.layout.Layout.{Layout}
use Rattle.layout_bytes.specs.declared.slot.Slot.{Slot}
use Rattle.layout_directory.specs.Directory.{place_of}
use Rattle.crash_stands.specs.Files.{Files}
use Rattle.crash_stands.specs.Inodes.{Inode, Inodes, ADir, AreInodesOf, inodes_of}
use Rattle.crash_stands.specs.Walks.{node_in, LeadsTo}
use Rattle.fs_inodes.specs.Changes.{slot_of, MovesSlot}
use Rattle.fs_inodes.specs.Figures.{slots_above}
use Rattle.fs_inodes.specs.Lookups.{number_at}
use Rattle.fs_inodes.specs.Refusals.{rename_reason}
use Rattle.lang_tree.specs.Walk.{are_same}
use Rattle.engine_blocks.specs.State.{State}
use Rattle.fs_files.specs.Calls.{files_in, places_in}
use Rattle.fs_files.specs.Drafts.{DraftState, nothing_drafted}
use Rattle.fs_dirs.specs.Changing.{Alters}
use Rattle.fs_dirs.specs.Directories.{inodes_in}
use Rattle.fs_commands.specs.declared.paths.Entry.{Entry}
use Rattle.fs_commands.specs.declared.paths.Spot.TheVariants.{Inside}
use Rattle.fs_commands.specs.declared.removing.Named.{Named}
use Rattle.fs_session.specs.Commands.{places_of}
use Rattle.fs_commands.specs.Looks.{ComesTo, HasEntry}
use Rattle.fs_commands.specs.Removing.{IsFound}
use Rattle.fs_session.specs.declared.unused.NodeUse.{NodeUse}
use Rattle.fs_session.specs.Sessions.{KeepsUsed, inodes}
use Rattle.fs_session.specs.Space.{ArePlaced, none_renewed}

-- The slot at the entry's place, the first of its name, names the entry's node, in a directory of so many slots.
pub record HasNamed (m : Inodes) (name : List ℕ) (n : Named) : Type 0 where
  pub slots : List Slot
  pub dir : m n.dir ≡ Some (ADir slots)
  pub count : n.count ≡ length slots
  pub first : place_of name slots ≡ Some n.entry.place
  pub slot : slice_get slots n.entry.place ≡ Some (slot_of n.entry.node.number name)
  pub node : node_in slots name ≡ Some n.entry.node.number

-- Nothing is under the name in directory `dir`, which has so many slots.
pub record LacksName (m : Inodes) (name : List ℕ) (dir count : ℕ) : Type 0 where
  pub slots : List Slot
  pub dir_is : m dir ≡ Some (ADir slots)
  pub many_are : count ≡ length slots
  pub none : place_of name slots ≡ None
  pub nothing : node_in slots name ≡ None

-- A name may move onto another one: that names another node, which reads as an inode and is neither of the two directories.
pub record MayMoveOnto (s : State) (source target : Named) (name other : List ℕ) : Type 0 where
  pub from : HasNamed (inodes s) name source
  pub onto : HasNamed (inodes s) other target
  pub found : IsFound (files_in s nothing_drafted) target.entry.node
  pub inode : Inode
  pub shown : inodes s target.entry.node.number ≡ Some inode
  pub not_node : target.entry.node.number ≢ source.entry.node.number
  pub not_from : target.entry.node.number ≢ source.dir
  pub not_into : target.entry.node.number ≢ target.dir

-- The name moved in a draft, from one directory into another one or the same; each node in use reads as an inode; so many blocks are altered, taken and freed; each node has the first of its own blocks, or all and behind them those taken; and nodes are used so.
pub record MovesName (old now : State) (d : DraftState) (from into node : ℕ) (name other : List ℕ) (most : ℕ) (takes : List ℕ) (frees : ℕ) (nodes : NodeUse) : Type 0 where
  pub moves : MovesSlot (inodes old) (inodes_in now d) from into node name other
  pub reads : AreInodesOf now.books.geom.layout (files_in now d) (inodes_in now d)
  pub alters : Alters most takes frees nothing_drafted d
  pub placed : ArePlaced none_renewed (places_of old) (places_in now d) takes
  pub used : KeepsUsed nodes (files_in old nothing_drafted) (files_in now d)

-- A name may move to a free one of its directory.
pub record MayRename (s : State) (source : Named) (name other : List ℕ) : Type 0 where
  pub from : HasNamed (inodes s) name source
  pub into : LacksName (inodes s) other source.dir source.count

-- A name may move to a free one of another directory.
pub record MayMoveAway (s : State) (source : Named) (target count : ℕ) (name other : List ℕ) : Type 0 where
  pub from : HasNamed (inodes s) name source
  pub into : LacksName (inodes s) other target count
  pub apart : source.dir ≢ target

-- A rename that the tree accepts, of a name that was found, to this name in directory `into` of so many slots, under which is this: the two paths lead to two nodes.
pub record IsMove (l : Layout) (files : Files) (from to : List (List ℕ)) (source : Named) (into count : ℕ) (found : Option Entry) (other : List ℕ) : Type 0 where
  pub source_comes : ComesTo l files from (Ok (Inside source.dir source.count (Some source.entry)))
  pub target_comes : ComesTo l files to (Ok (Inside into count found))
  pub last : (up : List (List ℕ)) × (to ≡ up ++ other ∷ [])
  pub apart : IfSome found (λ e. e.node.number ≢ source.entry.node.number)
  pub accepted : rename_reason l (inodes_of l files) from to ≡ None

-- What is known of such a rename: the two names, the paths above them and where these lead.
pub record KnowsPaths (m : Inodes) (from to : List (List ℕ)) (source into : ℕ) (name other : List ℕ) : Type 0 where
  pub up : List (List ℕ)
  pub from_is : from ≡ up ++ name ∷ []
  pub source_leads : LeadsTo m up source
  pub above : List (List ℕ)
  pub to_is : to ≡ above ++ other ∷ []
  pub into_leads : LeadsTo m above into

-- The same with the name that moves.
pub record KnowsMove (l : Layout) (files : Files) (from to : List (List ℕ)) (source : Named) (into count : ℕ) (found : Option Entry) (other : List ℕ) : Type 0 where
  pub name : List ℕ
  pub paths : KnowsPaths (inodes_of l files) from to source.dir into name other
  pub named : HasNamed (inodes_of l files) name source
  pub entry : HasEntry l files into count other found
  pub slots : source.count ≡ slots_above (inodes_of l files) from
  pub more : count ≡ slots_above (inodes_of l files) to
  pub apart : are_same (number_at (inodes_of l files) from) (number_at (inodes_of l files) to) ≡ false
  pub there : is_some (number_at (inodes_of l files) to) ≡ is_some found
