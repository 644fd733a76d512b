-- What commands by which a name comes to be look up first, and what they draft. They are described in docs/FILE-SYSTEM.md.
use Rattle.std.specs.Prelude.{◌≡◌, ◌≤◌, ℕ, false, List, [], ◌∷◌, ◌++◌, length, is_some, Option, None, Some, Result, Ok, Err}
use Rattle.base_types.specs.declared.layout.Layout.{Layout}
use Rattle.layout_bytes.specs.declared.slot.Slot.{Slot}
use Rattle.layout_bytes.specs.declared.node.NodeKind.{NodeKind}
use Rattle.layout_bytes.specs.declared.node.NodeKind.TheVariants.{Dir as DirNode, File as FileNode}
use Rattle.lang_tree.specs.declared.command.Cmd.{Cmd}
use Rattle.lang_tree.specs.declared.command.Cmd.TheVariants.{Mkdir, Create}
use Rattle.lang_tree.specs.declared.command.Kind.{Kind}
use Rattle.lang_tree.specs.declared.command.Kind.TheVariants.{Dir, File}
use Rattle.lang_tree.specs.declared.command.Refusal.{Refusal}
use Rattle.lang_tree.specs.declared.command.Refusal.TheVariants.{Exists}
use Rattle.lang_tree.specs.Conditions.{when, first_reason, refusal}
use Rattle.lang_tree.specs.declared.command.Reply.TheVariants.{Ok as Done}
use Rattle.lang_tree.specs.Figures.{adding, growth}
use Rattle.lang_tree.specs.Step.{Session, changes_snapshots, step}
use Rattle.lang_tree.specs.Tree.{Thing, Dir as DirThing, File as FileThing}
use Rattle.crash_stands.specs.Files.{Files}
use Rattle.crash_stands.specs.Inodes.{Inode, Inodes, ADir, AFile, AreInodesOf, inodes_of}
use Rattle.crash_stands.specs.Maps.{IsMapOf}
use Rattle.fs_inodes.specs.Changes.{AddsSlot}
use Rattle.fs_inodes.specs.Lookups.{number_at}
use Rattle.fs_inodes.specs.Refusals.{parent_reason}
use Rattle.engine_blocks.specs.State.{State, reusable_blocks}
use Rattle.fs_files.specs.Calls.{files_in, places_in}
use Rattle.fs_files.specs.Drafts.{DraftState}
use Rattle.fs_dirs.specs.Directories.{inodes_in}
use Rattle.fs_commands.specs.declared.making.Vacancy.{Vacancy}
use Rattle.fs_commands.specs.declared.paths.Spot.TheVariants.{Inside}
use Rattle.fs_session.specs.Changes.{IsWithinCost, Uses}
use Rattle.fs_session.specs.Commands.{GrowsInRuns, figures_on, grown_on, places_of, renewed_on}
use Rattle.fs_commands.specs.Looks.{ComesTo}
use Rattle.fs_session.specs.Sessions.{inodes}
use Rattle.lang_tree.specs.Sharing.{none_shared}
use Rattle.fs_session.specs.Space.{none_renewed}

-- the command that makes a node of this kind
abbrev pub make_cmd : Kind → List (List ℕ) → Cmd
make_cmd Dir path = Mkdir path
make_cmd File path = Create path

-- the kind of the node as the node table has it
abbrev pub node_kind : Kind → NodeKind
node_kind Dir = DirNode
node_kind File = FileNode

-- what the tree has for it at first
abbrev pub first_thing : Kind → Thing
first_thing Dir = DirThing
first_thing File = FileThing []

-- why no name can come to be at the path: nothing can be there, or something is
abbrev pub name_reason : Inodes → List (List ℕ) → Option Refusal
name_reason m path = first_reason (parent_reason m path ∷ when (is_some (number_at m path)) Exists ∷ [])

-- Where a name may come to be: in a directory in which there is none yet, and it is the path's last one; or why none can.
abbrev pub MayAppear : Layout → Files → List (List ℕ) → Result Vacancy Refusal → Type 0
MayAppear l files path (Ok v) = ComesTo l files path (Ok (Inside v.dir v.count None)) × ((up : List (List ℕ)) × (path ≡ up ++ v.name ∷ []))
MayAppear l files path (Err why) = name_reason (inodes_of l files) path ≡ Some why

-- A name was drafted: directory `dir`, which had these slots, has one more for `node`, which became x. Each node in use reads as an inode, and the draft is within the cost of a name more.
-- The directory grows as its slots do, with the least blocks that may be taken now, and its blocks lie in few runs. The pipeline settled only where there were fewer before.
pub record AddsName (old now : State) (d : DraftState) (dir node : ℕ) (name : List ℕ) (x : Inode) (slots : List Slot) : Type 0 where
  pub adds : AddsSlot (inodes old) (inodes_in now d) dir node name x
  pub reads : AreInodesOf now.books.geom.layout (files_in now d) (inodes_in now d)
  pub within : IsWithinCost now.books.geom d (adding (growth old.books.geom.layout (length slots))).cost
  pub runs : GrowsInRuns none_shared old now.books dir (growth old.books.geom.layout (length slots))
  pub uses : Uses (growth old.books.geom.layout (length slots)) 0 (reusable_blocks now.books) none_renewed (places_of old) (places_in now d) d
  pub rests : growth old.books.geom.layout (length slots) ≤ length (reusable_blocks old.books) → now.books ≡ old.books

-- The tree accepts the command and answers that it is done, and directory `dir`, which has so many slots, gets a name more by it. It renews no place, and leaves the snapshots as they are.
pub record AcceptsName (old : State) (f : Session) (cmd : Cmd) (dir many : ℕ) : Type 0 where
  pub accepted : refusal f.limit f.tree cmd ≡ None
  pub answer : (step f cmd).1 ≡ Done
  pub grows : grown_on old cmd ≡ Some dir
  pub renews : renewed_on old f cmd ≡ none_renewed
  pub keeps : changes_snapshots cmd ≡ false
  pub figures : figures_on old f cmd ≡ adding (growth old.books.geom.layout many)
  pub slots : List Slot
  pub is_dir : inodes old dir ≡ Some (ADir slots)
  pub count : many ≡ length slots

-- A link may be drafted: the tree accepts it, and where the directory gets this slot and the file so many links, that makes its tree.
pub record MayLink (old : State) (f : Session) (cmd : Cmd) (dir many : ℕ) (s : Slot) (links : ℕ) : Type 0 where
  pub accepts : AcceptsName old f cmd dir many
  pub before : ℕ
  pub bytes : List ℕ
  pub file : inodes old s.node ≡ Some (AFile before bytes)
  pub map : (new : Inodes) → AddsSlot (inodes old) new dir s.node s.name (AFile links bytes) → IsMapOf f.limit.nodes new (step f cmd).0.tree
