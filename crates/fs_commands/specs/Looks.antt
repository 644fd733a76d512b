-- What paths lead and come to, and what commands that only look answer. They are described in docs/FILE-SYSTEM.md.
use Rattle.std.specs.Prelude.{◌≡◌, ◌≢◌, ℕ, ◌<◌, ◌^◌, nat_lt, ⊤, true, false, not, List, [], ◌∷◌, ◌++◌, length, Option, None, Some, option_map, IfSome, Result, Ok, Err}
use Rattle.base_types.specs.declared.layout.Layout.{Layout}
use Rattle.layout_bytes.specs.declared.node.NodeKind.{NodeKind}
use Rattle.layout_bytes.specs.declared.node.NodeKind.TheVariants.{Free, Dir, File, Snapshot}
use Rattle.layout_bytes.specs.declared.slot.Slot.{Slot}
use Rattle.layout_bytes.specs.Node.{size_of}
use Rattle.layout_directory.specs.Directory.{place_of}
use Rattle.lang_tree.specs.declared.command.Kind.TheVariants.{Dir as DirKind, File as FileKind}
use Rattle.lang_tree.specs.declared.command.Refusal.{Refusal}
use Rattle.lang_tree.specs.declared.command.Refusal.TheVariants.{NotFound}
use Rattle.lang_tree.specs.declared.command.Reply.{Reply}
use Rattle.lang_tree.specs.declared.command.Reply.TheVariants.{Stat as StatReply, Refused}
use Rattle.lang_tree.specs.Step.{Session}
use Rattle.lang_tree.specs.Tree.{Bounds}
use Rattle.crash_stands.specs.Files.{Files, FileNode}
use Rattle.crash_stands.specs.Inodes.{Inodes, ADir, inodes_of}
use Rattle.crash_stands.specs.Maps.{IsMapOf}
use Rattle.crash_stands.specs.Walks.{node_in}
use Rattle.fs_inodes.specs.Lookups.{is_dir_inode, is_file_inode, has_slots, links_in, bytes_of, walk_on, inode_at}
use Rattle.fs_inodes.specs.Refusals.{parent_reason, file_reason}
use Rattle.fs_files.specs.declared.look.FileFacts.{FileFacts}
use Rattle.fs_files.specs.declared.refusal.FileRefusal.{FileRefusal}
use Rattle.fs_files.specs.Calls.{facts_of, is_dir}
use Rattle.fs_dirs.specs.Directories.{IsNumber}
use Rattle.fs_session.specs.declared.plan.Plan.{Plan}
use Rattle.fs_session.specs.declared.plan.Plan.TheVariants.{Answer}
use Rattle.fs_commands.specs.Refusals.{refusal_of}
use Rattle.fs_commands.specs.declared.paths.NodeFound.{NodeFound}
use Rattle.fs_commands.specs.declared.paths.Entry.{Entry}
use Rattle.fs_commands.specs.declared.paths.Spot.{Spot}
use Rattle.fs_commands.specs.declared.paths.Spot.TheVariants.{Root as TheRoot, Inside}

-- what is under a number is no snapshot
abbrev pub IsNoSnapshot : Option FileNode → Type 0
IsNoSnapshot o = (x : FileNode) → o ≡ Some x → x.kind ≢ Snapshot

-- what a path leads to: a node in use, or why it leads nowhere
abbrev pub LeadsToFound : Layout → Files → List (List ℕ) → Result NodeFound Refusal → Type 0
LeadsToFound l files path (Ok found) = (walk_on (inodes_of l files) 1 path ≡ Ok found.number) × ((x : FileNode) × (files found.number ≡ Some x) × (found.facts ≡ facts_of x))
LeadsToFound l files path (Err why) = walk_on (inodes_of l files) 1 path ≡ Err why

-- A path leads to a file; or to none, and this is why.
abbrev pub LeadsToFile : Layout → Files → List (List ℕ) → Result NodeFound Refusal → Type 0
LeadsToFile l files path (Ok found) = (walk_on (inodes_of l files) 1 path ≡ Ok found.number) × ((x : FileNode) × (files found.number ≡ Some x) × (found.facts ≡ facts_of x) × (x.kind ≡ File))
LeadsToFile l files path (Err why) = file_reason (inodes_of l files) path ≡ Some why

-- what is told of a node with so many bytes: a directory has one link and the size that its bytes tell, and no path leads to a snapshot
abbrev pub stat_of_kind : Layout → NodeKind → ℕ → ℕ → ℕ → Reply
stat_of_kind l Free number links size = Refused NotFound
stat_of_kind l Dir number links size = StatReply (record { kind = DirKind; number = number; size = size_of l Dir size; links = 1 })
stat_of_kind l File number links size = StatReply (record { kind = FileKind; number = number; size = size; links = links })
stat_of_kind l Snapshot number links size = Refused NotFound

-- Node k is a directory with so many slots, and this is what stands under the name there: the place of its slot, and the node that the slot names.
pub record HasEntry (l : Layout) (files : Files) (k many : ℕ) (name : List ℕ) (entry : Option Entry) : Type 0 where
  pub slots : List Slot
  pub dir : inodes_of l files k ≡ Some (ADir slots)
  pub count : many ≡ length slots
  pub place : option_map (λ (e : Entry). e.place) entry ≡ place_of name slots
  pub node : option_map (λ (e : Entry). e.node.number) entry ≡ node_in slots name
  pub facts : IfSome entry (λ e. (x : FileNode) × (files e.node.number ≡ Some x) × (e.node.facts ≡ facts_of x))

-- What a path comes to: the root; an entry of the directory above it, or none there yet; or why nothing can come to be at the path.
abbrev pub ComesTo : Layout → Files → List (List ℕ) → Result Spot Refusal → Type 0
ComesTo l files path (Ok TheRoot) = path ≡ []
ComesTo l files path (Ok (Inside dir count entry)) = (up : List (List ℕ)) × (name : List ℕ) × (path ≡ up ++ name ∷ []) × (walk_on (inodes_of l files) 1 up ≡ Ok dir) × HasEntry l files dir count name entry
ComesTo l files path (Err why) = parent_reason (inodes_of l files) path ≡ Some why

-- an entry that a call may be asked for: its place is small, and its node is one of the table in use
pub record MayBeEntry (limit : ℕ) (e : Entry) : Type 0 where
  pub place : e.place < 2 ^ 24
  pub number : IsNumber limit e.node.number
  pub used : e.node.facts.kind ≢ Free

-- the numbers of what a path comes to are those of the table
abbrev pub IsWithin : ℕ → Spot → Type 0
IsWithin limit TheRoot = ⊤
IsWithin limit (Inside dir count entry) = IsNumber limit dir × (count < 2 ^ 24) × IfSome entry (MayBeEntry limit)

-- what stands under a name: the number there, or none
abbrev pub entry_number : Option Entry → Result ℕ Refusal
entry_number None = Err NotFound
entry_number (Some e) = Ok e.node.number

-- what a walk along the path comes to, where this is what the path comes to
abbrev pub walk_of : Result Spot Refusal → Result ℕ Refusal
walk_of (Ok TheRoot) = Ok 1
walk_of (Ok (Inside dir count entry)) = entry_number entry
walk_of (Err why) = Err why

-- the number at such a path
abbrev pub number_of : Spot → Option ℕ
number_of TheRoot = Some 1
number_of (Inside dir count entry) = option_map (λ (e : Entry). e.node.number) entry

-- What inodes say of a path to a node with these facts: whether it is a directory, its links, a file's bytes, and whether a directory has slots.
pub record ShowsFacts (m : Inodes) (path : List (List ℕ)) (f : FileFacts) : Type 0 where
  pub dir : is_dir_inode (inode_at m path) ≡ is_dir f.kind
  pub file : is_file_inode (inode_at m path) ≡ not (is_dir f.kind)
  pub links : links_in (inode_at m path) ≡ f.links
  pub bytes : is_dir f.kind ≡ false → length (bytes_of (inode_at m path)) ≡ f.size
  pub slots : is_dir f.kind ≡ true → has_slots (inode_at m path) ≡ nat_lt 0 f.size

-- The inodes are the map of the session's tree, which is within these bounds.
pub record IsMapOfSession (limit : Bounds) (m : Inodes) (f : Session) : Type 0 where
  pub map : IsMapOf limit.nodes m f.tree
  pub limit_is : f.limit ≡ limit

-- the plan of a command that only looks, by what the look answers
abbrev pub answer_of : Result Reply FileRefusal → Result Plan Refusal
answer_of (Ok reply) = Ok (Answer reply)
answer_of (Err why) = Err (refusal_of why)
