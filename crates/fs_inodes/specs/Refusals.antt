-- Why a command is refused, from inodes: the conditions of lang_tree in their order, each looked up in the inode map. Beside it they look at the least unused number and at what snapshots keep.
use Rattle.std.specs.Prelude.{ℕ, ◌+◌, ◌==◌, ◌&&◌, if◌then◌else◌, List, [], ◌∷◌, length, nat_lt, nat_le, is_some, is_none, Option, None, Some, Result, Ok, Err}
use Rattle.base_types.specs.declared.layout.Layout.{Layout}
use Rattle.lang_tree.specs.declared.command.Cmd.{Cmd}
use Rattle.lang_tree.specs.declared.command.Cmd.TheVariants.{Mkdir, Create, Write, Fill, Read, Truncate, Link, Unlink, Rmdir, Rename, Stat, List as ListNames, Snap, Unsnap, Snaps, At, Osync, Dsync, Durable, Dwait, Poll, Bad}
use Rattle.lang_tree.specs.declared.command.Look.{Look}
use Rattle.lang_tree.specs.declared.command.Look.TheVariants as look
use Rattle.lang_tree.specs.declared.command.Refusal.{Refusal}
use Rattle.lang_tree.specs.declared.command.Refusal.TheVariants.{Exists, NotDir, IsDir, NotEmpty, BelowItself, TooLarge, TooManyLinks, NoNode, NameTooLong, NoSnap}
use Rattle.std.specs.FinMap.{get}
use Rattle.lang_tree.specs.Tree.{Snapshots}
use Rattle.lang_tree.specs.Paths.{parent, is_below, is_too_long}
use Rattle.lang_tree.specs.Walk.{refusal_in, are_same}
use Rattle.lang_tree.specs.Conditions.{when, first_reason, is_too_large, at_refusal}
use Rattle.crash_stands.specs.Inodes.{Inodes}
use Rattle.fs_inodes.specs.Lookups.{is_dir_inode, is_file_inode, has_slots, links_in, walk_on, number_at, inode_at}

abbrev pub walk_reason : Inodes → List (List ℕ) → Option Refusal
walk_reason m path = refusal_in (walk_on m 1 path)

abbrev pub dir_reason : Inodes → Result ℕ Refusal → Option Refusal
dir_reason m (Err why) = Some why
dir_reason m (Ok n) = if is_dir_inode (m n) then None else Some NotDir

-- why a path can't come to be there
abbrev pub parent_reason : Inodes → List (List ℕ) → Option Refusal
parent_reason m [] = None
parent_reason m (name ∷ names) = dir_reason m (walk_on m 1 (parent (name ∷ names)))

-- of a new node, where this is the least unused number
abbrev pub make_reason : Layout → Option ℕ → Inodes → List (List ℕ) → Option Refusal
make_reason l least m path =
    first_reason (parent_reason m path ∷ when (is_some (number_at m path)) Exists ∷ when (is_none least) NoNode ∷ when (is_too_long l path) NameTooLong ∷ [])

abbrev pub write_reason : Inodes → List (List ℕ) → ℕ → ℕ → Option Refusal
write_reason m path offset count =
    first_reason (walk_reason m path ∷ when (is_dir_inode (inode_at m path)) IsDir ∷ when (nat_lt 0 count && is_too_large (offset + count)) TooLarge ∷ [])

abbrev pub file_reason : Inodes → List (List ℕ) → Option Refusal
file_reason m path = first_reason (walk_reason m path ∷ when (is_dir_inode (inode_at m path)) IsDir ∷ [])

abbrev pub truncate_reason : Inodes → List (List ℕ) → ℕ → Option Refusal
truncate_reason m path size = first_reason (walk_reason m path ∷ when (is_dir_inode (inode_at m path)) IsDir ∷ when (is_too_large size) TooLarge ∷ [])

abbrev pub link_reason : Layout → Inodes → List (List ℕ) → List (List ℕ) → Option Refusal
link_reason l m path other =
    first_reason (walk_reason m path ∷ parent_reason m other ∷ when (is_some (number_at m other)) Exists ∷ when (is_dir_inode (inode_at m path)) IsDir
    ∷ when (nat_le 65535 (links_in (inode_at m path))) TooManyLinks ∷ when (is_too_long l other) NameTooLong ∷ [])

abbrev pub rmdir_reason : Inodes → List (List ℕ) → Option Refusal
rmdir_reason m path =
    first_reason (walk_reason m path ∷ when (is_file_inode (inode_at m path)) NotDir ∷ when (has_slots (inode_at m path)) NotEmpty ∷ when (length path == 0) BelowItself ∷ [])

abbrev pub onto_reason : Inodes → List (List ℕ) → List (List ℕ) → Option Refusal
onto_reason m from to =
    first_reason (when (is_dir_inode (inode_at m from) && is_file_inode (inode_at m to)) NotDir
    ∷ when (is_file_inode (inode_at m from) && is_dir_inode (inode_at m to)) IsDir
    ∷ when (is_dir_inode (inode_at m from) && (is_dir_inode (inode_at m to) && has_slots (inode_at m to))) NotEmpty
    ∷ when (is_dir_inode (inode_at m from) && is_below from to) BelowItself ∷ [])

abbrev pub rename_reason : Layout → Inodes → List (List ℕ) → List (List ℕ) → Option Refusal
rename_reason l m from to =
    first_reason (walk_reason m from ∷ parent_reason m to ∷ (if are_same (number_at m from) (number_at m to) then None else onto_reason m from to)
    ∷ when (is_too_long l to) NameTooLong ∷ [])

abbrev pub list_reason : Inodes → List (List ℕ) → Option Refusal
list_reason m path = first_reason (walk_reason m path ∷ when (is_file_inode (inode_at m path)) NotDir ∷ [])

-- of a new snapshot, where this is the least unused number and these are there
abbrev pub snap_reason : Option ℕ → Snapshots → List ℕ → Option Refusal
snap_reason least kept name = first_reason (when (is_some (get kept name)) Exists ∷ when (is_none least) NoNode ∷ [])

-- of a look
abbrev pub look_reason : Inodes → Look → Option Refusal
look_reason m (look.Read path offset count) = file_reason m path
look_reason m (look.Stat path) = walk_reason m path
look_reason m (look.List path) = list_reason m path

-- why a command is refused in a layout, where this is the least unused number and these are the snapshots
abbrev pub reason : Layout → Option ℕ → Snapshots → Inodes → Cmd → Option Refusal
reason l least kept m (Mkdir path) = make_reason l least m path
reason l least kept m (Create path) = make_reason l least m path
reason l least kept m (Write path offset bytes) = write_reason m path offset (length bytes)
reason l least kept m (Fill path offset count byte) = write_reason m path offset count
reason l least kept m (Read path offset count) = file_reason m path
reason l least kept m (Truncate path size) = truncate_reason m path size
reason l least kept m (Link path other) = link_reason l m path other
reason l least kept m (Unlink path) = file_reason m path
reason l least kept m (Rmdir path) = rmdir_reason m path
reason l least kept m (Rename from to) = rename_reason l m from to
reason l least kept m (Stat path) = walk_reason m path
reason l least kept m (ListNames path) = list_reason m path
reason l least kept m (Snap name) = snap_reason least kept name
reason l least kept m (Unsnap name) = when (is_none (get kept name)) NoSnap
reason l least kept m Snaps = None
reason l least kept m (At name look) = at_refusal (get kept name) look
reason l least kept m Osync = None
reason l least kept m Dsync = None
reason l least kept m Durable = None
reason l least kept m (Dwait n) = None
reason l least kept m Poll = None
reason l least kept m Bad = None
