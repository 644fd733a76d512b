-- Why a command is refused: first the walks, and then the other conditions in the order of their numbers. They are the table in docs/TREE.md.
use Rattle.std.specs.Prelude.{ℕ, ◌+◌, ◌==◌, Bool, false, not, ◌&&◌, if◌then◌else◌, List, [], ◌∷◌, length, nat_lt, nat_le, is_none, is_some, Option, None, Some, find}
use Rattle.std.specs.List.{range_with_len, list_any}
use Rattle.std.specs.FinMap.{get, entries}
use Rattle.base_types.specs.declared.layout.Layout.{Layout}
use Rattle.lang_tree.specs.declared.command.Cmd.{Cmd}
use Rattle.lang_tree.specs.declared.command.Cmd.TheVariants.{Mkdir, Create, Write, Fill, Read, Truncate, Link, Unlink, Rmdir, Rename, Stat, List as ListNames, Snap, Unsnap, Snaps, At, Osync, Dsync, Durable, Dwait, Poll, Bad}
use Rattle.lang_tree.specs.declared.command.Look.{Look}
use Rattle.lang_tree.specs.declared.command.Look.TheVariants as look
use Rattle.lang_tree.specs.declared.command.Refusal.{Refusal}
use Rattle.lang_tree.specs.declared.command.Refusal.TheVariants.{Exists, NotDir, IsDir, NotEmpty, BelowItself, TooLarge, TooManyLinks, NoNode, NameTooLong, NoSnap}
use Rattle.lang_tree.specs.Tree.{Tree, Bounds, Snapshots, Kept, kept_tree}
use Rattle.lang_tree.specs.Paths.{is_below, is_too_long}
use Rattle.lang_tree.specs.Names.{holds_names}
use Rattle.lang_tree.specs.Walk.{walk_refusal, parent_refusal, thing_at, is_there, is_dir, is_file, is_same_node, links}

-- the reason, where the condition holds
abbrev pub when : Bool → Refusal → Option Refusal
when holds why = if holds then Some why else None

-- the first reason that there is
abbrev pub first_reason : List (Option Refusal) → Option Refusal
first_reason [] = None
first_reason (None ∷ later) = first_reason later
first_reason (Some why ∷ later) = Some why

-- whether a snapshot has this number
abbrev pub is_snapshot : Snapshots → ℕ → Bool
is_snapshot snapshots n = list_any (λ e. e.1.number == n) (entries snapshots)

-- the least number from 1 to the limit that no node and no snapshot has
unfoldable pub least_unused : ℕ → Tree → Option ℕ
least_unused limit t = find (λ n. is_none (get t.nodes n) && not (is_snapshot t.snapshots n)) (range_with_len 1 limit)

-- a file has at most 2^30 bytes
abbrev pub is_too_large : ℕ → Bool
is_too_large size = nat_lt 1073741824 size

-- a new node: the path isn't there, a number is unused, and the name isn't too long
abbrev pub make_refusal : Bounds → Tree → List (List ℕ) → Option Refusal
make_refusal limit t path =
    first_reason (parent_refusal t path ∷ when (is_there t path) Exists ∷ when (is_none (least_unused limit.nodes t)) NoNode
    ∷ when (is_too_long limit.layout path) NameTooLong ∷ [])

-- so many bytes from `offset` on come into a file
abbrev pub write_refusal : Tree → List (List ℕ) → ℕ → ℕ → Option Refusal
write_refusal t path offset count =
    first_reason (walk_refusal t path ∷ when (is_dir (thing_at t path)) IsDir ∷ when (nat_lt 0 count && is_too_large (offset + count)) TooLarge ∷ [])

-- a file alone
abbrev pub file_refusal : Tree → List (List ℕ) → Option Refusal
file_refusal t path = first_reason (walk_refusal t path ∷ when (is_dir (thing_at t path)) IsDir ∷ [])

abbrev pub truncate_refusal : Tree → List (List ℕ) → ℕ → Option Refusal
truncate_refusal t path size = first_reason (walk_refusal t path ∷ when (is_dir (thing_at t path)) IsDir ∷ when (is_too_large size) TooLarge ∷ [])

-- another path of a file, which has at most 65,535; its name isn't too long
abbrev pub link_refusal : Layout → Tree → List (List ℕ) → List (List ℕ) → Option Refusal
link_refusal l t path other =
    first_reason (walk_refusal t path ∷ parent_refusal t other ∷ when (is_there t other) Exists ∷ when (is_dir (thing_at t path)) IsDir
    ∷ when (nat_le 65535 (links t path)) TooManyLinks ∷ when (is_too_long l other) NameTooLong ∷ [])

-- an empty directory that isn't the root
abbrev pub rmdir_refusal : Tree → List (List ℕ) → Option Refusal
rmdir_refusal t path =
    first_reason (walk_refusal t path ∷ when (is_file (thing_at t path)) NotDir ∷ when (holds_names t.names path) NotEmpty ∷ when (length path == 0) BelowItself ∷ [])

-- why what is at one path can't take the other one, which leads to another node or to none
abbrev pub onto_refusal : Tree → List (List ℕ) → List (List ℕ) → Option Refusal
onto_refusal t from to =
    first_reason (when (is_dir (thing_at t from) && is_file (thing_at t to)) NotDir
    ∷ when (is_file (thing_at t from) && is_dir (thing_at t to)) IsDir
    ∷ when (is_dir (thing_at t from) && (is_dir (thing_at t to) && holds_names t.names to)) NotEmpty
    ∷ when (is_dir (thing_at t from) && is_below from to) BelowItself ∷ [])

-- a move; where both paths lead to one node, the walks and too long a name alone can refuse it
abbrev pub rename_refusal : Layout → Tree → List (List ℕ) → List (List ℕ) → Option Refusal
rename_refusal l t from to =
    first_reason (walk_refusal t from ∷ parent_refusal t to ∷ (if is_same_node t from to then None else onto_refusal t from to)
    ∷ when (is_too_long l to) NameTooLong ∷ [])

-- the names of a directory
abbrev pub list_refusal : Tree → List (List ℕ) → Option Refusal
list_refusal t path = first_reason (walk_refusal t path ∷ when (is_file (thing_at t path)) NotDir ∷ [])

-- a new snapshot: no other has its name, and a number is unused
abbrev pub snap_refusal : ℕ → Tree → List ℕ → Option Refusal
snap_refusal limit t name = first_reason (when (is_some (get t.snapshots name)) Exists ∷ when (is_none (least_unused limit t)) NoNode ∷ [])

-- a look at a tree
abbrev pub look_refusal : Tree → Look → Option Refusal
look_refusal t (look.Read path offset count) = file_refusal t path
look_refusal t (look.Stat path) = walk_refusal t path
look_refusal t (look.List path) = list_refusal t path

-- a look at what a snapshot keeps, where there is one
abbrev pub at_refusal : Option Kept → Look → Option Refusal
at_refusal None l = Some NoSnap
at_refusal (Some k) l = look_refusal (kept_tree k) l

-- why the tree, within these bounds, refuses the command
abbrev pub refusal : Bounds → Tree → Cmd → Option Refusal
refusal limit t (Mkdir path) = make_refusal limit t path
refusal limit t (Create path) = make_refusal limit t path
refusal limit t (Write path offset bytes) = write_refusal t path offset (length bytes)
refusal limit t (Fill path offset count byte) = write_refusal t path offset count
refusal limit t (Read path offset count) = file_refusal t path
refusal limit t (Truncate path size) = truncate_refusal t path size
refusal limit t (Link path other) = link_refusal limit.layout t path other
refusal limit t (Unlink path) = file_refusal t path
refusal limit t (Rmdir path) = rmdir_refusal t path
refusal limit t (Rename from to) = rename_refusal limit.layout t from to
refusal limit t (Stat path) = walk_refusal t path
refusal limit t (ListNames path) = list_refusal t path
refusal limit t (Snap name) = snap_refusal limit.nodes t name
refusal limit t (Unsnap name) = when (is_none (get t.snapshots name)) NoSnap
refusal limit t Snaps = None
refusal limit t (At name l) = at_refusal (get t.snapshots name) l
refusal limit t Osync = None
refusal limit t Dsync = None
refusal limit t Durable = None
refusal limit t (Dwait n) = None
refusal limit t Poll = None
refusal limit t Bad = None

-- whether the command would bring a path whose last name is too long for the layout
abbrev pub brings_long_name : Layout → Cmd → Bool
brings_long_name l (Mkdir path) = is_too_long l path
brings_long_name l (Create path) = is_too_long l path
brings_long_name l (Link path other) = is_too_long l other
brings_long_name l (Rename from to) = is_too_long l to
brings_long_name l _ = false
