-- What a command makes of all that is kept, and what it is answered. That this is what the command means is proved, not defined here.
use Rattle.std.specs.Prelude.{◌≡◌, ℕ, ◌==◌, max, nat_le, Bool, true, false, if◌then◌else◌, List, [], length, replicate, Option, None, Some}
use Rattle.std.specs.FinMap.{get, insert, remove, empty}
use Rattle.base_types.specs.declared.layout.Layout.{Layout}
use Rattle.base_types.specs.Counts.{next_count}
use Rattle.lang_tree.specs.declared.command.Cmd.{Cmd}
use Rattle.lang_tree.specs.declared.command.Cmd.TheVariants.{Mkdir, Create, Write, Fill, Truncate, Link, Unlink, Rmdir, Rename, Snap, Unsnap, At, Osync, Dsync, Durable, Dwait}
use Rattle.lang_tree.specs.declared.command.Look.{Look}
use Rattle.lang_tree.specs.declared.command.Reply.{Reply}
use Rattle.lang_tree.specs.declared.command.Reply.TheVariants.{Ok as Done, Synced, DurableAt, Known, Refused}
use Rattle.lang_tree.specs.declared.command.Refusal.{Refusal}
use Rattle.lang_tree.specs.declared.command.Refusal.TheVariants.{NoPoint, NoSnap}
use Rattle.lang_tree.specs.Tree.{Tree, Bounds, HasSoundSnapshots}
use Rattle.lang_tree.specs.Step.{Session, written, resized}
use Rattle.crash_stands.specs.Inodes.{Inodes}
use Rattle.crash_stands.specs.Maps.{IsMapOf}
use Rattle.fs_inodes.specs.Lookups.{bytes_of, inode_at}
use Rattle.fs_inodes.specs.Refusals.{look_reason, reason}
use Rattle.fs_inodes.specs.Replies.{shown, accepted_reply}
use Rattle.fs_memtree.specs.declared.state.State.{State}
use Rattle.fs_memtree.specs.Kept.{KeptDir, KeptFile, KeptNodes, map_of, tree_of, AreSmall, with_bytes}
use Rattle.fs_memtree.specs.declared.snapshots.Snapshot.{Snapshot}
use Rattle.fs_memtree.specs.Snapshots.{snapshots_of, least_number}
use Rattle.fs_memtree.specs.Changes.{made, edited, linked, removed, moved}

-- the root alone, without names
abbrev pub root_node : KeptNodes
root_node = insert empty 1 (KeptDir empty)

abbrev pub first_state : ℕ → Layout → State
first_state limit layout = record { nodes = root_node; kept = empty; limit = limit; layout = layout; points = 0; changed = false; durable = 0 }

-- the tree that is kept: that of the nodes, with the snapshots
abbrev pub whole_tree : State → Tree
whole_tree s = record (tree_of s.nodes) { snapshots = snapshots_of s.kept }

-- the bounds of the tree that is kept
abbrev pub bounds_in : State → Bounds
bounds_in s = record { nodes = s.limit; layout = s.layout }

-- the session that is kept
abbrev pub session_of : State → Session
session_of s = record { tree = whole_tree s; limit = bounds_in s; points = s.points; changed = s.changed; durable = s.durable }

-- The nodes are those of a tree, in which no file has more than 2^30 bytes, and so are those of each snapshot those of the tree that it keeps.
pub record IsKept (s : State) : Type 0 where
  pub map : IsMapOf s.limit (map_of s.nodes) (tree_of s.nodes)
  pub small : AreSmall (map_of s.nodes)
  pub snapshots : (name : List ℕ) (x : Snapshot) → get s.kept name ≡ Some x → IsMapOf s.limit (map_of x.nodes) (tree_of x.nodes)

-- What a plain tree holds: its nodes and snapshots are kept as trees are, and the snapshots are sound beside the tree.
pub record IsSoundState (s : State) : Type 0 where
  pub kept : IsKept s
  pub snapshots : HasSoundSnapshots s.limit (whole_tree s)

-- the least unused number
abbrev pub least : State → Option ℕ
least s = least_number s.limit s.nodes s.kept

-- done, with these nodes
abbrev pub changed_to : State → KeptNodes → State × Reply
changed_to s nodes = (record s { nodes = nodes; changed = true }, Done)

abbrev pub write : State → List (List ℕ) → ℕ → List ℕ → State × Reply
write s path offset bytes = if length bytes == 0 then (s, Done) else changed_to s (edited s.nodes path (with_bytes (written offset bytes)))

abbrev pub truncate : State → List (List ℕ) → ℕ → State × Reply
truncate s path size = if size == length (bytes_of (inode_at (map_of s.nodes) path)) then (s, Done) else changed_to s (edited s.nodes path (with_bytes (resized size)))

abbrev pub rename_by : State → KeptNodes × Bool → State × Reply
rename_by s move = if move.1 then changed_to s move.0 else (s, Done)

-- a sync point, where something changed since the last one
abbrev pub synced : State → Bool → State
synced s true = record s { points = next_count s.points; changed = false }
synced s false = s

abbrev pub waited : State → State
waited s = record s { durable = s.points }

-- point n is on the disk; where it isn't there, that is said
abbrev pub awaited : State → ℕ → Bool → State × Reply
awaited s n true = (record s { durable = max s.durable n }, DurableAt n)
awaited s n false = (s, Refused (NoPoint s.points))

-- a snapshot of this name has this number and keeps the nodes
abbrev pub snapped : State → List ℕ → Option ℕ → State × Reply
snapped s name None = (record s { changed = true }, Done)
snapped s name (Some n) = (record s { kept = insert s.kept name (record { number = n; nodes = s.nodes }); changed = true }, Done)

-- the snapshot of this name is gone
abbrev pub unsnapped : State → List ℕ → State × Reply
unsnapped s name = (record s { kept = remove s.kept name; changed = true }, Done)

abbrev pub looked_by : Inodes → Look → Option Refusal → Reply
looked_by m l (Some why) = Refused why
looked_by m l None = shown m l

-- what a look at a tree is answered
abbrev pub looked : Inodes → Look → Reply
looked m l = looked_by m l (look_reason m l)

-- what a look at a snapshot is answered, where there is one
abbrev pub looked_at : Option Snapshot → Look → Reply
looked_at None l = Refused NoSnap
looked_at (Some x) l = looked (map_of x.nodes) l

-- a command that nothing refuses
abbrev pub accepted : State → Cmd → State × Reply
accepted s (Mkdir path) = changed_to s (made (least s) s.nodes path (KeptDir empty))
accepted s (Create path) = changed_to s (made (least s) s.nodes path (KeptFile 1 []))
accepted s (Write path offset bytes) = write s path offset bytes
accepted s (Fill path offset count byte) = write s path offset (replicate count byte)
accepted s (Truncate path size) = truncate s path size
accepted s (Link path other) = changed_to s (linked s.nodes path other)
accepted s (Unlink path) = changed_to s (removed s.nodes path)
accepted s (Rmdir path) = changed_to s (removed s.nodes path)
accepted s (Rename from to) = rename_by s (moved s.nodes from to)
accepted s (Snap name) = snapped s name (least s)
accepted s (Unsnap name) = unsnapped s name
accepted s Osync = (synced s s.changed, Synced (synced s s.changed).points)
accepted s Dsync = (waited (synced s s.changed), DurableAt (synced s s.changed).points)
accepted s Durable = (s, Known s.durable)
accepted s (Dwait n) = awaited s n (nat_le n s.points)
accepted s cmd = (s, accepted_reply (snapshots_of s.kept) (map_of s.nodes) cmd)

-- refused for a reason, and then all is as it was, or done so
abbrev pub served_by : State → Option Refusal → State × Reply → State × Reply
served_by s (Some why) done = (s, Refused why)
served_by s None done = done

-- a command: a look at a snapshot is answered from its nodes, and every other one from those of the tree
abbrev pub served : State → Cmd → State × Reply
served s (At name l) = (s, looked_at (get s.kept name) l)
served s cmd = served_by s (reason s.layout (least s) (snapshots_of s.kept) (map_of s.nodes) cmd) (accepted s cmd)
