-- What each command does to the tree, and its reply. It is described in docs/TREE.md.
use Rattle.std.specs.Prelude.{ℕ, ◌+◌, ◌-◌, ◌*◌, ◌^◌, ◌==◌, min, max, nat_le, Bool, true, false, if◌then◌else◌, List, [], ◌++◌, length, take, drop, replicate, Option, None, Some}
use Rattle.std.specs.FinMap.{get, insert, remove, keys, empty}
use Rattle.lang_tree.specs.declared.command.Cmd.{Cmd}
use Rattle.lang_tree.specs.declared.command.Cmd.TheVariants.{Mkdir, Create, Write, Fill, Read, Truncate, Link, Unlink, Rmdir, Rename, Stat, List as ListNames, Snap, Unsnap, Snaps, At, Osync, Dsync, Durable, Dwait, Poll, Bad}
use Rattle.lang_tree.specs.declared.command.Look.{Look}
use Rattle.lang_tree.specs.declared.command.Look.TheVariants as look
use Rattle.lang_tree.specs.declared.command.Kind.TheVariants.{Dir as DirKind, File as FileKind}
use Rattle.lang_tree.specs.declared.command.Reply.{Reply}
use Rattle.lang_tree.specs.declared.command.Reply.TheVariants.{Ok as Done, Bytes, Stat as StatReply, Names as NamesReply, Synced, DurableAt, Known, Bad as NotUnderstood, Refused}
use Rattle.lang_tree.specs.declared.command.Refusal.{Refusal}
use Rattle.lang_tree.specs.declared.command.Refusal.TheVariants.{NotFound, NoPoint, NoSnap}
use Rattle.lang_tree.specs.Tree.{Tree, Bounds, Names, Nodes, Kept, Thing, Dir, File, alone, kept_tree}
use Rattle.lang_tree.specs.Names.{path_count, names_in, renamed}
use Rattle.lang_tree.specs.Walk.{content, is_same_node}
use Rattle.lang_tree.specs.Conditions.{least_unused, refusal}

-- a tree with what bounds it, the number of its last sync point, whether a command changed it since, and the greatest point that a dsync or a dwait answered
pub record Session : Type 0 where
  pub tree : Tree
  pub limit : Bounds
  pub points : ℕ
  pub changed : Bool
  pub durable : ℕ

-- The bytes of a file.

-- xs with ys from byte `off` on; a gap past the end is zeros
abbrev pub written : ℕ → List ℕ → List ℕ → List ℕ
written off ys xs = take off (xs ++ replicate (off - length xs) 0) ++ (ys ++ drop (off + length ys) xs)

-- the first `size` bytes; growth is zeros
abbrev pub resized : ℕ → List ℕ → List ℕ
resized size xs = take size (xs ++ replicate (size - length xs) 0)

-- The tree after a change.

abbrev pub with_node : Tree → List (List ℕ) → Thing → Option ℕ → Tree
with_node t path thing None = t
with_node t path thing (Some n) = record t { names = insert t.names path n; nodes = insert t.nodes n thing }

-- a new node at the path, under the least unused number
abbrev pub added : ℕ → Tree → List (List ℕ) → Thing → Tree
added limit t path thing = with_node t path thing (least_unused limit t)

abbrev pub with_bytes : Nodes → ℕ → (List ℕ → List ℕ) → Option Thing → Nodes
with_bytes nodes n change (Some (File bytes)) = insert nodes n (File (change bytes))
with_bytes nodes n change _ = nodes

-- the nodes with the bytes of file n changed so
abbrev pub edited_node : Nodes → ℕ → (List ℕ → List ℕ) → Nodes
edited_node nodes n change = with_bytes nodes n change (get nodes n)

abbrev pub edited_at : Tree → (List ℕ → List ℕ) → Option ℕ → Tree
edited_at t change None = t
edited_at t change (Some n) = record t { nodes = edited_node t.nodes n change }

-- the bytes of the file at the path changed so
abbrev pub edited : Tree → List (List ℕ) → (List ℕ → List ℕ) → Tree
edited t path change = edited_at t change (get t.names path)

abbrev pub linked_by : Tree → List (List ℕ) → Option ℕ → Tree
linked_by t other None = t
linked_by t other (Some n) = record t { names = insert t.names other n }

-- the second path leads to the node at the first one too
abbrev pub linked : Tree → List (List ℕ) → List (List ℕ) → Tree
linked t path other = linked_by t other (get t.names path)

-- the tree with these paths; node n is gone where none of them leads to it
abbrev pub with_used : Tree → Names → ℕ → Tree
with_used t names n = record t { names = names; nodes = if path_count names n == 0 then remove t.nodes n else t.nodes }

abbrev pub removed_by : Tree → List (List ℕ) → Option ℕ → Tree
removed_by t path None = t
removed_by t path (Some n) = with_used t (remove t.names path) n

-- the path is gone, and its node too where it was the last one
abbrev pub removed : Tree → List (List ℕ) → Tree
removed t path = removed_by t path (get t.names path)

-- every path at or below the first one moves to the second one
abbrev pub moved : Tree → List (List ℕ) → List (List ℕ) → Tree
moved t from to = record t { names = renamed t.names from to }

-- what a snapshot of this number keeps of the tree
abbrev pub kept_of : ℕ → Tree → Kept
kept_of n t = record { number = n; names = t.names; nodes = t.nodes }

abbrev pub snapped_by : Tree → List ℕ → Option ℕ → Tree
snapped_by t name None = t
snapped_by t name (Some n) = record t { snapshots = insert t.snapshots name (kept_of n t) }

-- a snapshot of this name keeps the tree as it is, under the least unused number
abbrev pub snapped : ℕ → Tree → List ℕ → Tree
snapped limit t name = snapped_by t name (least_unused limit t)

-- the snapshot of this name is gone
abbrev pub unsnapped : Tree → List ℕ → Tree
unsnapped t name = record t { snapshots = remove t.snapshots name }

-- whether the command makes a snapshot or takes one away
abbrev pub changes_snapshots : Cmd → Bool
changes_snapshots (Snap name) = true
changes_snapshots (Unsnap name) = true
changes_snapshots _ = false

-- What the commands answer and leave, where nothing refuses them.

-- done, with this tree
abbrev pub changed_to : Session → Tree → Session × Reply
changed_to s t = (record s { tree = t; changed = true }, Done)

-- no bytes change nothing
abbrev pub write : Session → List (List ℕ) → ℕ → List ℕ → Session × Reply
write s path offset bytes = if length bytes == 0 then (s, Done) else changed_to s (edited s.tree path (written offset bytes))

abbrev pub truncate : Session → List (List ℕ) → ℕ → Session × Reply
truncate s path size = if size == length (content s.tree path) then (s, Done) else changed_to s (edited s.tree path (resized size))

-- what was at `to` goes, and then the paths move; nothing happens where both lead to one node
abbrev pub rename : Session → List (List ℕ) → List (List ℕ) → Session × Reply
rename s from to = if is_same_node s.tree from to then (s, Done) else changed_to s (moved (removed s.tree to) from to)

abbrev pub stat_of : Tree → List (List ℕ) → ℕ → Option Thing → Reply
stat_of t path n None = Refused NotFound
stat_of t path n (Some Dir) = StatReply (record { kind = DirKind; number = n; size = 64 * length (names_in t.names path); links = 1 })
stat_of t path n (Some (File bytes)) = StatReply (record { kind = FileKind; number = n; size = length bytes; links = path_count t.names n })

abbrev pub stat_by : Tree → List (List ℕ) → Option ℕ → Reply
stat_by t path None = Refused NotFound
stat_by t path (Some n) = stat_of t path n (get t.nodes n)

-- kind, number, size and links of what is at the path. A directory has 64 bytes for each name in it, and one link
abbrev pub stat : Tree → List (List ℕ) → Reply
stat t path = stat_by t path (get t.names path)

-- the command that looks so
abbrev pub look_command : Look → Cmd
look_command (look.Read path offset count) = Read path offset count
look_command (look.Stat path) = Stat path
look_command (look.List path) = ListNames path

-- what a look at a tree shows
abbrev pub seen : Tree → Look → Reply
seen t (look.Read path offset count) = Bytes (take count (drop offset (content t path)))
seen t (look.Stat path) = stat t path
seen t (look.List path) = NamesReply (names_in t.names path)

abbrev pub seen_in : Option Kept → Look → Reply
seen_in None l = Refused NoSnap
seen_in (Some k) l = seen (kept_tree k) l

-- the number after this one. Like every count it stops at 2^64 - 1
abbrev pub next_point : ℕ → ℕ
next_point n = min (n + 1) (2 ^ 64 - 1)

-- the next point where something changed since the last one, and else the last one
abbrev pub osync : Session → Bool → Session × Reply
osync s true = (record s { points = next_point s.points; changed = false }, Synced (next_point s.points))
osync s false = (s, Synced s.points)

-- the last point is on the disk
abbrev pub waited : Session → Session × Reply
waited s = (record s { durable = s.points }, DurableAt s.points)

-- what osync does, and then the last point is on the disk
abbrev pub dsync : Session → Bool → Session × Reply
dsync s changed = waited (osync s changed).0

-- point n is on the disk; where it isn't there, that is said
abbrev pub dwait : Session → ℕ → Bool → Session × Reply
dwait s n true = (record s { durable = max s.durable n }, DurableAt n)
dwait s n false = (s, Refused (NoPoint s.points))

abbrev pub accepted : Session → Cmd → Session × Reply
accepted s (Mkdir path) = changed_to s (added s.limit.nodes s.tree path Dir)
accepted s (Create path) = changed_to s (added s.limit.nodes s.tree path (File []))
accepted s (Write path offset bytes) = write s path offset bytes
accepted s (Fill path offset count byte) = write s path offset (replicate count byte)
accepted s (Read path offset count) = (s, Bytes (take count (drop offset (content s.tree path))))
accepted s (Truncate path size) = truncate s path size
accepted s (Link path other) = changed_to s (linked s.tree path other)
accepted s (Unlink path) = changed_to s (removed s.tree path)
accepted s (Rmdir path) = changed_to s (removed s.tree path)
accepted s (Rename from to) = rename s from to
accepted s (Stat path) = (s, stat s.tree path)
accepted s (ListNames path) = (s, NamesReply (names_in s.tree.names path))
accepted s (Snap name) = changed_to s (snapped s.limit.nodes s.tree name)
accepted s (Unsnap name) = changed_to s (unsnapped s.tree name)
accepted s Snaps = (s, NamesReply (keys s.tree.snapshots))
accepted s (At name l) = (s, seen_in (get s.tree.snapshots name) l)
accepted s Osync = osync s s.changed
accepted s Dsync = dsync s s.changed
accepted s Durable = (s, Known s.durable)
accepted s (Dwait n) = dwait s n (nat_le n s.points)
accepted s Poll = (s, Done)
accepted s Bad = (s, NotUnderstood)

abbrev pub answered : Session → Cmd → Option Refusal → Session × Reply
answered s cmd (Some why) = (s, Refused why)
answered s cmd None = accepted s cmd

-- one command: refused for a reason, and then all is as it was, or done
abbrev pub step : Session → Cmd → Session × Reply
step s cmd = answered s cmd (refusal s.limit s.tree cmd)

-- a session that begins with this tree: point 0, which is on the disk, and nothing was done since
abbrev pub session_on : Bounds → Tree → Session
session_on limit t = record { tree = t; limit = limit; points = 0; changed = false; durable = 0 }

-- the session that begins with the root alone
abbrev pub start : Bounds → Session
start limit = session_on limit (alone (insert empty [] 1) (insert empty 1 Dir))
