-- How many writes a run may make, by its commands and replies alone. It is described in docs/CRASHES.md.
use Rattle.std.specs.Prelude.{◌≡◌, ℕ, ◌+◌, ◌*◌, ◌≤◌, ◌==◌, min, Bool, false, true, ◌&&◌, if◌then◌else◌, List, [], ◌∷◌, length, take}
use Rattle.std.specs.FinMap.{len}
use Rattle.disk_contract.specs.declared.event.Event.{Event}
use Rattle.disk_contract.specs.Disk.{writes_in}
use Rattle.layout_geometry.specs.Geometry.{Geometry, bitmap_blocks}
use Rattle.layout_journal.specs.Layout.{descriptor_count}
use Rattle.crash_stands.specs.Bounds.{bounds_of}
use Rattle.crash_argument.specs.Counts.{AreAtMost}
use Rattle.lang_tree.specs.declared.command.Cmd.{Cmd}
use Rattle.lang_tree.specs.declared.command.Cmd.TheVariants.{Fill, Truncate, Unsnap, Write}
use Rattle.lang_tree.specs.declared.command.Refusal.TheVariants.{DiskFault, NoMemory}
use Rattle.lang_tree.specs.declared.command.Reply.{Reply}
use Rattle.lang_tree.specs.declared.command.Reply.TheVariants.{Refused}
use Rattle.lang_tree.specs.Figures.{blocks_met, figures}
use Rattle.lang_tree.specs.Points.{after_reply, is_refusal, is_sync}
use Rattle.lang_tree.specs.Step.{Session, session_on}
use Rattle.lang_tree.specs.Tree.{Tree}
use Rattle.lang_tree.specs.Walk.{content}
use Rattle.engine_blocks.specs.Calls.{commit_writes}
use Rattle.engine_blocks.specs.State.{Bookkeeping, State}
use Rattle.cmd_session.specs.Histories.{last_mark}

-- whether a sync that was answered so may have begun: it is done, or the disk failed it, or memory did
abbrev pub may_have_begun : Reply → Bool
may_have_begun (Refused DiskFault) = true
may_have_begun (Refused NoMemory) = true
may_have_begun (Refused why) = false
may_have_begun _ = true

-- whether the command is a sync that may have begun
abbrev pub commits : Cmd → Reply → Bool
commits cmd reply = is_sync cmd && may_have_begun reply

-- the writes of a command by the bookkeeping before it: those that the record of a sync stands for
abbrev pub writes_of : Cmd → Reply → Bookkeeping → ℕ
writes_of cmd reply k = if commits cmd reply then commit_writes k else 0

-- What snapshots may add to the figures of a command.

-- how many blocks that its file has the bytes of a command touch: so many new ones it may need in their stead
abbrev pub blocks_touched : Tree → Cmd → ℕ
blocks_touched t (Write path offset bytes) = blocks_met (length (content t path)) (min offset (length (content t path))) (offset + length bytes)
blocks_touched t (Fill path offset count byte) = blocks_met (length (content t path)) (min offset (length (content t path))) (offset + count)
blocks_touched t (Truncate path size) = blocks_met (length (content t path)) (length (content t path)) size
blocks_touched t cmd = 0

-- a snapshot that goes may free blocks of files too, and so change any block of the bitmap
abbrev pub freeing_beyond : ℕ → Cmd → ℕ
freeing_beyond bitmap (Unsnap name) = 25 * bitmap
freeing_beyond bitmap cmd = 0

-- so many more, where there are snapshots
abbrev pub with_snapshots : Tree → ℕ → ℕ
with_snapshots t more = if len t.snapshots == 0 then 0 else more

-- the most that a command needs and costs, whatever blocks snapshots keep; without snapshots just what its figures say. The bitmap has so many blocks.
abbrev pub most_need : ℕ → Session → Cmd → ℕ
most_need bitmap s cmd = (figures bitmap s cmd).need + with_snapshots s.tree (blocks_touched s.tree cmd)

abbrev pub most_cost : ℕ → Session → Cmd → ℕ
most_cost bitmap s cmd = (figures bitmap s cmd).cost + with_snapshots s.tree (blocks_touched s.tree cmd + freeing_beyond bitmap cmd)

-- In what follows, the running transaction weighs w at most.

-- the weight after one command: a sync that is done leaves none, and any other command that is done adds what it costs at most
abbrev pub weight_by : ℕ → Session → ℕ → Cmd → Reply → ℕ
weight_by bitmap s w cmd reply = if is_refusal reply then w else if is_sync cmd then 0 else w + most_cost bitmap s cmd

-- the weight after commands that were answered so
abbrev pub weight_after : ℕ → Session → ℕ → List Cmd → List Reply → ℕ
weight_after bitmap s w [] replies = w
weight_after bitmap s w (cmd ∷ cmds) [] = w
weight_after bitmap s w (cmd ∷ cmds) (reply ∷ replies) = weight_after bitmap (after_reply s cmd reply) (weight_by bitmap s w cmd reply) cmds replies

-- what a sync of this weight stands for at most: as many writes, the descriptors of as many entries, a commit block and two headers; with no weight it stands for none
abbrev pub sync_budget : ℕ → ℕ
sync_budget w = if w == 0 then 0 else w + descriptor_count w + 3

-- the ring places that the record of a transaction of this weight takes at most: the commit block, and the descriptors of as many entries
abbrev pub sync_places : ℕ → ℕ
sync_places w = 1 + descriptor_count w

-- the writes that commands stand for which were answered so
abbrev pub budget_of : ℕ → Session → ℕ → List Cmd → List Reply → ℕ
budget_of bitmap s w [] replies = 0
budget_of bitmap s w (cmd ∷ cmds) [] = 0
budget_of bitmap s w (cmd ∷ cmds) (reply ∷ replies) =
    (if commits cmd reply then sync_budget w else 0) + budget_of bitmap (after_reply s cmd reply) (weight_by bitmap s w cmd reply) cmds replies

-- A run over blocks that began with tree t keeps within its budget: while no call of the disk failed, its transaction weighs at most what its commands cost; and the writes so far, with those that are still to come for what was committed, are at most those at the beginning and what its commands stand for.
pub record KeepsBudget (g : Geometry) (t : Tree) (begun : ℕ) (cmds : List Cmd) (replies : List Reply) (s : State) : Type 0 where
  pub weight : s.books.stopped ≡ false → s.books.running.weight ≤ weight_after (bitmap_blocks g) (session_on (bounds_of g) t) 0 cmds replies
  pub writes : writes_in s.crash.log + s.books.owed ≤ begun + budget_of (bitmap_blocks g) (session_on (bounds_of g) t) 0 cmds replies

-- Up to each mark the writes keep within what the commands by then stand for: at each moment of the first i of them, since the mount, the writes number at most the budget of these i. As the mount ends, that is nothing.
pub record SpendsByMarks (g : Geometry) (s : Session) (mounted : ℕ) (log : List Event) (cmds : List Cmd) (replies : List Reply) (marks : List ℕ) : Type 0 where
  pub each : (i : ℕ) → i ≤ length replies → AreAtMost mounted (take (last_mark mounted (take i marks)) log) (budget_of (bitmap_blocks g) s 0 (take i cmds) (take i replies))
