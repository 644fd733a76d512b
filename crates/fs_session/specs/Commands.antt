-- How a command is carried out over a map of blocks: what it answers, what becomes of the session, and what it leaves of the bookkeeping. It is described in docs/FILE-SYSTEM.md.
use Rattle.std.specs.Prelude.{◌≡◌, ◌⊎◌, ℕ, ◌+◌, ◌^◌, ◌≤◌, ◌<◌, Bool, true, false, IsTrue, not, ◌&&◌, List, length, take, Option, None, Some, is_none, find, option_and_then, IfOk, IfErr, OnErr, Result, Err}
use Rattle.std.specs.FinMap.{keys}
use Rattle.std.specs.List.{range_with_len}
use Rattle.base_types.specs.Counts.{after_call}
use Rattle.base_types.specs.Layouts.{most_runs}
use Rattle.layout_geometry.specs.Geometry.{bitmap_blocks}
use Rattle.layout_extent.specs.Renew.{renew}
use Rattle.layout_extent.specs.Runs.{stretches}
use Rattle.lang_tree.specs.declared.command.Cmd.{Cmd}
use Rattle.lang_tree.specs.declared.command.Cmd.TheVariants as cmds
use Rattle.lang_tree.specs.declared.command.Refusal.{Refusal}
use Rattle.lang_tree.specs.declared.command.Refusal.TheVariants as because
use Rattle.lang_tree.specs.declared.command.Reply.{Reply}
use Rattle.lang_tree.specs.Conditions.{refusal}
use Rattle.lang_tree.specs.Figures.{Figures}
use Rattle.lang_tree.specs.Sharing.{BlocksAlone, SharedNodes, SharedPlaces, figures_over}
use Rattle.lang_tree.specs.Step.{Session, step}
use Rattle.crash_stands.specs.Files.{files_of}
use Rattle.crash_stands.specs.Inodes.{Inodes}
use Rattle.fs_inodes.specs.Lookups.{number_at}
use Rattle.engine_blocks.specs.Running.{has}
use Rattle.engine_blocks.specs.State.{Bookkeeping, State, reusable_blocks, IsReusable}
use Rattle.engine_blocks.specs.Calls.{IsSound, MovesPipeline}
use Rattle.engine_blocks.specs.Crashes.{Advances, WritesAtMost}
use Rattle.engine_blocks.specs.Serving.{SameFreed}
use Rattle.fs_files.specs.Calls.{places_in}
use Rattle.fs_files.specs.Drafts.{nothing_drafted}
use Rattle.fs_files.specs.Effects.{ServesAllOrNone}
use Rattle.fs_session.specs.Lists.{KeptLists, alone_in, kept_after, shared_in}
use Rattle.fs_session.specs.Sessions.{IsSession, inodes}
use Rattle.fs_session.specs.Snapshots.{kept_lists}
use Rattle.fs_session.specs.Space.{ArePlaced, HasRoom, LacksRoom, grown_path, renewed_by}

-- The command ran, and no point was made: blocks were read, the pipeline may have settled, and the transaction may have changed. A failed read is counted once, and so is another failed call of the disk.
pub record RunsCommand (tells read_failed failed : Bool) (old new : State) : Type 0 where
  pub geom : new.books.geom ≡ old.books.geom
  pub room : new.books.room ≡ old.books.room
  pub area : new.books.area ≡ old.books.area
  pub point : new.books.point ≡ old.books.point
  pub floor : old.books.floor ≤ new.books.floor
  pub free_places : old.books.free_places ≤ new.books.free_places
  pub turns : new.books.turns ≤ old.books.turns + 2 ^ 18
  pub stopped : new.books.stopped ≡ failed
  pub read_faults : new.counts.read_faults ≡ after_call read_failed old.counts.read_faults
  pub faults : new.counts.faults ≡ after_call failed old.counts.faults
  pub waits : old.counts.waits ≤ new.counts.waits
  pub ticks : new.counts.ticks ≡ old.counts.ticks
  pub crash : IsTrue tells → Advances old new
  pub writes : IsTrue tells → WritesAtMost 0 old new

-- whether the command is one on the tree: it looks or changes something, and is none about sync points
abbrev pub is_on_tree : Cmd → Bool
is_on_tree cmds.Osync = false
is_on_tree cmds.Dsync = false
is_on_tree cmds.Durable = false
is_on_tree (cmds.Dwait n) = false
is_on_tree cmds.Poll = false
is_on_tree cmds.Bad = false
is_on_tree _ = true

-- whether a command was refused by a failed read, or by another failed call of the disk
abbrev pub is_read_fault : Result Reply Refusal → Bool
is_read_fault (Err because.ReadFault) = true
is_read_fault _ = false

abbrev pub is_disk_fault : Result Reply Refusal → Bool
is_disk_fault (Err because.DiskFault) = true
is_disk_fault _ = false

-- the number of the node at the path of one that the command may grow
abbrev pub grown_by : Inodes → Cmd → Option ℕ
grown_by m cmd = option_and_then (number_at m) (grown_path cmd)

-- the least number that no node in use has
abbrev pub least_number : State → Option ℕ
least_number s = find (λ n. is_none (files_of s.books.geom s.map n)) (range_with_len 1 s.books.geom.i)

-- the number of the node that the command may grow over these blocks: a new snapshot's, or that at its path
abbrev pub grown_on : State → Cmd → Option ℕ
grown_on s (cmds.Snap name) = least_number s
grown_on s cmd = grown_by (inodes s) cmd

-- the blocks of node k, in order
abbrev pub places_of : State → ℕ → List ℕ
places_of s k = places_in s nothing_drafted k

-- the blocks of files that snapshots keep
abbrev pub kept_in : State → KeptLists
kept_in s = kept_lists s.books.geom s.map

-- which blocks of each node a snapshot of the session keeps
abbrev pub shared_on : State → Session → SharedNodes
shared_on s f = shared_in s.books.geom.i (places_of s) (kept_in s) (keys f.tree.snapshots)

-- how many blocks of its files each snapshot of the session alone has, by its name
abbrev pub alone_on : State → Session → BlocksAlone
alone_on s f = alone_in s.books.geom.i (places_of s) (kept_in s) (keys f.tree.snapshots)

-- need, cost and blocks freed of a command in a session over these blocks
abbrev pub figures_on : State → Session → Cmd → Figures
figures_on s f cmd = figures_over (bitmap_blocks s.books.geom) (shared_on s f) (alone_on s f) f cmd

-- the places of each node that the command renews
abbrev pub renewed_on : State → Session → Cmd → SharedNodes
renewed_on s f cmd = renewed_by f cmd (shared_on s f)

-- A command finds the blocks that it needs: so many may be taken, once the pipeline has settled where there were fewer, and then all that waited may be taken.
pub record FindsBlocks (need : ℕ) (old settled : Bookkeeping) : Type 0 where
  pub moves : MovesPipeline old settled
  pub serves : ServesAllOrNone old settled
  pub rests : need ≤ length (reusable_blocks old) → settled ≡ old
  pub enough : need ≤ length (reusable_blocks settled)
  pub sound : IsSound settled

-- Node k has room for its runs: with the least blocks that may be taken once it has settled, in the stead of its own that are renewed and behind them, its blocks lie in at most as many runs as its layout has room for.
pub record GrowsInRuns (renewed : SharedPlaces) (old : State) (settled : Bookkeeping) (k need : ℕ) : Type 0 where
  pub enough : need ≤ length (reusable_blocks settled)
  pub runs : stretches (renew renewed 0 (places_of old k) (take need (reusable_blocks settled))) ≤ most_runs old.books.geom.layout

-- a command that grows a node finds it so
abbrev pub FindsRuns : State → Bookkeeping → Session → Cmd → Type 0
FindsRuns old settled f cmd = (k : ℕ) → 0 < (figures_on old f cmd).need → grown_on old cmd ≡ Some k → GrowsInRuns (renewed_on old f cmd k) old settled k (figures_on old f cmd).need

-- What a command of these figures that renews these places spends: its cost is weighed, and what it frees is held. It takes the least blocks that may be taken once it has settled, as many as it needs; and each node has the first of its own blocks, or all of its own and behind them the first of those, of which the first stand where places are renewed. Behind it snapshots keep these blocks.
pub record Spends (old : State) (settled : Bookkeeping) (new : State) (f : Figures) (renewed : SharedNodes) (kept : KeptLists) : Type 0 where
  pub weight : new.books.running.weight ≡ old.books.running.weight + f.cost
  pub held : new.books.running.held ≡ old.books.running.held + f.freed
  pub takeable : (b : ℕ) → new.books.reusable b ≡ (not (has (take f.need (reusable_blocks settled)) b) && settled.reusable b)
  pub since : (b : ℕ) → new.books.since b ≡ settled.since b
  pub placed : ArePlaced renewed (places_of old) (places_of new) (take f.need (reusable_blocks settled))
  pub keeps : kept_in new ≡ kept

-- Nothing is spent: the transaction and the blocks are as they were, and what might be taken still may.
pub record SpendsNothing (tells : Bool) (old new : State) : Type 0 where
  pub running : new.books.running ≡ old.books.running
  pub takeable : (b : ℕ) → IsReusable old.books.geom old.books.reusable b → new.books.reusable b ≡ true
  pub map : IsTrue tells → new.map ≡ old.map

-- The command is answered as the tree answers it, has room, finds the blocks that it needs, and spends what its figures say.
pub record IsDone (old new : State) (f : Session) (cmd : Cmd) (reply : Reply) : Type 0 where
  pub answer : reply ≡ (step f cmd).1
  pub session : IsSession new (step f cmd).0
  pub room : HasRoom old.books (figures_on old f cmd)
  pub settled : Bookkeeping
  pub finds : FindsBlocks (figures_on old f cmd).need old.books settled
  pub runs : FindsRuns old settled f cmd
  pub spends : Spends old settled new (figures_on old f cmd) (renewed_on old f cmd) (kept_after f (places_of old) (kept_in old) cmd)

-- The tree accepts the command, and there is no room for it. Then none of the blocks that wait serves.
pub record IsOutOfRoom (old new : State) (f : Session) (cmd : Cmd) (why : Refusal) : Type 0 where
  pub accepted : refusal f.limit f.tree cmd ≡ None
  pub lacks : LacksRoom old.books (figures_on old f cmd) why
  pub rests : SameFreed old.books new.books

-- There is room, and the blocks of the node that grows would lie in more runs than its layout has room for.
pub record IsScattered (old new : State) (f : Session) (cmd : Cmd) (why : Refusal) : Type 0 where
  pub accepted : refusal f.limit f.tree cmd ≡ None
  pub room : HasRoom old.books (figures_on old f cmd)
  pub node : ℕ
  pub grows : grown_on old cmd ≡ Some node
  pub enough : (figures_on old f cmd).need ≤ length (reusable_blocks new.books)
  pub is : why ≡ because.Scattered (stretches (renew (renewed_on old f cmd node) 0 (places_of old node) (take (figures_on old f cmd).need (reusable_blocks new.books))))
  pub past : most_runs old.books.geom.layout < stretches (renew (renewed_on old f cmd node) 0 (places_of old node) (take (figures_on old f cmd).need (reusable_blocks new.books)))

-- There is room, fewer blocks than are needed may be taken, and the disk failed as the pipeline settled.
pub record FailsToSettle (old : State) (f : Session) (cmd : Cmd) (why : Refusal) : Type 0 where
  pub accepted : refusal f.limit f.tree cmd ≡ None
  pub room : HasRoom old.books (figures_on old f cmd)
  pub is : why ≡ because.DiskFault
  pub short : length (reusable_blocks old.books) < (figures_on old f cmd).need

-- a read failed, or memory ran out
abbrev pub IsCutShort : Refusal → Type 0
IsCutShort why = (why ≡ because.ReadFault) ⊎ (why ≡ because.NoMemory)

-- why a command that isn't a sync is refused, but for the tree's own reasons
abbrev pub IsRefusedFor : State → State → Session → Cmd → Refusal → Type 0
IsRefusedFor old new f cmd why = IsOutOfRoom old new f cmd why ⊎ (IsScattered old new f cmd why ⊎ (FailsToSettle old f cmd why ⊎ IsCutShort why))

-- Where as many blocks as are needed may be taken, the disk has no event.
abbrev pub IsQuiet : ℕ → State → State → Type 0
IsQuiet need old new = need ≤ length (reusable_blocks old.books) → new.crash.log ≡ old.crash.log

-- and the bookkeeping is as it was
abbrev pub IsCalm : ℕ → State → State → Type 0
IsCalm need old new = need ≤ length (reusable_blocks old.books) → (new.books ≡ old.books) × (new.crash.log ≡ old.crash.log)

-- How a command that isn't a sync ends over a map of blocks: done as the tree does it, or refused from outside the tree, and then the session is as it was and nothing is spent.
pub record Carries (tells : Bool) (cmd : Cmd) (result : Result Reply Refusal) (old new : State) : Type 0 where
  pub done : IsTrue tells → IfOk result (λ reply. (f : Session) → IsSession old f → IsDone old new f cmd reply)
  pub refused : IsTrue tells → IfErr result (λ why. (f : Session) → IsSession old f → IsRefusedFor old new f cmd why)
  pub kept : IsTrue tells → OnErr result ((f : Session) → IsSession old f → IsSession new f)
  pub unspent : OnErr result (SpendsNothing tells old new)
  pub serves : is_disk_fault result ≡ false → OnErr result (ServesAllOrNone old.books new.books)
  -- and none serves where its blocks may be taken
  pub rests : IsTrue tells → OnErr result ((f : Session) → IsSession old f → (figures_on old f cmd).need ≤ length (reusable_blocks old.books) → SameFreed old.books new.books)
  -- also where it is refused, there is no event of it where its blocks may be taken
  pub quiet : IsTrue tells → (f : Session) → IsSession old f → IsQuiet (figures_on old f cmd).need old new
  pub runs : RunsCommand tells (is_read_fault result) (is_disk_fault result) old new
