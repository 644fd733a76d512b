-- The room of a session, and how commands are answered in it where the blocks lie in memory. It is described in docs/SPACE.md.
use Rattle.std.specs.Prelude.{◌≡◌, ◌⊎◌, ℕ, ◌+◌, ◌-◌, ◌*◌, ◌<◌, ◌≤◌, Bool, false, not, List, [], ◌∷◌, length, take, drop, None, Some}
use Rattle.std.specs.FinMap.{empty, get, keys}
use Rattle.std.specs.List.{filter}
use Rattle.base_types.specs.Layouts.{directory_blocks, most_runs}
use Rattle.layout_geometry.specs.Geometry.{Geometry, bitmap_blocks, data_start}
use Rattle.layout_extent.specs.Renew.{renew}
use Rattle.layout_extent.specs.Runs.{stretches}
use Rattle.lang_tree.specs.declared.command.Cmd.{Cmd}
use Rattle.lang_tree.specs.declared.command.Cmd.TheVariants as cmds
use Rattle.lang_tree.specs.declared.command.Refusal.{Refusal}
use Rattle.lang_tree.specs.declared.command.Refusal.TheVariants.{Scattered, NoMemory}
use Rattle.lang_tree.specs.declared.command.Reply.{Reply}
use Rattle.lang_tree.specs.declared.command.Reply.TheVariants.{Refused}
use Rattle.lang_tree.specs.Conditions.{is_snapshot, refusal}
use Rattle.lang_tree.specs.Figures.{Figures, blocks, blocks_for, snapshot_blocks}
use Rattle.lang_tree.specs.Names.{names_in}
use Rattle.lang_tree.specs.Run.{MayKnow}
use Rattle.lang_tree.specs.Sharing.{BlocksAlone, SharedNodes, figures_over}
use Rattle.lang_tree.specs.Step.{Session, step}
use Rattle.lang_tree.specs.Tree.{Kept, Tree, Dir, File}
use Rattle.crash_stands.specs.Bounds.{bounds_of}
use Rattle.engine_blocks.specs.State.{data_blocks}
use Rattle.fs_session.specs.Lists.{KeptLists, alone_in, is_listed, kept_after, listed, shared_in}
use Rattle.fs_session.specs.Space.{ArePlaced, FitsIn, FailsToFit, grown_in, renewed_by}

-- What a session has of room: the weight of its transaction, how many blocks that has freed, the data blocks that may be taken, ascending, the blocks of each node, in order, and those of the files that snapshots keep.
pub record Room : Type 0 where
  pub weight : ℕ
  pub held : ℕ
  pub takeable : List ℕ
  pub places : ℕ → List ℕ
  pub kept : KeptLists

-- At first nothing is weighed, held or kept, no node has a block, and each data block may be taken.
pub record IsFirstRoom (g : Geometry) (r : Room) : Type 0 where
  pub weight : r.weight ≡ 0
  pub held : r.held ≡ 0
  pub takeable : r.takeable ≡ data_blocks g
  pub places : (k : ℕ) → r.places k ≡ []
  pub kept : (name : List ℕ) (k : ℕ) → r.kept name k ≡ []

-- The lists of a room.

-- which blocks of each node a snapshot of this tree keeps
abbrev pub shared_by : Geometry → Tree → Room → SharedNodes
shared_by g t r = shared_in g.i r.places r.kept (keys t.snapshots)

-- how many blocks of its files each snapshot of this tree alone has, by its name
abbrev pub alone_by : Geometry → Tree → Room → BlocksAlone
alone_by g t r = alone_in g.i r.places r.kept (keys t.snapshots)

-- whether the block is in a list: a node has it, or a snapshot of this tree keeps it as a file's
abbrev pub is_in_use : Geometry → Tree → Room → ℕ → Bool
is_in_use g t r b = is_listed g.i r.places r.kept (keys t.snapshots) b

-- how many data blocks are
abbrev pub blocks_in_use : Geometry → Tree → Room → ℕ
blocks_in_use g t r = listed g.i r.places r.kept (keys t.snapshots) (data_start g) (g.n - data_start g)

-- Each node has as many blocks as its content needs, and so has each snapshot. A number that is no node's and no snapshot's has none. Without snapshots as many data blocks are in use as the tree needs.
pub record HoldsTree (g : Geometry) (t : Tree) (r : Room) : Type 0 where
  pub files : (k : ℕ) (bytes : List ℕ) → get t.nodes k ≡ Some (File bytes) → length (r.places k) ≡ blocks_for (length bytes)
  pub directories : (path : List (List ℕ)) (k : ℕ) → get t.names path ≡ Some k → get t.nodes k ≡ Some Dir → length (r.places k) ≡ directory_blocks g.layout (length (names_in t.names path))
  pub unused : (k : ℕ) → get t.nodes k ≡ None → is_snapshot t.snapshots k ≡ false → r.places k ≡ []
  pub snapshots : (name : List ℕ) (k : Kept) → get t.snapshots name ≡ Some k → length (r.places k.number) ≡ snapshot_blocks (bounds_of g) k.names
  pub alone : t.snapshots ≡ empty → blocks_in_use g t r ≡ blocks g.layout t

-- Whether there is room.

-- how many data blocks are in no list and the transaction doesn't hold
abbrev pub left_in : Geometry → Session → Room → ℕ
left_in g f r = (g.n - data_start g) - blocks_in_use g f.tree r - r.held

-- how much a transaction may weigh
abbrev pub most_weight : Geometry → ℕ
most_weight g = 24 * (g.j - 2)

-- the figures of a command on a disk of this geometry
abbrev pub figures_in : Geometry → Session → Room → Cmd → Figures
figures_in g f r cmd = figures_over (bitmap_blocks g) (shared_by g f.tree r) (alone_by g f.tree r) f cmd

-- the places of each node that the command renews
abbrev pub renewed_in : Geometry → Session → Room → Cmd → SharedNodes
renewed_in g f r cmd = renewed_by f cmd (shared_by g f.tree r)

-- in how many runs the blocks of node k lie, with so many of the least that may be taken where the command puts them: in the stead of those that it renews, and behind
abbrev pub runs_with : Geometry → Session → Room → Cmd → ℕ → ℕ → ℕ
runs_with g f r cmd k need = stretches (renew (renewed_in g f r cmd k) 0 (r.places k) (take need r.takeable))

-- a command that grows a node leaves it in at most as many runs as its layout has room for
abbrev pub StaysInRuns : Geometry → Session → Room → Cmd → ℕ → Type 0
StaysInRuns g f r cmd need = (k : ℕ) → 0 < need → grown_in f cmd ≡ Some k → runs_with g f r cmd k need ≤ most_runs g.layout

-- The command would scatter the node that it grows over more runs, with blocks enough.
pub record Scatters (g : Geometry) (f : Session) (r : Room) (cmd : Cmd) (need : ℕ) (why : Refusal) : Type 0 where
  pub node : ℕ
  pub some : 0 < need
  pub enough : need ≤ length r.takeable
  pub grows : grown_in f cmd ≡ Some node
  pub is : why ≡ Scattered (runs_with g f r cmd node need)
  pub past : most_runs g.layout < runs_with g f r cmd node need

-- What becomes of the room.

-- A command of these figures that renews these places weighs its cost and holds what it frees. It takes the least blocks that may be taken, as many as it needs; and each node has the first of its own blocks, or all of its own and behind them those, of which the first stand where places are renewed. Behind it snapshots keep these blocks.
pub record SpendsRoom (f : Figures) (renewed : SharedNodes) (kept : KeptLists) (old new : Room) : Type 0 where
  pub weight : new.weight ≡ old.weight + f.cost
  pub held : new.held ≡ old.held + f.freed
  pub takeable : new.takeable ≡ drop f.need old.takeable
  pub placed : ArePlaced renewed old.places new.places (take f.need old.takeable)
  pub keeps : new.kept ≡ kept

-- A sync of what was weighed: nothing is weighed or held any more, each list stays, and each data block that is in none may be taken.
pub record RenewsRoom (g : Geometry) (t : Tree) (old new : Room) : Type 0 where
  pub weight : new.weight ≡ 0
  pub held : new.held ≡ 0
  pub takeable : new.takeable ≡ filter (λ b. not (is_in_use g t old b)) (data_blocks g)
  pub places : new.places ≡ old.places
  pub kept : new.kept ≡ old.kept

-- a sync of nothing leaves the room as it is
abbrev pub SyncsRoom : Geometry → Tree → Room → Room → Type 0
SyncsRoom g t old new = (old.weight ≡ 0 → new ≡ old) × (0 < old.weight → RenewsRoom g t old new)

-- The answers.

-- The command is done as the tree does it: there is room, the blocks that it needs may be taken, its node lies in few runs, and it spends what its figures say.
pub record IsDoneIn (g : Geometry) (f : Session) (r : Room) (cmd : Cmd) (reply : Reply) (next : Session) (room : Room) : Type 0 where
  pub answer : step f cmd ≡ (next, reply)
  pub fits : FitsIn (left_in g f r) r.weight (most_weight g) (figures_in g f r cmd)
  pub enough : (figures_in g f r cmd).need ≤ length r.takeable
  pub runs : StaysInRuns g f r cmd (figures_in g f r cmd).need
  pub spends : SpendsRoom (figures_in g f r cmd) (renewed_in g f r cmd) (kept_after f r.places r.kept cmd) r room
  pub holds : HoldsTree g next.tree room

-- why it is refused, but for the tree's own reasons: the tree accepts it, and it doesn't fit, or it fits and would scatter a node; or memory ran out
abbrev pub IsRefusedIn : Geometry → Session → Room → Cmd → Refusal → Type 0
IsRefusedIn g f r cmd why =
    ((refusal f.limit f.tree cmd ≡ None) × FailsToFit (left_in g f r) r.weight (most_weight g) (figures_in g f r cmd) why)
    ⊎ (((refusal f.limit f.tree cmd ≡ None) × FitsIn (left_in g f r) r.weight (most_weight g) (figures_in g f r cmd) × Scatters g f r cmd (figures_in g f r cmd).need why)
    ⊎ (why ≡ NoMemory))

-- it was refused for such a reason, and all is as it was
abbrev pub RefusesIn : (Refusal → Type 0) → Session → Room → Reply → Session → Room → Type 0
RefusesIn because f r reply next room = (why : Refusal) × because why × (reply ≡ Refused why) × (next ≡ f) × (room ≡ r)

-- How a command is answered. A bad line, one that does nothing and one that waits for a point are answered as the tree answers them, and one that asks for a point by one that the disk may have; nothing changes.
-- A sync is done, or memory ran out where there was something to commit. Any other command is done or refused.
abbrev pub AnswersIn : Geometry → Session → Room → Cmd → Reply → Session → Room → Type 0
AnswersIn g f r cmds.Bad reply next room = (step f cmds.Bad ≡ (next, reply)) × (room ≡ r)
AnswersIn g f r cmds.Poll reply next room = (step f cmds.Poll ≡ (next, reply)) × (room ≡ r)
AnswersIn g f r (cmds.Dwait n) reply next room = (step f (cmds.Dwait n) ≡ (next, reply)) × (room ≡ r)
AnswersIn g f r cmds.Durable reply next room = MayKnow f cmds.Durable reply next × (room ≡ r)
AnswersIn g f r cmds.Osync reply next room =
    ((step f cmds.Osync ≡ (next, reply)) × SyncsRoom g f.tree r room)
    ⊎ RefusesIn (λ why. (why ≡ NoMemory) × (0 < r.weight)) f r reply next room
AnswersIn g f r cmds.Dsync reply next room =
    ((step f cmds.Dsync ≡ (next, reply)) × SyncsRoom g f.tree r room)
    ⊎ RefusesIn (λ why. (why ≡ NoMemory) × (0 < r.weight)) f r reply next room
AnswersIn g f r cmd reply next room = IsDoneIn g f r cmd reply next room ⊎ RefusesIn (IsRefusedIn g f r cmd) f r reply next room

-- The commands in order, each with its reply, lead from one session and its room to another.
abbrev pub RunsIn : Geometry → Session → Room → List Cmd → List Reply → Session → Room → Type 0
RunsIn g f r [] [] end room = (end ≡ f) × (room ≡ r)
RunsIn g f r (cmd ∷ cmds) (reply ∷ replies) end room = (next : Session) × (then : Room) × AnswersIn g f r cmd reply next then × RunsIn g next then cmds replies end room
RunsIn g f r _ _ end room = ⊥
