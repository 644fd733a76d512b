-- When a command that the tree accepts has room in the blocks, and how the blocks of the nodes are chosen. It is described in docs/SPACE.md.
use Rattle.std.specs.Prelude.{◌≡◌, ◌⊎◌, ℕ, ◌+◌, ◌-◌, ◌<◌, ◌≤◌, ◌&&◌, min, List, length, take, Option, None, Some, option_and_then}
use Rattle.std.specs.FinMap.{get}
use Rattle.layout_extent.specs.Renew.{renew}
use Rattle.lang_tree.specs.declared.command.Cmd.{Cmd}
use Rattle.lang_tree.specs.declared.command.Cmd.TheVariants as cmds
use Rattle.lang_tree.specs.declared.command.Refusal.{Refusal}
use Rattle.lang_tree.specs.declared.command.Refusal.TheVariants.{Full, TooBig}
use Rattle.lang_tree.specs.Conditions.{least_unused}
use Rattle.lang_tree.specs.Figures.{Figures}
use Rattle.lang_tree.specs.Paths.{parent}
use Rattle.lang_tree.specs.Sharing.{SharedNodes, SharedPlaces, is_renewed, none_shared}
use Rattle.lang_tree.specs.Step.{Session}
use Rattle.lang_tree.specs.Tree.{Tree}
use Rattle.lang_tree.specs.Walk.{are_same, content}
use Rattle.engine_blocks.specs.State.{Bookkeeping, live_blocks}

-- In what follows, so many blocks are left, the running transaction weighs so much, and so much is the most that one may weigh.

-- The command's file or directory can grow, and its cost fits the transaction.
pub record FitsIn (left weighs most : ℕ) (f : Figures) : Type 0 where
  pub blocks : f.need ≤ left
  pub weight : weighs + f.cost ≤ most

-- It is refused as it needs more blocks than are left.
pub record IsFull (left : ℕ) (f : Figures) (why : Refusal) : Type 0 where
  pub is : why ≡ Full f.need left
  pub blocks : left < f.need

-- It is refused as its cost doesn't fit the transaction, with blocks enough.
pub record IsTooBig (left weighs most : ℕ) (f : Figures) (why : Refusal) : Type 0 where
  pub is : why ≡ TooBig weighs f.cost most
  pub blocks : f.need ≤ left
  pub weight : most < weighs + f.cost

-- why it doesn't fit
abbrev pub FailsToFit : ℕ → ℕ → ℕ → Figures → Refusal → Type 0
FailsToFit left weighs most f why = IsFull left f why ⊎ IsTooBig left weighs most f why

-- how many data blocks no file has and the running transaction doesn't hold
abbrev pub left_of : Bookkeeping → ℕ
left_of k = k.area - length (live_blocks k) - k.running.held

-- the command has room in these blocks
abbrev pub HasRoom : Bookkeeping → Figures → Type 0
HasRoom k f = FitsIn (left_of k) k.running.weight k.room f

-- why it has none
abbrev pub LacksRoom : Bookkeeping → Figures → Refusal → Type 0
LacksRoom k f why = FailsToFit (left_of k) k.running.weight k.room f why

-- the path of the node that the command may grow: that of its file, or of the directory in which a name comes to be
abbrev pub grown_path : Cmd → Option (List (List ℕ))
grown_path (cmds.Mkdir path) = Some (parent path)
grown_path (cmds.Create path) = Some (parent path)
grown_path (cmds.Link path other) = Some (parent other)
grown_path (cmds.Rename from to) = Some (parent to)
grown_path (cmds.Write path offset bytes) = Some path
grown_path (cmds.Fill path offset count byte) = Some path
grown_path (cmds.Truncate path size) = Some path
grown_path _ = None

-- the number of the node that the command may grow: a new snapshot's, or that at its path
abbrev pub grown_in : Session → Cmd → Option ℕ
grown_in f (cmds.Snap name) = least_unused f.limit.nodes f.tree
grown_in f cmd = option_and_then (get f.tree.names) (grown_path cmd)

-- the shared blocks that the command's bytes touch, by their places in the file that it writes
abbrev pub touched_by : Tree → Cmd → SharedPlaces → SharedPlaces
touched_by t (cmds.Write path offset bytes) shared = is_renewed shared (min offset (length (content t path))) (offset + length bytes)
touched_by t (cmds.Fill path offset count byte) shared = is_renewed shared (min offset (length (content t path))) (offset + count)
touched_by t (cmds.Truncate path size) shared = is_renewed shared (length (content t path)) size
touched_by t _ shared = none_shared

-- the places at which the command puts a new block in the stead of a shared one: those of the node that it grows
abbrev pub renewed_by : Session → Cmd → SharedNodes → SharedNodes
renewed_by f cmd shared k i = touched_by f.tree cmd (shared k) i && are_same (grown_in f cmd) (Some k)

-- no place is renewed
abbrev pub none_renewed : SharedNodes
none_renewed k = none_shared

-- Each node has the first of its own blocks, or all of its own and behind them the first of these. Where places are renewed, the first of these stand there.
abbrev pub ArePlaced : SharedNodes → (ℕ → List ℕ) → (ℕ → List ℕ) → List ℕ → Type 0
ArePlaced renewed old new more = (k : ℕ) → new k ≡ take (length (new k)) (renew (renewed k) 0 (old k) more)
