-- What a command has planned before anything is changed: a reply, or a draft with its cost. It is described in docs/FILE-SYSTEM.md.
use Rattle.std.specs.Prelude.{◌≡◌, ℕ, ◌+◌, ◌*◌, ◌<◌, ◌≤◌, ⊤, Bool, false, IsTrue, List, length, None, Some, Result, Ok, Err}
use Rattle.std.specs.FinMap.{get}
use Rattle.base_types.specs.Seal.{Blocks}
use Rattle.layout_geometry.specs.Geometry.{bitmap_blocks, table_start}
use Rattle.layout_bytes.specs.Bitmap.{is_set}
use Rattle.layout_journal.specs.Run.{is_live}
use Rattle.lang_tree.specs.declared.command.Cmd.{Cmd}
use Rattle.lang_tree.specs.declared.command.Cmd.TheVariants.{Snap, Unsnap}
use Rattle.lang_tree.specs.declared.command.Refusal.{Refusal}
use Rattle.lang_tree.specs.declared.command.Reply.{Reply}
use Rattle.lang_tree.specs.declared.command.Reply.TheVariants.{Ok as Done}
use Rattle.lang_tree.specs.Conditions.{least_unused, refusal}
use Rattle.lang_tree.specs.Figures.{nothing}
use Rattle.lang_tree.specs.Step.{Session, step}
use Rattle.lang_tree.specs.Tree.{Kept}
use Rattle.crash_stands.specs.Files.{files_of}
use Rattle.crash_stands.specs.Inodes.{AreInodesOf, inodes_of}
use Rattle.crash_stands.specs.Maps.{IsMapOf}
use Rattle.crash_stands.specs.Stands.{AreSound}
use Rattle.crash_snapshots.specs.Adding.{AddsSnapshot}
use Rattle.crash_snapshots.specs.Taking.{TakesSnapshot}
use Rattle.engine_blocks.specs.State.{State, reusable_blocks}
use Rattle.fs_files.specs.Calls.{files_in, places_in, places_of as blocks_of_node}
use Rattle.fs_files.specs.Drafts.{DraftState, drafted, marks_of, nothing_drafted}
use Rattle.fs_files.specs.Effects.{LooksAndSettles}
use Rattle.fs_files.specs.Shared.{is_kept}
use Rattle.fs_files.specs.Sound.{AreSoundBeside, IsDraftOf, TellsKept}
use Rattle.fs_session.specs.declared.plan.Plan.{Plan}
use Rattle.fs_session.specs.declared.plan.Plan.TheVariants.{Answer, Change}
use Rattle.fs_session.specs.declared.unused.NodeUse.{NodeUse}
use Rattle.fs_session.specs.Changes.{IsWithinCost, Uses}
use Rattle.fs_session.specs.Commands.{figures_on, places_of, renewed_on, FindsRuns, IsCalm, IsRefusedFor, is_read_fault, is_disk_fault}
use Rattle.fs_session.specs.Sessions.{IsSession, KeepsUsed}
use Rattle.fs_session.specs.Snapshots.{LeavesSnapshots}
use Rattle.fs_session.specs.Space.{HasRoom}

-- What a draft makes of the snapshots.

-- The map m is what the draft makes of the blocks: the node table and the data as it has them, its files and the blocks of each node, the bits with its marks, and whole live blocks; and sound beside what is kept if they were.
pub record HasDrafted (s : State) (d : DraftState) (m : Blocks) : Type 0 where
  pub lies : (b : ℕ) → table_start s.books.geom ≤ b → b < s.books.geom.n → m b ≡ drafted d s.map b
  pub files : (k : ℕ) → files_of s.books.geom m k ≡ files_of s.books.geom (drafted d s.map) k
  pub places : (k : ℕ) → blocks_of_node s.books.geom m k ≡ places_in s d k
  pub bits : (b : ℕ) → b < 8192 * bitmap_blocks s.books.geom → is_set s.books.geom m b ≡ marks_of d (is_set s.books.geom s.map) b
  pub whole : (b : ℕ) → IsTrue (is_live s.books.geom m b) → length (m b) ≡ 1024
  pub sound : AreSoundBeside s.books.geom (is_kept d.kept) s.map → AreSoundBeside s.books.geom (is_kept d.kept) m

-- A snapshot of this name comes, under the least unused number.
pub record MakesSnapshot (name : List ℕ) (d : DraftState) (now : State) (f : Session) : Type 0 where
  pub number : ℕ
  pub least : least_unused f.limit.nodes f.tree ≡ Some number
  pub places : List ℕ
  pub adds : (m : Blocks) → HasDrafted now d m → AddsSnapshot now.books.geom now.map m number name places

-- The snapshot of this name goes.
pub record LosesSnapshot (name : List ℕ) (d : DraftState) (now : State) (f : Session) : Type 0 where
  pub kept : Kept
  pub is : get f.tree.snapshots name ≡ Some kept
  pub takes : (m : Blocks) → HasDrafted now d m → TakesSnapshot now.books.geom now.map m kept.number

-- All snapshots stay as they are: the draft stands beside just the blocks that they keep, and leaves each its own.
pub record StaysBeside (d : DraftState) (now : State) : Type 0 where
  pub kept : TellsKept now.books.geom (is_kept d.kept) now.map
  pub leaves : LeavesSnapshots (files_in now nothing_drafted) (files_in now d) (places_of now) (places_in now d)

-- what the command's draft makes of the snapshots: one comes, one goes, or all stay as they are
abbrev pub MakesSnapshots : Cmd → DraftState → State → Session → Type 0
MakesSnapshots (Snap name) d now f = MakesSnapshot name d now f
MakesSnapshots (Unsnap name) d now f = LosesSnapshot name d now f
MakesSnapshots cmd d now f = StaysBeside d now

-- The draft makes the tree of the command, which the tree accepts and there is room for. It is within the command's cost, and uses the blocks that its figures say, of those that may be taken now: the pipeline settled only where there were fewer before.
pub record MakesTree (cmd : Cmd) (d : DraftState) (cost : ℕ) (old now : State) (f : Session) : Type 0 where
  pub accepted : refusal f.limit f.tree cmd ≡ None
  pub answer : (step f cmd).1 ≡ Done
  pub costs : (figures_on old f cmd).cost ≡ cost
  pub room : HasRoom old.books (figures_on old f cmd)
  pub runs : FindsRuns old now.books f cmd
  pub reads : AreInodesOf now.books.geom.layout (files_in now d) (inodes_of now.books.geom.layout (files_in now d))
  pub map : IsMapOf f.limit.nodes (inodes_of now.books.geom.layout (files_in now d)) (step f cmd).0.tree
  pub snapshots : MakesSnapshots cmd d now f
  pub within : IsWithinCost now.books.geom d cost
  pub uses : Uses (figures_on old f cmd).need (figures_on old f cmd).freed (reusable_blocks now.books) (renewed_on old f cmd) (places_of old) (places_in now d) d
  pub enough : (figures_on old f cmd).need ≤ length (reusable_blocks now.books)
  pub rests : (figures_on old f cmd).need ≤ length (reusable_blocks old.books) → now.books ≡ old.books

-- The draft may be finished now, its cost fits the transaction, it leaves sound blocks, and it uses nodes so.
pub record MayBeMade (tells : Bool) (d : DraftState) (cost : ℕ) (nodes : NodeUse) (now : State) : Type 0 where
  pub draft : IsDraftOf tells now d
  pub sound : IsTrue tells → AreSound now.books.geom now.map → (m : Blocks) → HasDrafted now d m → AreSound now.books.geom m
  pub weight : now.books.running.weight + cost ≤ now.books.room
  pub used : IsTrue tells → KeepsUsed nodes (files_of now.books.geom now.map) (files_in now d)

-- what must hold of a change that was planned
abbrev pub OnChange : Result Plan Refusal → (DraftState → ℕ → NodeUse → Type 0) → Type 0
OnChange (Err why) P = ⊤
OnChange (Ok (Answer reply)) P = ⊤
OnChange (Ok (Change draft cost nodes)) P = P draft cost nodes

-- What carrying out a plan leaves of the blocks: an answer leaves them, a draft makes its map of them.
abbrev pub LeavesMap : Result Plan Refusal → State → State → Type 0
LeavesMap (Err why) old new = ⊥
LeavesMap (Ok (Answer reply)) old new = new.map ≡ old.map
LeavesMap (Ok (Change draft cost nodes)) old new = HasDrafted old draft new.map

-- nothing is to change
abbrev pub IsAnswer : Result Plan Refusal → Type 0
IsAnswer (Err why) = ⊤
IsAnswer (Ok (Answer reply)) = ⊤
IsAnswer (Ok (Change draft cost nodes)) = ⊥

-- A reply is right that was planned: it is the tree's, which stays as it was; the command takes nothing, for which there is room, and the pipeline didn't settle.
pub record IsRightAnswer (cmd : Cmd) (reply : Reply) (old now : State) (f : Session) : Type 0 where
  pub answer : reply ≡ (step f cmd).1
  pub session : (step f cmd).0 ≡ f
  pub room : HasRoom old.books (figures_on old f cmd)
  pub runs : FindsRuns old now.books f cmd
  pub costs : figures_on old f cmd ≡ nothing
  pub books : now.books ≡ old.books

-- A plan is right: a reply is, or a draft makes the command's tree.
abbrev pub IsRight : Cmd → Plan → State → State → Session → Type 0
IsRight cmd (Answer reply) old now f = IsRightAnswer cmd reply old now f
IsRight cmd (Change draft cost nodes) old now f = MakesTree cmd draft cost old now f

-- whether planning was refused by a failed read, or by another failed call of the disk
abbrev pub plan_fails_reading : {T : Type 0} → Result T Refusal → Bool
plan_fails_reading (Ok x) = false
plan_fails_reading (Err why) = is_read_fault (Err why)

abbrev pub plan_fails_settling : {T : Type 0} → Result T Refusal → Bool
plan_fails_settling (Ok x) = false
plan_fails_settling (Err why) = is_disk_fault (Err why)

-- what planning a command comes to
abbrev pub PlanIs : Cmd → Result Plan Refusal → State → State → Session → Type 0
PlanIs cmd (Ok plan) old now f = IsRight cmd plan old now f
PlanIs cmd (Err why) old now f = IsRefusedFor old now f cmd why

-- How a command was planned: nothing is changed so far, but the pipeline may have settled, where fewer blocks than it needs could be taken.
pub record Plans (tells : Bool) (cmd : Cmd) (result : Result Plan Refusal) (old now : State) : Type 0 where
  pub is : IsTrue tells → (f : Session) → IsSession old f → PlanIs cmd result old now f
  pub going : old.books.stopped ≡ false
  pub quiet : IsTrue tells → (f : Session) → IsSession old f → IsCalm (figures_on old f cmd).need old now
  pub settles : LooksAndSettles tells (plan_fails_reading result) (plan_fails_settling result) old now
