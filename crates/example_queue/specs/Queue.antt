-- What a queue over a log promises: which jobs no crash can take any more, and of what it is opened. It is described in docs/LOG.md.
use Rattle.std.specs.Prelude.{◌≡◌, ◌⊎◌, ◌+◌, ◌-◌, ◌≤◌, ⊤, ℕ, Bool, IsTrue, List, [], ◌∷◌, slice_get, take, None, Some}
use Rattle.disk_contract.specs.Disk as disk
use Rattle.lang_tree.specs.declared.command.Cmd.{Cmd}
use Rattle.lang_tree.specs.Tree.{Tree}
use Rattle.lang_log.specs.History.{History, MayBeLeft, appended, opened_with}
use Rattle.lang_log.specs.Log.{HasNoLog, IsLogOf, Log, next_of}
use Rattle.lang_log.specs.Segments.{IsOneOf}
use Rattle.crash_stands.specs.Stands.{StandsFor}
use Rattle.engine_blocks.specs.State.{State}
use Rattle.fs_commands.specs.Opened.{blocks_in}
use Rattle.fs_log.specs.declared.refusal.LogRefusal.{LogRefusal}
use Rattle.fs_log.specs.declared.refusal.OpenRefusal.TheVariants.{BadLog}
use Rattle.fs_log.specs.Causes.{AsksToAppend, AsksToSync, HasCallCause}
use Rattle.fs_log.specs.Keeping.{Keeps}
use Rattle.fs_log.specs.Open.{Open, state_in}
use Rattle.fs_log.specs.Refusals.{is_of_append, is_of_none}
use Rattle.cmd_image.specs.Shows.{RefusesOn}
use Rattle.example_queue.specs.declared.opening.QueueRefusal.{QueueRefusal}
use Rattle.example_queue.specs.declared.opening.QueueRefusal.TheVariants.{Disk, Log as LogRefused}

-- The log has this job under this number.
pub record Has (number : ℕ) (job : List ℕ) (l : Log) : Type 0 where
  pub from : l.low ≤ number
  pub is : slice_get l.appends (number - l.low) ≡ Some job

-- No crash takes the job: each log that may be left has it.
abbrev pub IsSafe : History → ℕ → List ℕ → Type 0
IsSafe h number job = (l : Log) → MayBeLeft h l → Has number job l

-- No crash takes any of these jobs, which have the numbers from this one on.
abbrev pub AreSafe : History → ℕ → List (List ℕ) → Type 0
AreSafe h number [] = ⊤
AreSafe h number (job ∷ jobs) = IsSafe h number job × AreSafe h (number + 1) jobs

-- the history of a log to which these jobs were appended, one after the other
abbrev pub with_jobs : List (List ℕ) → History → History
with_jobs [] h = h
with_jobs (job ∷ jobs) h = with_jobs jobs (appended job h)

-- The jobs were taken under the numbers from this one on, the next ones of the log that there was, and no crash from now on takes them.
pub record Acknowledges (jobs : List (List ℕ)) (number : ℕ) (h : History) (s : State) : Type 0 where
  pub next : number ≡ next_of h.now
  pub history : History
  pub keeps : Keeps history s
  pub safe : AreSafe history number jobs

-- The first few of these jobs were appended, and no other; each log that might be left still may.
pub record TakesSome (jobs : List (List ℕ)) (h : History) (s : State) : Type 0 where
  pub count : ℕ
  pub keeps : Keeps (with_jobs (take count jobs) h) s

module _ {S : Type 0} (tells : Bool) (state : S → State) where
  -- The append of one of these jobs was refused so, or the sync behind them was.
  pub record IsRefused (jobs : List (List ℕ)) (why : LogRefusal) (new : Open S) : Type 0 where
    pub before : Open S
    pub cause : ((job : List ℕ) × IsOneOf job jobs × HasCallCause tells state is_of_append (AsksToAppend before job) why (blocks_in before.fs) (blocks_in new.fs))
        ⊎ HasCallCause tells state is_of_none AsksToSync why (blocks_in before.fs) (blocks_in new.fs)

-- The disk stood for a tree, and the queue has the log of that; no crash leaves another one.
pub record IsOpenedOn (first : disk.State) (s : State) : Type 0 where
  pub tree : Tree
  pub stood : StandsFor first.blocks first.base tree
  pub log : Log
  pub is : IsLogOf tree log
  pub keeps : Keeps (opened_with log) s

-- Why no queue is opened, as far as what is on the disk is the reason: it can't be mounted, no tree stands on it, or that has no log.
abbrev pub RefusesQueue : disk.State → QueueRefusal → Type 0
RefusesQueue first (Disk why) = RefusesOn None None why first.blocks first.base
RefusesQueue first (LogRefused BadLog) = (t : Tree) → StandsFor first.blocks first.base t → HasNoLog t
RefusesQueue first _ = ⊤
