-- What is known of a disk and of its store on the way of a showing, and which refusal comes of which. Only private contracts speak of it.
use Rattle.std.specs.Prelude.{◌≡◌, ◌⊎◌, ℕ, ◌+◌, ◌<◌, ◌≤◌, Bool, true, false, IsTrue, List, [], length, Option, Result, Ok, Err}
use Rattle.base_types.specs.Counts.{after_call, after_calls}
use Rattle.base_types.specs.Seal.{Blocks}
use Rattle.disk_contract.specs.declared.bay.Mark.{Mark}
use Rattle.disk_contract.specs.declared.bay.BayFault.{BayFault}
use Rattle.disk_contract.specs.declared.bay.BayFault.TheVariants as bay
use Rattle.disk_contract.specs.Bay.{HasNoCounts, has_faults}
use Rattle.disk_contract.specs.Crash.{Window}
use Rattle.disk_contract.specs.Disk as disk
use Rattle.crash_argument.specs.Ledger.{HoldsUnder}
use Rattle.engine_blocks.specs.State.{State}
use Rattle.lang_tree.specs.Step.{Session}
use Rattle.engine_store.specs.declared.refusal.StoreRefusal.{StoreRefusal}
use Rattle.engine_store.specs.declared.refusal.StoreRefusal.TheVariants as store
use Rattle.fs_check.specs.declared.checking.CheckRefusal.{CheckRefusal}
use Rattle.fs_check.specs.declared.checking.CheckRefusal.TheVariants as check
use Rattle.fs_session.specs.Sessions.{IsSession}
use Rattle.cmd_session.specs.declared.images.ImageDamage.TheVariants.{NoHeader, BadBit, Broken}
use Rattle.cmd_image.specs.declared.show_refusal.ShowRefusal.{ShowRefusal}
use Rattle.cmd_image.specs.declared.show_refusal.ShowRefusal.TheVariants.{Fault, Damaged, Spent, SinkFault, NoMemory}
use Rattle.cmd_session.specs.Images.{CanBeMounted}
use Rattle.cmd_image.specs.Shows.{HasMark, Lists, RefusesOn, SpendsAtMost, StandsThroughout}

-- The refusals.

-- the refusal for a call of the bay
abbrev pub of_bay : BayFault → ShowRefusal
of_bay bay.Fault = Fault
of_bay bay.NoMemory = NoMemory

-- the refusal for a mount
abbrev pub of_store : StoreRefusal → ShowRefusal
of_store store.NoHeader = Damaged NoHeader
of_store (store.BadBit b) = Damaged (BadBit b)
of_store store.Spent = Spent
of_store store.ReadFault = Fault
of_store store.DiskFault = Fault
of_store store.NoMemory = NoMemory

-- the refusal for a check
abbrev pub of_check : CheckRefusal → ShowRefusal
of_check (check.Damaged what) = Damaged (Broken what)
of_check check.ReadFault = Fault
of_check check.NoMemory = NoMemory

-- the answer where the bay answered so to the disk's return: an earlier refusal counts first
abbrev pub answer_of : Result (Unit {0}) ShowRefusal → Result (Unit {0}) BayFault → Result (Unit {0}) ShowRefusal
answer_of (Err why) back = Err why
answer_of (Ok x) (Ok y) = Ok y
answer_of (Ok x) (Err fault) = Err (of_bay fault)

-- whether a call failed, of the bay or of the disk
abbrev pub is_fault : {T : Type 0} → Result T ShowRefusal → Bool
is_fault (Ok x) = false
is_fault (Err Fault) = true
is_fault (Err (Damaged damage)) = false
is_fault (Err Spent) = false
is_fault (Err SinkFault) = false
is_fault (Err NoMemory) = false

-- The disk and its store.

-- A disk that was just opened: no call of it failed, waited or polled, and it has no event.
pub record IsFresh (tells : Bool) (d : disk.State) : Type 0 where
  pub counts : HasNoCounts d
  pub nothing : IsTrue tells → d.log ≡ []

-- The image can be mounted, and holds the map of the store; so does each honest image of each moment so far.
pub record HoldsThroughout (first : disk.State) (s : State) : Type 0 where
  pub mountable : CanBeMounted first.blocks first.base
  pub holds : HoldsUnder first.blocks s.books.geom first.base s.map
  pub images : Window first.blocks first.base s.crash.log 0 (λ img. HoldsUnder first.blocks s.books.geom img s.map)

-- A store that was mounted on such a disk, on which no call but a read has failed since.
pub record IsMountedOn (tells unread : Bool) (first : disk.State) (s : State) : Type 0 where
  pub blocks : s.books.geom.n ≡ first.blocks
  pub base : IsTrue tells → s.crash.base ≡ first.base
  pub manner : s.counts.ticks.manner ≡ first.manner
  pub polls : s.counts.ticks.polls ≡ first.polls
  pub waits : (made : ℕ) × (made ≤ first.blocks + 2) × (s.counts.waits ≡ after_calls made first.waits)
  pub read_faults : s.counts.read_faults ≡ after_call unread 0
  pub faults : s.counts.faults ≡ 0
  pub going : s.books.stopped ≡ false
  pub written : IsTrue tells → disk.writes_in s.crash.log ≤ first.blocks + 2
  pub held : IsTrue tells → HoldsThroughout first s

-- A file system was opened on it: a session of some tree goes on.
abbrev pub HasSession : State → Type 0
HasSession s = (f : Session) × IsSession s f

-- the mark of its disk now, as far as its moment is known
pub record IsMarkOf (tells : Bool) (s : State) (mark : Mark) : Type 0 where
  pub moment : IsTrue tells → mark.moment ≡ length s.crash.log
  pub read_faults : mark.read_faults ≡ 0
  pub faults : mark.faults ≡ 0

-- What goes back.

-- what is said of the image
abbrev pub SaysOn : {T : Type 0} → Option (List ℕ) → Option (List ℕ) → Result T ShowRefusal → ℕ → Blocks → Type 0
SaysOn before after (Ok x) n at = Lists before after n at
SaysOn before after (Err why) n at = RefusesOn before after why n at

-- the marks go along where the file system was opened
abbrev pub MarksFor : {T : Type 0} → Bool → disk.State → List Mark → Result T ShowRefusal → Type 0
MarksFor tells d marks (Ok x) = HasMark tells d marks
MarksFor tells d marks (Err Fault) = (marks ≡ []) ⊎ HasMark tells d marks
MarksFor tells d marks (Err (Damaged damage)) = marks ≡ []
MarksFor tells d marks (Err Spent) = marks ≡ []
MarksFor tells d marks (Err SinkFault) = HasMark tells d marks
MarksFor tells d marks (Err NoMemory) = (marks ≡ []) ⊎ HasMark tells d marks

-- What comes of a disk that was just opened: the disk as it goes back, its marks, and the answer.
pub record ShowsDisk {T : Type 0} (tells : Bool) (first last : disk.State) (marks : List Mark) (before after : Option (List ℕ)) (answer : Result T ShowRefusal) : Type 0 where
  pub spends : SpendsAtMost tells first last
  pub faults : has_faults last ≡ is_fault answer
  pub cause : IsTrue tells → 0 < last.faults → disk.HasFailed last
  pub crash : IsTrue tells → StandsThroughout last
  pub marked : MarksFor tells last marks answer
  pub says : IsTrue tells → SaysOn before after answer first.blocks first.base
