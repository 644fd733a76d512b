-- What comes of a run over two images that are kept alike: what becomes of the bay and of the two disks, what a refusal says of them, and where a fault comes from. What is said of the commands, of what is read and written and of the marks is said of the mirror of the two, as of any disk of a run. It is described in docs/MIRROR.md.
use Rattle.std.specs.Prelude.{◌≡◌, ◌⊎◌, ℕ, ◌<◌, ◌≤◌, ⊤, Bool, true, false, IsTrue, List, [], Result, Ok, Err}
use Rattle.base_types.specs.Counts.{after_call, Rose}
use Rattle.disk_contract.specs.declared.bay.Mark.{Mark}
use Rattle.disk_contract.specs.declared.bay.BayFault.{BayFault}
use Rattle.disk_contract.specs.declared.bay.BayFault.TheVariants as bay
use Rattle.disk_contract.specs.Bay.{BayState, Closes, Opens, has_faults}
use Rattle.disk_contract.specs.Disk.{State, writes_in}
use Rattle.cmd_image.specs.declared.ending.Ending.{Ending}
use Rattle.cmd_image.specs.declared.ending.Ending.TheVariants.{End, SourceFault, LongInput}
use Rattle.cmd_image.specs.declared.ending.RunRefusal.{RunRefusal}
use Rattle.cmd_image.specs.declared.ending.RunRefusal.TheVariants as run
use Rattle.cmd_image.specs.Mounted.{IsFresh}
use Rattle.cmd_image.specs.Refusals.{opens_nothing, run_answer_of, run_fails_pushing, run_refusal_of_bay}
use Rattle.cmd_image.specs.Runs.{ComesOfDisk, IsUnlent, Streams}
use Rattle.cmd_image.specs.Shows.{FailedByManner, MayFailToOpen}
use Rattle.cmd_mirror.specs.Comparing.{AreAlike, AreOnlyRead, AreUnlike, NoneIsUnread, OneIsUnread}
use Rattle.cmd_mirror.specs.Sides.{Course, GoesBack}
use Rattle.cmd_mirror.specs.declared.refusal.MirroredRefusal.{MirroredRefusal}
use Rattle.cmd_mirror.specs.declared.refusal.MirroredRefusal.TheVariants.{Unlike, Run}

-- The answer.

-- the answer of a run over a mirror
abbrev pub of_run : Result Ending RunRefusal → Result Ending MirroredRefusal
of_run (Ok ending) = Ok ending
of_run (Err why) = Err (Run why)

-- the answer of a run over a mirror by whether memory was found for the marks of its two disks: that there was none counts only behind the end of the input
abbrev pub marked_answer_of : Bool → Result Ending RunRefusal → Result Ending MirroredRefusal
marked_answer_of true answer = of_run answer
marked_answer_of false answer = of_run (run_answer_of {T = Unit {0}} answer (Err bay.NoMemory))

-- The answer where the bay answered so to the return of the first disk and to that of the second: a fault of these counts only behind the end of the input, and the first one before the second.
abbrev pub mirrored_answer_of : Result Ending MirroredRefusal → Result (Unit {0}) BayFault → Result (Unit {0}) BayFault → Result Ending MirroredRefusal
mirrored_answer_of (Err why) back other_back = Err why
mirrored_answer_of (Ok SourceFault) back other_back = Ok SourceFault
mirrored_answer_of (Ok LongInput) back other_back = Ok LongInput
mirrored_answer_of (Ok End) (Err fault) other_back = Err (Run (run_refusal_of_bay fault))
mirrored_answer_of (Ok End) (Ok x) (Err fault) = Err (Run (run_refusal_of_bay fault))
mirrored_answer_of (Ok End) (Ok x) (Ok y) = Ok End

-- whether a push failed
abbrev pub mirrored_fails_pushing : Result Ending MirroredRefusal → Bool
mirrored_fails_pushing (Ok ending) = false
mirrored_fails_pushing (Err Unlike) = false
mirrored_fails_pushing (Err (Run why)) = run_fails_pushing (Err why)

-- a refusal for what is on the images, by which no file system was opened
abbrev pub mirrored_opens_nothing : Result Ending MirroredRefusal → Bool
mirrored_opens_nothing (Ok ending) = false
mirrored_opens_nothing (Err Unlike) = true
mirrored_opens_nothing (Err (Run why)) = opens_nothing (Err why)

-- the counts of faults never fall, and that of the output rises by one where a push failed, and else stays
pub record CountsMirrored (result : Result Ending MirroredRefusal) (old new : Streams) : Type 0 where
  pub source : old.source_faults ≤ new.source_faults
  pub rises : old.sink_faults ≤ new.sink_faults
  pub sink : new.sink_faults ≡ after_call (mirrored_fails_pushing result) old.sink_faults

-- The two disks.

-- for how many writes a mirror has room
abbrev pub most_writes : ℕ
most_writes = 524288

-- the mirror has no room for another write
abbrev pub IsUsedUp : Bool → State → Type 0
IsUsedUp tells mirror = IsTrue tells → most_writes ≤ writes_in mirror.log

-- a call of each of the two disks failed
abbrev pub BothFailed : State → State → Type 0
BothFailed first second = (has_faults first ≡ true) × (has_faults second ≡ true)

-- Where a call of a mirror failed, one of each of its disks did: where a read failed, and so where another call did, unless the room is used up.
pub record FailsAsBoth (tells : Bool) (mirror first second : State) : Type 0 where
  pub reads : 0 < mirror.read_faults → BothFailed first second
  pub others : 0 < mirror.faults → BothFailed first second ⊎ IsUsedUp tells mirror

-- Two disks go back from a mirror over which a run was made, with these marks and this answer: each as it went along with the mirror, and with its own marks, where there was memory for these.
pub record GoesBackInTwo (tells : Bool) (mirror first second : State) (marks first_marks second_marks : List Mark) (ended : Result Ending RunRefusal) (answer : Result Ending MirroredRefusal) : Type 0 where
  pub known : Bool
  pub first_course : Course
  pub second_course : Course
  pub goes_first : IsTrue tells → GoesBack known first_course mirror first marks first_marks
  pub goes_second : IsTrue tells → GoesBack known second_course mirror second marks second_marks
  pub blocks : (first.blocks ≡ mirror.blocks) × (second.blocks ≡ mirror.blocks)
  pub fails : FailsAsBoth tells mirror first second
  pub answered : answer ≡ marked_answer_of known ended

-- A script was run over the mirror of two disks, on which nothing had happened yet and which began as the first of them: what came of the mirror is what comes of any disk of a run.
pub record RunsOverTwo (tells : Bool) (first first_last second_last : State) (first_marks second_marks : List Mark) (answer : Result Ending MirroredRefusal) (before after : Streams) : Type 0 where
  pub mirror : State
  pub mirror_last : State
  pub marks : List Mark
  pub ended : Result Ending RunRefusal
  pub blocks : mirror.blocks ≡ first.blocks
  pub base : IsTrue tells → mirror.base ≡ first.base
  pub fresh : IsFresh tells mirror
  pub comes : ComesOfDisk tells mirror mirror_last marks ended before after
  pub goes : GoesBackInTwo tells mirror_last first_last second_last marks first_marks second_marks ended answer

-- Why two disks that were handed out make no mirror: they are unlike, a read of their comparison failed, or there was no memory for the room.
abbrev pub MakesNone : Bool → MirroredRefusal → Bool → Bool → State → State → Type 0
MakesNone tells Unlike first_unread second_unread first second = NoneIsUnread first_unread second_unread × AreUnlike tells first second
MakesNone tells (Run run.Fault) first_unread second_unread first second = OneIsUnread first_unread second_unread × (second.blocks ≡ first.blocks)
MakesNone tells (Run (run.Damaged damage)) first_unread second_unread first second = ⊥
MakesNone tells (Run run.Spent) first_unread second_unread first second = ⊥
MakesNone tells (Run run.SinkFault) first_unread second_unread first second = ⊥
MakesNone tells (Run run.NoMemory) first_unread second_unread first second = NoneIsUnread first_unread second_unread × AreAlike tells first second

-- The bay.

-- a disk was handed out under each of two names, in this order
pub record OpensBoth (tells : Bool) (name other : List ℕ) (first second : State) (old new : BayState) : Type 0 where
  pub between : BayState
  pub opens_first : Opens tells (λ (d : State). d) name (Ok first) old between
  pub opens_second : Opens tells (λ (d : State). d) other (Ok second) between new

-- two disks were handed back, each once and under its name, in this order and with these marks; `back` and `other_back` are what the bay answered
pub record ClosesBoth (tells : Bool) (name other : List ℕ) (first second : State) (first_marks second_marks : List Mark) (old new : BayState) : Type 0 where
  pub between : BayState
  pub back : Result (Unit {0}) BayFault
  pub other_back : Result (Unit {0}) BayFault
  pub closes_first : Closes tells name first first_marks back old between
  pub closes_second : Closes tells other second second_marks other_back between new

-- No disk was handed out, by a fault that the bay has counted or for want of memory: nothing was read or written.
pub record LendsNone (tells : Bool) (result : Result Ending MirroredRefusal) (old new : BayState) (before after : Streams) : Type 0 where
  pub why : RunRefusal
  pub unlent : IsUnlent tells (Err why) old new before after
  pub answered : result ≡ Err (Run why)

-- A disk was handed out under the first name and none under the other: the first one went back as it came, without a mark, and nothing was read or written.
pub record LendsOne (tells : Bool) (name other : List ℕ) (result : Result Ending MirroredRefusal) (old new : BayState) (before after : Streams) : Type 0 where
  pub first : State
  pub fault : BayFault
  pub back : Result (Unit {0}) BayFault
  pub between : BayState
  pub opened : BayState
  pub opens : Opens tells (λ (d : State). d) name (Ok first) old between
  pub refuses : Opens tells (λ (d : State). d) other (Err fault) between opened
  pub closes : Closes tells name first [] back opened new
  pub same : after ≡ before
  pub answered : result ≡ Err (Run (run_refusal_of_bay fault))

-- A disk was handed out under each name, and the two made no mirror: they were only read, and went back without a mark; nothing was read of the input or written.
pub record MakesNoMirror (tells : Bool) (name other : List ℕ) (result : Result Ending MirroredRefusal) (old new : BayState) (before after : Streams) : Type 0 where
  pub first : State
  pub second : State
  pub first_last : State
  pub second_last : State
  pub first_unread : Bool
  pub second_unread : Bool
  pub why : MirroredRefusal
  pub opened : BayState
  pub opens : OpensBoth tells name other first second old opened
  pub reads : AreOnlyRead tells first_unread second_unread first first_last second second_last
  pub none : MakesNone tells why first_unread second_unread first second
  pub closes : ClosesBoth tells name other first_last second_last [] [] opened new
  pub same : after ≡ before
  pub answered : result ≡ Err why

-- A disk was handed out under each name, the two were alike, and a script was run over their mirror; then each went back under its name, with its own marks.
pub record RunsBoth (tells : Bool) (name other : List ℕ) (result : Result Ending MirroredRefusal) (old new : BayState) (before after : Streams) : Type 0 where
  pub first : State
  pub second : State
  pub first_last : State
  pub second_last : State
  pub first_marks : List Mark
  pub second_marks : List Mark
  pub answer : Result Ending MirroredRefusal
  pub opened : BayState
  pub opens : OpensBoth tells name other first second old opened
  pub alike : AreAlike tells first second
  pub runs : RunsOverTwo tells first first_last second_last first_marks second_marks answer before after
  pub closes : ClosesBoth tells name other first_last second_last first_marks second_marks opened new
  pub answered : result ≡ mirrored_answer_of answer closes.back closes.other_back

-- what comes of a run over two images: no disk was handed out, or one, or two that made no mirror, or two over whose mirror the script was run
abbrev pub ComesOfBoth : Bool → List ℕ → List ℕ → Result Ending MirroredRefusal → BayState → BayState → Streams → Streams → Type 0
ComesOfBoth tells name other result old new before after =
    LendsNone tells result old new before after ⊎ (LendsOne tells name other result old new before after
    ⊎ (MakesNoMirror tells name other result old new before after ⊎ RunsBoth tells name other result old new before after))

-- Where a fault comes from.

-- the bay counted a fault: of one of its calls, or of a disk that was handed back with a fault of its own
abbrev pub CountsAFault : BayState → BayState → Type 0
CountsAFault old new = Rose old.faults new.faults ⊎ Rose old.disk_faults new.disk_faults

-- A fault is answered only where the bay counted one, or where the room of the mirror was used up; where the images are unlike no call of a disk failed. A call of one disk that failed while the other was left is seen in no answer.
abbrev pub HasMirroredCause : Bool → List ℕ → List ℕ → Result Ending MirroredRefusal → BayState → BayState → Streams → Streams → Type 0
HasMirroredCause tells name other (Ok ending) old new before after = ⊤
HasMirroredCause tells name other (Err Unlike) old new before after = new.disk_faults ≡ old.disk_faults
HasMirroredCause tells name other (Err (Run run.Fault)) old new before after =
    CountsAFault old new ⊎ ((r : RunsBoth tells name other (Err (Run run.Fault)) old new before after) × IsUsedUp tells r.runs.mirror_last)
HasMirroredCause tells name other (Err (Run (run.Damaged damage))) old new before after = ⊤
HasMirroredCause tells name other (Err (Run run.Spent)) old new before after = ⊤
HasMirroredCause tells name other (Err (Run run.SinkFault)) old new before after = ⊤
HasMirroredCause tells name other (Err (Run run.NoMemory)) old new before after = ⊤

-- two disks made no mirror for a read of one that failed, as the disk's manner lets it
abbrev pub UnreadByManner : Bool → List ℕ → List ℕ → Result Ending MirroredRefusal → BayState → BayState → Streams → Streams → Type 0
UnreadByManner tells name other result old new before after = (m : MakesNoMirror tells name other result old new before after) × (FailedByManner m.first_last ⊎ FailedByManner m.second_last)

-- a script was run over the mirror of two disks, and a call of each had failed, or the room of the mirror was used up
abbrev pub RunsFailing : Bool → List ℕ → List ℕ → Result Ending MirroredRefusal → BayState → BayState → Streams → Streams → Type 0
RunsFailing tells name other result old new before after = (r : RunsBoth tells name other result old new before after) × (BothFailed r.first_last r.second_last ⊎ IsUsedUp tells r.runs.mirror_last)

-- what a fault comes of, where the bay tells: calls of the bay may fail, or nothing is under one of the names; a read of the comparison failed, as its disk's manner lets it; or a call of each of the two disks of a mirror failed, or the mirror's room was used up
abbrev pub HasMirroredReason : Bool → List ℕ → List ℕ → Result Ending MirroredRefusal → BayState → BayState → Streams → Streams → Type 0
HasMirroredReason tells name other result old new before after =
    MayFailToOpen name old ⊎ (MayFailToOpen other old ⊎ (UnreadByManner tells name other result old new before after ⊎ RunsFailing tells name other result old new before after))
