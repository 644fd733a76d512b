-- The contract of the whole program. It is described in docs/PROMISES.md.
use Rattle.std.specs.Prelude.{◌≡◌, ℕ, ◌^◌, ◌≤◌, ◌⊎◌, ⊤, Bool, true, false, List, [], ◌∷◌, ◌++◌, length, Option, Some, None}
use Rattle.std.specs.Io.KnownBytes.{Appends, Consumes, IsAtEnd}
use Rattle.base_types.specs.Counts.{Rose}
use Rattle.base_types.specs.declared.layout.Layout.{Layout}
use Rattle.base_types.specs.declared.layout.Layout.TheVariants.{Two}
use Rattle.layout_geometry.specs.Geometry.{Geometry, geometry_fits}
use Rattle.cmd_words.specs.declared.request.Notices.{Notices}
use Rattle.cmd_words.specs.declared.request.Request.{Request}
use Rattle.cmd_words.specs.declared.request.Request.TheVariants.{Record, Replay, Tree, Make, Run, RunMirrored, Copy, Load, AppLog, Upgrade}
use Rattle.disk_memory.specs.MemDisk.{manner_by}
use Rattle.cmd_image.specs.Shows.{CountsFault}
use Rattle.cmd_host.specs.Behaving.{fails_of, rule_of, Setting}
use Rattle.cmd_program.specs.Copying.{CopiesTo}
use Rattle.cmd_program.specs.Endings.{Met, EndsBehind, EndsSilent, usage_line, shape_line}
use Rattle.cmd_program.specs.Loading.{LoadsTo}
use Rattle.cmd_program.specs.Logging.{LogsTo}
use Rattle.cmd_program.specs.Making.{MakesTo}
use Rattle.cmd_program.specs.Mirroring.{RunsMirroredTo}
use Rattle.cmd_program.specs.Output.{Recorded}
use Rattle.cmd_program.specs.Replaying.{ReplaysTo}
use Rattle.cmd_program.specs.Scripting.{RunsTo}
use Rattle.cmd_program.specs.Showing.{ShowsTo}
use Rattle.cmd_program.specs.Upgrading.{UpgradesImageTo}
use Rattle.cmd_program.specs.declared.status.Status.{Status}
use Rattle.cmd_program.specs.declared.status.Status.TheVariants.{Done, Usage, NoMemory, DiskFault, Damaged, SourceFault, SinkFault, Spent, BadShape, LongInput, NoRoom, Unlike, BadLog}

-- these bytes were read, which are no more than an input may have
abbrev pub ReadsWithin : List ℕ → Option (List ℕ) → Option (List ℕ) → Type 0
ReadsWithin seen left left_now = Consumes left left_now seen × (length seen ≤ 2 ^ 30)

-- these bytes were read, which are as many as an input may have, and one more that came
abbrev pub ReadsPast : List ℕ → Option (List ℕ) → Option (List ℕ) → Type 0
ReadsPast seen left left_now = (next : ℕ) × Consumes left left_now (seen ++ next ∷ []) × (length seen ≡ 2 ^ 30)

-- what a recording that ended with this status read
abbrev pub Reads : Status → List ℕ → Option (List ℕ) → Option (List ℕ) → Type 0
Reads Done seen left left_now = ReadsWithin seen left left_now × IsAtEnd left_now
Reads NoMemory seen left left_now = ReadsWithin seen left left_now
Reads DiskFault seen left left_now = (seen ≡ []) × ReadsWithin seen left left_now
Reads SourceFault seen left left_now = ReadsWithin seen left left_now
Reads SinkFault seen left left_now = ReadsWithin seen left left_now ⊎ ReadsPast seen left left_now
Reads LongInput seen left left_now = ReadsPast seen left left_now
Reads _ seen left left_now = ⊥

-- A recording on such a disk, ended with this status: what it read and wrote.
pub record RecordsTo (set : Setting) (status : Status) (left left_now taken taken_now : Option (List ℕ)) (source source_now : ℕ) : Type 0 where
  pub seen : List ℕ
  pub reads : Reads status seen left left_now
  pub text : List ℕ
  pub writes : Appends taken taken_now text
  pub output : Recorded set status (Rose source source_now) seen text

-- The line of this refusal is written; where the sink fails it has a front of that line, and where no memory is found nothing is written.
abbrev pub Refuses : Status → List ℕ → Status → Option (List ℕ) → Option (List ℕ) → Type 0
Refuses refusal line status taken taken_now = EndsBehind refusal line status taken taken_now ⊎ EndsSilent NoMemory status taken taken_now

abbrev pub RecordsWhere : Bool → Setting → Status → Option (List ℕ) → Option (List ℕ) → Option (List ℕ) → Option (List ℕ) → ℕ → ℕ → Type 0
RecordsWhere true set status left left_now taken taken_now source source_now = RecordsTo set status left left_now taken taken_now source source_now
RecordsWhere false set status left left_now taken taken_now source source_now = Refuses BadShape shape_line status taken taken_now

-- an image of this geometry is made under the name where the geometry fits, and else that is said
abbrev pub MakesWhere : Bool → Bool → List ℕ → Geometry → Status → Met → Type 0
MakesWhere true tells image g status m = MakesTo tells image g status m
MakesWhere false tells image g status m = Refuses BadShape shape_line status m.taken m.taken_now

-- the tree of an image is made again on a disk of this geometry where the geometry fits, and else that is said
abbrev pub UpgradesWhere : Bool → Bool → List ℕ → List ℕ → Geometry → Status → Met → Type 0
UpgradesWhere true tells image other g status m = UpgradesImageTo tells image other g status m
UpgradesWhere false tells image other g status m = Refuses BadShape shape_line status m.taken m.taken_now

-- the geometry that the words ask for
abbrev pub shape_of : ℕ → ℕ → ℕ → Layout → Geometry
shape_of blocks journal nodes layout = record { n = blocks; j = journal; i = nodes; layout = layout }

-- the disk that they ask for: of this geometry, with its room, its rule of notices, and the write that is to be lost
abbrev pub setting_of : ℕ → ℕ → ℕ → Layout → Notices → ℕ → Option ℕ → Setting
setting_of blocks journal nodes layout notices room fail = record { shape = shape_of blocks journal nodes layout; manner = manner_by room (fails_of fail) (rule_of notices) }

-- What the program does for what its words ask, over a bay that tells or doesn't. It records on a disk of the geometry, where that fits, and else says so. It replays a crash of the trace that is its input. It shows the tree of an image of the bay. It makes an image under a name of the bay, where its geometry fits. It serves the load of a seed. It runs the script that is its input on an image of the bay, or on two that are kept alike. It copies an image to another name. It serves the log of an application that an image of the bay keeps. It makes the tree of an image again under another name on a disk of the geometry, where that fits. Words that ask for nothing are told the usage.
abbrev pub Does : Bool → Option Request → Status → Met → Type 0
Does tells None status m = Refuses Usage usage_line status m.taken m.taken_now
Does tells (Some (Record blocks journal nodes layout notices room fail)) status m =
    RecordsWhere (geometry_fits (shape_of blocks journal nodes layout)) (setting_of blocks journal nodes layout notices room fail) status m.left m.left_now m.taken m.taken_now m.source m.source_now
Does tells (Some (Replay moment choice)) status m = ReplaysTo moment choice status m
Does tells (Some (Tree image)) status m = ShowsTo tells image status m
Does tells (Some (Make image blocks journal nodes layout)) status m = MakesWhere (geometry_fits (shape_of blocks journal nodes layout)) tells image (shape_of blocks journal nodes layout) status m
Does tells (Some (Run image)) status m = RunsTo tells image status m
Does tells (Some (RunMirrored image other)) status m = RunsMirroredTo tells image other status m
Does tells (Some (Copy image other)) status m = CopiesTo tells image other status m
Does tells (Some (Load seed count)) status m = LoadsTo seed count status m.taken m.taken_now
Does tells (Some (AppLog image)) status m = LogsTo tells image status m
Does tells (Some (Upgrade image other blocks journal nodes)) status m =
    UpgradesWhere (geometry_fits (shape_of blocks journal nodes Two)) tells image other (shape_of blocks journal nodes Two) status m

-- the words ask for something that reads the input: a recording on a disk of a geometry that fits, a replay, a run, or a log
abbrev pub reads_input : Option Request → Bool
reads_input None = false
reads_input (Some (Record blocks journal nodes layout notices room fail)) = geometry_fits (shape_of blocks journal nodes layout)
reads_input (Some (Replay moment choice)) = true
reads_input (Some (Tree image)) = false
reads_input (Some (Make image blocks journal nodes layout)) = false
reads_input (Some (Run image)) = true
reads_input (Some (RunMirrored image other)) = true
reads_input (Some (Copy image other)) = false
reads_input (Some (Load seed count)) = false
reads_input (Some (AppLog image)) = true
reads_input (Some (Upgrade image other blocks journal nodes)) = false

-- they ask for something that opens the bay: they name an image of it, with a geometry that fits where one is to be made
abbrev pub opens_bay : Option Request → Bool
opens_bay None = false
opens_bay (Some (Record blocks journal nodes layout notices room fail)) = false
opens_bay (Some (Replay moment choice)) = false
opens_bay (Some (Tree image)) = true
opens_bay (Some (Make image blocks journal nodes layout)) = geometry_fits (shape_of blocks journal nodes layout)
opens_bay (Some (Run image)) = true
opens_bay (Some (RunMirrored image other)) = true
opens_bay (Some (Copy image other)) = true
opens_bay (Some (Load seed count)) = false
opens_bay (Some (AppLog image)) = true
opens_bay (Some (Upgrade image other blocks journal nodes)) = geometry_fits (shape_of blocks journal nodes Two)

-- how a recording may end where neither source nor sink failed and this write is to be lost: as it should, out of memory, or behind an input that is too long; and by a fault of the disk exactly where the first write is lost
abbrev pub EndsSo : Option ℕ → Status → Type 0
EndsSo fail Done = (fail ≡ Some 1) → ⊥
EndsSo fail NoMemory = ⊤
EndsSo fail LongInput = (fail ≡ Some 1) → ⊥
EndsSo fail DiskFault = fail ≡ Some 1
EndsSo fail _ = ⊥

-- how a replay may end where neither source nor sink failed: not by words, by a geometry, by a fault of a disk or by one of them, and not as only a run on an image may
abbrev pub EndsReplay : Status → Type 0
EndsReplay Usage = ⊥
EndsReplay BadShape = ⊥
EndsReplay DiskFault = ⊥
EndsReplay SourceFault = ⊥
EndsReplay SinkFault = ⊥
EndsReplay NoRoom = ⊥
EndsReplay Unlike = ⊥
EndsReplay BadLog = ⊥
EndsReplay _ = ⊤

-- how a showing may end where the sink didn't fail: by a fault of the disk only where the bay counted one
abbrev pub EndsShow : Type 0 → Status → Type 0
EndsShow bay_failed Done = ⊤
EndsShow bay_failed NoMemory = ⊤
EndsShow bay_failed DiskFault = bay_failed
EndsShow bay_failed (Damaged damage) = ⊤
EndsShow bay_failed Spent = ⊤
EndsShow bay_failed _ = ⊥

-- how a making or a copying may end where the sink didn't fail: by a fault of the disk only where the bay counted one
abbrev pub EndsMake : Type 0 → Status → Type 0
EndsMake bay_failed Done = ⊤
EndsMake bay_failed NoMemory = ⊤
EndsMake bay_failed DiskFault = bay_failed
EndsMake bay_failed _ = ⊥

-- how a load may end where the sink didn't fail
abbrev pub EndsLoad : Status → Type 0
EndsLoad Done = ⊤
EndsLoad NoMemory = ⊤
EndsLoad _ = ⊥

-- how a run on an image may end where neither source nor sink failed: by a fault of the disk only where the bay counted one
abbrev pub EndsRun : Type 0 → Status → Type 0
EndsRun bay_failed Done = ⊤
EndsRun bay_failed NoMemory = ⊤
EndsRun bay_failed DiskFault = bay_failed
EndsRun bay_failed (Damaged damage) = ⊤
EndsRun bay_failed Spent = ⊤
EndsRun bay_failed LongInput = ⊤
EndsRun bay_failed _ = ⊥

-- how a run on two images may end where neither source nor sink failed: as one on an image, or unlike; from what a fault of the disk comes is said of the run
abbrev pub EndsRunOnTwo : Status → Type 0
EndsRunOnTwo Unlike = ⊤
EndsRunOnTwo other = EndsRun ⊤ other

-- how a log may end where neither source nor sink failed: as a run on an image, without room for its directory, or where the image keeps none; from what these two and a fault of the disk come is said of the log
abbrev pub EndsLog : Status → Type 0
EndsLog NoRoom = ⊤
EndsLog BadLog = ⊤
EndsLog other = EndsRun ⊤ other

-- how an upgrade may end where the sink didn't fail: as a showing, or without room; from what these and a fault of the disk come is said of the upgrade
abbrev pub EndsUpgrade : Status → Type 0
EndsUpgrade NoRoom = ⊤
EndsUpgrade other = EndsShow ⊤ other

-- Completeness: unless the source or the sink failed, a recording on a disk of a geometry that fits ends so, and so do a replay, a showing, a making of such a geometry, a copying, a load, a run on an image or on two, a log, and an upgrade onto such a geometry.
abbrev pub Completes : Option Request → Status → Met → Type 0
Completes None status m = ⊤
Completes (Some (Record blocks journal nodes layout notices room fail)) status m =
    geometry_fits (shape_of blocks journal nodes layout) ≡ true → ¬ Rose m.source m.source_now → ¬ Rose m.sink m.sink_now → EndsSo fail status
Completes (Some (Replay moment choice)) status m = ¬ Rose m.source m.source_now → ¬ Rose m.sink m.sink_now → EndsReplay status
Completes (Some (Tree image)) status m = ¬ Rose m.sink m.sink_now → EndsShow (CountsFault m.bay m.bay_now) status
Completes (Some (Make image blocks journal nodes layout)) status m =
    geometry_fits (shape_of blocks journal nodes layout) ≡ true → ¬ Rose m.sink m.sink_now → EndsMake (CountsFault m.bay m.bay_now) status
Completes (Some (Run image)) status m = ¬ Rose m.source m.source_now → ¬ Rose m.sink m.sink_now → EndsRun (CountsFault m.bay m.bay_now) status
Completes (Some (RunMirrored image other)) status m = ¬ Rose m.source m.source_now → ¬ Rose m.sink m.sink_now → EndsRunOnTwo status
Completes (Some (Copy image other)) status m = ¬ Rose m.sink m.sink_now → EndsMake (CountsFault m.bay m.bay_now) status
Completes (Some (Load seed count)) status m = ¬ Rose m.sink m.sink_now → EndsLoad status
Completes (Some (AppLog image)) status m = ¬ Rose m.source m.source_now → ¬ Rose m.sink m.sink_now → EndsLog status
Completes (Some (Upgrade image other blocks journal nodes)) status m =
    geometry_fits (shape_of blocks journal nodes Two) ≡ true → ¬ Rose m.sink m.sink_now → EndsUpgrade status
