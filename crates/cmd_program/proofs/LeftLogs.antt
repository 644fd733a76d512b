-- What is left under the name of a log that ended as it should, and what its image stands for where it is told that it has none, or no room.
use Rattle.std.proofs.Common.{◌≡◌, ◌⊎◌, ℕ, ◌≤◌, Bool, true, false, IsTrue, List, ◌∷◌, [], length, map, take, Option, None, Some, Result, Ok, Err, inl, inr, refl, sym, ap, ap₂, ◌∙◌, subst}
use Rattle.std.proofs.KnownBytes.{Appends-trans}
use Rattle.std.proofs.lemmas.Bool.{false≢true}
use Rattle.std.specs.FinMap.{get}
use Rattle.std.specs.Prelude.{⊤}
use Rattle.std.specs.Io.KnownBytes.{Appends}
use Rattle.base_types.specs.Seal.{Blocks, blocks_of}
use Rattle.layout_geometry.specs.Geometry.{Geometry}
use Rattle.disk_contract.specs.declared.bay.BayFault.{BayFault}
use Rattle.disk_contract.specs.declared.bay.Mark.{Mark}
use Rattle.disk_contract.specs.declared.event.Event.{Event}
use Rattle.disk_contract.specs.Bay.{BayState, Begins, BeginsWith, IsKeptOf, Kept}
use Rattle.disk_contract.specs.Crash.{IsHonest}
use Rattle.disk_contract.specs.Disk.{State}
use Rattle.lang_log.specs.declared.call.LogCall.{LogCall}
use Rattle.lang_log.specs.declared.call.LogReply.{LogReply}
use Rattle.lang_log.specs.declared.call.LogReply.TheVariants.{Refused}
use Rattle.lang_log.specs.Log.{HasNoLog, IsLogOf, IsMadeOf, Log, nothing_logged}
use Rattle.lang_log.specs.Names.{log_path}
use Rattle.lang_log.specs.Segments.{HasSegments}
use Rattle.lang_tree.specs.Tree.{IsSound, Tree}
use Rattle.lang_tree.specs.declared.command.Refusal.{Refusal}
use Rattle.lang_log.specs.History.{History, opened_with}
use Rattle.crash_stands.specs.Stands.{IsTreeOf, StandsFor}
use Rattle.cmd_trace.specs.Trace.{Ascend}
use Rattle.cmd_image.specs.declared.ending.Ending.{Ending}
use Rattle.cmd_image.specs.declared.ending.Ending.TheVariants as script
use Rattle.cmd_image.specs.declared.ending.RunRefusal.{RunRefusal}
use Rattle.cmd_image.specs.declared.ending.RunRefusal.TheVariants as run
use Rattle.cmd_image.specs.Refusals.{run_refusal_of_bay}
use Rattle.cmd_image.specs.Runs.{Streams}
use Rattle.cmd_image.specs.Shows.{HasImage}
use Rattle.cmd_log.specs.declared.refusal.LogRunRefusal.{LogRunRefusal}
use Rattle.cmd_log.specs.declared.refusal.LogRunRefusal.TheVariants as logs
use Rattle.cmd_log.specs.Logs.{ComesOfLog, ComesOfLogDisk, IsLogRun, IsUnlogged, LogHandsBack, LogMarksGo, LogsDisk, log_answer_of, log_reply_line, log_reply_lines}
use Rattle.cmd_log.specs.Moments.{StandsForRun, answered_by, appends_by}
use Rattle.cmd_log.specs.Serving.{LeavesAt, ServesAll}
use Rattle.cmd_program.specs.Endings.{EndsBehind, Met, damaged_line, disk_line, log_line, long_line, room_line, source_line, spent_line}
use Rattle.cmd_program.specs.Logging.{EndsServing, LogsTo}
use Rattle.cmd_program.specs.Logs.{EndsWithoutLog, KeepsNoLog, LacksRoom, LeavesByMarks, LeavesLogs}
use Rattle.cmd_program.specs.Scripting.{streams}
use Rattle.cmd_program.specs.declared.status.Status.{Status}
use Rattle.cmd_program.specs.declared.status.Status.TheVariants.{BadLog, Done, NoMemory, DiskFault, Damaged, NoRoom, SourceFault, SinkFault, Spent, LongInput}
use Rattle.cmd_program.proofs.Pairs.{not_behind, not_short, not_sink, on_ok, taken_back}

-- The answer behind which a log ends as it should.

-- an answer that is the end of the input
abbrev IsEnd : Result Ending LogRunRefusal → Option (List ℕ) → Option (List ℕ) → Type 0
IsEnd answer told out = (answer ≡ Ok script.End) × (out ≡ told)

ended_well : (answer : Result Ending LogRunRefusal) (told out : Option (List ℕ)) → EndsServing answer Done told out → IsEnd answer told out
ended_well (Ok script.End) told out e = (refl, e.1)
ended_well (Ok script.SourceFault) told out e = absurd (not_behind SourceFault source_line told out (λ (is : Done ≡ SourceFault). cc) e)
ended_well (Ok script.LongInput) told out e = absurd (not_behind LongInput long_line told out (λ (is : Done ≡ LongInput). cc) e)
ended_well (Err (logs.NoRoom why)) told out e = absurd (not_behind NoRoom room_line told out (λ (is : Done ≡ NoRoom). cc) e)
ended_well (Err logs.BadLog) told out e = absurd (not_behind BadLog log_line told out (λ (is : Done ≡ BadLog). cc) e)
ended_well (Err (logs.Run run.Fault)) told out e = absurd (not_behind DiskFault disk_line told out (λ (is : Done ≡ DiskFault). cc) e)
ended_well (Err (logs.Run (run.Damaged damage))) told out e = absurd (not_behind (Damaged damage) damaged_line told out (λ (is : Done ≡ Damaged damage). cc) e)
ended_well (Err (logs.Run run.Spent)) told out e = absurd (not_behind Spent spent_line told out (λ (is : Done ≡ Spent). cc) e)
ended_well (Err (logs.Run run.SinkFault)) told out e = absurd (not_sink e.0)
ended_well (Err (logs.Run run.NoMemory)) told out e = absurd (not_short e.0)

-- The answers behind which it is told that there is no log, or no room.

-- a run that ended with this status didn't end behind the line of another one
no_other : (S X : Status) (line : List ℕ) (told out : Option (List ℕ)) → (S ≡ X → ⊥) → (S ≡ SinkFault → ⊥) → EndsBehind X line S told out → ⊥
no_other S X line told out other sink (inl t) = other t.0
no_other S X line told out other sink (inr t) = sink t.0

bad_sink : BadLog ≡ SinkFault → ⊥
bad_sink is = cc

bad_done : BadLog ≡ Done → ⊥
bad_done is = cc

bad_memory : BadLog ≡ NoMemory → ⊥
bad_memory is = cc

ended_badly : (answer : Result Ending LogRunRefusal) (told out : Option (List ℕ)) → EndsServing answer BadLog told out → answer ≡ Err logs.BadLog
ended_badly (Err logs.BadLog) told out e = refl
ended_badly (Ok script.End) told out e = absurd (bad_done e.0)
ended_badly (Ok script.SourceFault) told out e = absurd (no_other BadLog SourceFault source_line told out (λ (is : BadLog ≡ SourceFault). cc) bad_sink e)
ended_badly (Ok script.LongInput) told out e = absurd (no_other BadLog LongInput long_line told out (λ (is : BadLog ≡ LongInput). cc) bad_sink e)
ended_badly (Err (logs.NoRoom why)) told out e = absurd (no_other BadLog NoRoom room_line told out (λ (is : BadLog ≡ NoRoom). cc) bad_sink e)
ended_badly (Err (logs.Run run.Fault)) told out e = absurd (no_other BadLog DiskFault disk_line told out (λ (is : BadLog ≡ DiskFault). cc) bad_sink e)
ended_badly (Err (logs.Run (run.Damaged damage))) told out e = absurd (no_other BadLog (Damaged damage) damaged_line told out (λ (is : BadLog ≡ Damaged damage). cc) bad_sink e)
ended_badly (Err (logs.Run run.Spent)) told out e = absurd (no_other BadLog Spent spent_line told out (λ (is : BadLog ≡ Spent). cc) bad_sink e)
ended_badly (Err (logs.Run run.SinkFault)) told out e = absurd (bad_sink e.0)
ended_badly (Err (logs.Run run.NoMemory)) told out e = absurd (bad_memory e.0)

room_sink : NoRoom ≡ SinkFault → ⊥
room_sink is = cc

room_done : NoRoom ≡ Done → ⊥
room_done is = cc

room_memory : NoRoom ≡ NoMemory → ⊥
room_memory is = cc

-- the line of such an answer was written whole
told_room : (told out : Option (List ℕ)) → EndsBehind NoRoom room_line NoRoom told out → Appends told out room_line
told_room told out (inl t) = t.1
told_room told out (inr t) = absurd (room_sink t.0)

-- an answer that is a refusal for the room, with its line
abbrev IsShort : Result Ending LogRunRefusal → Option (List ℕ) → Option (List ℕ) → Type 0
IsShort answer told out = (why : Refusal) × (answer ≡ Err (logs.NoRoom why)) × Appends told out room_line

ended_short : (answer : Result Ending LogRunRefusal) (told out : Option (List ℕ)) → EndsServing answer NoRoom told out → IsShort answer told out
ended_short (Err (logs.NoRoom why)) told out e = (why, refl, told_room told out e)
ended_short (Ok script.End) told out e = absurd (room_done e.0)
ended_short (Ok script.SourceFault) told out e = absurd (no_other NoRoom SourceFault source_line told out (λ (is : NoRoom ≡ SourceFault). cc) room_sink e)
ended_short (Ok script.LongInput) told out e = absurd (no_other NoRoom LongInput long_line told out (λ (is : NoRoom ≡ LongInput). cc) room_sink e)
ended_short (Err logs.BadLog) told out e = absurd (no_other NoRoom BadLog log_line told out (λ (is : NoRoom ≡ BadLog). cc) room_sink e)
ended_short (Err (logs.Run run.Fault)) told out e = absurd (no_other NoRoom DiskFault disk_line told out (λ (is : NoRoom ≡ DiskFault). cc) room_sink e)
ended_short (Err (logs.Run (run.Damaged damage))) told out e = absurd (no_other NoRoom (Damaged damage) damaged_line told out (λ (is : NoRoom ≡ Damaged damage). cc) room_sink e)
ended_short (Err (logs.Run run.Spent)) told out e = absurd (no_other NoRoom Spent spent_line told out (λ (is : NoRoom ≡ Spent). cc) room_sink e)
ended_short (Err (logs.Run run.SinkFault)) told out e = absurd (room_sink e.0)
ended_short (Err (logs.Run run.NoMemory)) told out e = absurd (room_memory e.0)

-- The answer before the return.

-- an answer is one alone
no_refusal : (e : Ending) (why : LogRunRefusal) → ◌≡◌ {A = Result Ending LogRunRefusal} (Ok e) (Err why) → ⊥
no_refusal e why is = cc

not_broken : ◌≡◌ {A = Result Ending LogRunRefusal} (Ok script.End) (Ok script.SourceFault) → ⊥
not_broken is = cc

not_long : ◌≡◌ {A = Result Ending LogRunRefusal} (Ok script.End) (Ok script.LongInput) → ⊥
not_long is = cc

-- the return and the answer before it, where the end of the input is answered behind both
record Returned (answer : Result Ending LogRunRefusal) (back : Result (Unit {0}) BayFault) : Type 0 where
  by : Unit {0}
  is : back ≡ Ok by
  before : Ok script.End ≡ answer

returned : (answer : Result Ending LogRunRefusal) (back : Result (Unit {0}) BayFault) → Ok script.End ≡ log_answer_of answer back → Returned answer back
returned (Ok script.End) (Ok y) is = record { by = y; is = refl; before = refl }
returned (Ok script.End) (Err fault) is = absurd (no_refusal script.End (logs.Run (run_refusal_of_bay fault)) is)
returned (Ok script.SourceFault) back is = absurd (not_broken is)
returned (Ok script.LongInput) back is = absurd (not_long is)
returned (Err why) back is = absurd (no_refusal script.End why is)

-- The name.

-- what was under a name with which a disk began
began_with : (o : Option Kept) (d : State) → BeginsWith o d → (old : Kept) × (o ≡ Some old) × Begins old.image d
began_with None d b = absurd b
began_with (Some old) d b = (old, refl, b)

-- what holds of the image that is under a name
has_image : (o : Option Kept) (old : Kept) (P : ℕ → Blocks → Type 0) → o ≡ Some old → P (length old.image) (blocks_of old.image) → HasImage o P
has_image o old P is p = subst (λ (x : Option Kept). HasImage x P) (sym is) p

-- what holds of the blocks with which a disk began holds of the image
of_image : (P : ℕ → Blocks → Type 0) (image : List (List ℕ)) (d : State) → Begins image d → P d.blocks d.base → P (length image) (blocks_of image)
of_image P image d b p = subst (λ (n : ℕ). P n (blocks_of image)) b.blocks (subst (λ (base : Blocks). P d.blocks base) b.base p)

-- each mark is of the moment of its reply
along : (before now : Mark) (replies : List LogReply) (moments : List ℕ) (marks : List Mark) → LogMarksGo before replies moments marks now → map (λ (m : Mark). m.moment) marks ≡ moments
along before now [] [] [] go = refl
along before now (r ∷ replies) (k ∷ moments) (mark ∷ marks) go = ap₂ (λ (x : ℕ) (xs : List ℕ). x ∷ xs) go.0.moment (along mark now replies moments marks go.1)
along before now other moments marks go = absurd go

-- what is said of each honest image of a disk on which calls of a log were answered
abbrev pub RunsAtEach : Type 0
RunsAtEach = (n : ℕ) (base : Blocks) (log : List Event) (begun : ℕ) (opened : Log) (calls : List LogCall) (replies : List LogReply) (marks : List ℕ) (now : History) → Ascend begun marks (length log)
    → ((moment : ℕ) → moment ≤ begun → LeavesAt n base log moment (opened_with opened) (opened_with opened)) → ServesAll n base log begun (opened_with opened) calls replies marks now
    → (moment : ℕ) (img : Blocks) → moment ≤ length log → IsHonest n base (take moment log) img → ∥ StandsForRun n img (appends_by opened calls replies (answered_by moment marks)) ∥₁

-- crashes of a disk on which a log was served leave former logs by its marks
by_marks : RunsAtEach → (first last : State) (marks : List Mark) (calls : List LogCall) (replies : List LogReply) (l : LogsDisk first last marks calls replies)
    → LeavesByMarks first.blocks l.opened calls replies last.base last.log marks
by_marks runs first last marks calls replies l =
    let opening : (moment : ℕ) → moment ≤ l.begun → LeavesAt first.blocks last.base last.log moment (opened_with l.opened) (opened_with l.opened) =
    subst (λ (n : ℕ). (moment : ℕ) → moment ≤ l.begun → LeavesAt n last.base last.log moment (opened_with l.opened) (opened_with l.opened)) l.size l.opening in
    let serves : ServesAll first.blocks last.base last.log l.begun (opened_with l.opened) calls replies l.moments l.end =
    subst (λ (n : ℕ). ServesAll n last.base last.log l.begun (opened_with l.opened) calls replies l.moments l.end) l.size l.serves in
    record {
      begun = l.begun;
      moments = l.moments;
      told = ap (map (λ (m : Mark). m.moment)) l.marked.is
          ∙ ap₂ (λ (x : ℕ) (xs : List ℕ). x ∷ xs) l.marked.moment (along _ _ _ _ _ l.marked.go);
      ascend = l.ascend;
      opening = opening;
      end = l.end;
      serves = serves;
      runs = runs first.blocks last.base last.log l.begun l.opened calls replies l.moments l.end l.ascend opening serves;
    }

-- and so they do of what is kept of it
kept_by_marks : (n : ℕ) (opened : Log) (calls : List LogCall) (replies : List LogReply) (disk : State) (own : List Mark) (new : Kept) → IsKeptOf disk own new
    → LeavesByMarks n opened calls replies disk.base disk.log own → LeavesByMarks n opened calls replies new.base new.log new.marks
kept_by_marks n opened calls replies disk own new k l =
    subst (λ (base : Blocks). LeavesByMarks n opened calls replies base new.log new.marks) (sym k.base)
    (subst (λ (log : List Event). LeavesByMarks n opened calls replies disk.base log new.marks) (sym k.log)
    (subst (λ (marks : List Mark). LeavesByMarks n opened calls replies disk.base disk.log marks) (sym k.marks) l))

-- The laws.

module _ (runs : RunsAtEach) (tells : Bool) (image : List ℕ) (m : Met) (between : Option (List ℕ)) (sink_between : ℕ) (t : IsTrue tells) (same : m.taken_now ≡ between)
    (h : LogHandsBack tells image (Ok script.End) m.bay m.bay_now (streams m.left m.source m.taken m.sink) (streams m.left_now m.source_now between sink_between)) where
  streams_before : Streams
  streams_before = streams m.left m.source m.taken m.sink

  streams_after : Streams
  streams_after = streams m.left_now m.source_now between sink_between

  left_by : Returned h.answer h.back → IsLogRun tells h.first h.last h.marks (Ok script.End) streams_before streams_after → LeavesLogs image m
  unfolding streams_before streams_after
  left_by r ran =
      let l = ran.logs t in
      let o = began_with (m.bay.kept image) h.first (h.opens.disk t) in
      let opened : h.between.kept image ≡ Some o.0 = h.opens.kept t image ∙ o.1 in
      let k = taken_back h.last h.marks (h.between.kept image) (m.bay_now.kept image) o.0 opened (on_ok h.back r.by _ r.is (h.closes.kept t)) in
      record {
        old = o.0;
        is_old = o.1;
        tree = l.tree;
        stands = of_image (λ n base. StandsFor n base l.tree) o.0.image h.first o.2 l.image.stands;
        opened = l.opened;
        is_log = l.is_log;
        seen = ran.reads.0;
        read = ran.reads.1;
        all = ran.reads.2;
        replies = ran.replies;
        wrote = subst (λ (x : Option (List ℕ)). Appends m.taken x (log_reply_lines ran.replies)) (sym same) ran.writes;
        new = k.0;
        is_new = k.1;
        began = k.2.base ∙ l.base ∙ o.2.base;
        leaves = subst (λ (calls : List LogCall). LeavesByMarks (length o.0.image) l.opened calls ran.replies k.0.base k.0.log k.0.marks) ran.reads.3
            (subst (λ (n : ℕ). LeavesByMarks n l.opened ran.calls ran.replies k.0.base k.0.log k.0.marks) o.2.blocks
            (kept_by_marks h.first.blocks l.opened ran.calls ran.replies h.last h.marks k.0 k.2 (by_marks runs h.first h.last h.marks ran.calls ran.replies l)));
      }

  handed : LeavesLogs image m
  unfolding streams_before streams_after
  handed =
      let r = returned h.answer h.back h.answered in
      left_by r (subst (λ (a : Result Ending LogRunRefusal). ComesOfLogDisk tells h.first h.last h.marks a streams_before streams_after) (sym r.before) h.comes)

-- only a log over a disk that was handed out has this answer
handed_of : (tells : Bool) (image : List ℕ) (old new : BayState) (before after : Streams) → ComesOfLog tells image (Ok script.End) old new before after → LogHandsBack tells image (Ok script.End) old new before after
handed_of tells image old new before after (inl none) = absurd (no_refusal script.End (logs.Run none.why) none.answered)
handed_of tells image old new before after (inr h) = h

pub left_logs : RunsAtEach → (tells : Bool) (image : List ℕ) (m : Met) → IsTrue tells → LogsTo tells image Done m → LeavesLogs image m
left_logs runs tells image m t l =
    let e = ended_well l.answer l.between m.taken_now l.ends in
    handed runs tells image m l.between l.sink_between t e.1
    (handed_of tells image m.bay m.bay_now _ _
    (subst (λ (a : Result Ending LogRunRefusal). ComesOfLog tells image a m.bay m.bay_now (streams m.left m.source m.taken m.sink) (streams m.left_now m.source_now l.between l.sink_between)) e.0 l.comes))

-- A log that wasn't opened.

-- whether a refusal is that of a run
abbrev is_of_run : LogRunRefusal → Bool
is_of_run (logs.Run why) = true
is_of_run other = false

not_of_run : (why : LogRunRefusal) (other : RunRefusal) → is_of_run why ≡ false → ◌≡◌ {A = Result Ending LogRunRefusal} (Err why) (Err (logs.Run other)) → ⊥
not_of_run why other apart is =
    let same : why ≡ logs.Run other = cc in
    false≢true (sym apart ∙ ap is_of_run same)

-- such a refusal isn't one of the return
before_return : (why : LogRunRefusal) (answer : Result Ending LogRunRefusal) (back : Result (Unit {0}) BayFault) → is_of_run why ≡ false → Err why ≡ log_answer_of answer back → answer ≡ Err why
before_return why (Err other) back apart is = sym is
before_return why (Ok script.End) (Ok y) apart is = absurd (no_refusal script.End why (sym is))
before_return why (Ok script.End) (Err fault) apart is = absurd (not_of_run why (run_refusal_of_bay fault) apart is)
before_return why (Ok script.SourceFault) back apart is = absurd (no_refusal script.SourceFault why (sym is))
before_return why (Ok script.LongInput) back apart is = absurd (no_refusal script.LongInput why (sym is))

-- a disk was handed out, and no log was opened on it
handed_back : (tells : Bool) (image : List ℕ) (why : LogRunRefusal) (old new : BayState) (before after : Streams) → is_of_run why ≡ false → ComesOfLog tells image (Err why) old new before after
    → LogHandsBack tells image (Err why) old new before after
handed_back tells image why old new before after apart (inl none) = absurd (not_of_run why none.why apart none.answered)
handed_back tells image why old new before after apart (inr h) = h

-- what is known of the image then is known of what is under the name
of_name : (tells : Bool) (image : List ℕ) (why : LogRunRefusal) (old new : BayState) (before after : Streams) (P : ℕ → Blocks → Type 0) → IsTrue tells → (h : LogHandsBack tells image (Err why) old new before after)
    → P h.first.blocks h.first.base → HasImage (old.kept image) P
of_name tells image why old new before after P t h p =
    let o = began_with (old.kept image) h.first (h.opens.disk t) in
    has_image (old.kept image) o.0 P o.1 (of_image P o.0.image h.first o.2 p)

module _ (tells : Bool) (image : List ℕ) (old new : BayState) (before after : Streams) (t : IsTrue tells) where
  none_of : ComesOfLog tells image (Err logs.BadLog) old new before after → HasImage (old.kept image) KeepsNoLog
  none_of comes =
      let h = handed_back tells image logs.BadLog old new before after refl comes in
      let u : IsUnlogged tells h.first h.last h.marks logs.BadLog before after =
      subst (λ (a : Result Ending LogRunRefusal). ComesOfLogDisk tells h.first h.last h.marks a before after) (before_return logs.BadLog h.answer h.back refl h.answered) h.comes in
      let s = u.stands t in
      of_name tells image logs.BadLog old new before after KeepsNoLog t h (record { tree = s.tree; stands = s.image.stands; none = s.says })

  room_of : (why : Refusal) (out : Option (List ℕ)) → ComesOfLog tells image (Err (logs.NoRoom why)) old new before after → Appends after.taken out room_line → HasImage (old.kept image) (LacksRoom before.taken out)
  room_of why out comes wrote =
      let h = handed_back tells image (logs.NoRoom why) old new before after refl comes in
      let u : IsUnlogged tells h.first h.last h.marks (logs.NoRoom why) before after =
      subst (λ (a : Result Ending LogRunRefusal). ComesOfLogDisk tells h.first h.last h.marks a before after) (before_return (logs.NoRoom why) h.answer h.back refl h.answered) h.comes in
      let s = u.stands t in
      of_name tells image (logs.NoRoom why) old new before after (LacksRoom before.taken out) t h (record {
        tree = s.tree;
        stands = s.image.stands;
        none = s.says.1;
        why = why;
        room = s.says.0;
        wrote = Appends-trans before.taken after.taken out (log_reply_line (Refused why)) room_line u.took wrote;
      })

pub no_log : (tells : Bool) (image : List ℕ) (m : Met) → IsTrue tells → LogsTo tells image BadLog m → HasImage (m.bay.kept image) KeepsNoLog
no_log tells image m t l =
    none_of tells image m.bay m.bay_now _ _ t
    (subst (λ (a : Result Ending LogRunRefusal). ComesOfLog tells image a m.bay m.bay_now (streams m.left m.source m.taken m.sink) (streams m.left_now m.source_now l.between l.sink_between))
    (ended_badly l.answer l.between m.taken_now l.ends) l.comes)

pub no_room : (tells : Bool) (image : List ℕ) (m : Met) → IsTrue tells → LogsTo tells image NoRoom m → HasImage (m.bay.kept image) (LacksRoom m.taken m.taken_now)
no_room tells image m t l =
    let e = ended_short l.answer l.between m.taken_now l.ends in
    room_of tells image m.bay m.bay_now (streams m.left m.source m.taken m.sink) (streams m.left_now m.source_now l.between l.sink_between) t e.0 m.taken_now
    (subst (λ (a : Result Ending LogRunRefusal). ComesOfLog tells image a m.bay m.bay_now (streams m.left m.source m.taken m.sink) (streams m.left_now m.source_now l.between l.sink_between))
    e.1 l.comes) e.2

-- A log whose image has none.

-- an image stands for one tree
abbrev pub OneTree : Type 0
OneTree = (n : ℕ) (img : Blocks) (s u : Tree) → StandsFor n img s → StandsFor n img u → s ≡ u

-- where nothing is at `/log`, there is a log
abbrev pub BeginsEmpty : Type 0
BeginsEmpty = (n : ℕ) (img : Blocks) (s : Tree) → StandsFor n img s → get s.names log_path ≡ None → HasNoLog s → ⊥

pub has_log_where_nothing_is : ((g : Geometry) (m : Blocks) (s : Tree) → IsTreeOf g m s → IsSound g.i s) → ((limit : ℕ) (s : Tree) → IsSound limit s → get s.names log_path ≡ None → HasSegments s [])
    → IsMadeOf [] nothing_logged → BeginsEmpty
has_log_where_nothing_is sound before made n img s stands nothing none =
    none nothing_logged (record { segments = []; has = before stands.held.header.geom.i s (sound stands.held.header.geom stands.map s stands.tree) nothing; made = made })

-- an answer that there may be where the image has no log
abbrev MayBe : Result Ending LogRunRefusal → Type 0
MayBe (Ok ending) = ⊥
MayBe (Err logs.BadLog) = ⊤
MayBe (Err (logs.NoRoom why)) = ⊥
MayBe (Err (logs.Run run.Fault)) = ⊤
MayBe (Err (logs.Run (run.Damaged damage))) = ⊥
MayBe (Err (logs.Run run.Spent)) = ⊤
MayBe (Err (logs.Run run.SinkFault)) = ⊤
MayBe (Err (logs.Run run.NoMemory)) = ⊤

may_end : (answer : Result Ending LogRunRefusal) (status : Status) (told out : Option (List ℕ)) → MayBe answer → EndsServing answer status told out → EndsWithoutLog status
may_end (Ok ending) status told out may e = absurd may
may_end (Err logs.BadLog) status told out may (inl e) = subst EndsWithoutLog (sym e.0) tt
may_end (Err logs.BadLog) status told out may (inr e) = subst EndsWithoutLog (sym e.0) tt
may_end (Err (logs.NoRoom why)) status told out may e = absurd may
may_end (Err (logs.Run run.Fault)) status told out may (inl e) = subst EndsWithoutLog (sym e.0) tt
may_end (Err (logs.Run run.Fault)) status told out may (inr e) = subst EndsWithoutLog (sym e.0) tt
may_end (Err (logs.Run (run.Damaged damage))) status told out may e = absurd may
may_end (Err (logs.Run run.Spent)) status told out may (inl e) = subst EndsWithoutLog (sym e.0) tt
may_end (Err (logs.Run run.Spent)) status told out may (inr e) = subst EndsWithoutLog (sym e.0) tt
may_end (Err (logs.Run run.SinkFault)) status told out may e = subst EndsWithoutLog (sym e.0) tt
may_end (Err (logs.Run run.NoMemory)) status told out may e = subst EndsWithoutLog (sym e.0) tt

-- so it is with that behind the return
may_return : (answer : Result Ending LogRunRefusal) (back : Result (Unit {0}) BayFault) → MayBe answer → MayBe (log_answer_of answer back)
may_return (Ok ending) back may = absurd may
may_return (Err why) back may = may

-- and with that where no disk was handed out
may_unlent : (why : RunRefusal) → (◌≡◌ {A = Result Ending RunRefusal} (Err why) (Err run.Fault)) ⊎ (◌≡◌ {A = Result Ending RunRefusal} (Err why) (Err run.NoMemory)) → MayBe (Err (logs.Run why))
may_unlent why (inl is) =
    let same : why ≡ run.Fault = cc in
    subst (λ (x : RunRefusal). MayBe (Err (logs.Run x))) (sym same) tt
may_unlent why (inr is) =
    let same : why ≡ run.NoMemory = cc in
    subst (λ (x : RunRefusal). MayBe (Err (logs.Run x))) (sym same) tt

module _ (one : OneTree) (empty : BeginsEmpty) (tells : Bool) (t : IsTrue tells) where
  -- what came of a disk on whose image there is no log
  may_come : (first last : State) (marks : List Mark) (answer : Result Ending LogRunRefusal) (before after : Streams) → KeepsNoLog first.blocks first.base → ComesOfLogDisk tells first last marks answer before after → MayBe answer
  may_come first last marks (Ok ending) before after none comes =
      let l = comes.logs t in
      none.none l.opened (subst (λ (u : Tree). IsLogOf u l.opened) (one first.blocks first.base l.tree none.tree l.image.stands none.stands) l.is_log)
  may_come first last marks (Err logs.BadLog) before after none comes = tt
  may_come first last marks (Err (logs.NoRoom why)) before after none comes =
      let s = comes.stands t in
      empty first.blocks first.base s.tree s.image.stands s.says.1 (subst HasNoLog (one first.blocks first.base none.tree s.tree none.stands s.image.stands) none.none)
  may_come first last marks (Err (logs.Run run.Fault)) before after none comes = tt
  may_come first last marks (Err (logs.Run (run.Damaged damage))) before after none comes = (comes.says t).1 none.tree none.stands
  may_come first last marks (Err (logs.Run run.Spent)) before after none comes = tt
  may_come first last marks (Err (logs.Run run.SinkFault)) before after none comes = tt
  may_come first last marks (Err (logs.Run run.NoMemory)) before after none comes = tt

  -- what is under the name has no log either
  on_disk : (kept : Option Kept) (d : State) → HasImage kept KeepsNoLog → BeginsWith kept d → KeepsNoLog d.blocks d.base
  on_disk None d has begins = absurd begins
  on_disk (Some old) d has begins = subst (λ (n : ℕ). KeepsNoLog n d.base) (sym begins.blocks) (subst (λ (base : Blocks). KeepsNoLog (length old.image) base) (sym begins.base) has)

  may_answer : (image : List ℕ) (answer : Result Ending LogRunRefusal) (old new : BayState) (before after : Streams) → HasImage (old.kept image) KeepsNoLog → ComesOfLog tells image answer old new before after → MayBe answer
  may_answer image answer old new before after none (inl unlent) = subst MayBe (sym unlent.answered) (may_unlent unlent.why unlent.unlent.answer)
  may_answer image answer old new before after none (inr h) =
      subst MayBe (sym h.answered) (may_return h.answer h.back (may_come h.first h.last h.marks h.answer before after (on_disk (old.kept image) h.first none (h.opens.disk t)) h.comes))

pub without_log : OneTree → BeginsEmpty → (tells : Bool) (image : List ℕ) (status : Status) (m : Met) → IsTrue tells → LogsTo tells image status m → HasImage (m.bay.kept image) KeepsNoLog → EndsWithoutLog status
without_log one empty tells image status m t l none =
    may_end l.answer status l.between m.taken_now (may_answer one empty tells t image l.answer m.bay m.bay_now _ _ none l.comes) l.ends
