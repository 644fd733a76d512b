-- The mirror of two disks over which a run was made, and the two that go back from it.
use Rattle.std.proofs.Common.{◌≡◌, ◌⊎◌, inl, inr, ℕ, ◌≤◌, ◌&&◌, Bool, true, false, IsTrue, List, Result, Ok, Err, refl, sym, ap, ◌∙◌, subst}
use Rattle.std.proofs.lemmas.Bool.{ltb-false}
use Rattle.disk_contract.specs.declared.bay.Mark.{Mark}
use Rattle.disk_contract.specs.declared.event.Event.{Event}
use Rattle.disk_contract.specs.Disk.{State, writes_in}
use Rattle.disk_contract.specs.Manner.{Manner}
use Rattle.disk_mirror.specs.Half.{HasFailedOnce}
use Rattle.disk_mirror.specs.Mirror.{HasCauses, NoneLive, mirror_manner}
use Rattle.disk_mirror.specs.Times.{LeavesAtMoments}
use Rattle.cmd_image.specs.declared.ending.Ending.{Ending}
use Rattle.cmd_image.specs.declared.ending.RunRefusal.{RunRefusal}
use Rattle.cmd_image.specs.declared.ending.RunRefusal.TheVariants as run
use Rattle.cmd_image.specs.Runs.{ComesOfDisk, Streams}
use Rattle.cmd_mirror.specs.declared.refusal.MirroredRefusal.{MirroredRefusal}
use Rattle.cmd_mirror.specs.Mirrored.{BothFailed, FailsAsBoth, GoesBackInTwo, IsUsedUp, RunsOverTwo, marked_answer_of, most_writes}
use Rattle.cmd_mirror.specs.Sides.{Course, GoesBack, IsSideOf, marks_along}
use Rattle.cmd_mirror.specs.Steps.{BeginsAsFirst, HasRoom}
use Rattle.cmd_mirror.proofs.Backs.{failed_once}

-- What is known of two disks together.

pub twice : (tells : Bool) → (tells && tells) ≡ tells
twice true = refl
twice false = refl

pub both_tell : (tells : Bool) → IsTrue tells → IsTrue (tells && tells)
both_tell tells t = twice tells ∙ t

-- The mirror.

-- its manner stays
pub same_manner : (tells : Bool) (first last : State) (marks : List Mark) (answer : Result Ending RunRefusal) (before after : Streams) → ComesOfDisk tells first last marks answer before after → IsTrue tells → last.manner ≡ first.manner
same_manner tells first last marks (Ok ending) before after comes t = (comes.runs t).manner
same_manner tells first last marks (Err run.Fault) before after comes t = comes.spends.manner
same_manner tells first last marks (Err (run.Damaged damage)) before after comes t = comes.spends.manner
same_manner tells first last marks (Err run.Spent) before after comes t = comes.spends.manner
same_manner tells first last marks (Err run.SinkFault) before after comes t = (comes.runs t).manner
same_manner tells first last marks (Err run.NoMemory) before after (inl unopened) t = unopened.spends.manner
same_manner tells first last marks (Err run.NoMemory) before after (inr ran) t = (ran.runs t).manner

-- no room is left where its manner accepts no write
used_up : (n : ℕ) (manner : Manner) (log : List Event) → manner ≡ mirror_manner n → manner.accepts log ≡ false → n ≤ writes_in log
used_up n manner log is full = ltb-false (writes_in log) n (sym (ap (λ (m : Manner). m.accepts log) is) ∙ full)

-- why a call of it failed
pub fails : (tells : Bool) (mirror first second : State) (live other_live : Bool) → (IsTrue tells → HasRoom mirror) → HasCauses mirror live other_live → HasFailedOnce live first → HasFailedOnce other_live second → FailsAsBoth tells mirror first second
fails tells mirror first second live other_live room causes one two = record { reads = λ some. both (causes.reads some); others = λ some. by (causes.others some) }
  where
    both : NoneLive live other_live → BothFailed first second
    both none = (failed_once live first one none.0, failed_once other_live second two none.1)

    by : NoneLive live other_live ⊎ (mirror.manner.accepts mirror.log ≡ false) → BothFailed first second ⊎ IsUsedUp tells mirror
    by (inl none) = inl (both none)
    by (inr full) = inr (λ t. used_up most_writes mirror.manner mirror.log (room t) full)

-- The two that go back.

-- its own marks, for those of the mirror as they were read
pub along : (c : Course) (disk : State) (own read marks : List Mark) → own ≡ marks_along true c disk read → read ≡ marks → own ≡ marks_along true c disk marks
along c disk own read marks is same = is ∙ ap (λ (m : List Mark). marks_along true c disk m) same

-- what the law of sides gives of a disk
abbrev pub GivesBack : Type 0
GivesBack = (known : Bool) (c : Course) (mirror disk : State) (marks own : List Mark) → IsSideOf c mirror disk → own ≡ marks_along known c disk marks → GoesBack known c mirror disk marks own

pub parts : {D : Type 0} (S : D → State) (tells known : Bool) (one two : Course) (m : State) (a b first second : D) (marks first_marks second_marks : List Mark) (ended : Result Ending RunRefusal) (answer : Result Ending MirroredRefusal) → first ≡ a → second ≡ b → GivesBack
    → (S a).blocks ≡ m.blocks → (S b).blocks ≡ m.blocks
    → (IsTrue tells → LeavesAtMoments m.blocks m.base m.log one.times one.live one.end (S a).base (S a).log) → (IsTrue tells → LeavesAtMoments m.blocks m.base m.log two.times two.live two.end (S b).base (S b).log)
    → HasFailedOnce one.live (S a) → HasFailedOnce two.live (S b) → (IsTrue tells → HasRoom m) → HasCauses m one.live two.live
    → first_marks ≡ marks_along known one (S a) marks → second_marks ≡ marks_along known two (S b) marks → answer ≡ marked_answer_of known ended
    → GoesBackInTwo tells m (S first) (S second) marks first_marks second_marks ended answer
parts {D} S tells known one two m a b first second marks first_marks second_marks ended answer first_is second_is law size other_size leaves other_leaves failed other_failed room causes own other_own answered =
    subst (λ (d : D). GoesBackInTwo tells m (S d) (S second) marks first_marks second_marks ended answer) (sym first_is) (subst (λ (d : D). GoesBackInTwo tells m (S a) (S d) marks first_marks second_marks ended answer) (sym second_is) here)
  where
    here : GoesBackInTwo tells m (S a) (S b) marks first_marks second_marks ended answer
    here = record {
      known = known;
      first_course = one;
      second_course = two;
      goes_first = λ t. law known one m (S a) marks first_marks (record { blocks = size; leaves = leaves t; down = failed_once one.live (S a) failed }) own;
      goes_second = λ t. law known two m (S b) marks second_marks (record { blocks = other_size; leaves = other_leaves t; down = failed_once two.live (S b) other_failed }) other_own;
      blocks = (size, other_size);
      fails = fails tells m (S a) (S b) one.live two.live room causes failed other_failed;
      answered = answered;
    }

-- A run over a mirror.

pub runs_over : (tells : Bool) (first second mirror last a b : State) (marks first_marks second_marks : List Mark) (ended : Result Ending RunRefusal) (answer : Result Ending MirroredRefusal) (before after : Streams) → ComesOfDisk (tells && tells) mirror last marks ended before after
    → ((IsTrue tells → HasRoom last) → GoesBackInTwo tells last a b marks first_marks second_marks ended answer) → BeginsAsFirst tells first second mirror → RunsOverTwo tells first a b first_marks second_marks answer before after
runs_over tells first second mirror last a b marks first_marks second_marks ended answer before after comes goes begin =
    let here : ComesOfDisk tells mirror last marks ended before after = subst (λ (t : Bool). ComesOfDisk t mirror last marks ended before after) (twice tells) comes in record {
      mirror = mirror;
      mirror_last = last;
      marks = marks;
      ended = ended;
      blocks = begin.blocks;
      base = begin.base;
      fresh = begin.fresh;
      comes = here;
      goes = goes (λ t. same_manner tells mirror last marks ended before after here t ∙ begin.room);
    }
