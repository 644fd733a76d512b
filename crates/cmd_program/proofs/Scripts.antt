-- How the program ends behind a script on an image: behind the line of its answer, with a status whose fault was counted.
use Rattle.std.proofs.Common.{◌≡◌, ◌⊎◌, ℕ, ◌≤◌, Bool, true, false, List, Option, Result, Ok, Err, inl, inr, refl, sym, ap, subst, arith}
use Rattle.base_types.specs.Counts.{Rose, after_call}
use Rattle.disk_contract.specs.declared.bay.BayFault.{BayFault}
use Rattle.disk_contract.specs.declared.bay.Mark.{Mark}
use Rattle.disk_contract.specs.Bay.{BayState}
use Rattle.disk_contract.specs.Disk.{State}
use Rattle.cmd_image.specs.declared.ending.Ending.{Ending}
use Rattle.cmd_image.specs.declared.ending.Ending.TheVariants as script
use Rattle.cmd_image.specs.declared.ending.RunRefusal.{RunRefusal}
use Rattle.cmd_image.specs.declared.ending.RunRefusal.TheVariants as run
use Rattle.cmd_image.specs.Refusals.{run_answer_of, run_fails_pushing, run_refusal_of_bay}
use Rattle.cmd_image.specs.Runs.{ComesOf, ComesOfDisk, CountsFaults, Streams}
use Rattle.cmd_mirror.specs.declared.refusal.MirroredRefusal.{MirroredRefusal}
use Rattle.cmd_mirror.specs.declared.refusal.MirroredRefusal.TheVariants as mirrored
use Rattle.cmd_mirror.specs.Mirrored.{ComesOfBoth, CountsMirrored, RunsOverTwo, marked_answer_of, mirrored_answer_of}
use Rattle.cmd_image.specs.Staying.{rose_before}
use Rattle.cmd_program.specs.Endings.{HasFault, Tells, disk_line, damaged_line, source_line, spent_line, long_line, unlike_line}
use Rattle.cmd_program.specs.Mirroring.{EndsMirrored, TellsMirrored}
use Rattle.cmd_program.specs.Scripting.{EndsScript, TellsScript}
use Rattle.cmd_program.specs.declared.status.Status.{Status}
use Rattle.cmd_program.specs.declared.status.Status.TheVariants.{NoMemory, DiskFault, Damaged, SourceFault, SinkFault, Spent, LongInput, Unlike}
use Rattle.cmd_program.proofs.Requests.{behind}

-- what was told is how the program ends
pub script_ends : (answer : Result Ending RunRefusal) (status : Status) (told out : Option (List ℕ)) (sink sink_now : ℕ) → TellsScript answer status told out sink sink_now → EndsScript answer status told out
script_ends (Ok script.SourceFault) status told out sink sink_now t = behind SourceFault status source_line told out sink sink_now t
script_ends (Ok script.LongInput) status told out sink sink_now t = behind LongInput status long_line told out sink sink_now t
script_ends (Err run.Fault) status told out sink sink_now t = behind DiskFault status disk_line told out sink sink_now t
script_ends (Err (run.Damaged damage)) status told out sink sink_now t = behind (Damaged damage) status damaged_line told out sink sink_now t
script_ends (Err run.Spent) status told out sink sink_now t = behind Spent status spent_line told out sink sink_now t
script_ends other status told out sink sink_now t = t

-- the answer of a run that came to this end
abbrev pub ended : Ending → Result Ending RunRefusal
ended ending = Ok ending

-- an answer is one alone
pub no_err : (e : Ending) (why : RunRefusal) → Ok e ≡ Err why → ⊥
no_err e why is = cc

not_end : ended script.SourceFault ≡ Ok script.End → ⊥
not_end is = cc

not_long : ended script.SourceFault ≡ Ok script.LongInput → ⊥
not_long is = cc

-- where the answer is a fault of the source, its count rose
source_rose : (tells : Bool) (image : List ℕ) (old new : BayState) (before after : Streams) → ComesOf tells image (Ok script.SourceFault) old new before after → Rose before.source_faults after.source_faults
source_rose tells image old new before after (inl u) = elim u.answer as (λ _. Rose before.source_faults after.source_faults) [
  | inl is ↦ absurd (no_err script.SourceFault run.Fault is)
  | inr is ↦ absurd (no_err script.SourceFault run.NoMemory is)
]
source_rose tells image old new before after (inr h) = by h.answer h.back h.comes h.answered
  where
    by : (answer : Result Ending RunRefusal) (back : Result (Unit {0}) BayFault) → ComesOfDisk tells h.first h.last h.marks answer before after → Ok script.SourceFault ≡ run_answer_of answer back → Rose before.source_faults after.source_faults
    by (Ok script.End) (Ok y) c is = absurd (not_end is)
    by (Ok script.End) (Err fault) c is = absurd (no_err script.SourceFault (run_refusal_of_bay fault) is)
    by (Ok script.SourceFault) back c is = c.reads.2
    by (Ok script.LongInput) back c is = absurd (not_long is)
    by (Err why) back c is = absurd (no_err script.SourceFault why is)

-- a line that was told after the count had gone so far
pub told_after : (X status : Status) (line : List ℕ) (told out : Option (List ℕ)) (source source_now sink between sink_now : ℕ) → HasFault X source source_now sink sink_now → sink ≤ between
    → Tells X status line told out between sink_now → HasFault status source source_now sink sink_now
told_after X status line told out source source_now sink between sink_now fault le (inl t) = subst (λ (s : Status). HasFault s source source_now sink sink_now) (sym t.0) fault
told_after X status line told out source source_now sink between sink_now fault le (inr t) =
    subst (λ (s : Status). HasFault s source source_now sink sink_now) (sym t.0) (rose_before sink between sink_now le t.2)

-- the fault with which the program ends is one that was counted, whatever came of the disks
pub fault_of : (answer : Result Ending RunRefusal) (status : Status) (before after : Streams) (out : Option (List ℕ)) (sink_now : ℕ) → (answer ≡ Ok script.SourceFault → Rose before.source_faults after.source_faults)
    → after.sink_faults ≡ after_call (run_fails_pushing answer) before.sink_faults → TellsScript answer status after.taken out after.sink_faults sink_now → after.sink_faults ≤ sink_now
    → HasFault status before.source_faults after.source_faults before.sink_faults sink_now
fault_of answer status before after out sink_now rose sink t le = by answer rose sink t
  where
    Fault : Status → Type 0
    Fault s = HasFault s before.source_faults after.source_faults before.sink_faults sink_now

    told : (X : Status) (line : List ℕ) → Fault X → after.sink_faults ≡ before.sink_faults → Tells X status line after.taken out after.sink_faults sink_now → Fault status
    told X line fault same t = told_after X status line after.taken out before.source_faults after.source_faults before.sink_faults after.sink_faults sink_now fault (omega (arith, same)) t

    by : (answer : Result Ending RunRefusal) → (answer ≡ Ok script.SourceFault → Rose before.source_faults after.source_faults) → after.sink_faults ≡ after_call (run_fails_pushing answer) before.sink_faults
        → TellsScript answer status after.taken out after.sink_faults sink_now → Fault status
    by (Ok script.SourceFault) rose s t = told SourceFault source_line (rose refl) s t
    by (Ok script.LongInput) rose s t = told LongInput long_line tt s t
    by (Err run.Fault) rose s t = told DiskFault disk_line tt s t
    by (Err (run.Damaged damage)) rose s t = told (Damaged damage) damaged_line tt s t
    by (Err run.Spent) rose s t = told Spent spent_line tt s t
    by (Err run.SinkFault) rose s t = subst Fault (sym t.0) (omega (arith, s, le))
    by other rose s t = subst Fault (sym t.0) tt

-- so is that of a run on an image
pub script_fault : (tells : Bool) (image : List ℕ) (answer : Result Ending RunRefusal) (status : Status) (old new : BayState) (before after : Streams) (out : Option (List ℕ)) (sink_now : ℕ)
    → ComesOf tells image answer old new before after → CountsFaults answer before after → TellsScript answer status after.taken out after.sink_faults sink_now → after.sink_faults ≤ sink_now
    → HasFault status before.source_faults after.source_faults before.sink_faults sink_now
script_fault tells image answer status old new before after out sink_now comes counts t le =
    fault_of answer status before after out sink_now (λ is. source_rose tells image old new before after (subst (λ (a : Result Ending RunRefusal). ComesOf tells image a old new before after) is comes)) counts.sink t le

-- and no count falls
pub script_counts : (answer : Result Ending RunRefusal) (before after : Streams) (sink_now : ℕ) → CountsFaults answer before after → after.sink_faults ≤ sink_now → (before.source_faults ≤ after.source_faults) × (before.sink_faults ≤ sink_now)
script_counts answer before after sink_now counts le = (counts.source, omega (arith, counts.rises, le))

-- On two images.

-- what was told is how the program ends
pub mirrored_ends : (answer : Result Ending MirroredRefusal) (status : Status) (told out : Option (List ℕ)) (sink sink_now : ℕ) → TellsMirrored answer status told out sink sink_now → EndsMirrored answer status told out
mirrored_ends (Ok ending) status told out sink sink_now t = script_ends (Ok ending) status told out sink sink_now t
mirrored_ends (Err (mirrored.Run why)) status told out sink sink_now t = script_ends (Err why) status told out sink sink_now t
mirrored_ends (Err mirrored.Unlike) status told out sink sink_now t = behind Unlike status unlike_line told out sink sink_now t

-- the answer of a run on two images that came to this end
abbrev ended_both : Ending → Result Ending MirroredRefusal
ended_both ending = Ok ending

-- an answer is one alone
no_refusal : (e : Ending) (why : MirroredRefusal) → Ok e ≡ Err why → ⊥
no_refusal e why is = cc

not_end_both : ended_both script.SourceFault ≡ Ok script.End → ⊥
not_end_both is = cc

not_long_both : ended_both script.SourceFault ≡ Ok script.LongInput → ⊥
not_long_both is = cc

-- two answers that are one as of a run on an image are one of a run on two
same_end : (e f : Ending) → ended e ≡ Ok f → ended_both e ≡ Ok f
same_end e f is = ap (λ (a : Result Ending RunRefusal). elim a as (λ _. Result Ending MirroredRefusal) [ Ok x ↦ Ok x | Err why ↦ Err (mirrored.Run why) ]) is

-- a run over the mirror whose answer is a fault of the source ended so
mirror_broke : (tells known : Bool) (first last : State) (marks : List Mark) (ended : Result Ending RunRefusal) (before after : Streams) → ComesOfDisk tells first last marks ended before after
    → Ok script.SourceFault ≡ marked_answer_of known ended → Rose before.source_faults after.source_faults
mirror_broke tells known first last marks (Ok script.SourceFault) before after comes is = comes.reads.2
mirror_broke tells true first last marks (Ok script.End) before after comes is = absurd (not_end_both is)
mirror_broke tells false first last marks (Ok script.End) before after comes is = absurd (no_refusal script.SourceFault (mirrored.Run run.NoMemory) is)
mirror_broke tells true first last marks (Ok script.LongInput) before after comes is = absurd (not_long_both is)
mirror_broke tells false first last marks (Ok script.LongInput) before after comes is = absurd (not_long_both is)
mirror_broke tells true first last marks (Err why) before after comes is = absurd (no_refusal script.SourceFault (mirrored.Run why) is)
mirror_broke tells false first last marks (Err why) before after comes is = absurd (no_refusal script.SourceFault (mirrored.Run why) is)

-- where the answer is a fault of the source, its count rose
both_rose : (tells : Bool) (image other : List ℕ) (old new : BayState) (before after : Streams) → ComesOfBoth tells image other (Ok script.SourceFault) old new before after → Rose before.source_faults after.source_faults
both_rose tells image other old new before after (inl none) = absurd (no_refusal script.SourceFault (mirrored.Run none.why) none.answered)
both_rose tells image other old new before after (inr (inl one)) = absurd (no_refusal script.SourceFault (mirrored.Run (run_refusal_of_bay one.fault)) one.answered)
both_rose tells image other old new before after (inr (inr (inl unlike))) = absurd (no_refusal script.SourceFault unlike.why unlike.answered)
both_rose tells image other old new before after (inr (inr (inr both))) = by both.answer both.closes.back both.closes.other_back both.runs both.answered
  where
    by : (answer : Result Ending MirroredRefusal) (back other_back : Result (Unit {0}) BayFault) → RunsOverTwo tells both.first both.first_last both.second_last both.first_marks both.second_marks answer before after
        → Ok script.SourceFault ≡ mirrored_answer_of answer back other_back → Rose before.source_faults after.source_faults
    by (Ok script.SourceFault) back other_back r is = mirror_broke tells r.goes.known r.mirror r.mirror_last r.marks r.ended before after r.comes r.goes.answered
    by (Ok script.End) (Ok x) (Ok y) r is = absurd (not_end_both is)
    by (Ok script.End) (Ok x) (Err fault) r is = absurd (no_refusal script.SourceFault (mirrored.Run (run_refusal_of_bay fault)) is)
    by (Ok script.End) (Err fault) other_back r is = absurd (no_refusal script.SourceFault (mirrored.Run (run_refusal_of_bay fault)) is)
    by (Ok script.LongInput) back other_back r is = absurd (not_long_both is)
    by (Err why) back other_back r is = absurd (no_refusal script.SourceFault why is)

-- the fault with which the program ends is one that was counted
pub mirrored_fault : (tells : Bool) (image other : List ℕ) (answer : Result Ending MirroredRefusal) (status : Status) (old new : BayState) (before after : Streams) (out : Option (List ℕ)) (sink_now : ℕ)
    → ComesOfBoth tells image other answer old new before after → CountsMirrored answer before after → TellsMirrored answer status after.taken out after.sink_faults sink_now → after.sink_faults ≤ sink_now
    → HasFault status before.source_faults after.source_faults before.sink_faults sink_now
mirrored_fault tells image other (Ok ending) status old new before after out sink_now comes counts t le =
    fault_of (Ok ending) status before after out sink_now (λ is. both_rose tells image other old new before after
    (subst (λ (a : Result Ending MirroredRefusal). ComesOfBoth tells image other a old new before after) (same_end ending script.SourceFault is) comes)) counts.sink t le
mirrored_fault tells image other (Err (mirrored.Run why)) status old new before after out sink_now comes counts t le =
    fault_of (Err why) status before after out sink_now (λ is. absurd (no_err script.SourceFault why (sym is))) counts.sink t le
mirrored_fault tells image other (Err mirrored.Unlike) status old new before after out sink_now comes counts t le =
    told_after Unlike status unlike_line after.taken out before.source_faults after.source_faults before.sink_faults after.sink_faults sink_now tt (omega (arith, counts.sink)) t

-- and no count falls
pub mirrored_counts : (answer : Result Ending MirroredRefusal) (before after : Streams) (sink_now : ℕ) → CountsMirrored answer before after → after.sink_faults ≤ sink_now → (before.source_faults ≤ after.source_faults) × (before.sink_faults ≤ sink_now)
mirrored_counts answer before after sink_now counts le = (counts.source, omega (arith, counts.rises, le))
