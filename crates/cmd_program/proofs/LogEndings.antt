-- How the program ends behind a log: behind the line of its answer, with a status whose fault was counted.
use Rattle.std.proofs.Common.{◌≡◌, ℕ, ◌≤◌, Bool, List, Option, Result, Ok, Err, inl, inr, sym, ap, subst, arith}
use Rattle.base_types.specs.Counts.{Rose}
use Rattle.disk_contract.specs.declared.bay.BayFault.{BayFault}
use Rattle.disk_contract.specs.Bay.{BayState}
use Rattle.cmd_image.specs.declared.ending.Ending.{Ending}
use Rattle.cmd_image.specs.declared.ending.Ending.TheVariants as script
use Rattle.cmd_image.specs.declared.ending.RunRefusal.{RunRefusal}
use Rattle.cmd_image.specs.Refusals.{run_refusal_of_bay}
use Rattle.cmd_image.specs.Runs.{Streams}
use Rattle.cmd_log.specs.declared.refusal.LogRunRefusal.{LogRunRefusal}
use Rattle.cmd_log.specs.declared.refusal.LogRunRefusal.TheVariants as logs
use Rattle.cmd_log.specs.Logs.{ComesOfLog, ComesOfLogDisk, CountsLogFaults, log_answer_of}
use Rattle.cmd_program.specs.Endings.{HasFault, log_line, room_line}
use Rattle.cmd_program.specs.Logging.{EndsServing, TellsLog}
use Rattle.cmd_program.specs.declared.status.Status.{Status}
use Rattle.cmd_program.specs.declared.status.Status.TheVariants.{BadLog, NoRoom}
use Rattle.cmd_program.proofs.Requests.{behind}
use Rattle.cmd_program.proofs.Scripts.{ended, fault_of, no_err, script_ends, told_after}

-- what was told is how the program ends
pub log_ends : (answer : Result Ending LogRunRefusal) (status : Status) (told out : Option (List ℕ)) (sink sink_now : ℕ) → TellsLog answer status told out sink sink_now → EndsServing answer status told out
log_ends (Ok ending) status told out sink sink_now t = script_ends (Ok ending) status told out sink sink_now t
log_ends (Err (logs.Run why)) status told out sink sink_now t = script_ends (Err why) status told out sink sink_now t
log_ends (Err (logs.NoRoom why)) status told out sink sink_now t = behind NoRoom status room_line told out sink sink_now t
log_ends (Err logs.BadLog) status told out sink sink_now t = behind BadLog status log_line told out sink sink_now t

-- the answer of a log that came to this end
abbrev ended_log : Ending → Result Ending LogRunRefusal
ended_log ending = Ok ending

-- an answer is one alone
no_refusal : (e : Ending) (why : LogRunRefusal) → ended_log e ≡ Err why → ⊥
no_refusal e why is = cc

not_end : ended_log script.SourceFault ≡ Ok script.End → ⊥
not_end is = cc

not_long : ended_log script.SourceFault ≡ Ok script.LongInput → ⊥
not_long is = cc

-- two answers that are one as of a script are one of a log
same_end : (e f : Ending) → ended e ≡ Ok f → ended_log e ≡ Ok f
same_end e f is = ap (λ (a : Result Ending RunRefusal). elim a as (λ _. Result Ending LogRunRefusal) [ Ok x ↦ Ok x | Err why ↦ Err (logs.Run why) ]) is

-- where the answer is a fault of the source, its count rose
source_rose : (tells : Bool) (image : List ℕ) (old new : BayState) (before after : Streams) → ComesOfLog tells image (Ok script.SourceFault) old new before after → Rose before.source_faults after.source_faults
source_rose tells image old new before after (inl none) = absurd (no_refusal script.SourceFault (logs.Run none.why) none.answered)
source_rose tells image old new before after (inr h) = by h.answer h.back h.comes h.answered
  where
    by : (answer : Result Ending LogRunRefusal) (back : Result (Unit {0}) BayFault) → ComesOfLogDisk tells h.first h.last h.marks answer before after → Ok script.SourceFault ≡ log_answer_of answer back
        → Rose before.source_faults after.source_faults
    by (Ok script.End) (Ok y) c is = absurd (not_end is)
    by (Ok script.End) (Err fault) c is = absurd (no_refusal script.SourceFault (logs.Run (run_refusal_of_bay fault)) is)
    by (Ok script.SourceFault) back c is = c.reads.2
    by (Ok script.LongInput) back c is = absurd (not_long is)
    by (Err why) back c is = absurd (no_refusal script.SourceFault why is)

-- the fault with which the program ends is one that was counted
pub log_fault : (tells : Bool) (image : List ℕ) (answer : Result Ending LogRunRefusal) (status : Status) (old new : BayState) (before after : Streams) (out : Option (List ℕ)) (sink_now : ℕ)
    → ComesOfLog tells image answer old new before after → CountsLogFaults answer before after → TellsLog answer status after.taken out after.sink_faults sink_now → after.sink_faults ≤ sink_now
    → HasFault status before.source_faults after.source_faults before.sink_faults sink_now
log_fault tells image (Ok ending) status old new before after out sink_now comes counts t le =
    fault_of (Ok ending) status before after out sink_now (λ is. source_rose tells image old new before after
    (subst (λ (a : Result Ending LogRunRefusal). ComesOfLog tells image a old new before after) (same_end ending script.SourceFault is) comes)) counts.sink t le
log_fault tells image (Err (logs.Run why)) status old new before after out sink_now comes counts t le =
    fault_of (Err why) status before after out sink_now (λ is. absurd (no_err script.SourceFault why (sym is))) counts.sink t le
log_fault tells image (Err (logs.NoRoom why)) status old new before after out sink_now comes counts t le =
    told_after NoRoom status room_line after.taken out before.source_faults after.source_faults before.sink_faults after.sink_faults sink_now tt (omega (arith, counts.sink)) t
log_fault tells image (Err logs.BadLog) status old new before after out sink_now comes counts t le =
    told_after BadLog status log_line after.taken out before.source_faults after.source_faults before.sink_faults after.sink_faults sink_now tt (omega (arith, counts.sink)) t

-- and no count falls
pub log_counts : (answer : Result Ending LogRunRefusal) (before after : Streams) (sink_now : ℕ) → CountsLogFaults answer before after → after.sink_faults ≤ sink_now → (before.source_faults ≤ after.source_faults) × (before.sink_faults ≤ sink_now)
log_counts answer before after sink_now counts le = (counts.source, omega (arith, counts.rises, le))
