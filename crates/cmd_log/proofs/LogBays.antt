-- What becomes of the bay once a log was kept over a disk of it, which went back; and where none was handed out.
use Rattle.std.proofs.Common.{◌≡◌, ◌⊎◌, inl, inr, ℕ, ◌<◌, ◌≤◌, nat_lt, ◌||◌, Bool, true, false, IsTrue, if◌then◌else◌, List, Option, Result, Ok, Err, refl, sym, ap, ◌∙◌, subst, arith}
use Rattle.std.proofs.Math.Logic.{∥∥₁_elim}
use Rattle.std.proofs.Props.{props}
use Rattle.std.proofs.lemmas.Bool.{false≢true, lt-ltb}
use Rattle.std.proofs.lemmas.Result.{err_from_is_err_and}
use Rattle.std.specs.Result.{IsErrAnd}
use Rattle.base_types.specs.Counts.{next_count}
use Rattle.disk_contract.specs.declared.bay.Mark.{Mark}
use Rattle.disk_contract.specs.declared.bay.BayFault.{BayFault}
use Rattle.disk_contract.specs.declared.bay.BayFault.TheVariants as bay
use Rattle.disk_contract.specs.Bay.{BayState, Closes, HasBlocks, Kept, Opens, has_faults}
use Rattle.disk_contract.specs.Disk.{State}
use Rattle.cmd_image.specs.Shared.{failed_by, has_blocks}
use Rattle.cmd_image.specs.Shows.{CountsFault, FailedByManner, MayFailToOpen}
use Rattle.cmd_image.specs.declared.ending.Ending.{Ending}
use Rattle.cmd_image.specs.declared.ending.Ending.TheVariants.{End, SourceFault, LongInput}
use Rattle.cmd_image.specs.declared.ending.RunRefusal.TheVariants as run
use Rattle.cmd_image.specs.Refusals.{is_run_fault, run_refusal_of_bay}
use Rattle.cmd_image.specs.Runs.{IsUnopened, Streams}
use Rattle.cmd_log.specs.declared.refusal.LogRunRefusal.{LogRunRefusal}
use Rattle.cmd_log.specs.declared.refusal.LogRunRefusal.TheVariants.{BadLog, NoRoom, Run}
use Rattle.cmd_log.specs.Logs.{ComesOfLog, ComesOfLogDisk, CountsLogFaults, HasLogRunCause, HasLogRunReason, IsUnlogged, LogHandsBack, log_answer_of, log_fails_pushing, log_opens_nothing, log_says_nothing}

-- whether the answer is a fault
faulty : Result Ending LogRunRefusal → Bool
faulty (Ok ending) = false
faulty (Err BadLog) = false
faulty (Err (NoRoom why)) = false
faulty (Err (Run why)) = is_run_fault why

-- No disk was handed out.

-- all that is said where no disk came
pub record AnswersUnlent (tells : Bool) (result : Result Ending LogRunRefusal) (name : List ℕ) (old new : BayState) (streams : Streams) : Type 0 where
  pub comes : ComesOfLog tells name result old new streams streams
  pub cause : HasLogRunCause tells result old new
  pub reason : IsTrue tells → result ≡ Err (Run run.Fault) → MayFailToOpen name old
  pub counts : CountsLogFaults result streams streams
  pub opened : log_opens_nothing result ≡ false
  pub said : log_says_nothing result ≡ false

-- a bay that nothing was asked
unasked : (tells : Bool) (name : List ℕ) (old : BayState) (streams : Streams) → AnswersUnlent tells (Err (Run run.NoMemory)) name old old streams
unfolding faulty
unasked tells name old streams = record {
  comes = inl (record {
    why = run.NoMemory;
    unlent = record { none = record { kept = λ t each. refl; faults = omega arith; disk_faults = refl; handed = refl; closed = refl }; same = refl; answer = inr refl };
    answered = refl;
  });
  cause = tt;
  reason = λ t is. absurd (false≢true (ap faulty is));
  counts = record { source = omega arith; rises = omega arith; sink = refl };
  opened = refl;
  said = refl;
}

-- a bay that opened no disk
unlent : {D : Type 0} (state : D → State) (tells : Bool) (name : List ℕ) (fault : BayFault) (old new : BayState) (streams : Streams) → Opens tells state name (Err fault) old new → AnswersUnlent tells (Err (Run (run_refusal_of_bay fault))) name old new streams
unfolding faulty
unlent state tells name bay.Fault old new streams opens = record {
  comes = inl (record {
    why = run.Fault;
    unlent = record { none = record { kept = opens.kept; faults = opens.cause.0; disk_faults = opens.disk_faults; handed = opens.handed; closed = opens.closed }; same = refl; answer = inl refl };
    answered = refl;
  });
  cause = λ t. inl opens.cause.1;
  reason = λ t is. opens.fails t;
  counts = record { source = omega arith; rises = omega arith; sink = refl };
  opened = refl;
  said = refl;
}
unlent state tells name bay.NoMemory old new streams opens = record {
  comes = inl (record {
    why = run.NoMemory;
    unlent = record { none = record { kept = opens.kept; faults = opens.cause.0; disk_faults = opens.disk_faults; handed = opens.handed; closed = opens.closed }; same = refl; answer = inr refl };
    answered = refl;
  });
  cause = tt;
  reason = λ t is. absurd (false≢true (ap faulty is));
  counts = record { source = omega arith; rises = omega arith; sink = refl };
  opened = refl;
  said = refl;
}

-- the same of the answer as the function has it
pub unasked_by : (tells : Bool) (result : Result Ending LogRunRefusal) (name : List ℕ) (old : BayState) (streams : Streams) → IsErrAnd result (λ w. w ≡ Run run.NoMemory) → AnswersUnlent tells result name old old streams
unasked_by tells result name old streams is =
    let p = err_from_is_err_and result is in
    subst (λ (r : Result Ending LogRunRefusal). AnswersUnlent tells r name old old streams) (sym (p.1 ∙ ap (λ (w : LogRunRefusal). Err w) p.2)) (unasked tells name old streams)

pub unlent_by : {D : Type 0} (state : D → State) (tells : Bool) (result : Result Ending LogRunRefusal) (name : List ℕ) (fault : BayFault) (old new : BayState) (streams : Streams) → IsErrAnd result (λ w. w ≡ Run (run_refusal_of_bay fault)) → Opens tells state name (Err fault) old new → AnswersUnlent tells result name old new streams
unlent_by state tells result name fault old new streams is opens =
    let p = err_from_is_err_and result is in
    subst (λ (r : Result Ending LogRunRefusal). AnswersUnlent tells r name old new streams) (sym (p.1 ∙ ap (λ (w : LogRunRefusal). Err w) p.2)) (unlent state tells name fault old new streams opens)

-- A disk that was handed out.

-- a disk on which calls failed as its manner lets them has faults
counts_some : (d : State) → FailedByManner d → has_faults d ≡ true
counts_some d (inl unread) = ap (λ (b : Bool). b || nat_lt 0 d.faults) (lt-ltb 0 d.read_faults unread.0)
counts_some d (inr failed) = ap (λ (b : Bool). nat_lt 0 d.read_faults || b) (lt-ltb 0 d.faults failed.0) ∙ or_true (nat_lt 0 d.read_faults)
  where
    or_true : (b : Bool) → (b || true) ≡ true
    or_true true = refl
    or_true false = refl

-- All that is said of a log whose disk went back.
pub record LogsBay (tells : Bool) (name : List ℕ) (answer result : Result Ending LogRunRefusal) (old new : BayState) (before after : Streams) : Type 0 where
  pub comes : ComesOfLog tells name result old new before after
  pub cause : HasLogRunCause tells result old new
  pub reason : IsTrue tells → result ≡ Err (Run run.Fault) → HasLogRunReason tells name result old new before after
  pub pushing : log_fails_pushing result ≡ log_fails_pushing answer
  pub opened : log_opens_nothing result ≡ log_opens_nothing answer
  pub said : log_says_nothing result ≡ log_says_nothing answer

module _ {D : Type 0} (state : D → State) (tells : Bool) (name : List ℕ) (old between new : BayState) (first last : D) (marks : List Mark) (before after : Streams) (opens : Opens tells state name (Ok first) old between)
    (reads : IsTrue tells → 0 < (state last).read_faults → (state last).manner.reads_fail ≡ true) where
  hands : (answer : Result Ending LogRunRefusal) (back : Result (Unit {0}) BayFault) → ComesOfLogDisk tells (state first) (state last) marks answer before after → Closes tells name (state last) marks back between new → LogHandsBack tells name (log_answer_of answer back) old new before after
  hands answer back comes closes = record {
    first = state first;
    last = state last;
    marks = marks;
    between = between;
    answer = answer;
    back = back;
    opens = record { counts = opens.counts; disk = opens.disk; manner = opens.manner; kept = opens.kept; cause = opens.cause; fails = opens.fails; same = opens.same; disk_faults = opens.disk_faults; handed = opens.handed; closed = opens.closed };
    comes = comes;
    closes = closes;
    answered = refl;
  }

  counted : (back : Result (Unit {0}) BayFault) (closes : Closes tells name (state last) marks back between new) (failed : Bool) → has_faults (state last) ≡ failed → new.disk_faults ≡ (if failed then next_count old.disk_faults else old.disk_faults)
  counted back closes failed is =
      closes.disk_faults ∙ ap (λ (t : Bool). if t then next_count between.disk_faults else between.disk_faults) is ∙ ap (λ (n : ℕ). if failed then next_count n else n) opens.disk_faults

  rose : (between.faults ≤ new.faults) × ((between.faults < new.faults) ⊎ (new.faults ≡ 18446744073709551615)) → CountsFault old new
  rose (most, inl more) = inl (inl (omega (arith, opens.cause.0, more)))
  rose (most, inr end) = inl (inr end)

  -- a fault of the disk, before a log was opened or as it was
  failed : IsTrue tells → IsUnopened tells (state first) (state last) marks run.Fault before after ⊎ IsUnlogged tells (state first) (state last) marks (Run run.Fault) before after → ∥ FailedByManner (state last) ∥₁
  failed t (inl unopened) = ∣ failed_by (state last) unopened.faults (reads t) (unopened.cause t) ∣₁
  failed t (inr unlogged) = (unlogged.stands t).says

  some : IsTrue tells → IsUnopened tells (state first) (state last) marks run.Fault before after ⊎ IsUnlogged tells (state first) (state last) marks (Run run.Fault) before after → has_faults (state last) ≡ true
  some t comes = ∥∥₁_elim (failed t comes) (search props) (counts_some (state last))

  causes : (answer : Result Ending LogRunRefusal) (back : Result (Unit {0}) BayFault) → ComesOfLogDisk tells (state first) (state last) marks answer before after → Closes tells name (state last) marks back between new → HasLogRunCause tells (log_answer_of answer back) old new
  causes (Ok End) (Ok y) comes closes = tt
  causes (Ok End) (Err bay.Fault) comes closes = λ t. rose closes.cause
  causes (Ok End) (Err bay.NoMemory) comes closes = tt
  causes (Ok SourceFault) back comes closes = tt
  causes (Ok LongInput) back comes closes = tt
  causes (Err BadLog) back comes closes = tt
  causes (Err (NoRoom why)) back comes closes = tt
  causes (Err (Run run.Fault)) back comes closes = λ t. inr (counted back closes true (some t comes))
  causes (Err (Run (run.Damaged damage))) back comes closes = counted back closes false comes.faults
  causes (Err (Run run.Spent)) back comes closes = tt
  causes (Err (Run run.SinkFault)) back comes closes = tt
  causes (Err (Run run.NoMemory)) back comes closes = tt

  same_kind : (answer : Result Ending LogRunRefusal) (back : Result (Unit {0}) BayFault)
      → (log_fails_pushing (log_answer_of answer back) ≡ log_fails_pushing answer) × (log_opens_nothing (log_answer_of answer back) ≡ log_opens_nothing answer) × (log_says_nothing (log_answer_of answer back) ≡ log_says_nothing answer)
  same_kind (Ok End) (Ok y) = (refl, refl, refl)
  same_kind (Ok End) (Err bay.Fault) = (refl, refl, refl)
  same_kind (Ok End) (Err bay.NoMemory) = (refl, refl, refl)
  same_kind (Ok SourceFault) back = (refl, refl, refl)
  same_kind (Ok LongInput) back = (refl, refl, refl)
  same_kind (Err why) back = (refl, refl, refl)

  -- a fault of the bay has its reason as the disk goes back
  bay_reason : {P : Type 0} → IsTrue tells → (state last).blocks ≡ (state first).blocks → IsTrue between.may_fail ⊎ ¬ HasBlocks (state last).blocks (between.kept name) → MayFailToOpen name old ⊎ P
  bay_reason t same (inl may) = inl (inl (sym opens.same.may_fail ∙ may))
  bay_reason t same (inr none) = absurd (none (subst (λ (kept : Option Kept). HasBlocks (state last).blocks kept) (sym (opens.kept t name)) (has_blocks (old.kept name) (state first) (state last) (opens.disk t) same)))

  -- and so has one of the disk
  reasons : (answer : Result Ending LogRunRefusal) (back : Result (Unit {0}) BayFault) → ComesOfLogDisk tells (state first) (state last) marks answer before after → Closes tells name (state last) marks back between new → IsTrue tells → faulty (log_answer_of answer back) ≡ true → HasLogRunReason tells name (log_answer_of answer back) old new before after
  unfolding faulty hands
  reasons (Ok End) (Ok y) comes closes t is = absurd (false≢true is)
  reasons (Ok End) (Err bay.Fault) comes closes t is = bay_reason t (comes.logs t).blocks (closes.fails t)
  reasons (Ok End) (Err bay.NoMemory) comes closes t is = absurd (false≢true is)
  reasons (Ok SourceFault) back comes closes t is = absurd (false≢true is)
  reasons (Ok LongInput) back comes closes t is = absurd (false≢true is)
  reasons (Err BadLog) back comes closes t is = absurd (false≢true is)
  reasons (Err (NoRoom why)) back comes closes t is = absurd (false≢true is)
  reasons (Err (Run run.Fault)) back comes closes t is = inr (hands (Err (Run run.Fault)) back comes closes, failed t comes)
  reasons (Err (Run (run.Damaged damage))) back comes closes t is = absurd (false≢true is)
  reasons (Err (Run run.Spent)) back comes closes t is = absurd (false≢true is)
  reasons (Err (Run run.SinkFault)) back comes closes t is = absurd (false≢true is)
  reasons (Err (Run run.NoMemory)) back comes closes t is = absurd (false≢true is)

  pub logs_bay : (answer : Result Ending LogRunRefusal) (back : Result (Unit {0}) BayFault) → ComesOfLogDisk tells (state first) (state last) marks answer before after → Closes tells name (state last) marks back between new → LogsBay tells name answer (log_answer_of answer back) old new before after
  unfolding faulty
  logs_bay answer back comes closes = record {
    comes = inr (hands answer back comes closes);
    cause = causes answer back comes closes;
    reason = λ t is. reasons answer back comes closes t (ap faulty is);
    pushing = (same_kind answer back).0;
    opened = (same_kind answer back).1;
    said = (same_kind answer back).2;
  }
