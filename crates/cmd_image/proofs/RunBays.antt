-- What becomes of the bay once a script was run over a disk of it, which went back; and where none was handed out.
use Rattle.std.proofs.Common.{◌≡◌, ◌⊎◌, inl, inr, ℕ, ◌<◌, ◌≤◌, Bool, true, false, IsTrue, if◌then◌else◌, List, Option, Result, Ok, Err, refl, sym, ap, ◌∙◌, subst, arith}
use Rattle.std.proofs.lemmas.Bool.{false≢true}
use Rattle.std.proofs.lemmas.Result.{err_from_is_err_and}
use Rattle.std.specs.Result.{IsErrAnd}
use Rattle.base_types.specs.Counts.{next_count}
use Rattle.disk_contract.specs.declared.bay.Mark.{Mark}
use Rattle.disk_contract.specs.declared.bay.BayFault.{BayFault}
use Rattle.disk_contract.specs.declared.bay.BayFault.TheVariants as bay
use Rattle.disk_contract.specs.Bay.{BayState, Closes, HasBlocks, Kept, Opens, has_faults}
use Rattle.disk_contract.specs.Disk.{State}
use Rattle.cmd_image.specs.Shows.{CountsFault, MayFailToOpen}
use Rattle.cmd_image.specs.declared.ending.Ending.{Ending}
use Rattle.cmd_image.specs.declared.ending.Ending.TheVariants.{End, SourceFault, LongInput}
use Rattle.cmd_image.specs.declared.ending.RunRefusal.{RunRefusal}
use Rattle.cmd_image.specs.declared.ending.RunRefusal.TheVariants.{Fault, Damaged, Spent, SinkFault, NoMemory}
use Rattle.cmd_image.specs.Refusals.{is_run_fault, opens_nothing, run_answer_of, run_fails_pushing, run_refusal_of_bay}
use Rattle.cmd_image.specs.Runs.{ComesOf, ComesOfDisk, CountsFaults, HasRunCause, HasRunReason, RunHandsBack, Streams}
use Rattle.cmd_image.specs.Shared.{failed_by, has_blocks}

-- whether the answer is a fault
faulty : Result Ending RunRefusal → Bool
faulty (Ok ending) = false
faulty (Err why) = is_run_fault why

-- No disk was handed out.

-- a refusal before a disk came says so much
pub record RefusesUnlent (tells : Bool) (why : RunRefusal) (name : List ℕ) (old new : BayState) (streams : Streams) : Type 0 where
  pub comes : ComesOf tells name (Err why) old new streams streams
  pub cause : HasRunCause (Err why) old new
  pub reason : IsTrue tells → is_run_fault why ≡ true → MayFailToOpen name old
  pub counts : CountsFaults (Err why) streams streams
  pub opened : opens_nothing (Err why) ≡ false

-- a bay that nothing was asked
pub unasked_run : (tells : Bool) (name : List ℕ) (old : BayState) (streams : Streams) → RefusesUnlent tells NoMemory name old old streams
unasked_run tells name old streams = record {
  comes = inl (record { none = record { kept = λ t each. refl; faults = omega arith; disk_faults = refl; handed = refl; closed = refl }; same = refl; answer = inr refl });
  cause = tt;
  reason = λ t is. absurd (false≢true is);
  counts = record { source = omega arith; rises = omega arith; sink = refl };
  opened = refl;
}

-- a bay that opened no disk
pub unlent : {D : Type 0} (state : D → State) (tells : Bool) (name : List ℕ) (fault : BayFault) (old new : BayState) (streams : Streams) → Opens tells state name (Err fault) old new → RefusesUnlent tells (run_refusal_of_bay fault) name old new streams
unlent state tells name bay.Fault old new streams opens = record {
  comes = inl (record { none = record { kept = opens.kept; faults = opens.cause.0; disk_faults = opens.disk_faults; handed = opens.handed; closed = opens.closed }; same = refl; answer = inl refl });
  cause = inl opens.cause.1;
  reason = λ t is. opens.fails t;
  counts = record { source = omega arith; rises = omega arith; sink = refl };
  opened = refl;
}
unlent state tells name bay.NoMemory old new streams opens = record {
  comes = inl (record { none = record { kept = opens.kept; faults = opens.cause.0; disk_faults = opens.disk_faults; handed = opens.handed; closed = opens.closed }; same = refl; answer = inr refl });
  cause = tt;
  reason = λ t is. absurd (false≢true is);
  counts = record { source = omega arith; rises = omega arith; sink = refl };
  opened = refl;
}

-- the same of the answer as the function has it
pub record AnswersUnlent (tells : Bool) (result : Result Ending RunRefusal) (name : List ℕ) (old new : BayState) (streams : Streams) : Type 0 where
  pub comes : ComesOf tells name result old new streams streams
  pub cause : HasRunCause result old new
  pub reason : IsTrue tells → result ≡ Err Fault → MayFailToOpen name old
  pub counts : CountsFaults result streams streams
  pub opened : opens_nothing result ≡ false

answers_unlent : (tells : Bool) (result : Result Ending RunRefusal) (why : RunRefusal) (name : List ℕ) (old new : BayState) (streams : Streams) → result ≡ Err why → RefusesUnlent tells why name old new streams → AnswersUnlent tells result name old new streams
unfolding faulty
answers_unlent tells result why name old new streams is h = subst (λ (r : Result Ending RunRefusal). AnswersUnlent tells r name old new streams) (sym is) (record { comes = h.comes; cause = h.cause; reason = λ t same. h.reason t (ap faulty same); counts = h.counts; opened = h.opened })

pub unasked_by : (tells : Bool) (result : Result Ending RunRefusal) (name : List ℕ) (old : BayState) (streams : Streams) → IsErrAnd result (λ w. w ≡ NoMemory) → AnswersUnlent tells result name old old streams
unasked_by tells result name old streams is =
    let p = err_from_is_err_and result is in
    answers_unlent tells result NoMemory name old old streams (p.1 ∙ ap (λ (w : RunRefusal). Err w) p.2) (unasked_run tells name old streams)

pub unlent_by : {D : Type 0} (state : D → State) (tells : Bool) (result : Result Ending RunRefusal) (name : List ℕ) (fault : BayFault) (old new : BayState) (streams : Streams) → IsErrAnd result (λ w. w ≡ run_refusal_of_bay fault) → Opens tells state name (Err fault) old new → AnswersUnlent tells result name old new streams
unlent_by state tells result name fault old new streams is opens =
    let p = err_from_is_err_and result is in
    answers_unlent tells result (run_refusal_of_bay fault) name old new streams (p.1 ∙ ap (λ (w : RunRefusal). Err w) p.2) (unlent state tells name fault old new streams opens)

-- A disk that was handed out.

-- All that is said of a run whose disk went back.
pub record RunsBay (tells : Bool) (name : List ℕ) (answer result : Result Ending RunRefusal) (old new : BayState) (before after : Streams) : Type 0 where
  pub comes : ComesOf tells name result old new before after
  pub cause : HasRunCause result old new
  pub reason : IsTrue tells → result ≡ Err Fault → HasRunReason tells name result old new before after
  pub pushing : run_fails_pushing result ≡ run_fails_pushing answer
  pub opened : opens_nothing result ≡ opens_nothing answer

module _ {D : Type 0} (state : D → State) (tells : Bool) (name : List ℕ) (old between new : BayState) (first last : D) (marks : List Mark) (before after : Streams) (opens : Opens tells state name (Ok first) old between)
    (reads : IsTrue tells → 0 < (state last).read_faults → (state last).manner.reads_fail ≡ true) where
  hands : (answer : Result Ending RunRefusal) (back : Result (Unit {0}) BayFault) → ComesOfDisk tells (state first) (state last) marks answer before after → Closes tells name (state last) marks back between new → RunHandsBack tells name (run_answer_of answer back) old new before after
  hands answer back comes closes = record {
    first = state first;
    last = state last;
    marks = marks;
    between = between;
    answer = answer;
    back = back;
    opens = record { counts = opens.counts; disk = opens.disk; manner = opens.manner; kept = opens.kept; cause = opens.cause; fails = opens.fails; same = opens.same; disk_faults = opens.disk_faults; handed = opens.handed; closed = opens.closed };
    comes = comes;
    closes = closes;
    answered = refl;
  }

  counted : (back : Result (Unit {0}) BayFault) (closes : Closes tells name (state last) marks back between new) (failed : Bool) → has_faults (state last) ≡ failed → new.disk_faults ≡ (if failed then next_count old.disk_faults else old.disk_faults)
  counted back closes failed is =
      closes.disk_faults ∙ ap (λ (t : Bool). if t then next_count between.disk_faults else between.disk_faults) is ∙ ap (λ (n : ℕ). if failed then next_count n else n) opens.disk_faults

  rose : (between.faults ≤ new.faults) × ((between.faults < new.faults) ⊎ (new.faults ≡ 18446744073709551615)) → CountsFault old new
  rose (most, inl more) = inl (inl (omega (arith, opens.cause.0, more)))
  rose (most, inr end) = inl (inr end)

  causes : (answer : Result Ending RunRefusal) (back : Result (Unit {0}) BayFault) → ComesOfDisk tells (state first) (state last) marks answer before after → Closes tells name (state last) marks back between new → HasRunCause (run_answer_of answer back) old new
  causes (Ok End) (Ok y) comes closes = tt
  causes (Ok End) (Err bay.Fault) comes closes = rose closes.cause
  causes (Ok End) (Err bay.NoMemory) comes closes = tt
  causes (Ok SourceFault) back comes closes = tt
  causes (Ok LongInput) back comes closes = tt
  causes (Err Fault) back comes closes = inr (counted back closes true comes.faults)
  causes (Err (Damaged damage)) back comes closes = counted back closes false comes.faults
  causes (Err Spent) back comes closes = counted back closes false comes.faults
  causes (Err SinkFault) back comes closes = tt
  causes (Err NoMemory) back comes closes = tt

  pushing : (answer : Result Ending RunRefusal) (back : Result (Unit {0}) BayFault) → (run_fails_pushing (run_answer_of answer back) ≡ run_fails_pushing answer) × (opens_nothing (run_answer_of answer back) ≡ opens_nothing answer)
  pushing (Ok End) (Ok y) = (refl, refl)
  pushing (Ok End) (Err bay.Fault) = (refl, refl)
  pushing (Ok End) (Err bay.NoMemory) = (refl, refl)
  pushing (Ok SourceFault) back = (refl, refl)
  pushing (Ok LongInput) back = (refl, refl)
  pushing (Err why) back = (refl, refl)

  -- a fault of the bay has its reason as the disk goes back
  bay_reason : {P : Type 0} → IsTrue tells → (state last).blocks ≡ (state first).blocks → IsTrue between.may_fail ⊎ ¬ HasBlocks (state last).blocks (between.kept name) → MayFailToOpen name old ⊎ P
  bay_reason t same (inl may) = inl (inl (sym opens.same.may_fail ∙ may))
  bay_reason t same (inr none) = absurd (none (subst (λ (kept : Option Kept). HasBlocks (state last).blocks kept) (sym (opens.kept t name)) (has_blocks (old.kept name) (state first) (state last) (opens.disk t) same)))

  -- and so has one of the disk
  reasons : (answer : Result Ending RunRefusal) (back : Result (Unit {0}) BayFault) → ComesOfDisk tells (state first) (state last) marks answer before after → Closes tells name (state last) marks back between new → IsTrue tells → faulty (run_answer_of answer back) ≡ true → HasRunReason tells name (run_answer_of answer back) old new before after
  unfolding faulty hands
  reasons (Ok End) (Ok y) comes closes t is = absurd (false≢true is)
  reasons (Ok End) (Err bay.Fault) comes closes t is = bay_reason t comes.blocks (closes.fails t)
  reasons (Ok End) (Err bay.NoMemory) comes closes t is = absurd (false≢true is)
  reasons (Ok SourceFault) back comes closes t is = absurd (false≢true is)
  reasons (Ok LongInput) back comes closes t is = absurd (false≢true is)
  reasons (Err Fault) back comes closes t is = inr (hands (Err Fault) back comes closes, failed_by (state last) comes.faults (reads t) (comes.cause t))
  reasons (Err (Damaged damage)) back comes closes t is = absurd (false≢true is)
  reasons (Err Spent) back comes closes t is = absurd (false≢true is)
  reasons (Err SinkFault) back comes closes t is = absurd (false≢true is)
  reasons (Err NoMemory) back comes closes t is = absurd (false≢true is)

  pub runs_bay : (answer : Result Ending RunRefusal) (back : Result (Unit {0}) BayFault) → ComesOfDisk tells (state first) (state last) marks answer before after → Closes tells name (state last) marks back between new → RunsBay tells name answer (run_answer_of answer back) old new before after
  unfolding faulty
  runs_bay answer back comes closes = record { comes = inr (hands answer back comes closes); cause = causes answer back comes closes; reason = λ t is. reasons answer back comes closes t (ap faulty is); pushing = (pushing answer back).0; opened = (pushing answer back).1 }
