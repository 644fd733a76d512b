-- What becomes of the bay where a script was run over the mirror of two of its disks, and where a fault comes from.
use Rattle.std.proofs.Common.{◌≡◌, ◌≢◌, ◌⊎◌, inl, inr, ℕ, ◌≤◌, nat_lt, Bool, true, false, IsTrue, List, Option, None, Some, Result, Ok, Err, refl, sym, ap, ◌∙◌, subst, arith}
use Rattle.std.proofs.lemmas.Bool.{false≢true, ltb-true, or_cases}
use Rattle.base_types.specs.Counts.{Rose}
use Rattle.disk_contract.specs.declared.bay.Mark.{Mark}
use Rattle.disk_contract.specs.declared.bay.BayFault.{BayFault}
use Rattle.disk_contract.specs.declared.bay.BayFault.TheVariants as bay
use Rattle.disk_contract.specs.Bay.{BayState, BeginsWith, HasBayCause, HasBlocks, Kept, OnFault, has_faults}
use Rattle.disk_contract.specs.Disk.{State}
use Rattle.cmd_image.specs.declared.ending.Ending.{Ending}
use Rattle.cmd_image.specs.declared.ending.Ending.TheVariants.{End, SourceFault, LongInput}
use Rattle.cmd_image.specs.declared.ending.RunRefusal.{RunRefusal}
use Rattle.cmd_image.specs.declared.ending.RunRefusal.TheVariants as run
use Rattle.cmd_image.specs.Refusals.{run_answer_of}
use Rattle.cmd_image.specs.Runs.{ComesOfDisk, Streams}
use Rattle.cmd_image.specs.Shows.{MayFailToOpen}
use Rattle.cmd_mirror.specs.declared.refusal.MirroredRefusal.{MirroredRefusal}
use Rattle.cmd_mirror.specs.declared.refusal.MirroredRefusal.TheVariants.{Unlike, Run}
use Rattle.cmd_mirror.specs.Comparing.{AreAlike}
use Rattle.cmd_mirror.specs.Mirrored.{BothFailed, ClosesBoth, ComesOfBoth, CountsAFault, FailsAsBoth, HasMirroredCause, HasMirroredReason, IsUsedUp, OpensBoth, RunsBoth, RunsOverTwo, marked_answer_of, mirrored_answer_of, of_run}
use Rattle.cmd_mirror.proofs.Lends.{first_counted, not_fault, opening_faults, rose_by}

-- All that is said of a run over two images whose disks went back.
pub record SaysMirrored (tells : Bool) (name other : List ℕ) (result : Result Ending MirroredRefusal) (old new : BayState) (before after : Streams) : Type 0 where
  pub comes : ComesOfBoth tells name other result old new before after
  pub cause : HasMirroredCause tells name other result old new before after
  pub reason : IsTrue tells → result ≡ Err (Run run.Fault) → HasMirroredReason tells name other result old new before after

-- a disk that began with an image has as many blocks
has_blocks : (kept : Option Kept) (first : State) (n : ℕ) → BeginsWith kept first → n ≡ first.blocks → HasBlocks n kept
has_blocks None first n none same = none
has_blocks (Some kept) first n begins same = sym (same ∙ begins.blocks)

-- the mirror of a run has as many blocks as it began with
same_blocks : (tells : Bool) (first last : State) (marks : List Mark) (answer : Result Ending RunRefusal) (before after : Streams) → ComesOfDisk tells first last marks answer before after → last.blocks ≡ first.blocks
same_blocks tells first last marks (Ok ending) before after comes = comes.blocks
same_blocks tells first last marks (Err run.Fault) before after comes = comes.spends.blocks
same_blocks tells first last marks (Err (run.Damaged damage)) before after comes = comes.spends.blocks
same_blocks tells first last marks (Err run.Spent) before after comes = comes.spends.blocks
same_blocks tells first last marks (Err run.SinkFault) before after comes = comes.blocks
same_blocks tells first last marks (Err run.NoMemory) before after (inl unopened) = unopened.spends.blocks
same_blocks tells first last marks (Err run.NoMemory) before after (inr ran) = ran.blocks

-- where a call of the mirror failed, one of each disk did, or its room is used up
failing : (tells : Bool) (mirror first second : State) → FailsAsBoth tells mirror first second → has_faults mirror ≡ true → BothFailed first second ⊎ IsUsedUp tells mirror
failing tells mirror first second fails some = by (or_cases (nat_lt 0 mirror.read_faults) (nat_lt 0 mirror.faults) some)
  where
    by : (nat_lt 0 mirror.read_faults ≡ true) ⊎ (nat_lt 0 mirror.faults ≡ true) → BothFailed first second ⊎ IsUsedUp tells mirror
    by (inl unread) = inl (fails.reads (ltb-true 0 mirror.read_faults unread))
    by (inr failed) = fails.others (ltb-true 0 mirror.faults failed)

-- a run over a mirror is answered by a fault only where no file system was opened for one
ended_by_fault : (tells known : Bool) (first last : State) (marks : List Mark) (ended : Result Ending RunRefusal) (before after : Streams) → ComesOfDisk tells first last marks ended before after → marked_answer_of known ended ≡ Err (Run run.Fault) → has_faults last ≡ true
ended_by_fault tells true first last marks (Ok ending) before after comes is = not_fault (Ok ending) refl is
ended_by_fault tells false first last marks (Ok End) before after comes is = not_fault (Err (Run run.NoMemory)) refl is
ended_by_fault tells false first last marks (Ok SourceFault) before after comes is = not_fault (Ok SourceFault) refl is
ended_by_fault tells false first last marks (Ok LongInput) before after comes is = not_fault (Ok LongInput) refl is
ended_by_fault tells known first last marks (Err run.Fault) before after comes is = comes.faults
ended_by_fault tells true first last marks (Err (run.Damaged damage)) before after comes is = not_fault (Err (Run (run.Damaged damage))) refl is
ended_by_fault tells true first last marks (Err run.Spent) before after comes is = not_fault (Err (Run run.Spent)) refl is
ended_by_fault tells true first last marks (Err run.SinkFault) before after comes is = not_fault (Err (Run run.SinkFault)) refl is
ended_by_fault tells true first last marks (Err run.NoMemory) before after comes is = not_fault (Err (Run run.NoMemory)) refl is
ended_by_fault tells false first last marks (Err (run.Damaged damage)) before after comes is = not_fault (Err (Run (run.Damaged damage))) refl is
ended_by_fault tells false first last marks (Err run.Spent) before after comes is = not_fault (Err (Run run.Spent)) refl is
ended_by_fault tells false first last marks (Err run.SinkFault) before after comes is = not_fault (Err (Run run.SinkFault)) refl is
ended_by_fault tells false first last marks (Err run.NoMemory) before after comes is = not_fault (Err (Run run.NoMemory)) refl is

-- Why the answer is a fault.

-- a fault of the run, or behind its end one of the first return, or one of the second
pub which : (answer : Result Ending MirroredRefusal) (back other_back : Result (Unit {0}) BayFault) → mirrored_answer_of answer back other_back ≡ Err (Run run.Fault) → (answer ≡ Err (Run run.Fault)) ⊎ ((back ≡ Err bay.Fault) ⊎ (other_back ≡ Err bay.Fault))
which (Err why) back other_back is = inl is
which (Ok SourceFault) back other_back is = not_fault (Ok SourceFault) refl is
which (Ok LongInput) back other_back is = not_fault (Ok LongInput) refl is
which (Ok End) (Err bay.Fault) other_back is = inr (inl refl)
which (Ok End) (Err bay.NoMemory) other_back is = not_fault (Err (Run run.NoMemory)) refl is
which (Ok End) (Ok x) (Err bay.Fault) is = inr (inr refl)
which (Ok End) (Ok x) (Err bay.NoMemory) is = not_fault (Err (Run run.NoMemory)) refl is
which (Ok End) (Ok x) (Ok y) is = not_fault (Ok End) refl is

-- whether the two were unlike
is_unlike : Result Ending MirroredRefusal → Bool
is_unlike (Ok ending) = false
is_unlike (Err Unlike) = true
is_unlike (Err (Run why)) = false

-- which no run answers
not_of_run : (ended : Result Ending RunRefusal) → is_unlike (of_run ended) ≡ false
unfolding is_unlike
not_of_run (Ok ending) = refl
not_of_run (Err why) = refl

not_of_marked : (known : Bool) (ended : Result Ending RunRefusal) → is_unlike (marked_answer_of known ended) ≡ false
not_of_marked true ended = not_of_run ended
not_of_marked false ended = not_of_run (run_answer_of {T = Unit {0}} ended (Err bay.NoMemory))

not_closed : (answer : Result Ending MirroredRefusal) (back other_back : Result (Unit {0}) BayFault) → is_unlike answer ≡ false → is_unlike (mirrored_answer_of answer back other_back) ≡ false
unfolding is_unlike
not_closed (Err why) back other_back is = is
not_closed (Ok SourceFault) back other_back is = refl
not_closed (Ok LongInput) back other_back is = refl
not_closed (Ok End) (Err failed) other_back is = refl
not_closed (Ok End) (Ok x) (Err failed) is = refl
not_closed (Ok End) (Ok x) (Ok y) is = refl

-- the cause of any other answer says nothing
cause_by : (tells : Bool) (name other : List ℕ) (result : Result Ending MirroredRefusal) (old new : BayState) (before after : Streams) → is_unlike result ≡ false
    → (result ≡ Err (Run run.Fault) → CountsAFault old new ⊎ ((r : RunsBoth tells name other result old new before after) × IsUsedUp tells r.runs.mirror_last)) → HasMirroredCause tells name other result old new before after
unfolding is_unlike
cause_by tells name other (Ok ending) old new before after like on_fault = tt
cause_by tells name other (Err Unlike) old new before after like on_fault = absurd (false≢true (sym like))
cause_by tells name other (Err (Run run.Fault)) old new before after like on_fault = on_fault refl
cause_by tells name other (Err (Run (run.Damaged damage))) old new before after like on_fault = tt
cause_by tells name other (Err (Run run.Spent)) old new before after like on_fault = tt
cause_by tells name other (Err (Run run.SinkFault)) old new before after like on_fault = tt
cause_by tells name other (Err (Run run.NoMemory)) old new before after like on_fault = tt

module _ (tells : Bool) (name other : List ℕ) (apart : name ≢ other) (first first_last second second_last : State) (first_marks second_marks : List Mark) (answer : Result Ending MirroredRefusal) (old opened new : BayState) (before after : Streams)
    (opens : OpensBoth tells name other first second old opened) (alike : AreAlike tells first second) (runs : RunsOverTwo tells first first_last second_last first_marks second_marks answer before after)
    (closes : ClosesBoth tells name other first_last second_last first_marks second_marks opened new) where
  ran : RunsBoth tells name other (mirrored_answer_of answer closes.back closes.other_back) old new before after
  ran = record {
    first = first;
    second = second;
    first_last = first_last;
    second_last = second_last;
    first_marks = first_marks;
    second_marks = second_marks;
    answer = answer;
    opened = opened;
    opens = opens;
    alike = alike;
    runs = runs;
    closes = closes;
    answered = refl;
  }

  opened_disks : opened.disk_faults ≡ old.disk_faults
  opened_disks = opens.opens_second.disk_faults ∙ opens.opens_first.disk_faults

  opened_faults : old.faults ≤ opened.faults
  opened_faults = opening_faults tells name other first second old opened opens

  -- a fault of the run: a call of each disk failed, or the room of their mirror is used up
  both : answer ≡ Err (Run run.Fault) → BothFailed first_last second_last ⊎ IsUsedUp tells runs.mirror_last
  both is = failing tells runs.mirror_last first_last second_last runs.goes.fails (ended_by_fault tells runs.goes.known runs.mirror runs.mirror_last runs.marks runs.ended before after runs.comes (sym runs.goes.answered ∙ is))

  both_counted : BothFailed first_last second_last → Rose old.disk_faults new.disk_faults
  both_counted failed = subst (λ n. Rose n new.disk_faults) opened_disks (first_counted tells name other first_last second_last first_marks second_marks opened new closes failed.0)

  -- a fault of a return
  first_return : closes.back ≡ Err bay.Fault → Rose old.faults new.faults
  first_return is = rose_by old.faults opened.faults closes.between.faults new.faults opened_faults (subst (λ (r : Result (Unit {0}) BayFault). HasBayCause r opened.faults closes.between.faults) is closes.closes_first.cause) closes.closes_second.cause.0

  second_return : closes.other_back ≡ Err bay.Fault → Rose old.faults new.faults
  second_return is = rose_by old.faults closes.between.faults new.faults new.faults (omega (arith, opened_faults, closes.closes_first.cause.0)) (subst (λ (r : Result (Unit {0}) BayFault). HasBayCause r closes.between.faults new.faults) is closes.closes_second.cause) (omega arith)

  cause_of : (answer ≡ Err (Run run.Fault)) ⊎ ((closes.back ≡ Err bay.Fault) ⊎ (closes.other_back ≡ Err bay.Fault))
      → CountsAFault old new ⊎ ((r : RunsBoth tells name other (mirrored_answer_of answer closes.back closes.other_back) old new before after) × IsUsedUp tells r.runs.mirror_last)
  unfolding ran
  cause_of (inl ended) = by (both ended)
    where
      by : BothFailed first_last second_last ⊎ IsUsedUp tells runs.mirror_last
          → CountsAFault old new ⊎ ((r : RunsBoth tells name other (mirrored_answer_of answer closes.back closes.other_back) old new before after) × IsUsedUp tells r.runs.mirror_last)
      by (inl failed) = inl (inr (both_counted failed))
      by (inr used) = inr (ran, used)
  cause_of (inr (inl back)) = inl (inl (first_return back))
  cause_of (inr (inr back)) = inl (inl (second_return back))

  -- the bay as it was when both disks were out
  opened_may : opened.may_fail ≡ old.may_fail
  opened_may = opens.opens_second.same.may_fail ∙ opens.opens_first.same.may_fail

  opened_kept : IsTrue tells → (each : List ℕ) → opened.kept each ≡ old.kept each
  opened_kept t each = opens.opens_second.kept t each ∙ opens.opens_first.kept t each

  size : first_last.blocks ≡ first.blocks
  size = runs.goes.blocks.0 ∙ same_blocks tells runs.mirror runs.mirror_last runs.marks runs.ended before after runs.comes ∙ runs.blocks

  other_size : second_last.blocks ≡ second.blocks
  other_size = runs.goes.blocks.1 ∙ same_blocks tells runs.mirror runs.mirror_last runs.marks runs.ended before after runs.comes ∙ runs.blocks ∙ sym alike.size

  there : IsTrue tells → HasBlocks first_last.blocks (old.kept name)
  there t = has_blocks (old.kept name) first first_last.blocks (opens.opens_first.disk t) size

  other_there : IsTrue tells → HasBlocks second_last.blocks (old.kept other)
  other_there t = has_blocks (old.kept other) second second_last.blocks (subst (λ (kept : Option Kept). BeginsWith kept second) (opens.opens_first.kept t other) (opens.opens_second.disk t)) other_size

  -- a fault of a return has its reason
  first_reason : {P : Type 0} → IsTrue tells → IsTrue opened.may_fail ⊎ ¬ HasBlocks first_last.blocks (opened.kept name) → MayFailToOpen name old ⊎ P
  first_reason t (inl may) = inl (inl (sym opened_may ∙ may))
  first_reason t (inr none) = absurd (none (subst (λ (kept : Option Kept). HasBlocks first_last.blocks kept) (sym (opened_kept t name)) (there t)))

  second_reason : {P : Type 0} → IsTrue tells → IsTrue closes.between.may_fail ⊎ ¬ HasBlocks second_last.blocks (closes.between.kept other) → MayFailToOpen name old ⊎ P
  second_reason t (inl may) = inl (inl (sym (closes.closes_first.same.may_fail ∙ opened_may) ∙ may))
  second_reason t (inr none) = absurd (none (subst (λ (kept : Option Kept). HasBlocks second_last.blocks kept) (sym (closes.closes_first.others t other (λ is. apart (sym is)) ∙ opened_kept t other)) (other_there t)))

  reason_of : IsTrue tells → (answer ≡ Err (Run run.Fault)) ⊎ ((closes.back ≡ Err bay.Fault) ⊎ (closes.other_back ≡ Err bay.Fault)) → HasMirroredReason tells name other (mirrored_answer_of answer closes.back closes.other_back) old new before after
  unfolding ran
  reason_of t (inl ended) = inr (inr (inr (ran, both ended)))
  reason_of t (inr (inl back)) = first_reason t (subst (λ (r : Result (Unit {0}) BayFault). OnFault r (IsTrue opened.may_fail ⊎ ¬ HasBlocks first_last.blocks (opened.kept name))) back (closes.closes_first.fails t))
  reason_of t (inr (inr back)) = second_reason t (subst (λ (r : Result (Unit {0}) BayFault). OnFault r (IsTrue closes.between.may_fail ⊎ ¬ HasBlocks second_last.blocks (closes.between.kept other))) back (closes.closes_second.fails t))

  pub says_mirrored : SaysMirrored tells name other (mirrored_answer_of answer closes.back closes.other_back) old new before after
  says_mirrored =
      let like : is_unlike (mirrored_answer_of answer closes.back closes.other_back) ≡ false = not_closed answer closes.back closes.other_back (ap is_unlike runs.goes.answered ∙ not_of_marked runs.goes.known runs.ended) in record {
        comes = inr (inr (inr ran));
        cause = cause_by tells name other (mirrored_answer_of answer closes.back closes.other_back) old new before after like (λ is. cause_of (which answer closes.back closes.other_back is));
        reason = λ t is. reason_of t (which answer closes.back closes.other_back is);
      }

-- the same of the answer as the function has it
pub says_mirrored_by : (tells : Bool) (name other : List ℕ) → name ≢ other → (first first_last second second_last : State) (first_marks second_marks : List Mark) (answer : Result Ending MirroredRefusal) (old opened new : BayState) (before after : Streams) (result : Result Ending MirroredRefusal)
    → OpensBoth tells name other first second old opened → AreAlike tells first second → RunsOverTwo tells first first_last second_last first_marks second_marks answer before after
    → (closes : ClosesBoth tells name other first_last second_last first_marks second_marks opened new) → result ≡ mirrored_answer_of answer closes.back closes.other_back → SaysMirrored tells name other result old new before after
says_mirrored_by tells name other apart first first_last second second_last first_marks second_marks answer old opened new before after result opens alike runs closes is =
    subst (λ (r : Result Ending MirroredRefusal). SaysMirrored tells name other r old new before after) (sym is) (says_mirrored tells name other apart first first_last second second_last first_marks second_marks answer old opened new before after opens alike runs closes)
