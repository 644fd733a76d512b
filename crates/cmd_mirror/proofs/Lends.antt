-- What becomes of the bay where a run over two images made no mirror: where one disk was handed out, and where two were.
use Rattle.std.proofs.Common.{◌≡◌, ◌⊎◌, inl, inr, ℕ, ◌<◌, ◌≤◌, nat_lt, ◌||◌, Bool, true, false, IsTrue, if◌then◌else◌, List, [], None, Result, Ok, Err, refl, sym, ap, ap₂, ◌∙◌, subst, arith}
use Rattle.std.proofs.lemmas.Bool.{false≢true}
use Rattle.base_types.specs.Counts.{after_call, next_count, Rose}
use Rattle.disk_contract.specs.declared.bay.Mark.{Mark}
use Rattle.disk_contract.specs.declared.bay.BayFault.{BayFault}
use Rattle.disk_contract.specs.declared.bay.BayFault.TheVariants as bay
use Rattle.disk_contract.specs.Bay.{BayState, Closes, HasNoCounts, Opens, has_faults}
use Rattle.disk_contract.specs.Disk.{OnlyReads, State}
use Rattle.cmd_image.specs.declared.ending.Ending.{Ending}
use Rattle.cmd_image.specs.declared.ending.RunRefusal.TheVariants as run
use Rattle.cmd_image.specs.Refusals.{run_refusal_of_bay}
use Rattle.cmd_image.specs.Runs.{Streams}
use Rattle.cmd_image.specs.Shows.{FailedByManner, MayFailToOpen}
use Rattle.cmd_mirror.specs.declared.refusal.MirroredRefusal.{MirroredRefusal}
use Rattle.cmd_mirror.specs.declared.refusal.MirroredRefusal.TheVariants.{Unlike, Run}
use Rattle.cmd_mirror.specs.Comparing.{AreOnlyRead, NoneIsUnread, OneIsUnread}
use Rattle.cmd_mirror.specs.Mirrored.{ClosesBoth, ComesOfBoth, HasMirroredCause, HasMirroredReason, MakesNoMirror, MakesNone, OpensBoth, mirrored_answer_of}
use Rattle.cmd_mirror.specs.Steps.{ComparesToNone}

-- An opening.

-- the disk that was handed out, told by what is known of it
pub opened_state : {D : Type 0} (state : D → State) (tells : Bool) (name : List ℕ) (d : D) (old new : BayState) → Opens tells state name (Ok d) old new → Opens tells (λ (s : State). s) name (Ok (state d)) old new
opened_state state tells name d old new o = record { counts = o.counts; disk = o.disk; manner = o.manner; kept = o.kept; cause = o.cause; fails = o.fails; same = o.same; disk_faults = o.disk_faults; handed = o.handed; closed = o.closed }

pub refused_state : {D : Type 0} (state : D → State) (tells : Bool) (name : List ℕ) (failed : BayFault) (old new : BayState) → Opens tells state name (Err failed) old new → Opens tells (λ (s : State). s) name (Err failed) old new
refused_state state tells name failed old new o = record { counts = o.counts; disk = o.disk; manner = o.manner; kept = o.kept; cause = o.cause; fails = o.fails; same = o.same; disk_faults = o.disk_faults; handed = o.handed; closed = o.closed }

pub opens_both : {D : Type 0} (state : D → State) (tells : Bool) (name other : List ℕ) (first second : D) (old between new : BayState) → Opens tells state name (Ok first) old between → Opens tells state other (Ok second) between new
    → OpensBoth tells name other (state first) (state second) old new
opens_both state tells name other first second old between new one two = record { between = between; opens_first = opened_state state tells name first old between one; opens_second = opened_state state tells other second between new two }

-- Counts.

-- a count of the bay rose where a call of it failed
pub rose_by : (first before now last : ℕ) → first ≤ before → (before ≤ now) × ((before < now) ⊎ (now ≡ 18446744073709551615)) → now ≤ last → Rose first last
rose_by first before now last low (most, inl more) high = omega (arith, low, more, high)
rose_by first before now last low (most, inr end) high = omega (arith, low, most, end, high)

-- the bay's faults never fall as two disks are handed out
pub opening_faults : (tells : Bool) (name other : List ℕ) (first second : State) (old new : BayState) (o : OpensBoth tells name other first second old new) → old.faults ≤ new.faults
opening_faults tells name other first second old new o = omega (arith, o.opens_first.cause.0, o.opens_second.cause.0)

-- a disk with a fault of its own is counted
counted : (failed : Bool) (a b : ℕ) → failed ≡ true → b ≡ (if failed then next_count a else a) → b ≡ next_count a
counted true a b is count = count
counted false a b is count = absurd (false≢true is)

rises : (failed : Bool) (a b : ℕ) → b ≡ (if failed then next_count a else a) → b ≡ a ⊎ (b ≡ next_count a)
rises true a b count = inr count
rises false a b count = inl count

pub first_counted : (tells : Bool) (name other : List ℕ) (first second : State) (first_marks second_marks : List Mark) (old new : BayState) (c : ClosesBoth tells name other first second first_marks second_marks old new) → has_faults first ≡ true → Rose old.disk_faults new.disk_faults
first_counted tells name other first second first_marks second_marks old new c failed = by (rises (has_faults second) _ _ c.closes_second.disk_faults)
  where
    one : c.between.disk_faults ≡ next_count old.disk_faults
    one = counted (has_faults first) _ _ failed c.closes_first.disk_faults

    by : (new.disk_faults ≡ c.between.disk_faults) ⊎ (new.disk_faults ≡ next_count c.between.disk_faults) → Rose old.disk_faults new.disk_faults
    by (inl same) = omega (arith, one, same)
    by (inr more) = omega (arith, one, more)

pub second_counted : (tells : Bool) (name other : List ℕ) (first second : State) (first_marks second_marks : List Mark) (old new : BayState) (c : ClosesBoth tells name other first second first_marks second_marks old new) → has_faults first ≡ false → has_faults second ≡ true → Rose old.disk_faults new.disk_faults
second_counted tells name other first second first_marks second_marks old new c none failed =
    let one : c.between.disk_faults ≡ old.disk_faults = c.closes_first.disk_faults ∙ ap (λ (t : Bool). if t then next_count old.disk_faults else old.disk_faults) none in
    let two : new.disk_faults ≡ next_count c.between.disk_faults = counted (has_faults second) _ _ failed c.closes_second.disk_faults in
    omega (arith, one, two)

pub none_counted : (tells : Bool) (name other : List ℕ) (first second : State) (first_marks second_marks : List Mark) (old new : BayState) (c : ClosesBoth tells name other first second first_marks second_marks old new) → has_faults first ≡ false → has_faults second ≡ false → new.disk_faults ≡ old.disk_faults
none_counted tells name other first second first_marks second_marks old new c one two =
    c.closes_second.disk_faults ∙ ap (λ (t : Bool). if t then next_count c.between.disk_faults else c.between.disk_faults) two
    ∙ c.closes_first.disk_faults ∙ ap (λ (t : Bool). if t then next_count old.disk_faults else old.disk_faults) one

-- All that is said of a run over two images that read and wrote nothing.

pub record SaysUnmirrored (tells : Bool) (name other : List ℕ) (result : Result Ending MirroredRefusal) (old new : BayState) (streams : Streams) : Type 0 where
  pub comes : ComesOfBoth tells name other result old new streams streams
  pub cause : HasMirroredCause tells name other result old new streams streams
  pub reason : IsTrue tells → result ≡ Err (Run run.Fault) → HasMirroredReason tells name other result old new streams streams

-- whether the answer is a fault
abbrev pub faulty : Result Ending MirroredRefusal → Bool
faulty (Ok ending) = false
faulty (Err Unlike) = false
faulty (Err (Run run.Fault)) = true
faulty (Err (Run (run.Damaged damage))) = false
faulty (Err (Run run.Spent)) = false
faulty (Err (Run run.SinkFault)) = false
faulty (Err (Run run.NoMemory)) = false

-- another answer isn't one
pub not_fault : {P : Type 0} (answer : Result Ending MirroredRefusal) → faulty answer ≡ false → answer ≡ Err (Run run.Fault) → P
not_fault answer other is = absurd (false≢true (sym other ∙ ap faulty is))

-- the same of the answer as the function has it
pub unmirrored_by : (tells : Bool) (name other : List ℕ) (result : Result Ending MirroredRefusal) (why : MirroredRefusal) (old new : BayState) (streams : Streams) → result ≡ Err why → SaysUnmirrored tells name other (Err why) old new streams → SaysUnmirrored tells name other result old new streams
unmirrored_by tells name other result why old new streams is h = subst (λ (r : Result Ending MirroredRefusal). SaysUnmirrored tells name other r old new streams) (sym is) h

-- One disk was handed out.

-- what the bay tells of a name that has none
later : (tells : Bool) (name other : List ℕ) (first : State) (old between : BayState) → IsTrue tells → Opens tells (λ (s : State). s) name (Ok first) old between → IsTrue between.may_fail ⊎ (between.kept other ≡ None) → MayFailToOpen other old
later tells name other first old between t opens (inl may) = inl (sym opens.same.may_fail ∙ may)
later tells name other first old between t opens (inr none) = inr (sym (opens.kept t other) ∙ none)

pub lent_one : (tells : Bool) (name other : List ℕ) (first : State) (fault : BayFault) (back : Result (Unit {0}) BayFault) (old between opened new : BayState) (streams : Streams) → Opens tells (λ (s : State). s) name (Ok first) old between → Opens tells (λ (s : State). s) other (Err fault) between opened
    → Closes tells name first [] back opened new → SaysUnmirrored tells name other (Err (Run (run_refusal_of_bay fault))) old new streams
lent_one tells name other first bay.Fault back old between opened new streams opens refuses closes = record {
  comes = inr (inl (record { first = first; fault = bay.Fault; back = back; between = between; opened = opened; opens = opens; refuses = refuses; closes = closes; same = refl; answered = refl }));
  cause = inl (inl (rose_by old.faults between.faults opened.faults new.faults opens.cause.0 refuses.cause closes.cause.0));
  reason = λ t is. inr (inl (later tells name other first old between t opens (refuses.fails t)));
}
lent_one tells name other first bay.NoMemory back old between opened new streams opens refuses closes = record {
  comes = inr (inl (record { first = first; fault = bay.NoMemory; back = back; between = between; opened = opened; opens = opens; refuses = refuses; closes = closes; same = refl; answered = refl }));
  cause = tt;
  reason = λ t is. not_fault (Err (Run run.NoMemory)) refl is;
}

-- Two disks were handed out, and made no mirror.

-- a disk on which nothing happened was only read, and no read of it failed
quiet : (unread : Bool) (d now : State) → HasNoCounts d → unread ≡ false → OnlyReads unread d now → has_faults now ≡ false
quiet unread d now zero is only =
    ap₂ (λ (a b : ℕ). nat_lt 0 a || nat_lt 0 b) (only.read_faults ∙ ap (λ (t : Bool). after_call t d.read_faults) is ∙ zero.read_faults) (only.faults ∙ zero.faults)

-- a read of it failed
some : (unread : Bool) (d now : State) → HasNoCounts d → unread ≡ true → OnlyReads unread d now → now.read_faults ≡ 1
some unread d now zero is only = only.read_faults ∙ ap (λ (t : Bool). after_call t d.read_faults) is ∙ ap next_count zero.read_faults

loud : (unread : Bool) (d now : State) → HasNoCounts d → unread ≡ true → OnlyReads unread d now → has_faults now ≡ true
loud unread d now zero is only = ap (λ (n : ℕ). nat_lt 0 n || nat_lt 0 now.faults) (some unread d now zero is only)

by_manner : (unread : Bool) (d now : State) → HasNoCounts d → unread ≡ true → OnlyReads unread d now → (0 < now.read_faults → now.manner.reads_fail ≡ true) → FailedByManner now
by_manner unread d now zero is only reads = let more : 0 < now.read_faults = omega (arith, some unread d now zero is only) in inl (more, reads more)

module _ (tells : Bool) (name other : List ℕ) (first first_last second second_last : State) (old opened new : BayState) (streams : Streams) (opens : OpensBoth tells name other first second old opened)
    (closes : ClosesBoth tells name other first_last second_last [] [] opened new) (fu su : Bool) (reads : AreOnlyRead tells fu su first first_last second second_last)
    (manner_first : IsTrue tells → 0 < first_last.read_faults → first_last.manner.reads_fail ≡ true) (manner_second : IsTrue tells → 0 < second_last.read_faults → second_last.manner.reads_fail ≡ true) where
  none : (why : MirroredRefusal) → MakesNone tells why fu su first second → MakesNoMirror tells name other (Err why) old new streams streams
  none why makes = record {
    first = first;
    second = second;
    first_last = first_last;
    second_last = second_last;
    first_unread = fu;
    second_unread = su;
    why = why;
    opened = opened;
    opens = opens;
    reads = reads;
    none = makes;
    closes = closes;
    same = refl;
    answered = refl;
  }

  opened_disks : opened.disk_faults ≡ old.disk_faults
  opened_disks = opens.opens_second.disk_faults ∙ opens.opens_first.disk_faults

  unlike_counts : NoneIsUnread fu su → new.disk_faults ≡ old.disk_faults
  unlike_counts calm =
      none_counted tells name other first_last second_last [] [] opened new closes (quiet fu first first_last opens.opens_first.counts calm.0 reads.reads_first) (quiet su second second_last opens.opens_second.counts calm.1 reads.reads_second) ∙ opened_disks

  unread_counts : OneIsUnread fu su → Rose old.disk_faults new.disk_faults
  unread_counts (inl one) = subst (λ n. Rose n new.disk_faults) opened_disks (first_counted tells name other first_last second_last [] [] opened new closes (loud fu first first_last opens.opens_first.counts one.0 reads.reads_first))
  unread_counts (inr two) = subst (λ n. Rose n new.disk_faults) opened_disks (second_counted tells name other first_last second_last [] [] opened new closes (quiet fu first first_last opens.opens_first.counts two.0 reads.reads_first)
      (loud su second second_last opens.opens_second.counts two.1 reads.reads_second))

  unread_manner : IsTrue tells → OneIsUnread fu su → FailedByManner first_last ⊎ FailedByManner second_last
  unread_manner t (inl one) = inl (by_manner fu first first_last opens.opens_first.counts one.0 reads.reads_first (manner_first t))
  unread_manner t (inr two) = inr (by_manner su second second_last opens.opens_second.counts two.1 reads.reads_second (manner_second t))

  pub no_mirror : (why : MirroredRefusal) → MakesNone tells why fu su first second → SaysUnmirrored tells name other (Err why) old new streams
  unfolding none
  no_mirror Unlike makes = record {
    comes = inr (inr (inl (none Unlike makes)));
    cause = unlike_counts makes.0;
    reason = λ t is. not_fault (Err Unlike) refl is;
  }
  no_mirror (Run run.Fault) makes = record {
    comes = inr (inr (inl (none (Run run.Fault) makes)));
    cause = inl (inr (unread_counts makes.0));
    reason = λ t is. inr (inr (inl (none (Run run.Fault) makes, unread_manner t makes.0)));
  }
  no_mirror (Run (run.Damaged damage)) makes = absurd makes
  no_mirror (Run run.Spent) makes = absurd makes
  no_mirror (Run run.SinkFault) makes = absurd makes
  no_mirror (Run run.NoMemory) makes = record {
    comes = inr (inr (inl (none (Run run.NoMemory) makes)));
    cause = tt;
    reason = λ t is. not_fault (Err (Run run.NoMemory)) refl is;
  }

-- the same of two that go back with no mark, as the function has it
pub no_mirror_by : (tells : Bool) (name other : List ℕ) (first first_last second second_last : State) (first_marks second_marks : List Mark) (answer result : Result Ending MirroredRefusal) (old opened new : BayState) (streams : Streams) → OpensBoth tells name other first second old opened
    → first_marks ≡ [] → second_marks ≡ [] → ComparesToNone tells first first_last second second_last answer → (closes : ClosesBoth tells name other first_last second_last first_marks second_marks opened new) → result ≡ mirrored_answer_of answer closes.back closes.other_back
    → (IsTrue tells → 0 < first_last.read_faults → first_last.manner.reads_fail ≡ true) → (IsTrue tells → 0 < second_last.read_faults → second_last.manner.reads_fail ≡ true) → SaysUnmirrored tells name other result old new streams
no_mirror_by tells name other first first_last second second_last first_marks second_marks answer result old opened new streams opens one two none closes is manner_first manner_second =
    let bare : ClosesBoth tells name other first_last second_last [] [] opened new = subst (λ (m : List Mark). ClosesBoth tells name other first_last second_last [] m opened new) two (subst (λ (m : List Mark). ClosesBoth tells name other first_last second_last m second_marks opened new) one closes) in
    unmirrored_by tells name other result none.why old new streams (is ∙ ap (λ (a : Result Ending MirroredRefusal). mirrored_answer_of a closes.back closes.other_back) none.answered)
    (no_mirror tells name other first first_last second second_last old opened new streams opens bare none.first_unread none.second_unread none.reads manner_first manner_second none.why none.none)
