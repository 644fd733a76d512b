-- What becomes of the bay, and what is said of the image under the name, once a disk of it was shown and handed back.
use Rattle.std.proofs.Common.{◌≡◌, ◌⊎◌, inl, inr, ℕ, ◌<◌, ◌≤◌, Bool, true, false, IsTrue, if◌then◌else◌, List, [], length, take_all, Option, Some, None, Result, Ok, Err, OnOk, IfErr, refl, sym, ap, ◌∙◌, subst, arith}
use Rattle.std.proofs.lemmas.Bool.{false≢true}
use Rattle.std.specs.Io.KnownBytes.{Appends, Keeps}
use Rattle.base_types.specs.Counts.{next_count}
use Rattle.base_types.specs.Seal.{Blocks}
use Rattle.disk_contract.specs.declared.bay.Mark.{Mark}
use Rattle.disk_contract.specs.declared.bay.BayFault.{BayFault}
use Rattle.disk_contract.specs.declared.bay.BayFault.TheVariants as bay
use Rattle.disk_contract.specs.Bay.{BayState, BeginsWith, Closes, HasBlocks, Kept, Opens, has_faults}
use Rattle.disk_contract.specs.Disk.{State}
use Rattle.lang_tree.specs.Listing.{listing}
use Rattle.cmd_image.specs.Shared.{failed_by, has_blocks}
use Rattle.cmd_image.specs.Staying.{keeps}
use Rattle.cmd_image.specs.declared.show_refusal.ShowRefusal.{ShowRefusal}
use Rattle.cmd_image.specs.declared.show_refusal.ShowRefusal.TheVariants.{Fault, Damaged, Spent, SinkFault, NoMemory}
use Rattle.cmd_image.specs.Mounted.{ShowsDisk, answer_of, is_fault, of_bay}
use Rattle.cmd_image.specs.Shows.{CountsFault, FailedByManner, HandsBack, HandsOutNone, HasFaultReason, HasImage, HasMarks, HasShowCause, LeavesBay, Lists, ListsFront, MayFailToOpen, Refuses, RefusesOn, fails_pushing, says_nothing}

-- another refusal isn't a fault
not_fault : (why : ShowRefusal) → is_fault {T = Unit {0}} (Err why) ≡ false → why ≡ Fault → ⊥
not_fault why other is = false≢true (sym other ∙ ap (λ (w : ShowRefusal). is_fault {T = Unit {0}} (Err w)) is)

-- No disk was handed out.

-- a refusal before a disk came says so much
pub record RefusesUnopened (tells : Bool) (why : ShowRefusal) (taken : Option (List ℕ)) (name : List ℕ) (old new : BayState) : Type 0 where
  pub says : Refuses (old.kept name) taken taken why
  pub back : LeavesBay {T = Unit {0}} tells name (Err why) old new
  pub cause : HasShowCause {T = Unit {0}} (Err why) old new
  pub reason : IsTrue tells → why ≡ Fault → MayFailToOpen name old
  pub pushes : fails_pushing {T = Unit {0}} (Err why) ≡ false

-- a bay that opened no disk
pub unopened : {D : Type 0} (state : D → State) (tells : Bool) (taken : Option (List ℕ)) (name : List ℕ) (fault : BayFault) (old new : BayState) → Opens tells state name (Err fault) old new → RefusesUnopened tells (of_bay fault) taken name old new
unopened state tells taken name bay.Fault old new opens = record {
  says = inl (keeps taken);
  back = inl (record { kept = opens.kept; faults = opens.cause.0; disk_faults = opens.disk_faults; handed = opens.handed; closed = opens.closed });
  cause = inl opens.cause.1;
  reason = λ t is. opens.fails t;
  pushes = refl;
}
unopened state tells taken name bay.NoMemory old new opens = record {
  says = inl (keeps taken);
  back = inl (record { kept = opens.kept; faults = opens.cause.0; disk_faults = opens.disk_faults; handed = opens.handed; closed = opens.closed });
  cause = opens.disk_faults;
  reason = λ t is. absurd (not_fault NoMemory refl is);
  pushes = refl;
}

-- A disk that was handed out.

-- what holds of its blocks holds of the image under the name
image : (kept : Option Kept) (d : State) (P : ℕ → Blocks → Type 0) → BeginsWith kept d → P d.blocks d.base → HasImage kept P
image None d P none is = absurd none
image (Some kept) d P begins is = subst (λ (at : Blocks). P (length kept.image) at) begins.base (subst (λ (n : ℕ). P n d.base) begins.blocks is)

-- the whole listing is a prefix of itself
front_of : (before after : Option (List ℕ)) (n : ℕ) (at : Blocks) → Lists before after n at → ListsFront before after n at
front_of before after n at lists = record {
  tree = lists.tree;
  stands = lists.stands;
  took = (length (listing lists.tree), subst (λ (xs : List ℕ). Appends before after xs) (sym (take_all (length (listing lists.tree)) (listing lists.tree) (omega arith))) lists.took);
}

-- All that is said of a showing whose disk was handed back.
pub record ShowsBay (tells : Bool) (name : List ℕ) (before after : Option (List ℕ)) (answer result : Result (Unit {0}) ShowRefusal) (old new : BayState) : Type 0 where
  pub shown : IsTrue tells → OnOk result (HasImage (old.kept name) (Lists before after))
  pub refused : IsTrue tells → IfErr result (Refuses (old.kept name) before after)
  pub back : LeavesBay tells name result old new
  pub cause : HasShowCause result old new
  pub reason : IsTrue tells → result ≡ Err Fault → HasFaultReason tells name old new
  pub pushes : fails_pushing result ≡ fails_pushing answer
  pub silent : says_nothing result ≡ says_nothing answer

module _ {D : Type 0} (state : D → State) (tells : Bool) (name : List ℕ) (old between new : BayState) (first last : D) (marks : List Mark) (before after : Option (List ℕ)) (opens : Opens tells state name (Ok first) old between)
    (reads : IsTrue tells → 0 < (state last).read_faults → (state last).manner.reads_fail ≡ true) where
  hands : (back : Result (Unit {0}) BayFault) (closes : Closes tells name (state last) marks back between new) (answer : Result (Unit {0}) ShowRefusal) (opened : Bool) → ShowsDisk tells (state first) (state last) marks before after answer → HasMarks tells opened (state last) marks → HandsBack tells opened name old new
  hands back closes answer opened shows marked = record {
    first = state first;
    last = state last;
    marks = marks;
    between = between;
    back = back;
    opens = record { counts = opens.counts; disk = opens.disk; manner = opens.manner; kept = opens.kept; cause = opens.cause; fails = opens.fails; same = opens.same; disk_faults = opens.disk_faults; handed = opens.handed; closed = opens.closed };
    closes = closes;
    spends = shows.spends;
    marked = marked;
    crash = shows.crash;
  }

  counted : (back : Result (Unit {0}) BayFault) (closes : Closes tells name (state last) marks back between new) (failed : Bool) → has_faults (state last) ≡ failed → new.disk_faults ≡ (if failed then next_count old.disk_faults else old.disk_faults)
  counted back closes failed is =
      closes.disk_faults ∙ ap (λ (t : Bool). if t then next_count between.disk_faults else between.disk_faults) is ∙ ap (λ (n : ℕ). if failed then next_count n else n) opens.disk_faults

  under : (P : ℕ → Blocks → Type 0) → IsTrue tells → P (state first).blocks (state first).base → HasImage (old.kept name) P
  under P t is = image (old.kept name) (state first) P (opens.disk t) is

  some : Keeps before after ⊎ ListsFront before after (state first).blocks (state first).base → IsTrue tells → Keeps before after ⊎ HasImage (old.kept name) (ListsFront before after)
  some (inl nothing) t = inl nothing
  some (inr front) t = inr (under (ListsFront before after) t front)

  refuses : (why : ShowRefusal) → IsTrue tells → RefusesOn before after why (state first).blocks (state first).base → Refuses (old.kept name) before after why
  refuses Fault t says = some says t
  refuses (Damaged damage) t says = under (RefusesOn before after (Damaged damage)) t says
  refuses Spent t says = under (RefusesOn before after Spent) t says
  refuses SinkFault t says = under (RefusesOn before after SinkFault) t says
  refuses NoMemory t says = some says t

  either : (back : Result (Unit {0}) BayFault) (closes : Closes tells name (state last) marks back between new) (answer : Result (Unit {0}) ShowRefusal) → ShowsDisk tells (state first) (state last) marks before after answer → (marks ≡ []) ⊎ HasMarks tells true (state last) marks → HandsOutNone tells old new ⊎ (HandsBack tells false name old new ⊎ HandsBack tells true name old new)
  either back closes answer shows (inl none) = inr (inl (hands back closes answer false shows none))
  either back closes answer shows (inr one) = inr (inr (hands back closes answer true shows one))

  leaves : (back : Result (Unit {0}) BayFault) (closes : Closes tells name (state last) marks back between new) (why : ShowRefusal) → ShowsDisk {T = Unit {0}} tells (state first) (state last) marks before after (Err why) → LeavesBay {T = Unit {0}} tells name (Err why) old new
  leaves back closes Fault shows = either back closes (Err Fault) shows shows.marked
  leaves back closes (Damaged damage) shows = hands back closes (Err (Damaged damage)) false shows shows.marked
  leaves back closes Spent shows = hands back closes (Err Spent) false shows shows.marked
  leaves back closes SinkFault shows = hands back closes (Err SinkFault) true shows shows.marked
  leaves back closes NoMemory shows = either back closes (Err NoMemory) shows shows.marked

  causes : (back : Result (Unit {0}) BayFault) (closes : Closes tells name (state last) marks back between new) (why : ShowRefusal) → has_faults (state last) ≡ is_fault {T = Unit {0}} (Err why) → HasShowCause {T = Unit {0}} (Err why) old new
  causes back closes Fault is = inr (counted back closes true is)
  causes back closes (Damaged damage) is = counted back closes false is
  causes back closes Spent is = counted back closes false is
  causes back closes SinkFault is = counted back closes false is
  causes back closes NoMemory is = counted back closes false is

  rose : (between.faults ≤ new.faults) × ((between.faults < new.faults) ⊎ (new.faults ≡ 18446744073709551615)) → CountsFault old new
  rose (most, inl more) = inl (inl (omega (arith, opens.cause.0, more)))
  rose (most, inr end) = inl (inr end)

  -- a fault of the disk has its reason
  disk_reason : (back : Result (Unit {0}) BayFault) (closes : Closes tells name (state last) marks back between new) → IsTrue tells → (answer : Result (Unit {0}) ShowRefusal) → ShowsDisk tells (state first) (state last) marks before after answer → is_fault answer ≡ true → HasFaultReason tells name old new
  unfolding hands
  disk_reason back closes t (Ok x) shows is = absurd (false≢true is)
  disk_reason back closes t (Err Fault) shows is = by shows.marked
    where
      failed : FailedByManner (state last)
      failed = failed_by (state last) shows.faults (reads t) (shows.cause t)

      by : (marks ≡ []) ⊎ HasMarks tells true (state last) marks → HasFaultReason tells name old new
      by (inl none) = inr (false, hands back closes (Err Fault) false shows none, failed)
      by (inr one) = inr (true, hands back closes (Err Fault) true shows one, failed)
  disk_reason back closes t (Err (Damaged damage)) shows is = absurd (false≢true is)
  disk_reason back closes t (Err Spent) shows is = absurd (false≢true is)
  disk_reason back closes t (Err SinkFault) shows is = absurd (false≢true is)
  disk_reason back closes t (Err NoMemory) shows is = absurd (false≢true is)

  -- and so has one of the bay as the disk goes back
  bay_reason : IsTrue tells → (answer : Result (Unit {0}) ShowRefusal) → ShowsDisk tells (state first) (state last) marks before after answer → IsTrue between.may_fail ⊎ ¬ HasBlocks (state last).blocks (between.kept name) → HasFaultReason tells name old new
  bay_reason t answer shows (inl may) = inl (inl (sym opens.same.may_fail ∙ may))
  bay_reason t answer shows (inr none) = absurd (none (subst (λ (kept : Option Kept). HasBlocks (state last).blocks kept) (sym (opens.kept t name)) (has_blocks (old.kept name) (state first) (state last) (opens.disk t) shows.spends.blocks)))

  pub shows_bay : (back : Result (Unit {0}) BayFault) → Closes tells name (state last) marks back between new → (answer : Result (Unit {0}) ShowRefusal) → ShowsDisk tells (state first) (state last) marks before after answer → ShowsBay tells name before after answer (answer_of answer back) old new
  unfolding hands
  shows_bay back closes answer shows = by answer back shows closes
    where
      whole : (x : Unit {0}) → ShowsDisk tells (state first) (state last) marks before after (Ok x) → IsTrue tells → HasImage (old.kept name) (Lists before after)
      whole x shows t = under (Lists before after) t (shows.says t)

      part : (x : Unit {0}) → ShowsDisk tells (state first) (state last) marks before after (Ok x) → IsTrue tells → HasImage (old.kept name) (ListsFront before after)
      part x shows t = under (ListsFront before after) t (front_of before after (state first).blocks (state first).base (shows.says t))

      by : (a : Result (Unit {0}) ShowRefusal) (b : Result (Unit {0}) BayFault) → ShowsDisk tells (state first) (state last) marks before after a → Closes tells name (state last) marks b between new → ShowsBay tells name before after a (answer_of a b) old new
      by (Err why) b shows closed = record { shown = λ t. tt; refused = λ t. refuses why t (shows.says t); back = leaves b closed why shows; cause = causes b closed why shows.faults; reason = λ t is. disk_reason b closed t (Err why) shows (ap is_fault is); pushes = refl; silent = refl }
      by (Ok x) (Ok y) shows closed = record { shown = whole x shows; refused = λ t. tt; back = (hands (Ok y) closed (Ok x) true shows shows.marked, refl); cause = counted (Ok y) closed false shows.faults; reason = λ t is. absurd (false≢true (ap is_fault is)); pushes = refl; silent = refl }
      by (Ok x) (Err bay.Fault) shows closed = record { shown = λ t. tt; refused = λ t. inr (part x shows t); back = inr (inr (hands (Err bay.Fault) closed (Ok x) true shows shows.marked)); cause = rose closed.cause; reason = λ t is. bay_reason t (Ok x) shows (closed.fails t); pushes = refl; silent = refl }
      by (Ok x) (Err bay.NoMemory) shows closed = record { shown = λ t. tt; refused = λ t. inr (part x shows t); back = inr (inr (hands (Err bay.NoMemory) closed (Ok x) true shows shows.marked)); cause = counted (Err bay.NoMemory) closed false shows.faults; reason = λ t is. absurd (false≢true (ap is_fault is)); pushes = refl; silent = refl }
