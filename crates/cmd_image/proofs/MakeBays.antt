-- What becomes of the bay, once a disk of it was formatted and handed back.
use Rattle.std.proofs.Common.{◌≡◌, ◌⊎◌, inl, inr, ⊎_elim, ℕ, ◌+◌, ◌<◌, ◌≤◌, ◌||◌, Bool, true, false, IsTrue, if◌then◌else◌, nat_lt, List, [], Option, replicate, Result, Ok, Err, OnOk, refl, sym, ap, ap₂, ◌∙◌, subst, arith}
use Rattle.std.proofs.lemmas.Bool.{false≢true}
use Rattle.std.proofs.lemmas.List.{length-replicate}
use Rattle.base_types.specs.Counts.{after_call, next_count}
use Rattle.disk_contract.specs.declared.bay.BayFault.{BayFault}
use Rattle.disk_contract.specs.declared.bay.BayFault.TheVariants as bay
use Rattle.disk_contract.specs.Bay.{BayState, Closes, HasBlocks, HasNoCounts, Kept, Makes, TakesBack, fresh, has_faults, zero_blocks}
use Rattle.disk_contract.specs.Disk.{State, HasFailed}
use Rattle.layout_geometry.specs.Geometry.{Geometry, data_start, geometry_fits}
use Rattle.engine_mount.specs.Mount.{IsIdle}
use Rattle.engine_store.specs.declared.formatting.MkfsRefusal.{MkfsRefusal}
use Rattle.engine_store.specs.declared.formatting.MkfsRefusal.TheVariants as mkfs
use Rattle.engine_store.specs.Formatting.{AddsFormatting, fails_formatting, IsFormattedOver, MkfsSpends, WritesBelow}
use Rattle.cmd_image.specs.Staying.{is_make_fault}
use Rattle.cmd_image.specs.Shows.{CountsFault, HasImage}
use Rattle.cmd_image.specs.declared.make_refusal.MakeRefusal.{MakeRefusal}
use Rattle.cmd_image.specs.declared.make_refusal.MakeRefusal.TheVariants.{Fault, NoMemory}
use Rattle.cmd_image.specs.Makes.{HasMakeCause, HasMakeReason, IsFormattedImage, MakeHandsBack, make_answer_of}
use Rattle.cmd_image.proofs.Images.{FormattedLaws, rests, under}

-- whether a formatting failed by a call of the disk
fails : Result (Unit {0}) MkfsRefusal → Bool
fails (Ok x) = false
fails (Err mkfs.DiskFault) = true
fails (Err mkfs.NoMemory) = false

-- a disk whose counts were 0 has faults where one was counted
faulty : (failed : Bool) (d : State) → d.read_faults ≡ 0 → d.faults ≡ after_call failed 0 → has_faults d ≡ failed
faulty failed d reads others = ap₂ (λ (r f : ℕ). nat_lt 0 r || nat_lt 0 f) reads others ∙ by failed
  where
    by : (f : Bool) → (nat_lt 0 0 || nat_lt 0 (after_call f 0)) ≡ f
    by true = refl
    by false = refl

-- so it has where the formatting failed by a call of it
spent : (written : Result (Unit {0}) MkfsRefusal) (count : ℕ) (first last : State) → HasNoCounts first → MkfsSpends written count first last → has_faults last ≡ fails written
unfolding fails
spent (Ok x) count first last none spends = faulty false last (spends.read_faults ∙ none.read_faults) (spends.faults ∙ ap (after_call false) none.faults)
spent (Err mkfs.DiskFault) count first last none spends = faulty true last (spends.read_faults ∙ none.read_faults) (spends.faults ∙ ap (after_call true) none.faults)
spent (Err mkfs.NoMemory) count first last none same = ap has_faults same ∙ faulty false first none.read_faults none.faults

-- A disk was made, it was formatted, and it went back with no mark: what these three calls say of the bay and of the disk.
pub record BetweenCalls {D : Type 0} (state : D → State) (tells : Bool) (name : List ℕ) (g : Geometry) (old between new : BayState) (first last : D) (written : Result (Unit {0}) MkfsRefusal) (back : Result (Unit {0}) BayFault) : Type 0 where
  pub makes : Makes tells state name g.n (Ok first) old between
  pub spends : MkfsSpends written (data_start g + 1) (state first) (state last)
  pub closes : Closes tells name (state last) [] back between new
  pub failed : IsTrue tells → fails_formatting written ≡ true → HasFailed (state last)

module _ {D : Type 0} (state : D → State) (tells : Bool) (name : List ℕ) (g : Geometry) (old between new : BayState) (first last : D) (written : Result (Unit {0}) MkfsRefusal) (back : Result (Unit {0}) BayFault) (calls : BetweenCalls state tells name g old between new first last written back) where
  counted : (failed : Bool) → has_faults (state last) ≡ failed → new.disk_faults ≡ (if failed then next_count old.disk_faults else old.disk_faults)
  counted failed is =
      calls.closes.disk_faults ∙ ap (λ (t : Bool). if t then next_count between.disk_faults else between.disk_faults) is ∙ ap (λ (n : ℕ). if failed then next_count n else n) calls.makes.disk_faults

  rose : (between.faults ≤ new.faults) × ((between.faults < new.faults) ⊎ (new.faults ≡ 18446744073709551615)) → CountsFault old new
  rose (most, inl more) = inl (inl (omega (arith, calls.makes.cause.0, more)))
  rose (most, inr end) = inl (inr end)

  -- where a fault comes from
  pub cause : HasMakeCause (make_answer_of written back) old new
  unfolding fails
  cause = by written back (spent written (data_start g + 1) (state first) (state last) calls.makes.counts calls.spends) calls.closes
    where
      by : (w : Result (Unit {0}) MkfsRefusal) (b : Result (Unit {0}) BayFault) → has_faults (state last) ≡ fails w → Closes tells name (state last) [] b between new → HasMakeCause (make_answer_of w b) old new
      by (Ok x) (Ok y) is closed = counted false is
      by (Ok x) (Err bay.Fault) is closed = rose closed.cause
      by (Ok x) (Err bay.NoMemory) is closed = counted false is
      by (Err mkfs.DiskFault) b is closed = inr (counted true is)
      by (Err mkfs.NoMemory) b is closed = counted false is

  -- the disk went back
  pub hands : (result : Result (Unit {0}) MakeRefusal) → result ≡ make_answer_of written back → (IsTrue tells → OnOk written (AddsFormatting g (state first).log (state last).log)) → (IsTrue tells → WritesBelow (data_start g) (state first).log (state last).log) → MakeHandsBack tells name g result old new
  hands result answer adds below = record {
    first = state first;
    last = state last;
    between = between;
    written = written;
    back = back;
    makes = record { size = calls.makes.size; counts = calls.makes.counts; disk = calls.makes.disk; manner = calls.makes.manner; kept = calls.makes.kept; image = calls.makes.image; others = calls.makes.others; cause = calls.makes.cause; fails = calls.makes.fails; same = calls.makes.same; disk_faults = calls.makes.disk_faults; handed = calls.makes.handed; closed = calls.makes.closed };
    adds = adds;
    below = below;
    spends = calls.spends;
    closes = calls.closes;
    answer = answer;
  }

  -- the disk has as many blocks as the image that was made
  blocks_stay : (w : Result (Unit {0}) MkfsRefusal) → MkfsSpends w (data_start g + 1) (state first) (state last) → (state last).blocks ≡ g.n
  blocks_stay (Ok x) spent = spent.same.blocks ∙ calls.makes.size
  blocks_stay (Err mkfs.DiskFault) spent = spent.same.blocks ∙ calls.makes.size
  blocks_stay (Err mkfs.NoMemory) spent = ap (λ (d : State). d.blocks) spent ∙ calls.makes.size

  there : IsTrue tells → HasBlocks (state last).blocks (between.kept name)
  there t = subst (λ (kept : Option Kept). HasBlocks (state last).blocks kept) (sym (calls.makes.kept t)) (length-replicate g.n (replicate 1024 0) ∙ sym (blocks_stay written calls.spends))

  -- why a fault comes
  pub reason : (result : Result (Unit {0}) MakeRefusal) → result ≡ make_answer_of written back → (IsTrue tells → OnOk written (AddsFormatting g (state first).log (state last).log)) → (IsTrue tells → WritesBelow (data_start g) (state first).log (state last).log)
      → IsTrue tells → result ≡ Err Fault → HasMakeReason tells name g result old new
  unfolding is_make_fault hands
  reason result answer adds below t fault = by written back calls.spends calls.closes (calls.failed t) (ap is_make_fault (sym answer ∙ fault))
    where
      by : (w : Result (Unit {0}) MkfsRefusal) (b : Result (Unit {0}) BayFault) → MkfsSpends w (data_start g + 1) (state first) (state last) → Closes tells name (state last) [] b between new → (fails_formatting w ≡ true → HasFailed (state last)) → is_make_fault (make_answer_of w b) ≡ true → HasMakeReason tells name g result old new
      by (Ok x) (Ok y) spent closed failed is = absurd (false≢true is)
      by (Ok x) (Err bay.Fault) spent closed failed is = ⊎_elim (λ may. inl (sym calls.makes.same.may_fail ∙ may)) (λ none. absurd (none (there t))) (closed.fails t)
      by (Ok x) (Err bay.NoMemory) spent closed failed is = absurd (false≢true is)
      by (Err mkfs.DiskFault) b spent closed failed is = inr (hands result answer adds below, inr (omega (arith, spent.faults, calls.makes.counts.faults), failed refl))
      by (Err mkfs.NoMemory) b spent closed failed is = absurd (false≢true is)

  -- what is under the name
  pub made : FormattedLaws → geometry_fits g ≡ true → data_start g ≤ g.n → IsTrue tells → (IsIdle (state first) → OnOk written (IsFormattedOver g (state first) (state last))) → OnOk (make_answer_of written back) (HasImage (new.kept name) (IsFormattedImage g))
  made laws fits room t formats = by written back calls.spends calls.closes (formats (rests (zero_blocks g.n) (state first) (calls.makes.disk t)))
    where
      by : (w : Result (Unit {0}) MkfsRefusal) (b : Result (Unit {0}) BayFault) → MkfsSpends w (data_start g + 1) (state first) (state last) → Closes tells name (state last) [] b between new → OnOk w (IsFormattedOver g (state first) (state last)) → OnOk (make_answer_of w b) (HasImage (new.kept name) (IsFormattedImage g))
      by (Ok x) (Ok y) spent closed over =
          under laws g fits room (state first) (state last) (calls.makes.disk t) (spent.same.blocks ∙ calls.makes.size) over [] (fresh (zero_blocks g.n)) (new.kept name) (subst (λ (kept : Option Kept). TakesBack (state last) [] kept (new.kept name)) (calls.makes.kept t) (closed.kept t))
      by (Ok x) (Err _) spent closed over = tt
      by (Err _) b spent closed over = tt
