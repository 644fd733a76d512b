-- Two calls, one behind the other.
use Rattle.std.proofs.Common.{◌≡◌, ℕ, ◌≤◌, ◌==◌, Bool, false, ◌||◌, List, [], ◌∷◌, ◌++◌, arith, ⊎_elim, inl, inr, ◌∙◌, refl, sym, ap, append_assoc, length, length-append}
use Rattle.std.proofs.Math.Logic.{∥∥₁_map}
use Rattle.std.proofs.lemmas.List.{append-nil}
use Rattle.std.proofs.lemmas.Bool.{or_parts}
use Rattle.base_types.specs.Counts.{after_call}
use Rattle.base_types.specs.Seal.{Blocks}
use Rattle.disk_contract.specs.declared.event.Event.{Event}
use Rattle.disk_contract.specs.declared.event.Event.TheVariants.{Wrote, Lost, Noticed}
use Rattle.disk_contract.specs.Cell.{is_accepted}
use Rattle.disk_contract.specs.Disk.{Grows}
use Rattle.engine_blocks.specs.State.{RecordsView, State}
use Rattle.engine_blocks.specs.Calls.{UsesDisk}
use Rattle.engine_blocks.specs.Crashes.{HoldsPointBetween, AwaitsSince, Advances, IssuesNothing, IsTold, SameRecords}
use Rattle.engine_blocks.specs.Effects.{LeavesDisk}

-- a map of a point in the middle is one in the end
kept : (old mid new : State) → Advances old mid → Advances mid new → (m : Blocks) → HoldsPointBetween mid old.books.floor mid.books.point m → HoldsPointBetween new old.books.floor new.books.point m
kept old mid new a b m i = record { point = i.point; from = i.from; upto = omega (arith, i.upto, b.last); map = i.map; holds = (b.holds m i.map).1 i.holds; is = (b.point i.point i.map i.upto).1 i.is }

-- the floor only rises
lower : (old mid new : State) → Advances old mid → (m : Blocks) → HoldsPointBetween new mid.books.floor new.books.point m → HoldsPointBetween new old.books.floor new.books.point m
lower old mid new a m i = record { point = i.point; from = omega (arith, a.floor, i.from); upto = i.upto; map = i.map; holds = i.holds; is = i.is }

-- a log that goes on goes on from where it had come to
grows_on : (old mid new : List Event) → Grows old mid → Grows mid new → Grows old new
grows_on old mid new a b = record { more = a.more ++ b.more; log = b.log ∙ ap (λ (es : List Event). es ++ b.more) a.log ∙ append_assoc old a.more b.more }

-- a write that is accepted in none of the events of a log was in none of its first ones
not_before : (t : ℕ) (old more : List Event) → is_accepted t (old ++ more) ≡ false → is_accepted t old ≡ false
not_before t [] more none = refl
not_before t (Wrote u b x ∷ old) more none = ap (λ own. own || is_accepted t old) ((or_parts (u == t) (is_accepted t (old ++ more)) none).0) ∙ not_before t old more ((or_parts (u == t) (is_accepted t (old ++ more)) none).1)
not_before t (Lost b x ∷ old) more none = not_before t old more none
not_before t (Noticed u ∷ old) more none = not_before t old more none

-- what is new since the middle is new since the beginning
since_before : (old mid : State) → Advances old mid → (p t : ℕ) → AwaitsSince mid p t → AwaitsSince old p t
since_before old mid a p t since = record { point = omega (arith, a.last, since.point); ticket = not_before t old.crash.log a.grows.more (ap (is_accepted t) (sym a.grows.log) ∙ since.ticket) }

-- of records the same is known, twice
records_on : (old mid new : RecordsView) → SameRecords old mid → SameRecords mid new → SameRecords old new
records_on old mid new a b = record { told = b.told ∙ a.told; starts = λ log n. (λ is. (a.starts log n).0 ((b.starts log n).0 is), λ is. (b.starts log n).1 ((a.starts log n).1 is)) }

pub records_not : (r : RecordsView) → SameRecords r r
records_not r = record { told = refl; starts = λ log n. (λ is. is, λ is. is) }

pub advances_on : (old mid new : State) → Advances old mid → Advances mid new → Advances old new
advances_on old mid new a b = record {
  base = b.base ∙ a.base;
  grows = grows_on old.crash.log mid.crash.log new.crash.log a.grows b.grows;
  window = λ m left. ⊎_elim (λ was. ∥∥₁_map (a.window m was) (kept old mid new a b m)) (λ late. ∥∥₁_map late (lower old mid new a m)) (b.earlier (length old.crash.log) m later left);
  earlier = λ t m before left. ⊎_elim
      (λ was. ⊎_elim inl (λ point. inr (∥∥₁_map point (kept old mid new a b m))) (a.earlier t m before was))
      (λ late. inr (∥∥₁_map late (lower old mid new a m)))
      (b.earlier t m (omega (arith, before, later)) left);
  point = λ p m low. (λ is. (a.point p m low).0 ((b.point p m (omega (arith, low, a.last))).0 is), λ is. (b.point p m (omega (arith, low, a.last))).1 ((a.point p m low).1 is));
  holds = λ img m. (λ is. (a.holds img m).0 ((b.holds img m).0 is), λ is. (b.holds img m).1 ((a.holds img m).1 is));
  sure = λ log p. (λ is. (a.sure log p).0 ((b.sure log p).0 is), λ is. (b.sure log p).1 ((a.sure log p).1 is));
  records = records_on old.crash.records mid.crash.records new.crash.records a.records b.records;
  last = omega (arith, a.last, b.last);
  floor = omega (arith, a.floor, b.floor);
  awaits = λ p t waits. ⊎_elim (a.awaits p t) (λ since. inr (since_before old mid a p t since)) (b.awaits p t waits);
}
  where
    later : length old.crash.log ≤ length mid.crash.log
    later = omega (arith, ap (λ (es : List Event). length es) a.grows.log, length-append old.crash.log a.grows.more)

-- nothing is issued, twice
pub nothing_on : (old mid new : State) → IssuesNothing old mid → IssuesNothing mid new → IssuesNothing old new
nothing_on old mid new a b = record {
  base = b.base ∙ a.base;
  log = b.log ∙ a.log;
  point = λ p m. (λ is. (a.point p m).0 ((b.point p m).0 is), λ is. (b.point p m).1 ((a.point p m).1 is));
  left = λ t m. (λ is. (a.left t m).0 ((b.left t m).0 is), λ is. (b.left t m).1 ((a.left t m).1 is));
  holds = λ img m. (λ is. (a.holds img m).0 ((b.holds img m).0 is), λ is. (b.holds img m).1 ((a.holds img m).1 is));
  sure = λ log p. (λ is. (a.sure log p).0 ((b.sure log p).0 is), λ is. (b.sure log p).1 ((a.sure log p).1 is));
  records = records_on old.crash.records mid.crash.records new.crash.records a.records b.records;
  issued = λ m. (λ is. (a.issued m).0 ((b.issued m).0 is), λ is. (b.issued m).1 ((a.issued m).1 is));
  awaits = λ p t. (λ is. (a.awaits p t).0 ((b.awaits p t).0 is), λ is. (b.awaits p t).1 ((a.awaits p t).1 is));
}

-- the disk is left alone where nothing is done
pub leaves_not : (tells : Bool) (s : State) → LeavesDisk tells s s
leaves_not tells s = record {
  counts = refl;
  crash = λ t. record {
    base = refl;
    log = refl;
    point = λ p m. (λ is. is, λ is. is);
    left = λ t m. (λ is. is, λ is. is);
    holds = λ img m. (λ is. is, λ is. is);
    sure = λ log p. (λ is. is, λ is. is);
    records = records_not s.crash.records;
    issued = λ m. (λ is. is, λ is. is);
    awaits = λ p t. (λ is. is, λ is. is);
  };
}

-- a call that issues nothing is one in which time goes on, if the points' numbers stay
pub nothing_advances : (old new : State) → IsTold old → new.books.point ≡ old.books.point → new.books.floor ≡ old.books.floor → IssuesNothing old new → Advances old new
nothing_advances old new told e f a = record {
  base = a.base;
  grows = record { more = []; log = a.log ∙ sym (append-nil old.crash.log) };
  window = λ m left. ∥∥₁_map (told.now m ((a.left (length old.crash.log) m).0 left)) (λ i. record { point = i.point; from = i.from; upto = omega (arith, i.upto, e); map = i.map; holds = (a.holds m i.map).1 i.holds; is = (a.point i.point i.map).1 i.is });
  earlier = λ t m before left. inl ((a.left t m).0 left);
  point = λ p m low. a.point p m;
  holds = λ img m. a.holds img m;
  sure = λ log p. a.sure log p;
  records = a.records;
  last = omega (arith, e);
  floor = omega (arith, f);
  awaits = λ p t waits. inl ((a.awaits p t).0 waits);
}

-- the disk's counts over two calls, of which the first didn't fail
pub disk_on : (failed : Bool) (old mid new : State) → UsesDisk false old mid → UsesDisk failed mid new → UsesDisk failed old new
disk_on failed old mid new a b = record {
  faults = b.faults ∙ ap (after_call failed) a.faults;
  stopped = b.stopped;
  read_faults = b.read_faults ∙ a.read_faults;
  waits = omega (arith, a.waits, b.waits);
}
