-- Segments that go from the front of a log, one after the other.
use Rattle.std.proofs.Common.{◌≡◌, inl, inr, ◌∷◌, ◌++◌, ℕ, ◌+◌, ◌≤◌, nat_le, true, List, [], drop, length, map, slice_get, Some, refl, sym, ◌∙◌, ap, subst, arith}
use Rattle.std.proofs.lemmas.Bool.{false≢true}
use Rattle.std.proofs.lemmas.Bool.Decides.{nat_tests}
use Rattle.std.proofs.lemmas.List.{drop-drop, length-append}
use Rattle.std.proofs.lemmas.Option.{same_Some}
use Rattle.lang_tree.specs.declared.command.Cmd.{Cmd}
use Rattle.lang_tree.specs.Tree.{Tree}
use Rattle.lang_log.specs.Answers.{MayBegin, trimmed_by}
use Rattle.lang_log.specs.History.{History, trimmed_to}
use Rattle.lang_log.specs.Log.{IsLogOf, IsMadeOf, Log, next_of}
use Rattle.lang_log.specs.Segments.{Segment, appends_in}
use Rattle.engine_blocks.specs.Crashes.{Advances}
use Rattle.engine_blocks.specs.State.{State}
use Rattle.fs_commands.specs.Opened.{blocks_in}
use Rattle.fs_log.specs.Causes.{AsksToRemove, AsksToTrim, RemovesBelow}
use Rattle.fs_log.specs.Keeping.{Goes, Keeps, TakesLog, as_before}
use Rattle.fs_log.specs.Open.{Mirrors, Open, may_go, second_of, state_in}
use Rattle.fs_log.specs.Trimming.{TrimsTo, Went}
use Rattle.fs_log.proofs.Holding.{same_log}
use Rattle.fs_log.proofs.Syncing.{same_history}
use Rattle.fs_log.proofs.Windows.{get_dropped}
use Rattle.fs_log.proofs.Writing.{takes_twice}

low_enough : (second number : ℕ) → nat_le second number ≡ true → second ≤ number
low_enough second number may = grind (arith, nat_tests)

went_more : (number : ℕ) (firsts lows mid : List ℕ) → Went number firsts lows mid → may_go number mid ≡ true → Went number firsts (lows ++ second_of mid ∷ []) (drop 1 mid)
went_more number firsts [] [] is may = absurd (false≢true may)
went_more number firsts [] (a ∷ []) is may = absurd (false≢true may)
went_more number firsts [] (a ∷ b ∷ mid) is may = subst (λ (q : List ℕ). Went number q (b ∷ []) (b ∷ mid)) is (refl, low_enough b number may, refl)
went_more number [] (low ∷ lows) mid went may = absurd went
went_more number (a ∷ []) (low ∷ lows) mid went may = absurd went
went_more number (a ∷ b ∷ firsts) (low ∷ lows) mid went may = (went.0, went.1, went_more number (b ∷ firsts) lows mid went.2 may)

-- the second of the segments, where that may go, has a number up to which the log is trimmed
two_of : (number : ℕ) (firsts : List ℕ) → may_go number firsts ≡ true → 2 ≤ length firsts
two_of number [] may = absurd (false≢true may)
two_of number (a ∷ []) may = absurd (false≢true may)
two_of number (a ∷ b ∷ firsts) may = omega arith

second_upto : (number : ℕ) (firsts : List ℕ) → may_go number firsts ≡ true → second_of firsts ≤ number
second_upto number [] may = absurd (false≢true may)
second_upto number (a ∷ []) may = absurd (false≢true may)
second_upto number (a ∷ b ∷ firsts) may = low_enough b number may

-- the second of the segments of a log begins among its numbers, or behind the last one
second_in : (segments : List Segment) (l : Log) → IsMadeOf segments l → 2 ≤ length (map (λ (s : Segment). s.first) segments)
    → (l.low ≤ second_of (map (λ (s : Segment). s.first) segments)) × (second_of (map (λ (s : Segment). s.first) segments) ≤ next_of l)
second_in [] l made two = absurd (omega (arith, two))
second_in (s ∷ []) l made two = absurd (omega (arith, two))
second_in (s ∷ r ∷ rest) l made two = (
  omega (arith, made.row.1.0),
  omega (arith, made.row.1.0, ap (λ (q : List (List ℕ)). length q) made.appends, length-append s.appends (appends_in (r ∷ rest))),
)

-- the second of the numbers in memory lies between those of the log as it is now
abbrev pub IsSecondOf : List ℕ → Log → Type 0
IsSecondOf firsts l = (l.low ≤ second_of firsts) × (second_of firsts ≤ next_of l)

pub second_is : ((t : Tree) (l k : Log) → IsLogOf t l → IsLogOf t k → l ≡ k) → (s : State) (firsts : List ℕ) (size next : ℕ) (h : History) → Mirrors s firsts size next → Keeps h s → 2 ≤ length firsts → IsSecondOf firsts h.now
second_is one s firsts size next h m keeps two =
    subst (λ (l : Log). IsSecondOf firsts l) (sym (same_log one s m.segments m.log h m.holds keeps))
    (subst (λ (q : List ℕ). IsSecondOf q m.log) (sym m.firsts_are) (second_in m.segments m.log m.holds.made (subst (λ (q : List ℕ). 2 ≤ length q) m.firsts_are two)))

-- a log that came to begin with some numbers may come to begin with one more
may_more : (number : ℕ) (lows : List ℕ) (low : ℕ) (h : History) → MayBegin number h.now lows → (trimmed_by lows h).now.low ≤ low → low ≤ next_of (trimmed_by lows h).now → low ≤ number → MayBegin number h.now (lows ++ low ∷ [])
may_more number [] low h may from upto below = (from, upto, below, tt)
may_more number (first ∷ lows) low h may from upto below = (may.0, may.1, may.2, may_more number lows low (trimmed_to first h) may.3 from upto below)

trimmed_more : (lows : List ℕ) (low : ℕ) (h : History) → trimmed_by (lows ++ low ∷ []) h ≡ trimmed_to low (trimmed_by lows h)
trimmed_more [] low h = refl
trimmed_more (first ∷ lows) low h = trimmed_more lows low (trimmed_to first h)

module _ {S : Type 0} (state : S → State) (both : (old mid new : S) → Advances (state old) (state mid) → Advances (state mid) (state new) → Advances (state old) (state new)) (number : ℕ) (old mid new : Open S) (trims : TrimsTo state number old mid) where
  pub trims_more : may_go number mid.firsts ≡ true → (2 ≤ length mid.firsts → (k : History) → Keeps k (state_in state mid) → IsSecondOf mid.firsts k.now) → new.firsts ≡ drop 1 mid.firsts → TakesLog (trimmed_to (second_of mid.firsts)) (state_in state mid) (state_in state new) → TrimsTo state number old new
  trims_more may second gone takes = record {
    lows = trims.lows ++ second_of mid.firsts ∷ [];
    went = subst (Went number old.firsts (trims.lows ++ second_of mid.firsts ∷ [])) (sym gone) (went_more number old.firsts trims.lows mid.firsts trims.went may);
    may = λ h keeps.
        let is = second (two_of number mid.firsts may) (trimmed_by trims.lows h) (trims.takes h keeps).keeps in
        may_more number trims.lows (second_of mid.firsts) h (trims.may h keeps) is.0 is.1 (second_upto number mid.firsts may);
    takes = λ h keeps. subst (λ (k : History). Goes h k (state_in state old) (state_in state new)) (sym (trimmed_more trims.lows (second_of mid.firsts) h))
        (takes_twice state both (trimmed_by trims.lows) (trimmed_to (second_of mid.firsts)) (λ k l may. inr may) (blocks_in old.fs) (blocks_in mid.fs) (blocks_in new.fs) trims.takes takes h keeps);
  }

  pub trims_still : new.firsts ≡ mid.firsts → TakesLog as_before (state_in state mid) (state_in state new) → TrimsTo state number old new
  trims_still same takes = record {
    lows = trims.lows;
    went = subst (Went number old.firsts trims.lows) (sym same) trims.went;
    may = trims.may;
    takes = takes_twice state both (trimmed_by trims.lows) as_before same_history (blocks_in old.fs) (blocks_in mid.fs) (blocks_in new.fs) trims.takes takes;
  }

-- before any segment went
pub trims_none : {S : Type 0} (state : S → State) (number : ℕ) (l : Open S) → TakesLog as_before (state_in state l) (state_in state l) → TrimsTo state number l l
trims_none state number l takes = record { lows = []; went = refl; may = λ h keeps. tt; takes = takes }

-- the removal of the first of those that are left is one of a trim
pub removes_so : {S : Type 0} (number : ℕ) (old mid : Open S) (at : ℕ) → mid.firsts ≡ drop at old.firsts → may_go number mid.firsts ≡ true → (cmd : Cmd) → AsksToRemove mid cmd → AsksToTrim old number cmd
removes_so number old mid at left may cmd (inr is) = inr is
removes_so number old mid at left may cmd (inl (first, there, is)) = inl (by mid.firsts left may there)
  where
    by : (firsts : List ℕ) → firsts ≡ drop at old.firsts → may_go number firsts ≡ true → slice_get firsts 0 ≡ Some first → RemovesBelow old.firsts number cmd
    by [] left may there = absurd (false≢true may)
    by (a ∷ []) left may there = absurd (false≢true may)
    by (a ∷ b ∷ firsts) left may there = record {
      at = at;
      first = first;
      second = b;
      there = subst (λ (n : ℕ). slice_get old.firsts at ≡ Some n) (same_Some a first there) (get_dropped old.firsts at a (b ∷ firsts) (sym left));
      next = get_dropped old.firsts (at + 1) b firsts (sym (drop-drop 1 at old.firsts) ∙ ap (λ (q : List ℕ). drop 1 q) (sym left));
      low = low_enough b number may;
      is = is;
    }
