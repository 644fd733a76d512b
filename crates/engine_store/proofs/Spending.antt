-- What calls in a row spend.
use Rattle.std.proofs.Common.{◌≡◌, ℕ, zero, suc, ◌+◌, ◌≤◌, Bool, true, false, refl, sym, ◌∙◌, ap, ap₂, subst, arith}
use Rattle.base_types.specs.Counts.{next_count, after_call, after_calls}
use Rattle.disk_contract.specs.Disk.{State, Spends, OnlyWrites, OnlyWaits, MadeUpTo, SpendsUpTo}
use Rattle.disk_contract.specs.Manner.{Manner}
use Rattle.engine_store.specs.Told.{AsksNothing}

-- so many calls, and then more
more_calls : (a b n : ℕ) → after_calls b (after_calls a n) ≡ after_calls (a + b) n
more_calls a zero n = ap (λ k. after_calls k n) {x = a} {y = a + 0} (omega arith)
more_calls a (suc b) n = ap next_count (more_calls a b n) ∙ ap (λ k. after_calls k n) {x = suc (a + b)} {y = a + suc b} (omega arith)

-- calls that don't poll ask the disk nothing
pub asks_none : (failed : Bool) (made : ℕ) (d e : State) → Spends failed made 0 d e → AsksNothing d e
asks_none failed made d e s = λ ticks. ap₂ (λ (n : ℕ) (m : Manner). record { made = ticks; polls = n; manner = m }) s.polls s.same.manner

-- nothing is spent so far
pub spends_none : (s : State) → Spends false 0 0 s s
spends_none s = record { same = record { blocks = refl; base = refl; manner = refl }; faults = refl; read_faults = refl; waits = refl; polls = refl }

-- a write behind others of which none failed
pub writes_on : (failed : Bool) (old mid new : State) → OnlyWrites false old mid → OnlyWrites failed mid new → OnlyWrites failed old new
writes_on failed old mid new one two = record {
  same = record { blocks = two.same.blocks ∙ one.same.blocks; base = two.same.base ∙ one.same.base; manner = two.same.manner ∙ one.same.manner };
  faults = two.faults ∙ ap (after_call failed) one.faults;
  read_faults = two.read_faults ∙ one.read_faults;
  waits = two.waits ∙ one.waits;
  polls = two.polls ∙ one.polls;
}

-- a wait behind others of which none failed
pub waits_on : (made next : ℕ) (old mid new : State) → next ≡ made + 1 → Spends false made 0 old mid → OnlyWaits false mid new → Spends false next 0 old new
waits_on made next old mid new e one two = record {
  same = record { blocks = two.same.blocks ∙ one.same.blocks; base = two.same.base ∙ one.same.base; manner = two.same.manner ∙ one.same.manner };
  faults = two.faults ∙ one.faults;
  read_faults = two.read_faults ∙ one.read_faults;
  waits = two.waits ∙ ap next_count one.waits ∙ ap (λ k. after_calls k old.waits) {x = suc made} {y = next} (omega (arith, e));
  polls = two.polls ∙ one.polls;
}

-- and one that failed behind them
pub wait_failed : (failed : Bool) (made most : ℕ) (old mid new : State) → failed ≡ true → made + 1 ≤ most → Spends false made 0 old mid → OnlyWaits true mid new → SpendsUpTo failed most old new
wait_failed failed made most old mid new is le one two = subst (λ f. SpendsUpTo f most old new) (sym is) (record {
  same = record { blocks = two.same.blocks ∙ one.same.blocks; base = two.same.base ∙ one.same.base; manner = two.same.manner ∙ one.same.manner };
  faults = two.faults ∙ ap (after_call true) one.faults;
  read_faults = two.read_faults ∙ one.read_faults;
  waits = (made + 1, le, two.waits ∙ ap next_count one.waits ∙ ap (λ k. after_calls k old.waits) {x = suc made} {y = made + 1} (omega arith));
  polls = two.polls ∙ one.polls;
})

made_then : (failed : Bool) (a b most before mid now : ℕ) → a + b ≡ most → mid ≡ after_calls a before → MadeUpTo failed b mid now → MadeUpTo failed most before now
made_then false a b most before mid now e one two = two ∙ ap (after_calls b) one ∙ more_calls a b before ∙ ap (λ k. after_calls k before) e
made_then true a b most before mid now e one two = (a + two.0, omega (arith, two.1, e), two.2 ∙ ap (after_calls two.0) one ∙ more_calls a two.0 before)

-- a group that didn't fail, and then another
pub groups_then : (failed : Bool) (a b most : ℕ) (old mid new : State) → a + b ≡ most → SpendsUpTo false a old mid → SpendsUpTo failed b mid new → SpendsUpTo failed most old new
groups_then failed a b most old mid new e one two = record {
  same = record { blocks = two.same.blocks ∙ one.same.blocks; base = two.same.base ∙ one.same.base; manner = two.same.manner ∙ one.same.manner };
  faults = two.faults ∙ ap (after_call failed) one.faults;
  read_faults = two.read_faults ∙ one.read_faults;
  waits = made_then failed a b most old.waits mid.waits new.waits e one.waits two.waits;
  polls = two.polls ∙ one.polls;
}

made_more : (failed : Bool) (a most before now : ℕ) → failed ≡ true → a ≤ most → MadeUpTo failed a before now → MadeUpTo failed most before now
made_more false a most before now is le one = cc
made_more true a most before now is le one = (one.0, omega (arith, one.1, le), one.2)

-- a group that failed, and no other behind it
pub group_failed : (failed : Bool) (a most : ℕ) (old new : State) → failed ≡ true → a ≤ most → SpendsUpTo failed a old new → SpendsUpTo failed most old new
group_failed failed a most old new is le one = record {
  same = one.same;
  faults = one.faults;
  read_faults = one.read_faults;
  waits = made_more failed a most old.waits new.waits is le one.waits;
  polls = one.polls;
}

-- two groups of which none failed, and then one more
pub third_then : (a b c most : ℕ) (old mid next new : State) → a + b + c ≡ most → SpendsUpTo false a old mid → SpendsUpTo false b mid next → SpendsUpTo false c next new → SpendsUpTo false most old new
third_then a b c most old mid next new e one two three = groups_then false (a + b) c most old next new e (groups_then false a b (a + b) old mid next refl one two) three

-- the third one failed
pub third_failed : (failed : Bool) (a b c most : ℕ) (old mid next new : State) → failed ≡ true → a + b + c ≡ most → SpendsUpTo false a old mid → SpendsUpTo false b mid next → SpendsUpTo true c next new → SpendsUpTo failed most old new
third_failed failed a b c most old mid next new is e one two three =
    subst (λ f. SpendsUpTo f most old new) (sym is) (groups_then true (a + b) c most old next new e (groups_then false a b (a + b) old mid next refl one two) three)

-- the second one failed
pub second_failed : (failed : Bool) (a b most : ℕ) (old mid new : State) → failed ≡ true → a + b ≤ most → SpendsUpTo false a old mid → SpendsUpTo true b mid new → SpendsUpTo failed most old new
second_failed failed a b most old mid new is le one two = subst (λ f. SpendsUpTo f most old new) (sym is) (group_failed true (a + b) most old new refl le (groups_then true a b (a + b) old mid new refl one two))
