-- What calls in a row spend, and what a write that is waited for adds.
use Rattle.std.proofs.Common.{◌≡◌, ℕ, zero, suc, ◌+◌, ◌≤◌, Bool, true, false, List, Ok, sym, ◌∙◌, ap, subst, arith}
use Rattle.base_types.specs.Counts.{after_call, after_calls, next_count}
use Rattle.disk_contract.specs.declared.event.Event.{Event}
use Rattle.disk_contract.specs.declared.disk.DiskFault.{DiskFault}
use Rattle.disk_contract.specs.Cell.{IsNoticed}
use Rattle.disk_contract.specs.Disk.{State, AddsWrite, AddsNotices, OnlyWaits, SpendsUpTo, MadeUpTo}
use Rattle.crash_argument.specs.Opening.{AddsWaited}

-- calls behind calls
after_sum : (n m x : ℕ) → after_calls n (after_calls m x) ≡ after_calls (n + m) x
after_sum zero m x = ap (λ k. after_calls k x) {x = m} {y = 0 + m} (omega arith)
after_sum (suc n) m x = ap next_count (after_sum n m x) ∙ ap (λ k. after_calls k x) {x = suc (n + m)} {y = suc n + m} (omega arith)

-- all of one row of waits, and then another row
waits_on : (failed : Bool) (m n a b c : ℕ) → MadeUpTo false m a b → MadeUpTo failed n b c → MadeUpTo failed (n + m) a c
waits_on false m n a b c one two = two ∙ ap (after_calls n) one ∙ after_sum n m a
waits_on true m n a b c one two = (two.0 + m, omega (arith, two.1), two.2 ∙ ap (after_calls two.0) one ∙ after_sum two.0 m a)

-- what calls spend behind others of which none failed
pub spends_on : (failed : Bool) (m n : ℕ) (a b c : State) → SpendsUpTo false m a b → SpendsUpTo failed n b c → SpendsUpTo failed (n + m) a c
spends_on failed m n a b c one two = record {
  same = record { blocks = two.same.blocks ∙ one.same.blocks; base = two.same.base ∙ one.same.base; manner = two.same.manner ∙ one.same.manner };
  faults = two.faults ∙ ap (after_call failed) one.faults;
  read_faults = two.read_faults ∙ one.read_faults;
  waits = waits_on failed m n a.waits b.waits c.waits one.waits two.waits;
  polls = two.polls ∙ one.polls;
}

-- after a failure no more is spent
pub spends_less : (r : Bool) (m n : ℕ) (a b : State) → r ≡ true → m ≤ n → SpendsUpTo true m a b → SpendsUpTo r n a b
spends_less r m n a b is le one = subst (λ (v : Bool). SpendsUpTo v n a b) (sym is)
    (record { same = one.same; faults = one.faults; read_faults = one.read_faults; waits = (one.waits.0, omega (arith, one.waits.1, le), one.waits.2); polls = one.polls })

-- a call that only waits does so once
pub of_wait : (failed : Bool) (a b : State) → OnlyWaits failed a b → SpendsUpTo failed 1 a b
of_wait false a b o = record { same = o.same; faults = o.faults; read_faults = o.read_faults; waits = o.waits; polls = o.polls }
of_wait true a b o = record { same = o.same; faults = o.faults; read_faults = o.read_faults; waits = (1, omega arith, o.waits); polls = o.polls }

-- one wait more
pub spends_one : (a b c : State) (m : ℕ) → SpendsUpTo false m a b → OnlyWaits false b c → SpendsUpTo false (m + 1) a c
spends_one a b c m one two = subst (λ (k : ℕ). SpendsUpTo false k a c) {x = 1 + m} {y = m + 1} (omega arith) (spends_on false m 1 a b c one (of_wait false b c two))

-- one wait more that failed, of so many at most
pub spends_last : (r : Bool) (a b c : State) (m most : ℕ) → r ≡ true → 1 + m ≤ most → SpendsUpTo false m a b → OnlyWaits true b c → SpendsUpTo r most a c
spends_last r a b c m most is le one two = spends_less r (1 + m) most a c is le (spends_on true m 1 a b c one (of_wait true b c two))

-- an accepted write, and the wait behind it
abbrev pub then_waited : (block ticket : ℕ) (x : List ℕ) (old middle new : List Event) → AddsWrite {E = DiskFault} block x (Ok ticket) old middle → AddsNotices middle new → AddsWaited block x old new
then_waited block ticket x old middle new write waited = record { ticket = ticket; above = write.0; fresh = write.1; waited = subst (λ (l : List Event). AddsNotices l new) write.2 waited }

-- which noticed its ticket
pub then_noticed : (block ticket : ℕ) (x : List ℕ) (old middle new : List Event) → AddsWrite {E = DiskFault} block x (Ok ticket) old middle → AddsNotices middle new → IsNoticed ticket new → (w : AddsWaited block x old new) × IsNoticed w.ticket new
then_noticed block ticket x old middle new write waited noticed = (then_waited block ticket x old middle new write waited, noticed)
