-- What calls in a row spend, and the notices that come with them.
use Rattle.std.proofs.Common.{◌≡◌, ℕ, zero, suc, ◌+◌, Bool, true, false, List, [], ◌++◌, Result, Ok, Err, IsErr, is_err, refl, sym, ◌∙◌, ap, arith, append-nil}
use Rattle.std.proofs.lemmas.Bool.Decides.{nat_tests}
use Rattle.std.proofs.lemmas.Bool.{false≢true}
use Rattle.base_types.specs.Counts.{after_calls, next_count}
use Rattle.disk_contract.specs.declared.event.Event.{Event}
use Rattle.disk_contract.specs.Disk.{State, Spends}
use Rattle.engine_checkpoint.specs.Waits.{OnlyNotices, WaitsSome}
use Rattle.engine_checkpoint.proofs.NoticeRows.{log_more}

-- so many calls more, and then others
pub calls_add : (k m n : ℕ) → after_calls k (after_calls m n) ≡ after_calls (k + m) n
calls_add zero m n = grind (arith, nat_tests)
calls_add (suc k) m n = ap next_count (calls_add k m n) ∙ ap (λ i. after_calls i n) (s k m)
  where
    s : (k m : ℕ) → suc (k + m) ≡ suc k + m
    s k m = omega arith

-- calls that succeeded, and calls that may have failed
pub spends_on : (failed : Bool) (m k m2 k2 : ℕ) (a b c : State) → Spends false m k a b → Spends failed m2 k2 b c → Spends failed (m2 + m) (k2 + k) a c
spends_on failed m k m2 k2 a b c one two = grind (arith, nat_tests, calls_add)

pub waits_on : (failed : Bool) (a b c : State) → WaitsSome false a b → WaitsSome failed b c → WaitsSome failed a c
waits_on failed a b c one two = record { made = two.made + one.made; spends = spends_on failed one.made 0 two.made 0 a b c one.spends two.spends }

pub no_waits : (a : State) → WaitsSome false a a
no_waits a = record { made = 0; spends = record { same = record { blocks = refl; base = refl; manner = refl }; faults = refl; read_faults = refl; waits = refl; polls = refl } }

pub notices_on : (a b c : List Event) → OnlyNotices a b → OnlyNotices b c → OnlyNotices a c
notices_on a b c one two = record { tickets = one.tickets ++ two.tickets; log = log_more one.tickets two.tickets a b c one.log two.log }

pub no_notices : (a : List Event) → OnlyNotices a a
no_notices a = record { tickets = []; log = sym (append-nil a) }

pub failed_waits : {A E : Type 0} (r : Result A E) (a b : State) → IsErr r → WaitsSome true a b → WaitsSome (is_err r) a b
failed_waits (Ok x) a b e w = absurd (false≢true e)
failed_waits (Err x) a b e w = w

-- what follows where a call succeeded
pub on_ok : {A E : Type 0} {P Q : Type 0} (r : Result A E) → Rattle.std.proofs.Common.OnOk r P → (P → Q) → Rattle.std.proofs.Common.OnOk r Q
on_ok (Ok a) p f = f p
on_ok (Err e) p f = tt

-- where a call failed nothing has to follow from its success
pub none_ok : {A E : Type 0} (P : Type 0) (r : Result A E) → IsErr r → Rattle.std.proofs.Common.OnOk r P
none_ok P (Ok a) e = absurd (false≢true e)
none_ok P (Err x) e = tt

-- what holds whether or not a call succeeded
pub holds_ok : {A E : Type 0} {P : Type 0} (r : Result A E) → P → Rattle.std.proofs.Common.OnOk r P
holds_ok (Ok a) p = p
holds_ok (Err e) p = tt

-- what holds where a call failed
pub on_err : {A E : Type 0} {P : Type 0} (r : Result A E) → P → Rattle.std.proofs.Common.OnErr r P
on_err (Ok a) p = tt
on_err (Err e) p = p
