-- Polls whose answers are known, one after the other.
use Rattle.std.proofs.Common.{◌≡◌, ℕ, suc, ◌+◌, ◌-◌, ◌<◌, ◌≤◌, Bool, true, false, List, ◌++◌, Option, Some, None, Result, Ok, Err, IsErr, is_err, refl, ◌∙◌, subst, arith}
use Rattle.std.proofs.lemmas.Bool.Decides.{nat_tests}
use Rattle.std.proofs.lemmas.Bool.{false≢true}
use Rattle.base_types.specs.Counts.{next_count}
use Rattle.disk_contract.specs.declared.event.Event.{Event}
use Rattle.disk_contract.specs.Disk.{State, GrowsByWrites, AddsPoll, PollsThenWrites}
use Rattle.disk_contract.specs.Manner.{Manner, Polled, AnswersBy, after_polls, after_polls_on}
use Rattle.engine_checkpoint.specs.Steps.{TakesAnswer, TakesKnown}

-- A poll that failed had no known answer; one that has none, and one that has a ticket, answer what was known.
pub takes_failed : {E F : Type 0} (known : Option (Option ℕ)) (poll : Result (Option ℕ) E) (r : Result Bool F) (old new : List Event) → IsErr poll → AnswersBy known poll → TakesAnswer known r old new
takes_failed None poll r old new failed answers = tt
takes_failed {E} (Some answer) poll r old new failed answers = absurd (false≢true (subst (λ (q : Result (Option ℕ) E). is_err q ≡ true) answers failed))

pub takes_none : (F : Type 0) {E : Type 0} (known : Option (Option ℕ)) (poll : Result (Option ℕ) E) (old new : List Event) → poll ≡ Ok None → AnswersBy known poll → AddsPoll poll old new → TakesAnswer {E = F} known (Ok false) old new
takes_none F None poll old new none answers adds = tt
takes_none F {E} (Some None) poll old new none answers adds = (refl, subst (λ (q : Result (Option ℕ) E). AddsPoll q old new) none adds)
takes_none F (Some (Some t)) poll old new none answers adds = cc

pub takes_some : (F : Type 0) {E : Type 0} (known : Option (Option ℕ)) (poll : Result (Option ℕ) E) (t : ℕ) (old new : List Event) → poll ≡ Ok (Some t) → AnswersBy known poll → AddsPoll poll old new → TakesAnswer {E = F} known (Ok true) old new
takes_some F None poll t old new some answers adds = tt
takes_some F (Some None) poll t old new some answers adds = cc
takes_some F {E} (Some (Some u)) poll t old new some answers adds = (refl, (subst (λ (q : Result (Option ℕ) E). AddsPoll q old new) answers adds).1)

-- an answer isn't both
apart : {E : Type 0} (r : Result Bool E) → r ≡ Ok true → r ≡ Ok false → ⊥
apart (Ok true) p q = cc
apart (Ok false) p q = cc
apart (Err e) p q = cc

one_less : (turn : ℕ) → turn < 64 → 64 - turn ≡ suc (64 - (turn + 1))
one_less turn few = omega (arith, few)

-- the next poll of a known row is known
known_next : (m : Manner) (turn polls : ℕ) (log : List Event) (p : Polled) → turn < 64 → after_polls m (64 - turn) polls log ≡ Some p → after_polls_on polls log (after_polls m (64 - (turn + 1))) (m.notice polls log) ≡ Some p
known_next m turn polls log p few e = subst (λ n. after_polls m n polls log ≡ Some p) (one_less turn few) e

-- it gave a ticket, and the row goes on behind its notice
pub row_more : {E : Type 0} (m m2 : Manner) (turn polls polls2 : ℕ) (log log2 : List Event) (r : Result Bool E) (p : Polled) → m2 ≡ m → turn < 64 → r ≡ Ok true → polls2 ≡ next_count polls → TakesAnswer (m2.notice polls log) r log log2 → after_polls m (64 - turn) polls log ≡ Some p → after_polls m (64 - (turn + 1)) polls2 log2 ≡ Some p
row_more {E} m m2 turn polls polls2 log log2 r p same few is counted takes e = grind (arith, nat_tests, known_next, apart)

-- it gave none, and the row ends
pub row_ends : {E : Type 0} (m m2 : Manner) (turn polls polls2 : ℕ) (log log2 : List Event) (r : Result Bool E) (p : Polled) → m2 ≡ m → turn < 64 → r ≡ Ok false → polls2 ≡ next_count polls → TakesAnswer (m2.notice polls log) r log log2 → after_polls m (64 - turn) polls log ≡ Some p → (polls2 ≡ p.polls) × (log2 ≡ p.log)
row_ends {E} m m2 turn polls polls2 log log2 r p same few is counted takes e = grind (arith, nat_tests, known_next, apart)

-- it can't have failed
pub row_holds : {E : Type 0} (m m2 : Manner) (turn polls : ℕ) (log log2 : List Event) (r : Result Bool E) (p : Polled) → m2 ≡ m → turn < 64 → IsErr r → TakesAnswer (m2.notice polls log) r log log2 → after_polls m (64 - turn) polls log ≡ Some p → ⊥
row_holds {E} m m2 turn polls log log2 r p same few failed takes e = grind (arith, nat_tests, known_next)

-- the whole row was made
pub row_done : (m : Manner) (turn polls : ℕ) (log : List Event) (p : Polled) → 64 ≤ turn → after_polls m (64 - turn) polls log ≡ Some p → (polls ≡ p.polls) × (log ≡ p.log)
row_done m turn polls log p all e = grind (arith, nat_tests)

-- what was polled first stands in front of what came then
pub polls_first : {A E : Type 0} (r : Result A E) (old mid : State) (polls : ℕ) (log : List Event) → TakesKnown r old mid → polls ≡ mid.polls → GrowsByWrites mid.log log → PollsThenWrites old.manner 64 old.polls old.log polls log
polls_first r old mid polls log takes same grows = λ p e. let t = takes p e in (same ∙ t.polls, record { more = grows.more; log = subst (λ (l : List Event). log ≡ l ++ grows.more) t.log grows.log; writes = grows.writes })

-- where the polls failed, their answers weren't known
pub polls_failed : {A E : Type 0} (r : Result A E) (old mid : State) → IsErr r → TakesKnown r old mid → PollsThenWrites old.manner 64 old.polls old.log mid.polls mid.log
polls_failed (Ok a) old mid failed takes = absurd (false≢true failed)
polls_failed (Err e) old mid failed takes = λ p e. absurd (false≢true (takes p e).done)
