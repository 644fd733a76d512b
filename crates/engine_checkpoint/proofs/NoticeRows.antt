-- Tickets that join a set one by one, as notices or as expected ones.
use Rattle.std.proofs.Common.{◌≡◌, ℕ, zero, suc, ◌+◌, ◌<◌, ◌==◌, ◌&&◌, ◌||◌, Bool, true, false, if◌then◌else◌, List, [], ◌∷◌, ◌++◌, length, take, slice_index_or, min, Result, Ok, Err, OnOk, refl, sym, ◌∙◌, ap, subst, arith, append_assoc, append-nil, length-append}
use Rattle.std.proofs.lemmas.Bool.Decides.{nat_tests}
use Rattle.std.proofs.lemmas.Bool.{false≢true, eq-eqb}
use Rattle.disk_contract.specs.declared.event.Event.{Event}
use Rattle.disk_contract.specs.Cell.{notices}
use Rattle.crash_argument.specs.HomeTest.{is_one_of}
use Rattle.engine_notes.specs.declared.notes.Note.{Note}
use Rattle.engine_notes.specs.Notes.{is_expected, is_noticed, are_expected, none_open}
use Rattle.engine_running.specs.declared.commit.Committed.{Committed}
use Rattle.base_types.specs.Counts.{after_calls, next_count}
use Rattle.disk_contract.specs.Disk.{State, Spends, OnlyPolls}
use Rattle.disk_contract.specs.Logs.{notices-append as notices_append}
use Rattle.engine_checkpoint.specs.Steps.{TakesAll, TakesOne, TakesNotices, PollsUpTo, is_first_settled}
use Rattle.engine_checkpoint.specs.declared.pipeline.Pipeline.{Pipeline}
use Rattle.engine_checkpoint.proofs.Lists.{below_none}

-- one more of the tickets is expected
pub expect_push : (ts : List ℕ) (k d u : ℕ) (e : Bool) → k < length ts → (slice_index_or ts k d == u || (is_one_of u (take k ts) || e)) ≡ (is_one_of u (take (k + 1) ts) || e)
expect_push [] k d u e lt = absurd (below_none k lt)
expect_push (x ∷ xs) zero d u e lt = grind (arith, nat_tests)
expect_push (x ∷ xs) (suc k) d u e lt = grind (arith, nat_tests, expect_push xs k d u e (omega (arith, lt)))

-- all of these tickets are expected, where those of a longer list are
pub all_expected : (ts us : List ℕ) (old new : List Note) → ((u : ℕ) → is_expected u new ≡ (is_one_of u us || is_expected u old)) → ((u : ℕ) → is_one_of u ts ≡ true → is_one_of u us ≡ true) → are_expected ts new ≡ true
all_expected [] us old new expect within = refl
all_expected (t ∷ ts) us old new expect within = both (is_expected t new) (are_expected ts new) (expect t ∙ left (is_one_of t us) (is_expected t old) (within t (own t ts))) (all_expected ts us old new expect (λ u e. within u (later t u (is_one_of u ts) e)))
  where
    both : (p q : Bool) → p ≡ true → q ≡ true → (p && q) ≡ true
    both true q e f = f
    both false q e f = e

    left : (p q : Bool) → p ≡ true → (p || q) ≡ true
    left true q e = refl
    left false q e = absurd (false≢true e)

    own : (t : ℕ) (ts : List ℕ) → is_one_of t (t ∷ ts) ≡ true
    own t ts = ap (λ (v : Bool). if v then true else is_one_of t ts) (eq-eqb t t refl)

    later : (t u : ℕ) (rest : Bool) → rest ≡ true → (if t == u then true else rest) ≡ true
    later t u rest e = by (t == u)
      where
        by : (v : Bool) → (if v then true else rest) ≡ true
        by true = refl
        by false = e

-- one of two lists
one_of_append : (u : ℕ) (ts us : List ℕ) → is_one_of u (ts ++ us) ≡ (is_one_of u ts || is_one_of u us)
one_of_append u [] us = refl
one_of_append u (t ∷ ts) us = grind (arith, nat_tests, one_of_append u ts us)

-- one notice by itself
pub takes_one : (t : ℕ) (old new : List Note) → ((u : ℕ) → is_expected u new ≡ is_expected u old) → ((u : ℕ) → is_noticed u new ≡ (is_noticed u old || (t == u && is_expected u old))) → TakesAll (t ∷ []) old new
takes_one t old new same mark = grind (arith, nat_tests)

pub takes_none : (old : List Note) → TakesAll [] old old
takes_none old = grind (arith, nat_tests)

-- and behind others
pub takes_more : (ts us : List ℕ) (old mid new : List Note) → TakesAll ts old mid → TakesAll us mid new → TakesAll (ts ++ us) old new
takes_more ts us old mid new one two = grind (arith, nat_tests, one_of_append)

pub log_more : (ts us : List ℕ) (old mid new : List Event) → mid ≡ old ++ notices ts → new ≡ mid ++ notices us → new ≡ old ++ notices (ts ++ us)
log_more ts us old mid new one two = two ∙ ap (λ (es : List Event). es ++ notices us) one ∙ append_assoc old (notices ts) (notices us) ∙ ap (λ (es : List Event). old ++ es) (sym (notices_append ts us))

pub one_longer : (ts : List ℕ) (t n : ℕ) → length ts ≡ n → length (ts ++ t ∷ []) ≡ n + 1
one_longer ts t n e = omega (arith, e, length-append ts (t ∷ []))

-- the oldest committed record, where there is one
pub first_is : (cs : List Committed) (d : Committed) (notes : List Note) → 0 < length cs → is_first_settled cs notes ≡ none_open (slice_index_or cs 0 d).tickets.items notes
first_is [] d notes some = absurd (below_none 0 some)
first_is (c ∷ cs) d notes some = refl

-- one poll more
pub polls_step : (p k : ℕ) → next_count (after_calls k p) ≡ after_calls (k + 1) p
polls_step p k = grind (arith, nat_tests)

-- one poll more, which may have failed
pub polls_on : (failed : Bool) (k : ℕ) (a b c : State) → Spends false 0 k a b → OnlyPolls failed b c → Spends failed 0 (k + 1) a c
polls_on failed k a b c one two = grind (arith, nat_tests, polls_step)

-- so they are few
pub polls_few : (r failed : Bool) (k most : ℕ) (a b c : State) → r ≡ failed → k < most → Spends false 0 k a b → OnlyPolls failed b c → PollsUpTo r most a c
polls_few r failed k most a b c is lt one two = subst (λ (v : Bool). PollsUpTo v most a c) (sym is) (record { asked = k + 1; upto = omega (arith, lt); spends = polls_on failed k a b c one two })

-- the tickets so far, and what the next poll gave
abbrev pub TakenSoFar : ℕ → Pipeline → Pipeline → List Event → List Event → Type 0
TakenSoFar n v w old new = (ts : List ℕ) × (length ts ≡ n) × (new ≡ old ++ notices ts) × TakesAll ts v.notes.notes w.notes.notes

pub none_taken : (v : Pipeline) (log : List Event) → TakenSoFar 0 v v log log
none_taken v log = ([], refl, sym (append-nil log), takes_none v.notes.notes)

pub one_taken : {E : Type 0} (r : Result Bool E) (n : ℕ) (u v w : Pipeline) (old mid new : List Event) → r ≡ Ok true → TakenSoFar n u v old mid → TakesOne r v w mid new → TakenSoFar (n + 1) u w old new
one_taken (Ok true) n u v w old mid new e so_far one = (so_far.0 ++ one.0 ∷ [], one_longer so_far.0 one.0 n so_far.1, log_more so_far.0 (one.0 ∷ []) old mid new so_far.2 one.1, takes_more so_far.0 (one.0 ∷ []) u.notes.notes v.notes.notes w.notes.notes so_far.3 one.2)
one_taken (Ok false) n u v w old mid new e so_far one = cc
one_taken (Err f) n u v w old mid new e so_far one = cc

few_polls : (n k : ℕ) → n < 64 → k ≡ n → n + 1 ≡ min 64 (k + 1)
few_polls n k few e = omega (arith, few, e)

on_ok : {A E : Type 0} {P : Type 0} (r : Result A E) → P → OnOk r P
on_ok (Ok a) p = p
on_ok (Err e) p = tt

pub last_taken : {E A F : Type 0} (r : Result Bool E) (result : Result A F) (n : ℕ) (u v w : Pipeline) (old mid new : State) → r ≡ Ok false → n < 64 → TakenSoFar n u v old.log mid.log → TakesOne r v w mid.log new.log → new.polls ≡ after_calls (n + 1) old.polls → TakesNotices result u w old new
last_taken (Ok true) result n u v w old mid new e few so_far one polls = cc
last_taken (Ok false) result n u v w old mid new e few so_far one polls = grind (arith, nat_tests, on_ok, few_polls)
last_taken (Err f) result n u v w old mid new e few so_far one polls = cc
