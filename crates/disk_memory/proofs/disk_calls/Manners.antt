-- A disk in memory goes by its manner: what its log is, which calls fail, and what its polls answer.
use Rattle.std.proofs.Common.{◌≡◌, ⊎_elim, ℕ, suc, ◌+◌, ◌-◌, ◌^◌, ◌<◌, ◌==◌, ◌&&◌, ◌||◌, Bool, true, false, nat_lt, List, [], ◌∷◌, ◌++◌, length, Option, Some, None, Result, Ok, if◌then◌else◌, refl, sym, ◌∙◌, ap, subst, arith, append-nil, append_assoc}
use Rattle.std.proofs.lemmas.Bool.{and_parts, false_from_ne_true, false≢true, or_cases, or_left, or_right, ltb-true, eqb-true}
use Rattle.base_types.specs.Counts.{next_count}
use Rattle.disk_contract.specs.declared.event.Event.{Event}
use Rattle.disk_contract.specs.declared.event.Event.TheVariants.{Wrote, Lost, Noticed}
use Rattle.disk_contract.specs.Manner.{Manner, any_manner, MayComeBy, MayAllComeBy, GoesBy, AnswersBy}
use Rattle.disk_memory.specs.declared.calls.DiskCall.{DiskCall}
use Rattle.disk_memory.specs.declared.calls.DiskCall.TheVariants as calls
use Rattle.disk_memory.specs.declared.calls.Fail.{Fail}
use Rattle.disk_memory.specs.declared.rule.Rule.{Rule}
use Rattle.disk_memory.specs.declared.rule.Notices.{Notices}
use Rattle.disk_memory.specs.Log.{open_tickets}
use Rattle.disk_contract.specs.Cell.{has_lost}
use Rattle.disk_memory.specs.MemDisk.{MemDiskState, next_call, fails_next, manner_of, same_call, is_listed, has_listed, polled, turned, turns, by_rule, manner_by, manner_known, CountsLost, GoesAsKnown}

-- any log goes by the manner of a disk of which nothing is known
any_goes : (before log : List Event) → MayAllComeBy any_manner before log
any_goes before [] = tt
any_goes before (Wrote t b x ∷ es) = (refl, any_goes (before ++ Wrote t b x ∷ []) es)
any_goes before (Lost b x ∷ es) = (refl, any_goes (before ++ Lost b x ∷ []) es)
any_goes before (Noticed t ∷ es) = (tt, any_goes (before ++ Noticed t ∷ []) es)

-- one event more, behind more events
goes_more : (m : Manner) (before log : List Event) (e : Event) → MayAllComeBy m before log → MayComeBy m (before ++ log) e → MayAllComeBy m before (log ++ e ∷ [])
goes_more m before [] e goes may = (subst (λ (l : List Event). MayComeBy m l e) (append-nil before) may, tt)
goes_more m before (f ∷ es) e goes may = (goes.0, goes_more m (before ++ f ∷ []) es e goes.1 (subst (λ (l : List Event). MayComeBy m l e) (sym (append_assoc before (f ∷ []) es)) may))

-- the log goes by the disk's manner
pub known_goes : (room : ℕ) (log : List Event) (notices : Notices) (fails : List Fail) (read_faults polls : ℕ) (known : Option Rule) → GoesAsKnown room log notices fails read_faults polls known → GoesBy (manner_known room fails known) log
known_goes room log notices fails read_faults polls None goes = any_goes [] log
known_goes room log notices fails read_faults polls (Some rule) goes = goes.writes

-- and a read has failed only where one may
pub known_reads : (room : ℕ) (log : List Event) (notices : Notices) (fails : List Fail) (read_faults polls : ℕ) (known : Option Rule) → GoesAsKnown room log notices fails read_faults polls known → 0 < read_faults → (manner_known room fails known).reads_fail ≡ true
known_reads room log notices fails read_faults polls None goes some = refl
known_reads room log notices fails read_faults polls (Some rule) goes some = goes.reads some

-- a call that is listed is one of its kind
pub listed_some : (call : DiskCall) (n : ℕ) (fails : List Fail) → is_listed call n fails ≡ true → has_listed call fails ≡ true
listed_some call n [] is = is
listed_some call n (f ∷ fs) is = ⊎_elim (λ own. or_left (same_call f.kind call) (has_listed call fs) (and_parts (same_call f.kind call) (f.nth == n) own).0)
    (λ rest. or_right (same_call f.kind call) (has_listed call fs) (listed_some call n fs rest)) (or_cases (same_call f.kind call && (f.nth == n)) (is_listed call n fs) is)

-- where none of its kind is listed, a call isn't
pub unlisted_none : (call : DiskCall) (n : ℕ) (fails : List Fail) → has_listed call fails ≡ false → is_listed call n fails ≡ false
unlisted_none call n fails none = false_from_ne_true _ (λ is. false≢true (sym none ∙ listed_some call n fails is))

-- a log that goes on with an accepted write or a notice loses no more
quiet : (log : List Event) (e : Event) → has_lost (e ∷ []) ≡ false → has_lost (log ++ e ∷ []) ≡ has_lost log
quiet [] e none = none
quiet (Wrote u c y ∷ es) e none = quiet es e none
quiet (Lost c y ∷ es) e none = refl
quiet (Noticed u ∷ es) e none = quiet es e none

-- one more write that is accepted, or a notice, and a call that fails, whether it loses a write or not
pub counts_quiet : (known : Option Rule) (faults : ℕ) (log : List Event) (e : Event) → has_lost (e ∷ []) ≡ false → CountsLost known faults log → CountsLost known faults (log ++ e ∷ [])
counts_quiet None faults log e silent counts = tt
counts_quiet (Some rule) faults log e silent counts = λ none. quiet log e silent ∙ counts none

pub counts_fault : (known : Option Rule) (faults : ℕ) (log : List Event) → 0 < faults → CountsLost known faults log
counts_fault None faults log some = tt
counts_fault (Some rule) faults log some = λ none. absurd (omega (arith, some, none))

-- before anything happened, whatever the rule is then
pub counts_at_first : (log : List Event) (polls read_faults faults : ℕ) (known now : Option Rule) → now ≡ (if (length log == 0) && ((polls == 0) && (read_faults == 0)) then known else None) → CountsLost now faults log
counts_at_first log polls read_faults faults known now is = subst (λ (k : Option Rule). CountsLost k faults log) (sym is) (by known ((length log == 0) && ((polls == 0) && (read_faults == 0))) refl)
  where
    none_there : (es : List Event) → length es ≡ 0 → has_lost es ≡ false
    none_there [] e = refl
    none_there (f ∷ es) e = absurd (omega (arith, e))

    by : (k : Option Rule) (v : Bool) → ((length log == 0) && ((polls == 0) && (read_faults == 0))) ≡ v → CountsLost (if v then k else None) faults log
    by k false e = tt
    by None true e = tt
    by (Some rule) true e = λ none. none_there log (eqb-true (length log) 0 (and_parts (length log == 0) ((polls == 0) && (read_faults == 0)) e).0)

-- so of a disk whose waits bring the notice of their own ticket alone
pub known_counts : (room : ℕ) (fails : List Fail) (known : Option Rule) (faults : ℕ) (log : List Event) → CountsLost known faults log → (manner_known room fails known).waits_alone ≡ true → faults ≡ 0 → has_lost log ≡ false
known_counts room fails None faults log counts alone none = absurd (false≢true alone)
known_counts room fails (Some rule) faults log counts alone none = counts none

module _ (room : ℕ) (log : List Event) (notices : Notices) (fails : List Fail) (read_faults polls : ℕ) where
  -- all goes by the rule still after an event that may come by it
  pub goes_event : (known : Option Rule) (e : Event) → ((rule : Rule) → MayComeBy (manner_by room fails rule) log e) → GoesAsKnown room log notices fails read_faults polls known → GoesAsKnown room (log ++ e ∷ []) notices fails read_faults polls known
  goes_event None e may goes = tt
  goes_event (Some rule) e may goes = record { writes = goes_more (manner_by room fails rule) [] log e goes.writes (may rule); reads = goes.reads; first = goes.first; turn = goes.turn }

  -- after a failed read, which was listed
  pub goes_unread : (known : Option Rule) (n now : ℕ) → is_listed calls.Read n fails ≡ true → GoesAsKnown room log notices fails read_faults polls known → GoesAsKnown room log notices fails now polls known
  goes_unread None n now listed goes = tt
  goes_unread (Some rule) n now listed goes = record { writes = goes.writes; reads = λ some. listed_some calls.Read n fails listed; first = goes.first; turn = goes.turn }

  -- after a poll that was listed, and one that turned the rule
  pub goes_unpolled : (known : Option Rule) (n now : ℕ) → now ≡ next_count polls → is_listed calls.Poll n fails ≡ true → GoesAsKnown room log notices fails read_faults polls known → GoesAsKnown room log notices fails read_faults now known
  goes_unpolled None n now counted listed goes = tt
  goes_unpolled (Some rule) n now counted listed goes = record { writes = goes.writes; reads = goes.reads; first = λ none. absurd (omega (arith, counted, none)); turn = λ none few. absurd (false≢true (sym none ∙ listed_some calls.Poll n fails listed)) }

  pub goes_polled : (known : Option Rule) → GoesAsKnown room log notices fails read_faults polls known → GoesAsKnown room log (turned notices) fails read_faults (next_count polls) known
  goes_polled None goes = tt
  goes_polled (Some rule) goes = record {
    writes = goes.writes;
    reads = goes.reads;
    first = λ none. absurd (omega (arith, none));
    turn = λ none few. ap turned (goes.turn none (omega (arith, few))) ∙ ap (λ k. turns k (by_rule rule)) {x = suc polls} {y = next_count polls} (omega (arith, few));
  }

  -- a poll answers what its manner says
  pub answers_known : {E : Type 0} (known : Option Rule) (n : ℕ) (r : Result (Option ℕ) E) → (is_listed calls.Poll n fails ≡ false → r ≡ Ok (polled notices (open_tickets log))) → GoesAsKnown room log notices fails read_faults polls known → AnswersBy ((manner_known room fails known).notice polls log) r
  answers_known None n r is goes = tt
  answers_known {E} (Some rule) n r is goes = by_listed (has_listed calls.Poll fails) refl
    where
      by_few : has_listed calls.Poll fails ≡ false → (v : Bool) → nat_lt polls (2 ^ 64 - 1) ≡ v → AnswersBy (if v then Some (polled (turns polls (by_rule rule)) (open_tickets log)) else None) r
      by_few none false e = tt
      by_few none true e = is (unlisted_none calls.Poll n fails none) ∙ ap (λ (k : Notices). Ok (polled k (open_tickets log))) (goes.turn none (ltb-true polls (2 ^ 64 - 1) e))

      by_listed : (v : Bool) → has_listed calls.Poll fails ≡ v → AnswersBy (if v then None else (if nat_lt polls (2 ^ 64 - 1) then Some (polled (turns polls (by_rule rule)) (open_tickets log)) else None)) r
      by_listed true e = tt
      by_listed false e = by_few e (nat_lt polls (2 ^ 64 - 1)) refl

-- a poll or a wait that is listed fails where the manner lets these fail
pub poll_stalls : (room : ℕ) (fails : List Fail) (known : Option Rule) (n : ℕ) → is_listed calls.Poll n fails ≡ true → (manner_known room fails known).stalls ≡ true
poll_stalls room fails None n listed = refl
poll_stalls room fails (Some rule) n listed = or_left _ (has_listed calls.Wait fails) (listed_some calls.Poll n fails listed)

pub wait_stalls : (room : ℕ) (fails : List Fail) (known : Option Rule) (n : ℕ) → is_listed calls.Wait n fails ≡ true → (manner_known room fails known).stalls ≡ true
wait_stalls room fails None n listed = refl
wait_stalls room fails (Some rule) n listed = or_right (has_listed calls.Poll fails) _ (listed_some calls.Wait n fails listed)

-- another list before anything happened
pub goes_at_first : (room : ℕ) (log : List Event) (notices : Notices) (fails list : List Fail) (read_faults polls : ℕ) (known now : Option Rule) → now ≡ (if (length log == 0) && ((polls == 0) && (read_faults == 0)) then known else None)
    → GoesAsKnown room log notices fails read_faults polls known → GoesAsKnown room log notices list read_faults polls now
goes_at_first room log notices fails list read_faults polls known now is goes = subst (λ (k : Option Rule). GoesAsKnown room log notices list read_faults polls k) (sym is) (by known goes ((length log == 0) && ((polls == 0) && (read_faults == 0))) refl)
  where
    none_there : (es : List Event) → length es ≡ 0 → es ≡ []
    none_there [] e = refl
    none_there (f ∷ es) e = absurd (omega (arith, e))

    by : (k : Option Rule) → GoesAsKnown room log notices fails read_faults polls k → (v : Bool) → ((length log == 0) && ((polls == 0) && (read_faults == 0))) ≡ v → GoesAsKnown room log notices list read_faults polls (if v then k else None)
    by k goes false e = tt
    by None goes true e = tt
    by (Some rule) goes true e =
        let both = and_parts (length log == 0) ((polls == 0) && (read_faults == 0)) e in
        let counts = and_parts (polls == 0) (read_faults == 0) both.1 in
        let no_polls = eqb-true polls 0 counts.0 in
        record {
          writes = subst (λ (l : List Event). GoesBy (manner_by room list rule) l) (sym (none_there log (eqb-true (length log) 0 both.0))) tt;
          reads = λ some. absurd (omega (arith, some, eqb-true read_faults 0 counts.1));
          first = goes.first;
          turn = λ none few. goes.first no_polls ∙ ap (λ k. turns k (by_rule rule)) (sym no_polls);
        }

-- and a poll answers what the manner says
pub known_answer : {E : Type 0} (d : MemDiskState) (r : Result (Option ℕ) E) → GoesAsKnown d.room d.log d.notices d.fails d.read_faults d.polls d.known → (fails_next calls.Poll d ≡ false → r ≡ Ok (polled d.notices (open_tickets d.log))) → AnswersBy ((manner_of d).notice d.polls d.log) r
known_answer d r goes is = answers_known d.room d.log d.notices d.fails d.read_faults d.polls d.known (next_call calls.Poll d) r is goes
