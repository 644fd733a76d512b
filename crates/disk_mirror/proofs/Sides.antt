-- One disk of a mirror over the mirror's calls.
use Rattle.std.proofs.Common.{◌≡◌, ◌⊎◌, ⊎_elim, ℕ, ◌≤◌, ◌+◌, Bool, true, false, List, [], ◌∷◌, ◌++◌, length, take, Some, refl, sym, ◌∙◌, ap, subst, arith, append-nil, length-append}
use Rattle.std.proofs.lemmas.Bool.{false≢true, cases_Bool}
use Rattle.std.proofs.lemmas.List.{take_all, take-append-le}
use Rattle.base_types.specs.Seal.{Blocks}
use Rattle.disk_contract.specs.declared.event.Event.{Event}
use Rattle.disk_contract.specs.declared.event.Event.TheVariants.{Wrote, Lost, Noticed}
use Rattle.disk_contract.specs.Cell.{greatest_ticket, notices}
use Rattle.disk_contract.specs.Lawful.{IsLawful}
use Rattle.disk_mirror.specs.declared.entry.Side.{Side}
use Rattle.disk_mirror.specs.declared.entry.Pair.{Pair}
use Rattle.disk_mirror.specs.declared.entry.Heard.{Heard}
use Rattle.disk_mirror.specs.declared.entry.Written.{Written}
use Rattle.disk_mirror.specs.declared.entry.Written.TheVariants.{Given, Missed, Nothing}
use Rattle.disk_mirror.specs.Behind.{LagsBehind}
use Rattle.disk_mirror.specs.Half.{end_at, HalfWrites, given_in}
use Rattle.disk_mirror.specs.Twin.{on, unheard, heard_on, heard_of, is_over, ticket_on, IsTwin}
use Rattle.disk_mirror.specs.Mirror.{IsOnSide}
use Rattle.disk_mirror.proofs.Lags.{behind_of, behind_write, behind_notices}
use Rattle.disk_mirror.proofs.Steps.{twin_write, twin_notices, twin_rows, twin_report}

-- a disk that goes down, or is down, at the moment of the mirror, while nothing of it changes but its own notices
module _ (side : Side) (n : ℕ) (base : Blocks) (log : List Event) (pairs : List Pair) (rows : List Heard) (live : Bool) (end : ℕ) (began : Blocks) (events : List Event)
    (s : IsOnSide side n base log pairs rows live end began events) (h : IsLawful log) (k : IsLawful events) where
  -- what it lags behind where it goes down now
  pub down_now : live ≡ true → LagsBehind n base log began events
  down_now on_it = behind_of n base began side pairs rows log events s.alike h k (s.twin on_it)

  -- it is down after the mirror's log went on
  pub still_behind : (more : List Event) (later : ℕ) → later ≡ end_at (length log) live end → (later ≤ length (log ++ more)) × LagsBehind n base (take later (log ++ more)) began events
  still_behind more later is = ⊎_elim live_case down_case (cases_Bool live)
    where
      live_case : live ≡ true → (later ≤ length (log ++ more)) × LagsBehind n base (take later (log ++ more)) began events
      live_case on_it =
          let at : later ≡ length log = is ∙ ap (λ v. end_at (length log) v end) on_it in (
            omega (arith, at, length-append log more),
            subst (λ (l : List Event). LagsBehind n base l began events) (sym (ap (λ m. take m (log ++ more)) at ∙ take-append-le (length log) log more (omega arith) ∙ take_all (length log) log (omega arith))) (down_now on_it),
          )

      down_case : live ≡ false → (later ≤ length (log ++ more)) × LagsBehind n base (take later (log ++ more)) began events
      down_case off =
          let at : later ≡ end = is ∙ ap (λ v. end_at (length log) v end) off in
          let was = s.behind off in (
            omega (arith, at, was.0, length-append log more),
            subst (λ (l : List Event). LagsBehind n base l began events) (sym (ap (λ m. take m (log ++ more)) at ∙ take-append-le end log more was.0)) was.1,
          )

-- a write that the mirror accepted
pub side_write : (side : Side) (n : ℕ) (base : Blocks) (log : List Event) (pairs : List Pair) (rows : List Heard) (live now : Bool) (end later : ℕ) (began : Blocks) (events new : List Event)
    (b : ℕ) (x : List ℕ) (i : ℕ) (p : Pair) (r : Written) → length rows ≡ length pairs → greatest_ticket log ≡ length pairs → i ≡ length pairs + 1 → on side p ≡ given_in r → IsLawful log → IsLawful events
    → HalfWrites true b x (length log) r live now end later events new
    → IsOnSide side n base log pairs rows live end began events → IsOnSide side n base (log ++ Wrote i b x ∷ []) (pairs ++ p ∷ []) (rows ++ unheard ∷ []) now later began new
side_write side n base log pairs rows live now end later began events new b x i p (Given t) fit count is own h k step s = record {
  alike = s.alike;
  twin = λ _. subst (λ (l : List Event). IsTwin side (pairs ++ p ∷ []) (rows ++ unheard ∷ []) (log ++ Wrote i b x ∷ []) l) (sym (step.3 refl).2) (twin_write side pairs rows p log events i t b x fit count is own (step.3 refl).0 (s.twin step.0));
  behind = λ off. absurd (false≢true (sym off ∙ step.1));
}
side_write side n base log pairs rows live now end later began events new b x i p Missed fit count is own h k step s = record {
  alike = s.alike;
  twin = λ on_it. absurd (false≢true (sym step.1 ∙ on_it));
  behind = λ _.
      let all : take later (log ++ Wrote i b x ∷ []) ≡ log ++ Wrote i b x ∷ [] = take_all later (log ++ Wrote i b x ∷ []) (omega (arith, step.2, length-append log (Wrote i b x ∷ []))) in (
        omega (arith, step.2, length-append log (Wrote i b x ∷ [])),
        subst (λ (l : List Event). LagsBehind n base l began new) (sym all) (subst (λ (l : List Event). LagsBehind n base (log ++ Wrote i b x ∷ []) began l) (sym (step.3 refl))
            (behind_write n base began log events b x (Wrote i b x) (Lost b x) (refl, refl) (refl, refl) (down_now side n base log pairs rows live end began events s h k step.0))),
      );
}
side_write side n base log pairs rows live now end later began events new b x i p Nothing fit count is own h k step s = record {
  alike = s.alike;
  twin = λ on_it. absurd (false≢true (sym step.0 ∙ on_it));
  behind = λ _. subst (λ (l : List Event). (later ≤ length (log ++ Wrote i b x ∷ [])) × LagsBehind n base (take later (log ++ Wrote i b x ∷ [])) began l) (sym (step.2 refl))
      (still_behind side n base log pairs rows live end began events s h k (Wrote i b x ∷ []) later step.1);
}

-- a write after which no disk is live, and which the mirror lost
pub side_lost : (side : Side) (n : ℕ) (base : Blocks) (log : List Event) (pairs : List Pair) (rows : List Heard) (live now : Bool) (end later : ℕ) (began : Blocks) (events new : List Event)
    (b : ℕ) (x : List ℕ) (r : Written) → IsLawful log → IsLawful events → now ≡ false
    → HalfWrites true b x (length log) r live now end later events new
    → IsOnSide side n base log pairs rows live end began events → IsOnSide side n base (log ++ Lost b x ∷ []) pairs rows now later began new
side_lost side n base log pairs rows live now end later began events new b x (Given t) h k off step s = absurd (false≢true (sym off ∙ step.1))
side_lost side n base log pairs rows live now end later began events new b x Missed h k off step s = record {
  alike = s.alike;
  twin = λ on_it. absurd (false≢true (sym off ∙ on_it));
  behind = λ _.
      let all : take later (log ++ Lost b x ∷ []) ≡ log ++ Lost b x ∷ [] = take_all later (log ++ Lost b x ∷ []) (omega (arith, step.2, length-append log (Lost b x ∷ []))) in (
        omega (arith, step.2, length-append log (Lost b x ∷ [])),
        subst (λ (l : List Event). LagsBehind n base l began new) (sym all) (subst (λ (l : List Event). LagsBehind n base (log ++ Lost b x ∷ []) began l) (sym (step.3 refl))
            (behind_write n base began log events b x (Lost b x) (Lost b x) (refl, refl) (refl, refl) (down_now side n base log pairs rows live end began events s h k step.0))),
      );
}
side_lost side n base log pairs rows live now end later began events new b x Nothing h k off step s = record {
  alike = s.alike;
  twin = λ on_it. absurd (false≢true (sym off ∙ on_it));
  behind = λ _. subst (λ (l : List Event). (later ≤ length (log ++ Lost b x ∷ [])) × LagsBehind n base (take later (log ++ Lost b x ∷ [])) began l) (sym (step.2 refl))
      (still_behind side n base log pairs rows live end began events s h k (Lost b x ∷ []) later step.1);
}

-- a call that brings notices on this disk alone, or takes it down
pub side_notices : (side : Side) (n : ℕ) (base : Blocks) (log : List Event) (pairs : List Pair) (rows : List Heard) (live now : Bool) (end later : ℕ) (began : Blocks) (events : List Event) (ts : List ℕ)
    → IsLawful log → IsLawful events → (now ≡ true → (live ≡ true) × (later ≡ end)) → (now ≡ false → later ≡ end_at (length log) live end)
    → IsOnSide side n base log pairs rows live end began events → IsOnSide side n base log pairs rows now later began (events ++ notices ts)
side_notices side n base log pairs rows live now end later began events ts h k stays goes s = record {
  alike = s.alike;
  twin = λ on_it. twin_notices side pairs rows log events ts (s.twin (stays on_it).0);
  behind = λ off. let was = still_behind side n base log pairs rows live end began events s h k [] later (goes off) in
      let same : log ++ [] ≡ log = append-nil log in
      subst (λ (l : List Event). (later ≤ length l) × LagsBehind n base (take later l) began (events ++ notices ts)) same (was.0, behind_notices n base began (take later (log ++ [])) events ts was.1);
}

-- rows that note no more of this disk than what it noticed
pub side_rows : (side : Side) (n : ℕ) (base : Blocks) (log : List Event) (pairs : List Pair) (rows more : List Heard) (live : Bool) (end : ℕ) (began : Blocks) (events : List Event)
    → (live ≡ true → (j : ℕ) → heard_on side (heard_of more j) ≡ true → (heard_on side (heard_of rows j) ≡ true) ⊎ (is_over events (ticket_on side pairs (Some j)) ≡ true))
    → IsOnSide side n base log pairs rows live end began events → IsOnSide side n base log pairs more live end began events
side_rows side n base log pairs rows more live end began events less s = record {
  alike = s.alike;
  twin = λ on_it. twin_rows side pairs rows more log events (less on_it) (s.twin on_it);
  behind = s.behind;
}

-- a report of the mirror
pub side_report : (side : Side) (n : ℕ) (base : Blocks) (log : List Event) (pairs : List Pair) (rows : List Heard) (live : Bool) (end : ℕ) (began : Blocks) (events : List Event) (i : ℕ)
    → (live ≡ true → heard_on side (heard_of rows i) ≡ true)
    → IsOnSide side n base log pairs rows live end began events → IsOnSide side n base (log ++ Noticed i ∷ []) pairs rows live end began events
side_report side n base log pairs rows live end began events i heard s = record {
  alike = s.alike;
  twin = λ on_it. let w = s.twin on_it in twin_report side pairs rows log events i (w.heard i (heard on_it)) w;
  behind = λ off. let was = s.behind off in
      (omega (arith, was.0, length-append log (Noticed i ∷ [])), subst (λ (l : List Event). LagsBehind n base l began events) (sym (take-append-le end log (Noticed i ∷ []) was.0)) was.1);
}
