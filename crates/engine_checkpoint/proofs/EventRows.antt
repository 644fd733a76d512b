-- Events by which a log has grown, each of one kind: none, one, several one after the other; notices, and the writes of a call.
use Rattle.std.proofs.Common.{◌≡◌, ⊎_elim, ℕ, suc, List, [], ◌∷◌, ◌++◌, length, slice_get, Some, Contains, refl, sym, ◌∙◌, ap, subst, arith, append_assoc, append-nil}
use Rattle.std.proofs.lemmas.List.Elements.{Contains-push_cases, Contains-append_cases}
use Rattle.disk_contract.specs.declared.event.Event.{Event}
use Rattle.disk_contract.specs.declared.event.Event.TheVariants.{Wrote, Lost, Noticed}
use Rattle.disk_contract.specs.Cell.{notices}
use Rattle.crash_argument.specs.Writes.{AddsWrites, AddsFront}
use Rattle.engine_checkpoint.proofs.KeptRows.{get_behind}
use Rattle.engine_checkpoint.proofs.Lists.{get_old}

-- the log has grown by events of this kind
pub record Adds (P : Event → Type 0) (old new : List Event) : Type 0 where
  pub more : List Event
  pub log : new ≡ old ++ more
  pub each : (e : Event) → Contains more e → P e

pub none_in : (e : Event) → Contains [] e → ⊥
none_in e there = let lt = there.1 in omega (arith, lt)

pub adds_none : (P : Event → Type 0) (old new : List Event) → new ≡ old → Adds P old new
adds_none P old new same = record { more = []; log = same ∙ sym (append-nil old); each = λ e there. absurd (none_in e there) }

pub adds_one : (P : Event → Type 0) (old new : List Event) (f : Event) → new ≡ old ++ f ∷ [] → P f → Adds P old new
adds_one P old new f log p = record { more = f ∷ []; log = log; each = λ e there. ⊎_elim (λ none. absurd (none_in e none)) (λ same. subst P same p) (Contains-push_cases [] f e there) }

pub adds_on : (P : Event → Type 0) (a b c : List Event) → Adds P a b → Adds P b c → Adds P a c
adds_on P a b c one two = record { more = one.more ++ two.more; log = two.log ∙ ap (λ xs. xs ++ two.more) one.log ∙ append_assoc a one.more two.more; each = λ e there. ⊎_elim (λ h. one.each e h) (λ h. two.each e h) (Contains-append_cases one.more two.more e there) }

pub adds_as : (P Q : Event → Type 0) (old new : List Event) → ((e : Event) → P e → Q e) → Adds P old new → Adds Q old new
adds_as P Q old new turn one = record { more = one.more; log = one.log; each = λ e there. turn e (one.each e there) }

-- notices
pub adds_notices : (P : Event → Type 0) → ((t : ℕ) → P (Noticed t)) → (ts : List ℕ) (old new : List Event) → new ≡ old ++ notices ts → Adds P old new
adds_notices P each ts old new log = record { more = notices ts; log = log; each = λ e there. among ts e there }
  where
    among : (ts : List ℕ) (e : Event) → Contains (notices ts) e → P e
    among [] e there = absurd (none_in e there)
    among (t ∷ ts) e there = ⊎_elim (λ first. ⊎_elim (λ none. absurd (none_in e none)) (λ same. subst P same (each t)) (Contains-push_cases [] (Noticed t) e first)) (λ rest. among ts e rest) (Contains-append_cases (Noticed t ∷ []) (notices ts) e there)

-- writes, each accepted
pub adds_writes : (P : Event → Type 0) (ws : List (ℕ × List ℕ)) (ts : List ℕ) (old new : List Event) → ((t k : ℕ) (w : ℕ × List ℕ) → slice_get ws k ≡ Some w → P (Wrote t w.0 w.1)) → AddsWrites ws ts old new → Adds P old new
adds_writes P [] [] old new each same = adds_none P old new same
adds_writes P [] (t ∷ ts) old new each bad = absurd bad
adds_writes P (w ∷ ws) [] old new each bad = absurd bad
adds_writes P (w ∷ ws) (t ∷ ts) old new each adds =
    adds_on P old (old ++ Wrote t w.0 w.1 ∷ []) new (adds_one P old (old ++ Wrote t w.0 w.1 ∷ []) (Wrote t w.0 w.1) refl (each t 0 w refl))
    (adds_writes P ws ts (old ++ Wrote t w.0 w.1 ∷ []) new (λ u k x is. each u (suc k) x is) adds.2)

-- a front of them, and the next one lost
pub adds_front : (P : Event → Type 0) (ws : List (ℕ × List ℕ)) (old new : List Event) → ((t k : ℕ) (w : ℕ × List ℕ) → slice_get ws k ≡ Some w → P (Wrote t w.0 w.1)) → ((k : ℕ) (w : ℕ × List ℕ) → slice_get ws k ≡ Some w → P (Lost w.0 w.1)) → AddsFront ws old new → Adds P old new
adds_front P ws old new each lost f =
    adds_on P old f.middle new
    (adds_writes P f.front f.tickets old f.middle (λ t k w is. each t k w (ap (λ us. slice_get us k) f.split ∙ get_old f.front f.rest k w is)) f.accepted)
    (⊎_elim (λ same. adds_none P f.middle new same) (λ (b, x, later, next, log). adds_one P f.middle new (Lost b x) log
    (lost (length f.front) (b, x) (ap (λ us. slice_get us (length f.front)) (f.split ∙ ap (λ us. f.front ++ us) next) ∙ get_behind f.front ((b, x) ∷ later) (length f.front) 0 (b, x) (omega arith) refl))) f.ends)
