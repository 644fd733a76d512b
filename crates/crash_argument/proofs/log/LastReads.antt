-- What a read of a block gives: what was written to it last, where no write behind it was lost.
use Rattle.std.proofs.Common.{◌≡◌, ⊎_elim, ℕ, ◌==◌, Bool, true, false, if◌then◌else◌, List, [], ◌∷◌, ◌++◌, Some, None, refl, sym, ◌∙◌, ap, subst}
use Rattle.std.proofs.lemmas.Bool.{false≢true, cases_Bool}
use Rattle.base_types.specs.Seal.{Blocks}
use Rattle.disk_contract.specs.declared.event.Event.{Event}
use Rattle.disk_contract.specs.declared.event.Event.TheVariants.{Wrote, Lost, Noticed}
use Rattle.disk_contract.specs.Cell.{Write, Cell, is_ticket, from_ticket, settle, with_write, after_all, cell_of, accepted, accepted_from, is_lost, is_lost_from}
use Rattle.crash_argument.specs.Ledger.{latest, last_of}
use Rattle.crash_argument.proofs.log.Adds.{last_of-append, settles_notice}

-- what was written last is what was accepted last, where no write was lost since
abbrev Follows : ℕ → List Event → Type 0
Follows b es = (c : Cell) (x : List ℕ) (lost : Bool) → (lost ≡ false → latest c ≡ x) → is_lost_from b lost es ≡ false → latest (after_all b c es) ≡ accepted_from b x es

-- so it stays, event by event
follows : (b : ℕ) (es : List Event) → Follows b es
follows b [] c x lost h e = h e
follows b (Wrote t block y ∷ es) c x lost h e = by (follows b es) (block == b) e
  where
    by : Follows b es → (v : Bool) → is_lost_from b (if v then false else lost) es ≡ false → latest (after_all b (if v then with_write c (Some t) y else c) es) ≡ accepted_from b (if v then y else x) es
    by on true e = on (with_write c (Some t) y) y false (λ _. last_of-append c.settled c.pending (record { ticket = Some t; bytes = y })) e
    by on false e = on c x lost h e
follows b (Lost block y ∷ es) c x lost h e = by (follows b es) (block == b) e
  where
    by : Follows b es → (v : Bool) → is_lost_from b (if v then true else lost) es ≡ false → latest (after_all b (if v then with_write c None y else c) es) ≡ accepted_from b x es
    by on true e = on (with_write c None y) x true (λ q. absurd (false≢true (sym q))) e
    by on false e = on c x lost h e
follows b (Noticed t ∷ es) c x lost h e = follows b es (settle c (from_ticket t c.pending)) x lost (λ q. (settles_notice b t c).latest_is ∙ h q) e

pub accepted_is_latest : (base : Blocks) (log : List Event) (b : ℕ) → is_lost b log ≡ false → accepted base log b ≡ latest (cell_of base log b)
accepted_is_latest base log b e = sym (follows b log (record { settled = base b; pending = [] }) (base b) false (λ _. refl) e)

-- these writes end with a lost one
record EndsLost (ws : List Write) : Type 0 where
  pub before : List Write
  pub bytes : List ℕ
  pub split : ws ≡ before ++ record { ticket = None; bytes = bytes } ∷ []

-- so there are some
not_empty : (ws : List Write) → EndsLost ws → ws ≡ [] → ⊥
not_empty ws k e = some k.before (sym e ∙ k.split)
  where
    some : (vs : List Write) → [] ≡ vs ++ record { ticket = None; bytes = k.bytes } ∷ [] → ⊥
    some [] e = cc
    some (v ∷ vs) e = cc

-- what a notice leaves of such writes ends so too
lost_stays : (t : ℕ) (c : Cell) (ws : List Write) → EndsLost c.pending → EndsLost ws → EndsLost (settle c (from_ticket t ws)).pending
lost_stays t c ws old k = subst (λ (vs : List Write). EndsLost (settle c (from_ticket t vs)).pending) (sym k.split) (by k.before)
  where
    end : Write
    end = record { ticket = None; bytes = k.bytes }

    by : (vs : List Write) → EndsLost (settle c (from_ticket t (vs ++ end ∷ []))).pending
    by [] = old
    by (v ∷ vs) = elim (is_ticket t v.ticket) as (λ q. EndsLost (settle c (if q then v ∷ (vs ++ end ∷ []) else from_ticket t (vs ++ end ∷ []))).pending) [ true ↦ record { before = vs; bytes = k.bytes; split = refl } | false ↦ by vs ]

-- where a write was lost behind the last accepted one, the pending writes end with a lost one
loses : (b : ℕ) (es : List Event) (c : Cell) (lost : Bool) → (lost ≡ true → EndsLost c.pending) → is_lost_from b lost es ≡ true → EndsLost (after_all b c es).pending
loses b [] c lost h e = h e
loses b (Wrote t block y ∷ es) c lost h e = by (loses b es) (block == b) e
  where
    by : ((c : Cell) (lost : Bool) → (lost ≡ true → EndsLost c.pending) → is_lost_from b lost es ≡ true → EndsLost (after_all b c es).pending)
        → (v : Bool) → is_lost_from b (if v then false else lost) es ≡ true → EndsLost (after_all b (if v then with_write c (Some t) y else c) es).pending
    by on true e = on (with_write c (Some t) y) false (λ q. absurd (false≢true q)) e
    by on false e = on c lost h e
loses b (Lost block y ∷ es) c lost h e = by (loses b es) (block == b) e
  where
    by : ((c : Cell) (lost : Bool) → (lost ≡ true → EndsLost c.pending) → is_lost_from b lost es ≡ true → EndsLost (after_all b c es).pending)
        → (v : Bool) → is_lost_from b (if v then true else lost) es ≡ true → EndsLost (after_all b (if v then with_write c None y else c) es).pending
    by on true e = on (with_write c None y) true (λ _. record { before = c.pending; bytes = y; split = refl }) e
    by on false e = on c lost h e
loses b (Noticed t ∷ es) c lost h e = loses b es (settle c (from_ticket t c.pending)) lost (λ q. lost_stays t c c.pending (h q) (h q)) e

-- so none was lost where nothing is pending, and what was accepted last is settled
pub idle_reads : (base : Blocks) (log : List Event) (b : ℕ) → (cell_of base log b).pending ≡ [] → (is_lost b log ≡ false) × (accepted base log b ≡ (cell_of base log b).settled)
idle_reads base log b idle = (none, accepted_is_latest base log b none ∙ ap (last_of (cell_of base log b).settled) idle)
  where
    none : is_lost b log ≡ false
    none = ⊎_elim (λ yes. absurd (not_empty _ (loses b log (record { settled = base b; pending = [] }) false (λ q. absurd (false≢true q)) yes) idle)) (λ no. no) (cases_Bool (is_lost b log))
