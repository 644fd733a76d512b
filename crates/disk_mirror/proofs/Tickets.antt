-- Each ticket that a live disk accepted has a row.
use Rattle.std.proofs.Common.{◌≡◌, ◌⊎◌, inl, inr, ⊎_elim, ℕ, ◌==◌, true, false, if◌then◌else◌, List, [], ◌∷◌, map, Option, Some, None, refl, sym, ◌∙◌, ap, subst}
use Rattle.std.proofs.lemmas.Bool.{eqb-true, eq-eqb, or_cases, false≢true, cond-true}
use Rattle.disk_contract.specs.declared.event.Event.{Event}
use Rattle.disk_contract.specs.declared.event.Event.TheVariants.{Wrote, Lost, Noticed}
use Rattle.disk_contract.specs.Cell.{Write, IsAccepted}
use Rattle.disk_contract.specs.Lawful.{writes_to}
use Rattle.disk_mirror.specs.declared.entry.Side.{Side}
use Rattle.disk_mirror.specs.declared.entry.Pair.{Pair}
use Rattle.disk_mirror.specs.declared.entry.Heard.{Heard}
use Rattle.disk_mirror.specs.Twin.{ticket_on, twin, IsTwin}

-- one of the writes has this ticket
abbrev pub HasTicket : ℕ → List Write → Type 0
HasTicket t [] = ⊥
HasTicket t (w ∷ ws) = (w.ticket ≡ Some t) ⊎ HasTicket t ws

-- an accepted write is one of those to its block
has_more : (t b : ℕ) (e : Event) (es : List Event) → HasTicket t (writes_to b es) → HasTicket t (writes_to b (e ∷ es))
has_more t b (Wrote u d x) es h = elim (d == b) as (λ v. HasTicket t (if v then record { ticket = Some u; bytes = x } ∷ writes_to b es else writes_to b es)) [ true ↦ inr h | false ↦ h ]
has_more t b (Lost d x) es h = elim (d == b) as (λ v. HasTicket t (if v then record { ticket = None; bytes = x } ∷ writes_to b es else writes_to b es)) [ true ↦ inr h | false ↦ h ]
has_more t b (Noticed u) es h = h

accepted_write : (t : ℕ) (es : List Event) → IsAccepted t es → (b : ℕ) × HasTicket t (writes_to b es)
accepted_write t [] a = absurd (false≢true a)
accepted_write t (Wrote u d x ∷ es) a = ⊎_elim (λ own. (d, here own)) (λ more. let r = accepted_write t es more in (r.0, has_more t r.0 (Wrote u d x) es r.1)) (or_cases _ _ a)
  where
    here : (u == t) ≡ true → HasTicket t (if d == d then record { ticket = Some u; bytes = x } ∷ writes_to d es else writes_to d es)
    here own = subst (HasTicket t) (sym (cond-true (d == d) _ _ (eq-eqb d d refl))) (inl (ap (λ k. Some k) (eqb-true u t own)))
accepted_write t (Lost d x ∷ es) a = let r = accepted_write t es a in (r.0, has_more t r.0 (Lost d x) es r.1)
accepted_write t (Noticed u ∷ es) a = accepted_write t es a

-- and the write of the mirror that it is the twin of has a row with that ticket
row_of : (side : Side) (pairs : List Pair) (t : ℕ) (ws : List Write) → HasTicket t (map (twin side pairs) ws) → (i : ℕ) × (ticket_on side pairs (Some i) ≡ Some t)
row_of side pairs t [] h = absurd h
row_of side pairs t (w ∷ ws) h = ⊎_elim (own w.ticket) (row_of side pairs t ws) h
  where
    none_some : None ≡ Some t → ⊥
    none_some e = cc

    own : (o : Option ℕ) → ticket_on side pairs o ≡ Some t → (i : ℕ) × (ticket_on side pairs (Some i) ≡ Some t)
    own None e = absurd (none_some e)
    own (Some i) e = (i, e)

pub has_row : (side : Side) (pairs : List Pair) (rows : List Heard) (log events : List Event) (t : ℕ) → IsTwin side pairs rows log events → IsAccepted t events → (i : ℕ) × (ticket_on side pairs (Some i) ≡ Some t)
has_row side pairs rows log events t w a = let r = accepted_write t events a in row_of side pairs t (writes_to r.0 log) (subst (HasTicket t) (w.writes r.0) r.1)
