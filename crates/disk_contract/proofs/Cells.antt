-- Laws of cells.
use Rattle.std.proofs.Common.{◌≡◌, ◌≢◌, ◌⊎◌, inl, inr, ⊎_elim, ℕ, ◌<◌, Bool, true, false, ◌==◌, ◌||◌, if◌then◌else◌, List, [], ◌∷◌, ◌++◌, length, Some, None, refl, sym, ◌∙◌, ap, subst, arith}
use Rattle.std.proofs.lemmas.Bool.{eqb-true, eqb-false, eq-eqb, or_cases, false≢true, cond-true}
use Rattle.base_types.specs.Seal.{Blocks}
use Rattle.disk_contract.specs.declared.event.Event.{Event}
use Rattle.disk_contract.specs.declared.event.Event.TheVariants.{Wrote, Lost, Noticed}
use Rattle.disk_contract.specs.Cell.{Write, Cell, is_ticket, from_ticket, settle, with_write, after, after_all, cell_of, IsNoticed, notices}
use Rattle.disk_contract.specs.Crash.{AreBytesOf, MayHold, IsTorn}
use Rattle.disk_contract.specs.Logs.{cell_of-append}

-- both ways of a test
pub by_test : {A R : Type 0} (P : A → Type 0) (b : Bool) (x y : A) → P (if b then x else y) → (b ≡ true → P x → R) → (b ≡ false → P y → R) → R
by_test P true x y h f g = f refl h
by_test P false x y h f g = g refl h

-- what a notice leaves pending was pending
from_ticket-part : (t : ℕ) (ws : List Write) (x : List ℕ) → AreBytesOf (from_ticket t ws) x → AreBytesOf ws x
from_ticket-part t [] x h = h
from_ticket-part t (w ∷ ws) x h =
    by_test (λ l. AreBytesOf l x) (is_ticket t w.ticket) (w ∷ ws) (from_ticket t ws) h (λ _ all. all) (λ _ less. inr (from_ticket-part t ws x less))

-- where a notice leaves pending writes, there were some
from_ticket-some : (t : ℕ) (ws : List Write) → 0 < length (from_ticket t ws) → 0 < length ws
from_ticket-some t [] h = h
from_ticket-some t (w ∷ ws) h = omega arith

-- what is pending after settling was among the writes
settle-bytes : (c : Cell) (ws : List Write) (x : List ℕ) → ((y : List ℕ) → AreBytesOf ws y → AreBytesOf c.pending y) → AreBytesOf (settle c ws).pending x → AreBytesOf c.pending x
settle-bytes c [] x part h = h
settle-bytes c (w ∷ ws) x part h = part x (inr h)

-- what is settled after settling was settled or among the writes
settle-settled : (c : Cell) (ws : List Write) (x : List ℕ) → ((y : List ℕ) → AreBytesOf ws y → AreBytesOf c.pending y) → x ≡ (settle c ws).settled → (x ≡ c.settled) ⊎ AreBytesOf c.pending x
settle-settled c [] x part h = inl h
settle-settled c (w ∷ ws) x part h = inr (part x (inl h))

-- and something is pending after it only where something was before
settle-some : (c : Cell) (ws : List Write) → (0 < length ws → 0 < length c.pending) → 0 < length (settle c ws).pending → 0 < length c.pending
settle-some c [] some h = h
settle-some c (w ∷ ws) some h = some (omega arith)

-- a notice allows nothing new
pub MayHold-notice : (b t : ℕ) (c : Cell) (x : List ℕ) → MayHold (after b c (Noticed t)) x → MayHold c x
MayHold-notice b t c x h =
    let part = λ (y : List ℕ). from_ticket-part t c.pending y in
    ⊎_elim (λ s. ⊎_elim inl (λ r. inr (inl r)) (settle-settled c (from_ticket t c.pending) x part s))
    (λ r. ⊎_elim (λ p. inr (inl (settle-bytes c (from_ticket t c.pending) x part p)))
    (λ torn. inr (inr (settle-some c (from_ticket t c.pending) (from_ticket-some t c.pending) torn.0, torn.1))) r) h

-- and what was torn before it is torn after it
pub IsTorn-notice : (b t : ℕ) (c : Cell) (x : List ℕ) → IsTorn c x → IsTorn (after b c (Noticed t)) x
IsTorn-notice b t c x h =
    let part = λ (y : List ℕ). from_ticket-part t c.pending y in
    record {
      not_settled = λ e. ⊎_elim h.not_settled h.not_written (settle-settled c (from_ticket t c.pending) x part e);
      not_written = λ w. h.not_written (settle-bytes c (from_ticket t c.pending) x part w);
    }

-- a block with nothing pending stays as it is, whatever is noticed
pub idle-notices : (b : ℕ) (c : Cell) (ts : List ℕ) → c.pending ≡ [] → after_all b c (notices ts) ≡ c
idle-notices b c [] e = refl
idle-notices b c (t ∷ ts) e =
    let same : settle c (from_ticket t c.pending) ≡ c = rw e refl in
    ap (λ d. after_all b d (notices ts)) same ∙ idle-notices b c ts e

-- the one pending write is settled once its ticket is among the notices
pub waited : (b t : ℕ) (old x : List ℕ) (ts : List ℕ) → IsNoticed t (notices ts)
    → after_all b (record { settled = old; pending = record { ticket = Some t; bytes = x } ∷ [] }) (notices ts) ≡ record { settled = x; pending = [] }
waited b t old x [] h = absurd (false≢true h)
waited b t old x (u ∷ ts) h =
    elim (t == u) as (λ v. (t == u) ≡ v → after_all b (settle (record { settled = old; pending = record { ticket = Some t; bytes = x } ∷ [] }) (if v then record { ticket = Some t; bytes = x } ∷ [] else [])) (notices ts) ≡ record { settled = x; pending = [] }) [
      | true ↦ λ e. idle-notices b _ ts refl
      | false ↦ λ e. waited b t old x ts (⊎_elim (λ is. absurd (eqb-false t u e (sym (eqb-true u t is)))) (λ r. r) (or_cases _ _ h))
    ] refl

-- a write to the block is pending on it
pub own_wrote : (base : Blocks) (log : List Event) (t a : ℕ) (x : List ℕ) → cell_of base (log ++ Wrote t a x ∷ []) a ≡ with_write (cell_of base log a) (Some t) x
own_wrote base log t a x = cell_of-append base log _ a ∙ cond-true (a == a) _ _ (eq-eqb a a refl)

-- so is a lost one
pub own_lost : (base : Blocks) (log : List Event) (a : ℕ) (x : List ℕ) → cell_of base (log ++ Lost a x ∷ []) a ≡ with_write (cell_of base log a) None x
own_lost base log a x = cell_of-append base log _ a ∙ cond-true (a == a) _ _ (eq-eqb a a refl)

-- a notice settles the write that it is of
pub one_noticed : (base : Blocks) (log : List Event) (t b : ℕ) → cell_of base (log ++ Noticed t ∷ []) b ≡ settle (cell_of base log b) (from_ticket t (cell_of base log b).pending)
one_noticed base log t b = cell_of-append base log _ b

-- notices change nothing of a block with nothing pending
pub same_noticed : (base : Blocks) (log : List Event) (b : ℕ) (ts : List ℕ) → (cell_of base log b).pending ≡ [] → cell_of base (log ++ notices ts) b ≡ cell_of base log b
same_noticed base log b ts idle = cell_of-append base log _ b ∙ idle-notices b _ ts idle

-- a block with nothing pending holds what is settled, in each image
pub idle-holds : (c : Cell) (x : List ℕ) → c.pending ≡ [] → MayHold c x → x ≡ c.settled
idle-holds c x idle h = ⊎_elim (λ e. e) (λ r. absurd (⊎_elim (λ w. subst (λ l. AreBytesOf l x) idle w) (λ torn. omega (arith, (subst (λ (l : List Write). 0 < length l) idle torn.0))) r)) h
