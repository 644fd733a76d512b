-- Last writes: what they say of the block, and how they stay.
use Rattle.std.proofs.Common.{◌≡◌, ℕ, ◌<◌, true, false, ◌==◌, if◌then◌else◌, IsTrue, List, [], ◌∷◌, ◌++◌, refl, sym, ◌∙◌, ap, subst, append_assoc, append-nil}
use Rattle.std.proofs.lemmas.Bool.{eq-eqb, false≢true, cond-true}
use Rattle.base_types.specs.Seal.{Blocks}
use Rattle.disk_contract.specs.declared.event.Event.{Event}
use Rattle.disk_contract.specs.declared.event.Event.TheVariants.{Wrote, Lost, Noticed}
use Rattle.disk_contract.specs.Cell.{cell_of, greatest_ticket, IsNoticed, IsWritten}
use Rattle.crash_argument.proofs.log.Events.{other_wrote, other_lost, IsWritten-append}
use Rattle.crash_argument.specs.Ledger.{latest}
use Rattle.crash_argument.specs.LastWrites.{AvoidsBlock, IsLastWrite, is_among}
use Rattle.crash_argument.specs.Recording.{IsAmongLast}
use Rattle.crash_argument.proofs.log.Adds.{adds_wrote, settles_one, last_written}

-- events that avoid a block leave what was written last in it
latest_stays : (base : Blocks) (log later : List Event) (b : ℕ) → AvoidsBlock b later → latest (cell_of base (log ++ later) b) ≡ latest (cell_of base log b)
latest_stays base log [] b a = ap (λ (l : List Event). latest (cell_of base l b)) (append-nil log)
latest_stays base log (Wrote t d x ∷ later) b a = ap (λ (l : List Event). latest (cell_of base l b)) (sym (append_assoc log (Wrote t d x ∷ []) later)) ∙ latest_stays base (log ++ Wrote t d x ∷ []) later b a.1 ∙ ap latest (other_wrote base log t d b x a.0)
latest_stays base log (Lost d x ∷ later) b a = ap (λ (l : List Event). latest (cell_of base l b)) (sym (append_assoc log (Lost d x ∷ []) later)) ∙ latest_stays base (log ++ Lost d x ∷ []) later b a.1 ∙ ap latest (other_lost base log d b x a.0)
latest_stays base log (Noticed t ∷ later) b a = ap (λ (l : List Event). latest (cell_of base l b)) (sym (append_assoc log (Noticed t ∷ []) later)) ∙ latest_stays base (log ++ Noticed t ∷ []) later b a ∙ (settles_one base log t b).latest_is

-- the block's latest bytes are those of its last write
pub last_latest : (base : Blocks) (log : List Event) (b t : ℕ) (x : List ℕ) → IsLastWrite log b t x → latest (cell_of base log b) ≡ x
last_latest base log b t x w =
    ap (λ (l : List Event). latest (cell_of base l b)) (w.split ∙ sym (append_assoc w.before (Wrote t b x ∷ []) w.later))
    ∙ latest_stays base (w.before ++ Wrote t b x ∷ []) w.later b w.last ∙ (adds_wrote base w.before t b x).latest_is

-- and they were written
pub last_logged : (log : List Event) (b t : ℕ) (x : List ℕ) → IsLastWrite log b t x → IsWritten x log
last_logged log b t x w = subst (λ (l : List Event). IsWritten x l) (sym (w.split ∙ sym (append_assoc w.before (Wrote t b x ∷ []) w.later))) (IsWritten-append x (w.before ++ Wrote t b x ∷ []) w.later (last_written w.before t b x))

-- two lists of events avoid a block where each does
pub avoids_append : (b : ℕ) (xs ys : List Event) → AvoidsBlock b xs → AvoidsBlock b ys → AvoidsBlock b (xs ++ ys)
avoids_append b [] ys p q = q
avoids_append b (Wrote t d x ∷ xs) ys p q = (p.0, avoids_append b xs ys p.1 q)
avoids_append b (Lost d x ∷ xs) ys p q = (p.0, avoids_append b xs ys p.1 q)
avoids_append b (Noticed t ∷ xs) ys p q = avoids_append b xs ys p q

-- it stays the last one while no event writes the block
pub last_stays : (log more : List Event) (b t : ℕ) (x : List ℕ) → AvoidsBlock b more → IsLastWrite log b t x → IsLastWrite (log ++ more) b t x
last_stays log more b t x a w = record {
  before = w.before;
  later = w.later ++ more;
  split = ap (λ (l : List Event). l ++ more) w.split ∙ append_assoc w.before (Wrote t b x ∷ w.later) more;
  above = w.above;
  fresh = w.fresh;
  last = avoids_append b w.later more w.last a;
}

-- a write with a new ticket is the last one
pub last_new : (log : List Event) (b t : ℕ) (x : List ℕ) → greatest_ticket log < t → ¬ IsNoticed t log → IsLastWrite (log ++ Wrote t b x ∷ []) b t x
last_new log b t x high fresh = record { before = log; later = []; split = refl; above = high; fresh = fresh; last = tt }

-- a ticket of a list is one of the longer list
pub among_left : (ts us : List ℕ) (t : ℕ) → IsTrue (is_among ts t) → IsTrue (is_among (ts ++ us) t)
among_left [] us t h = absurd (false≢true h)
among_left (u ∷ ts) us t h = elim (u == t) as (λ v. IsTrue (if v then true else is_among ts t) → IsTrue (if v then true else is_among (ts ++ us) t)) [ true ↦ λ k. k | false ↦ λ k. among_left ts us t k ] h

-- and so is the one that makes it longer
pub among_own : (ts : List ℕ) (t : ℕ) → IsTrue (is_among (ts ++ t ∷ []) t)
among_own [] t = cond-true (t == t) true false (eq-eqb t t refl)
among_own (u ∷ ts) t = elim (u == t) as (λ v. IsTrue (if v then true else is_among (ts ++ t ∷ []) t)) [ true ↦ refl | false ↦ among_own ts t ]

-- of several tickets
pub among_stays : (log : List Event) (e : Event) (tickets more : List ℕ) (b : ℕ) (x : List ℕ) → AvoidsBlock b (e ∷ []) → IsAmongLast log tickets b x → IsAmongLast (log ++ e ∷ []) (tickets ++ more) b x
among_stays log e tickets more b x a p = (p.0, among_left tickets more p.0 p.1, last_stays log (e ∷ []) b p.0 x a p.2)
