-- A ticket that is noticed settles its block, where it is that of the last write.
use Rattle.std.proofs.Common.{◌≡◌, ◌⊎◌, inl, inr, ⊎_elim, ℕ, ◌<◌, Bool, true, false, ◌==◌, if◌then◌else◌, List, [], ◌∷◌, ◌++◌, Some, None, refl, sym, ◌∙◌, ap, subst, arith}
use Rattle.std.proofs.lemmas.Bool.{eq-eqb, ne_eqb, eqb-true, or_cases, false≢true, cases_Bool, cond-true, cond-false}
use Rattle.base_types.specs.Seal.{Blocks}
use Rattle.disk_contract.specs.declared.event.Event.{Event}
use Rattle.disk_contract.specs.declared.event.Event.TheVariants.{Wrote, Lost, Noticed}
use Rattle.disk_contract.specs.Cell.{Cell, Write, with_write, is_ticket, from_ticket, settle, after, after_all, cell_of, greatest_ticket, IsNoticed}
use Rattle.crash_argument.proofs.log.Events.{after_all-append, IsNoticed-append}
use Rattle.crash_argument.specs.LastWrites.{AvoidsBlock, IsLastWrite}
use Rattle.crash_argument.specs.PipelineData.{IsSettledIn}

-- none of these writes has the ticket
abbrev LacksTicket : ℕ → List Write → Type 0
LacksTicket t ws = from_ticket t ws ≡ []

-- so the first hasn't, and the others haven't
lacks_tail : (t : ℕ) (w : Write) (ws : List Write) → LacksTicket t (w ∷ ws) → (is_ticket t w.ticket ≡ false) × LacksTicket t ws
lacks_tail t w ws e = ⊎_elim (λ yes. absurd (clash (sym (cond-true (is_ticket t w.ticket) (w ∷ ws) (from_ticket t ws) yes) ∙ e))) (λ other. (other, sym (cond-false (is_ticket t w.ticket) (w ∷ ws) (from_ticket t ws) other) ∙ e)) (cases_Bool (is_ticket t w.ticket))
  where
    clash : w ∷ ws ≡ [] → ⊥
    clash e = cc

-- nor has one more that hasn't it
lacks_more : (t : ℕ) (ws : List Write) (w : Write) → LacksTicket t ws → is_ticket t w.ticket ≡ false → LacksTicket t (ws ++ w ∷ [])
lacks_more t [] w e other = cond-false (is_ticket t w.ticket) (w ∷ []) [] other
lacks_more t (v ∷ ws) w e other = let parts = lacks_tail t v ws e in cond-false (is_ticket t v.ticket) _ _ parts.0 ∙ lacks_more t ws w parts.1 other

-- nor have those from another ticket on
lacks_from : (t u : ℕ) (ws : List Write) → LacksTicket t ws → LacksTicket t (from_ticket u ws)
lacks_from t u [] e = refl
lacks_from t u (w ∷ ws) e = elim (is_ticket u w.ticket) as (λ v. LacksTicket t (if v then w ∷ ws else from_ticket u ws)) [ true ↦ e | false ↦ lacks_from t u ws (lacks_tail t w ws e).1 ]

-- nor has a cell once some writes are settled
lacks_settle : (t : ℕ) (c : Cell) (ws : List Write) → LacksTicket t c.pending → LacksTicket t ws → LacksTicket t (settle c ws).pending
lacks_settle t c [] old e = old
lacks_settle t c (w ∷ ws) old e = (lacks_tail t w ws e).1

-- a ticket above all given is on no block
lacks_all : (t b : ℕ) (c : Cell) (log : List Event) → greatest_ticket log < t → LacksTicket t c.pending → LacksTicket t (after_all b c log).pending
lacks_all t b c [] low e = e
lacks_all t b c (Wrote u d x ∷ log) low e = lacks_all t b (if d == b then with_write c (Some u) x else c) log (omega arith) (by (d == b))
  where
    by : (v : Bool) → LacksTicket t (if v then with_write c (Some u) x else c).pending
    by true = lacks_more t c.pending _ e (ne_eqb u t (λ s. omega arith))
    by false = e
lacks_all t b c (Lost d x ∷ log) low e = lacks_all t b (if d == b then with_write c None x else c) log low (by (d == b))
  where
    by : (v : Bool) → LacksTicket t (if v then with_write c None x else c).pending
    by true = lacks_more t c.pending _ e refl
    by false = e
lacks_all t b c (Noticed u ∷ log) low e = lacks_all t b (settle c (from_ticket u c.pending)) log low (lacks_settle t c (from_ticket u c.pending) e (lacks_from t u c.pending e))

-- the last of these writes has this ticket and these bytes, and no other has it
pub record LastIs (ws : List Write) (t : ℕ) (x : List ℕ) : Type 0 where
  pub front : List Write
  pub split : ws ≡ front ++ record { ticket = Some t; bytes = x } ∷ []
  pub alone : LacksTicket t front

-- from its ticket on there is this write alone
own_from : (t : ℕ) (x : List ℕ) (front : List Write) → LacksTicket t front → from_ticket t (front ++ record { ticket = Some t; bytes = x } ∷ []) ≡ record { ticket = Some t; bytes = x } ∷ []
own_from t x [] e = cond-true (t == t) _ _ (eq-eqb t t refl)
own_from t x (w ∷ front) e = let parts = lacks_tail t w front e in cond-false (is_ticket t w.ticket) _ _ parts.0 ∙ own_from t x front parts.1

-- a notice of another ticket leaves the last one where it is, or settles it
other_from : (u t : ℕ) (x : List ℕ) (front : List Write) (c : Cell) → LacksTicket t front → LastIs c.pending t x
    → IsSettledIn (settle c (from_ticket u (front ++ record { ticket = Some t; bytes = x } ∷ []))) x ⊎ LastIs (settle c (from_ticket u (front ++ record { ticket = Some t; bytes = x } ∷ []))).pending t x
other_from u t x [] c e now = elim (t == u) as (λ v. IsSettledIn (settle c (if v then record { ticket = Some t; bytes = x } ∷ [] else [])) x ⊎ LastIs (settle c (if v then record { ticket = Some t; bytes = x } ∷ [] else [])).pending t x)
    [ true ↦ inl (record { settled = refl; pending = refl }) | false ↦ inr now ]
other_from u t x (w ∷ front) c e now =
    let parts = lacks_tail t w front e in
    let rest = other_from u t x front c parts.1 now in
    elim (is_ticket u w.ticket) as (λ v. IsSettledIn (settle c (if v then w ∷ (front ++ record { ticket = Some t; bytes = x } ∷ []) else from_ticket u (front ++ record { ticket = Some t; bytes = x } ∷ []))) x ⊎ LastIs (settle c (if v then w ∷ (front ++ record { ticket = Some t; bytes = x } ∷ []) else from_ticket u (front ++ record { ticket = Some t; bytes = x } ∷ []))).pending t x)
    [ true ↦ inr (record { front = front; split = refl; alone = parts.1 }) | false ↦ rest ]

-- what is settled stays so under a notice
pub done_notice : (u : ℕ) (c : Cell) (x : List ℕ) → IsSettledIn c x → IsSettledIn (settle c (from_ticket u c.pending)) x
done_notice u c x d = record { settled = ap (λ ws. (settle c (from_ticket u ws)).settled) d.pending ∙ d.settled; pending = ap (λ ws. (settle c (from_ticket u ws)).pending) d.pending ∙ d.pending }

-- and under all events that avoid the block
done_stays : (b : ℕ) (c : Cell) (x : List ℕ) (later : List Event) → AvoidsBlock b later → IsSettledIn c x → IsSettledIn (after_all b c later) x
done_stays b c x [] a d = d
done_stays b c x (Wrote u e y ∷ later) a d = subst (λ (n : Cell). IsSettledIn (after_all b n later) x) (sym (cond-false (e == b) (with_write c (Some u) y) c (ne_eqb e b a.0))) (done_stays b c x later a.1 d)
done_stays b c x (Lost e y ∷ later) a d = subst (λ (n : Cell). IsSettledIn (after_all b n later) x) (sym (cond-false (e == b) (with_write c None y) c (ne_eqb e b a.0))) (done_stays b c x later a.1 d)
done_stays b c x (Noticed u ∷ later) a d = done_stays b (settle c (from_ticket u c.pending)) x later a (done_notice u c x d)

-- a notice of its own ticket settles the last write
own_notice : (u t : ℕ) (c : Cell) (x : List ℕ) → LastIs c.pending t x → (u == t) ≡ true → IsSettledIn (settle c (from_ticket u c.pending)) x
own_notice u t c x l e =
    let found : from_ticket u c.pending ≡ record { ticket = Some t; bytes = x } ∷ [] = ap (λ k. from_ticket k c.pending) (eqb-true u t e) ∙ ap (from_ticket t) l.split ∙ own_from t x l.front l.alone in
    subst (λ (ws : List Write). IsSettledIn (settle c ws) x) (sym found) (record { settled = refl; pending = refl })

-- so any notice settles it, or leaves it the last
any_notice : (u t : ℕ) (c : Cell) (x : List ℕ) → LastIs c.pending t x → IsSettledIn (settle c (from_ticket u c.pending)) x ⊎ LastIs (settle c (from_ticket u c.pending)).pending t x
any_notice u t c x l = subst (λ (ws : List Write). IsSettledIn (settle c (from_ticket u ws)) x ⊎ LastIs (settle c (from_ticket u ws)).pending t x) (sym l.split) (other_from u t x l.front c l.alone l)

-- and it is settled once a later event has noticed its ticket
settles_later : (b t : ℕ) (c : Cell) (x : List ℕ) (later : List Event) → AvoidsBlock b later → LastIs c.pending t x → IsNoticed t later → IsSettledIn (after_all b c later) x
settles_later b t c x [] a l n = absurd (false≢true n)
settles_later b t c x (Wrote u e y ∷ later) a l n = subst (λ (k : Cell). IsSettledIn (after_all b k later) x) (sym (cond-false (e == b) (with_write c (Some u) y) c (ne_eqb e b a.0))) (settles_later b t c x later a.1 l n)
settles_later b t c x (Lost e y ∷ later) a l n = subst (λ (k : Cell). IsSettledIn (after_all b k later) x) (sym (cond-false (e == b) (with_write c None y) c (ne_eqb e b a.0))) (settles_later b t c x later a.1 l n)
settles_later b t c x (Noticed u ∷ later) a l n =
    ⊎_elim (λ e. done_stays b (settle c (from_ticket u c.pending)) x later a (own_notice u t c x l e))
    (λ m. ⊎_elim (λ d. done_stays b (settle c (from_ticket u c.pending)) x later a d) (λ k. settles_later b t (settle c (from_ticket u c.pending)) x later a k m) (any_notice u t c x l))
    (or_cases _ _ n)

-- once its ticket is noticed, the block holds the bytes of its last write and nothing is pending
pub noticed_done : (base : Blocks) (log : List Event) (b t : ℕ) (x : List ℕ) → IsLastWrite log b t x → IsNoticed t log → IsSettledIn (cell_of base log b) x
noticed_done base log b t x w n =
    let wrote = after_all-append b (record { settled = base b; pending = [] }) w.before (Wrote t b x ∷ w.later) in
    let c = cell_of base w.before b in
    let later : IsNoticed t w.later = ⊎_elim (λ early. absurd (w.fresh early)) (λ r. r) (IsNoticed-append t w.before (Wrote t b x ∷ w.later) (subst (λ (lg : List Event). IsNoticed t lg) w.split n)) in
    let lacks = lacks_all t b (record { settled = base b; pending = [] }) w.before w.above refl in
    let now : after b c (Wrote t b x) ≡ with_write c (Some t) x = cond-true (b == b) _ _ (eq-eqb b b refl) in
    subst (λ (lg : List Event). IsSettledIn (cell_of base lg b) x) (sym w.split)
    (subst (λ (d : Cell). IsSettledIn d x) (sym wrote) (subst (λ (d : Cell). IsSettledIn (after_all b d w.later) x) (sym now)
    (settles_later b t (with_write c (Some t) x) x w.later w.last (record { front = c.pending; split = refl; alone = lacks }) later)))
