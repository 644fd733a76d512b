-- What is pending on a block, by its last write: that write where its ticket isn't noticed, and else nothing.
use Rattle.std.proofs.Common.{◌≡◌, ◌≢◌, ◌⊎◌, inl, inr, ℕ, ◌<◌, ◌==◌, ◌||◌, Bool, true, false, List, [], ◌∷◌, ◌++◌, length, Some, None, refl, sym, ◌∙◌, ap, subst, arith, length-append}
use Rattle.std.proofs.lemmas.Bool.Decides.{nat_tests}
use Rattle.std.proofs.lemmas.Bool.{eq-eqb, ne_eqb, false≢true, cond-true, cond-false}
use Rattle.base_types.specs.Seal.{Blocks}
use Rattle.disk_contract.specs.declared.event.Event.{Event}
use Rattle.disk_contract.specs.declared.event.Event.TheVariants.{Wrote, Lost, Noticed}
use Rattle.disk_contract.specs.Cell.{Cell, Write, after, after_all, cell_of, from_ticket, greatest_ticket, is_noticed, is_ticket, settle, with_write, IsNoticed}
use Rattle.disk_contract.specs.Logs.{after_all-append as after_append}
use Rattle.crash_argument.specs.LastWrites.{AvoidsBlock, IsLastWrite}

-- Writes of other tickets.

-- none of these has the ticket
abbrev HasNone : ℕ → List Write → Type 0
HasNone t [] = Unit {0}
HasNone t (w ∷ ws) = (is_ticket t w.ticket ≡ false) × HasNone t ws

none_push : (t : ℕ) (ws : List Write) (w : Write) → HasNone t ws → is_ticket t w.ticket ≡ false → HasNone t (ws ++ w ∷ [])
none_push t [] w none other = (other, tt)
none_push t (v ∷ ws) w none other = (none.0, none_push t ws w none.1 other)

none_settle : (t u : ℕ) (c : Cell) (ws : List Write) → HasNone t c.pending → HasNone t ws → HasNone t (settle c (from_ticket u ws)).pending
none_settle t u c [] here none = here
none_settle t u c (w ∷ ws) here none = grind (arith, nat_tests, none_settle t u c ws here none.1)

-- a write of the list adds none, where its ticket is another
none_written : (b t d : ℕ) (c : Cell) (w : Write) → HasNone t c.pending → is_ticket t w.ticket ≡ false → HasNone t (Rattle.std.specs.Prelude.if◌then◌else◌ (d == b) (with_write c w.ticket w.bytes) c).pending
none_written b t d c w none other = grind (arith, nat_tests, none_push)

none_after : (b t : ℕ) (c : Cell) (es : List Event) → greatest_ticket es < t → HasNone t c.pending → HasNone t (after_all b c es).pending
none_after b t c [] low none = none
none_after b t c (Wrote u d x ∷ es) low none = none_after b t (after b c (Wrote u d x)) es (omega (arith, low)) (none_written b t d c (record { ticket = Some u; bytes = x }) none (ne_eqb u t (λ e. omega (arith, low, e))))
none_after b t c (Lost d x ∷ es) low none = none_after b t (after b c (Lost d x)) es low (none_written b t d c (record { ticket = None; bytes = x }) none refl)
none_after b t c (Noticed u ∷ es) low none = none_after b t (after b c (Noticed u)) es low (none_settle t u c c.pending none none)

-- The last write.

-- it is the last of these, and none before it has its ticket
pub record EndsWith (t : ℕ) (x : List ℕ) (ws : List Write) : Type 0 where
  pub front : List Write
  pub is : ws ≡ front ++ record { ticket = Some t; bytes = x } ∷ []
  pub alone : HasNone t front

-- behind the notice of another ticket it is so still
ends_from : (t u : ℕ) (x : List ℕ) (c : Cell) (front : List Write) → (t == u) ≡ false → HasNone t front → EndsWith t x c.pending → EndsWith t x (settle c (from_ticket u (front ++ record { ticket = Some t; bytes = x } ∷ []))).pending
ends_from t u x c [] other none ends = subst (λ (us : List Write). EndsWith t x (settle c us).pending) (sym (cond-false (t == u) (record { ticket = Some t; bytes = x } ∷ []) [] other)) ends
ends_from t u x c (w ∷ front) other none ends = grind (arith, nat_tests, ends_from t u x c front other none.1 ends)

-- its own notice leaves nothing pending
own_from : (t : ℕ) (x : List ℕ) (front : List Write) → HasNone t front → from_ticket t (front ++ record { ticket = Some t; bytes = x } ∷ []) ≡ record { ticket = Some t; bytes = x } ∷ []
own_from t x [] none = cond-true (t == t) (record { ticket = Some t; bytes = x } ∷ []) [] (eq-eqb t t refl)
own_from t x (w ∷ front) none = cond-false (is_ticket t w.ticket) (w ∷ (front ++ record { ticket = Some t; bytes = x } ∷ [])) (from_ticket t (front ++ record { ticket = Some t; bytes = x } ∷ [])) none.0 ∙ own_from t x front none.1

own_settles : (t : ℕ) (x : List ℕ) (c : Cell) → EndsWith t x c.pending → (settle c (from_ticket t c.pending)).pending ≡ []
own_settles t x c ends = ap (λ (us : List Write). (settle c (from_ticket t us)).pending) ends.is ∙ ap (λ (us : List Write). (settle c us).pending) (own_from t x ends.front ends.alone)

-- an event elsewhere leaves the block
elsewhere : (b d : ℕ) (c k : Cell) → d ≢ b → (Rattle.std.specs.Prelude.if◌then◌else◌ (d == b) k c) ≡ c
elsewhere b d c k other = cond-false (d == b) k c (ne_eqb d b other)

-- on a block at rest nothing comes
stays_idle : (b : ℕ) (c : Cell) (es : List Event) → AvoidsBlock b es → c.pending ≡ [] → (after_all b c es).pending ≡ []
stays_idle b c [] avoids idle = idle
stays_idle b c (Wrote u d x ∷ es) avoids idle = stays_idle b (after b c (Wrote u d x)) es avoids.1 (ap (λ (k : Cell). k.pending) (elsewhere b d c (with_write c (Some u) x) avoids.0) ∙ idle)
stays_idle b c (Lost d x ∷ es) avoids idle = stays_idle b (after b c (Lost d x)) es avoids.1 (ap (λ (k : Cell). k.pending) (elsewhere b d c (with_write c None x) avoids.0) ∙ idle)
stays_idle b c (Noticed u ∷ es) avoids idle = stays_idle b (after b c (Noticed u)) es avoids (ap (λ (us : List Write). (settle c (from_ticket u us)).pending) idle ∙ idle)

-- a notice is of the ticket, or of another, and then of that one it isn't said
abbrev Other : ℕ → ℕ → List Event → Type 0
Other t u es = ((t == u) ≡ false) × (IsNoticed t (Noticed u ∷ es) → IsNoticed t es)

own_or_other : (t u : ℕ) (es : List Event) → (t ≡ u) ⊎ Other t u es
own_or_other t u es = grind (arith, nat_tests, ne_eqb)

-- Behind the write, where no other to the block comes: it is the last one pending until its notice, and then nothing is.
behind : (b t : ℕ) (x : List ℕ) (c : Cell) (es : List Event) → AvoidsBlock b es → EndsWith t x c.pending → (IsNoticed t es → (after_all b c es).pending ≡ []) × ((¬ IsNoticed t es) → EndsWith t x (after_all b c es).pending)
behind b t x c [] avoids ends = (λ came. absurd (false≢true came), λ never. ends)
behind b t x c (Wrote u d y ∷ es) avoids ends = behind b t x (after b c (Wrote u d y)) es avoids.1 (subst (λ (k : Cell). EndsWith t x k.pending) (sym (elsewhere b d c (with_write c (Some u) y) avoids.0)) ends)
behind b t x c (Lost d y ∷ es) avoids ends = behind b t x (after b c (Lost d y)) es avoids.1 (subst (λ (k : Cell). EndsWith t x k.pending) (sym (elsewhere b d c (with_write c None y) avoids.0)) ends)
behind b t x c (Noticed u ∷ es) avoids ends = by (own_or_other t u es) (behind b t x (after b c (Noticed u)) es avoids)
  where
    by : (t ≡ u) ⊎ Other t u es → (EndsWith t x (after b c (Noticed u)).pending → (IsNoticed t es → (after_all b (after b c (Noticed u)) es).pending ≡ []) × ((¬ IsNoticed t es) → EndsWith t x (after_all b (after b c (Noticed u)) es).pending))
        → (IsNoticed t (Noticed u ∷ es) → (after_all b (after b c (Noticed u)) es).pending ≡ []) × ((¬ IsNoticed t (Noticed u ∷ es)) → EndsWith t x (after_all b (after b c (Noticed u)) es).pending)
    by (inl own) rest = (
      λ came. stays_idle b (after b c (Noticed u)) es avoids (subst (λ n. (settle c (from_ticket n c.pending)).pending ≡ []) own (own_settles t x c ends)),
      λ never. absurd (never (ap (λ v. v || is_noticed t es) (eq-eqb u t (sym own)))),
    )
    by (inr other) rest =
        let then = rest (subst (λ (us : List Write). EndsWith t x (settle c (from_ticket u us)).pending) (sym ends.is) (ends_from t u x c ends.front other.0 ends.alone ends)) in (
          λ came. then.0 (other.1 came),
          λ never. then.1 (λ came. never (later u t es came)),
        )
      where
        later : (u t : ℕ) (es : List Event) → IsNoticed t es → IsNoticed t (Noticed u ∷ es)
        later u t es came = full (u == t) came
          where
            full : (v : Bool) → is_noticed t es ≡ true → (v || is_noticed t es) ≡ true
            full true e = refl
            full false e = e

noticed_behind : (u : ℕ) (es fs : List Event) → IsNoticed u fs → IsNoticed u (es ++ fs)
noticed_behind u [] fs came = came
noticed_behind u (Wrote t b x ∷ es) fs came = noticed_behind u es fs came
noticed_behind u (Lost b x ∷ es) fs came = noticed_behind u es fs came
noticed_behind u (Noticed t ∷ es) fs came = grind (arith, nat_tests, noticed_behind u es fs came)

noticed_later : (u : ℕ) (es fs : List Event) → IsNoticed u (es ++ fs) → (¬ IsNoticed u es) → IsNoticed u fs
noticed_later u [] fs came never = came
noticed_later u (Wrote t b x ∷ es) fs came never = noticed_later u es fs came never
noticed_later u (Lost b x ∷ es) fs came never = noticed_later u es fs came never
noticed_later u (Noticed t ∷ es) fs came never = grind (arith, nat_tests, noticed_later u es fs)

module _ (base : Blocks) (log : List Event) (b t : ℕ) (x : List ℕ) (w : IsLastWrite log b t x) where
  -- the block as the write comes
  abbrev cell : Cell
  cell = after_all b (record { settled = base b; pending = [] }) w.before

  comes : EndsWith t x (after b cell (Wrote t b x)).pending
  comes = subst (λ (k : Cell). EndsWith t x k.pending) (sym (cond-true (b == b) (with_write cell (Some t) x) cell (eq-eqb b b refl))) (record { front = cell.pending; is = refl; alone = none_after b t (record { settled = base b; pending = [] }) w.before w.above tt })

  is_cell : cell_of base log b ≡ after_all b (after b cell (Wrote t b x)) w.later
  is_cell = ap (λ (es : List Event). cell_of base es b) w.split ∙ after_append b (record { settled = base b; pending = [] }) w.before (Wrote t b x ∷ w.later)

  -- noticed, it leaves the block at rest
  pub noticed_rests : IsNoticed t log → (cell_of base log b).pending ≡ []
  noticed_rests came = ap (λ (k : Cell). k.pending) is_cell ∙ (behind b t x (after b cell (Wrote t b x)) w.later w.last comes).0 (noticed_later t w.before (Wrote t b x ∷ w.later) (subst (λ (es : List Event). IsNoticed t es) w.split came) w.fresh)

  -- not noticed, it is pending
  pub open_is_pending : (¬ IsNoticed t log) → (cell_of base log b).pending ≡ [] → ⊥
  open_is_pending never idle =
      let ends = (behind b t x (after b cell (Wrote t b x)) w.later w.last comes).1 (λ came. never (subst (λ (es : List Event). IsNoticed t es) (sym w.split) (noticed_behind t w.before (Wrote t b x ∷ w.later) came))) in
      omega (arith, ap (λ (us : List Write). length us) ends.is, length-append ends.front (record { ticket = Some t; bytes = x } ∷ []), ap (λ (k : Cell). length k.pending) is_cell, ap (λ (us : List Write). length us) idle)
