-- What a row of writes leaves that is waited for, block by block, where nothing was pending.
use Rattle.std.proofs.Common.{◌≡◌, ◌≢◌, ◌⊎◌, inl, inr, ⊎_elim, ℕ, zero, suc, ◌+◌, ◌<◌, ◌≤◌, ◌==◌, nat_lt, true, false, if◌then◌else◌, List, [], ◌∷◌, ◌++◌, Some, refl, sym, ◌∙◌, ap, subst, arith}
use Rattle.std.proofs.lemmas.Bool.{false≢true, or_cases, cases_eq, cases_Bool, ltb-true, ltb-false, eq-eqb, ne_eqb, eqb-true, eqb-false, cond-true, cond-false}
use Rattle.base_types.specs.Seal.{Blocks}
use Rattle.disk_contract.specs.declared.event.Event.{Event}
use Rattle.disk_contract.specs.declared.event.Event.TheVariants.{Wrote, Lost, Noticed}
use Rattle.disk_contract.specs.Cell.{Cell, Write, settle, from_ticket, with_write, after_all, cell_of, IsNoticed, notices}
pub use Rattle.disk_contract.specs.Logs.{cell_of-append}
use Rattle.disk_contract.specs.Logs.{other_wrote}
use Rattle.crash_argument.specs.LastWrites.{AvoidsBlock}
use Rattle.crash_argument.specs.PipelineData.{AllNoticed}
use Rattle.crash_argument.specs.Writes.{AddsWrites}
use Rattle.engine_store.specs.Formatting.{row_of, AddsDurably}
use Rattle.engine_store.proofs.Logs.{noticed_in, notices_avoid}

-- a notice leaves a cell with nothing pending
idle_notice : (c : Cell) (t : ℕ) → c.pending ≡ [] → settle c (from_ticket t c.pending) ≡ c
idle_notice c t e = rw e refl

-- and so do all events that don't write the block
pub idle_avoids : (b : ℕ) (c : Cell) (es : List Event) → c.pending ≡ [] → AvoidsBlock b es → after_all b c es ≡ c
idle_avoids b c [] e a = refl
idle_avoids b c (Wrote t d x ∷ es) e a = ap (λ k. after_all b k es) (cond-false (d == b) (with_write c (Some t) x) c (ne_eqb d b a.0)) ∙ idle_avoids b c es e a.1
idle_avoids b c (Lost d x ∷ es) e a = ap (λ k. after_all b k es) (cond-false (d == b) _ c (ne_eqb d b a.0)) ∙ idle_avoids b c es e a.1
idle_avoids b c (Noticed t ∷ es) e a = ap (λ k. after_all b k es) (idle_notice c t e) ∙ idle_avoids b c es e a

-- the one pending write is settled once its ticket is among the notices
waited : (b t : ℕ) (old x : List ℕ) (ts : List ℕ) → IsNoticed t (notices ts)
    → after_all b (record { settled = old; pending = record { ticket = Some t; bytes = x } ∷ [] }) (notices ts) ≡ record { settled = x; pending = [] }
waited b t old x [] h = absurd (false≢true h)
waited b t old x (u ∷ ts) h =
    elim (t == u) as (λ v. (t == u) ≡ v → after_all b (settle (record { settled = old; pending = record { ticket = Some t; bytes = x } ∷ [] }) (if v then record { ticket = Some t; bytes = x } ∷ [] else [])) (notices ts) ≡ record { settled = x; pending = [] }) [
      | true ↦ λ e. idle_avoids b _ (notices ts) refl (notices_avoid b ts)
      | false ↦ λ e. waited b t old x ts (⊎_elim (λ is. absurd (eqb-false t u e (sym (eqb-true u t is)))) (λ r. r) (or_cases _ _ h))
    ] refl

own_wrote : (base : Blocks) (log : List Event) (t a b : ℕ) (x : List ℕ) → a ≡ b → cell_of base (log ++ Wrote t a x ∷ []) b ≡ with_write (cell_of base log b) (Some t) x
own_wrote base log t a b x e = cell_of-append base log _ b ∙ cond-true (a == b) _ _ (eq-eqb a b e)

-- a write is no notice
not_noticed : (t u b : ℕ) (x : List ℕ) (log : List Event) → ¬ IsNoticed t log → ¬ IsNoticed t (log ++ Wrote u b x ∷ [])
not_noticed t u b x log n h = ⊎_elim n (λ e. false≢true e) (noticed_in t log (Wrote u b x ∷ []) h)

-- block b is none of the row
abbrev pub Outside : ℕ → ℕ → ℕ → Type 0
Outside first count b = (b < first) ⊎ (first + count ≤ b)

outside_rest : (first count b : ℕ) → Outside first (suc count) b → Outside (first + 1) count b
outside_rest first count b (inl low) = inl (omega (arith, low))
outside_rest first count b (inr high) = inr (omega (arith, high))

outside_apart : (first count b : ℕ) → Outside first (suc count) b → first ≢ b
outside_apart first count b (inl low) e = omega (arith, low, e)
outside_apart first count b (inr high) e = omega (arith, high, e)

module _ (base : Blocks) (blocks : Blocks) where
  -- the row's writes leave the other blocks
  row_leaves : (first count b : ℕ) (ts : List ℕ) (old mid : List Event) → Outside first count b → AddsWrites (row_of blocks first count) ts old mid → cell_of base mid b ≡ cell_of base old b
  row_leaves first zero b [] old mid out adds = ap (λ (l : List Event). cell_of base l b) adds
  row_leaves first zero b (t ∷ ts) old mid out adds = absurd adds
  row_leaves first (suc count) b [] old mid out adds = absurd adds
  row_leaves first (suc count) b (t ∷ ts) old mid out adds =
      row_leaves (first + 1) count b ts (old ++ Wrote t first (blocks first) ∷ []) mid (outside_rest first count b out) adds.2
      ∙ other_wrote base old t first b (blocks first) (outside_apart first count b out)

  -- and bring no notice
  row_quiet : (first count u : ℕ) (ts : List ℕ) (old mid : List Event) → AddsWrites (row_of blocks first count) ts old mid → ¬ IsNoticed u old → ¬ IsNoticed u mid
  row_quiet first zero u [] old mid adds n h = n (subst (IsNoticed u) adds h)
  row_quiet first zero u (t ∷ ts) old mid adds n h = absurd adds
  row_quiet first (suc count) u [] old mid adds n h = absurd adds
  row_quiet first (suc count) u (t ∷ ts) old mid adds n h = row_quiet (first + 1) count u ts (old ++ Wrote t first (blocks first) ∷ []) mid adds.2 (not_noticed u t first (blocks first) old n) h

  -- the one pending write of block b, whose ticket is noticed in `new` and wasn't before
  record IsWaiting (b : ℕ) (old mid new : List Event) : Type 0 where
    pub ticket : ℕ
    pub pending : cell_of base mid b ≡ record { settled = (cell_of base old b).settled; pending = record { ticket = Some ticket; bytes = blocks b } ∷ [] }
    pub open_yet : ¬ IsNoticed ticket mid
    pub noticed : IsNoticed ticket new

  -- a block of the row has it
  row_waits : (first count b : ℕ) (ts : List ℕ) (old mid new : List Event) → first ≤ b → b < first + count → (cell_of base old b).pending ≡ [] → AddsWrites (row_of blocks first count) ts old mid → AllNoticed new ts → IsWaiting b old mid new
  row_waits first zero b ts old mid new low high idle adds all = absurd (omega (arith, low, high))
  row_waits first (suc count) b [] old mid new low high idle adds all = absurd adds
  row_waits first (suc count) b (t ∷ ts) old mid new low high idle adds all = by (cases_eq first b) (λ from still. row_waits (first + 1) count b ts after_first mid new from (omega (arith, high)) still adds.2 all.1)
    where
      after_first : List Event
      after_first = old ++ Wrote t first (blocks first) ∷ []

      by : (first ≡ b) ⊎ (first ≢ b) → (first + 1 ≤ b → (cell_of base after_first b).pending ≡ [] → IsWaiting b after_first mid new) → IsWaiting b old mid new
      by (inl e) rest = record {
        ticket = t;
        pending =
            row_leaves (first + 1) count b ts after_first mid (inl (omega (arith, e))) adds.2
            ∙ own_wrote base old t first b (blocks first) e
            ∙ ap (λ (ws : List Write). record { settled = (cell_of base old b).settled; pending = ws ++ record { ticket = Some t; bytes = blocks first } ∷ [] }) idle
            ∙ ap (λ d. record { settled = (cell_of base old b).settled; pending = record { ticket = Some t; bytes = blocks d } ∷ [] }) e;
        open_yet = row_quiet (first + 1) count t ts after_first mid adds.2 (not_noticed t t first (blocks first) old adds.1);
        noticed = all.0;
      }
      by (inr d) rest =
          let same : cell_of base after_first b ≡ cell_of base old b = other_wrote base old t first b (blocks first) d in
          let w = rest (omega (arith, low, d)) (ap (λ (c : Cell). c.pending) same ∙ idle) in
          record {
            ticket = w.ticket;
            pending = w.pending ∙ ap (λ (c : Cell). record { settled = c.settled; pending = record { ticket = Some w.ticket; bytes = blocks b } ∷ [] }) same;
            open_yet = w.open_yet;
            noticed = w.noticed;
          }

  -- so it is settled once the tickets are noticed
  pub row_settles : (first count b : ℕ) (old new : List Event) → first ≤ b → b < first + count → (cell_of base old b).pending ≡ [] → AddsDurably (row_of blocks first count) old new → cell_of base new b ≡ record { settled = blocks b; pending = [] }
  row_settles first count b old new low high idle adds =
      let w = row_waits first count b adds.tickets old adds.middle new low high idle adds.accepted adds.noticed in
      let ts = adds.notices.tickets in
      let among : IsNoticed w.ticket (notices ts) = ⊎_elim (λ early. absurd (w.open_yet early)) (λ late. late) (noticed_in w.ticket adds.middle (notices ts) (subst (IsNoticed w.ticket) adds.notices.log w.noticed)) in
      ap (λ (l : List Event). cell_of base l b) adds.notices.log
      ∙ cell_of-append base adds.middle (notices ts) b
      ∙ ap (λ c. after_all b c (notices ts)) w.pending
      ∙ waited b w.ticket (cell_of base old b).settled (blocks b) ts among

  -- and the other blocks stay
  pub row_keeps : (first count b : ℕ) (old new : List Event) → Outside first count b → (cell_of base old b).pending ≡ [] → AddsDurably (row_of blocks first count) old new → cell_of base new b ≡ cell_of base old b
  row_keeps first count b old new out idle adds =
      let ts = adds.notices.tickets in
      let same : cell_of base adds.middle b ≡ cell_of base old b = row_leaves first count b adds.tickets old adds.middle out adds.accepted in
      ap (λ (l : List Event). cell_of base l b) adds.notices.log
      ∙ cell_of-append base adds.middle (notices ts) b
      ∙ idle_avoids b (cell_of base adds.middle b) (notices ts) (ap (λ (c : Cell). c.pending) same ∙ idle) (notices_avoid b ts)
      ∙ same

  -- so where nothing was pending, nothing is
  pub row_idle : (first count : ℕ) (old new : List Event) → ((b : ℕ) → (cell_of base old b).pending ≡ []) → AddsDurably (row_of blocks first count) old new → (b : ℕ) → (cell_of base new b).pending ≡ []
  row_idle first count old new idle adds b = by (cases_Bool (nat_lt b first)) (cases_Bool (nat_lt b (first + count)))
    where
      outside : Outside first count b → (cell_of base new b).pending ≡ []
      outside out = ap (λ (c : Cell). c.pending) (row_keeps first count b old new out (idle b) adds) ∙ idle b

      by : (nat_lt b first ≡ true) ⊎ (nat_lt b first ≡ false) → (nat_lt b (first + count) ≡ true) ⊎ (nat_lt b (first + count) ≡ false) → (cell_of base new b).pending ≡ []
      by (inl low) end = outside (inl (ltb-true _ _ low))
      by (inr from) (inl below) = ap (λ (c : Cell). c.pending) (row_settles first count b old new (ltb-false _ _ from) (ltb-true _ _ below) (idle b) adds)
      by (inr from) (inr past) = outside (inr (ltb-false _ _ past))
