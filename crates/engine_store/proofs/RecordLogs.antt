-- What the writes of a record leave of each block of a log: which bytes were accepted last, and whether a write was lost behind them.
use Rattle.std.proofs.Common.{◌≡◌, ◌≢◌, ⊎_elim, ℕ, suc, ◌+◌, ◌%◌, ◌<◌, ◌≤◌, ◌==◌, Bool, true, false, if◌then◌else◌, List, [], ◌∷◌, ◌++◌, map, Some, None, refl, sym, ◌∙◌, ap, subst, arith, append_assoc, append-nil, inl, inr}
use Rattle.std.proofs.lemmas.Bool.{eqb-true, ne_eqb, cases_Bool}
use Rattle.std.proofs.lemmas.Nat.{mod_below}
use Rattle.std.proofs.lemmas.Bool.Decides.{nat_tests}
use Rattle.disk_contract.specs.declared.event.Event.{Event}
use Rattle.disk_contract.specs.declared.event.Event.TheVariants.{Wrote, Lost, Noticed}
use Rattle.disk_contract.specs.Cell.{accepted_from, is_lost_from}
use Rattle.disk_contract.specs.Disk.{AreWrites, GrowsByWrites}
use Rattle.layout_geometry.specs.Geometry.{Geometry, bitmap_start, ring_block}
use Rattle.layout_journal.specs.Run.{heads, commit_says, otherwise}
use Rattle.layout_journal.specs.Spelling.{commit_block}
use Rattle.crash_argument.specs.Writes.{AddsWrites, AddsFront}
use Rattle.engine_running.specs.declared.put.Put.{Put}
use Rattle.engine_running.specs.Record.{record_of, descriptor_blocks, stored_put}
use Rattle.engine_running.specs.Rows.{IsRising, LacksBlock, put_of}
use Rattle.engine_running.specs.Writes.{fresh_write, ring_writes, record_writes}

-- One event more.

accepted_more : (b : ℕ) (x : List ℕ) (log : List Event) (e : Event) → accepted_from b x (log ++ e ∷ []) ≡ accepted_from b (accepted_from b x log) (e ∷ [])
accepted_more b x [] e = refl
accepted_more b x (Wrote u d z ∷ log) e = accepted_more b (if d == b then z else x) log e
accepted_more b x (Lost d z ∷ log) e = accepted_more b x log e
accepted_more b x (Noticed u ∷ log) e = accepted_more b x log e

lost_more : (b : ℕ) (l : Bool) (log : List Event) (e : Event) → is_lost_from b l (log ++ e ∷ []) ≡ is_lost_from b (is_lost_from b l log) (e ∷ [])
lost_more b l [] e = refl
lost_more b l (Wrote u d z ∷ log) e = lost_more b (if d == b then false else l) log e
lost_more b l (Lost d z ∷ log) e = lost_more b (if d == b then true else l) log e
lost_more b l (Noticed u ∷ log) e = lost_more b l log e

passed : {A : Type 0} (v : Bool) (x y : A) → v ≡ false → (if v then x else y) ≡ y
passed v x y e = ap (λ (u : Bool). if u then x else y) e

-- All writes of a list.

-- the bytes that the last of these writes to the block has, or else these
abbrev after_writes : ℕ → List ℕ → List (ℕ × List ℕ) → List ℕ
after_writes b x [] = x
after_writes b x (w ∷ ws) = after_writes b (if w.0 == b then w.1 else x) ws

pub all_accepted : (b : ℕ) (x : List ℕ) (ws : List (ℕ × List ℕ)) (ts : List ℕ) (old new : List Event) → AddsWrites ws ts old new → accepted_from b x new ≡ after_writes b (accepted_from b x old) ws
all_accepted b x [] [] old new a = ap (accepted_from b x) a
all_accepted b x [] (t ∷ ts) old new a = absurd a
all_accepted b x (w ∷ ws) [] old new a = absurd a
all_accepted b x (w ∷ ws) (t ∷ ts) old new a = all_accepted b x ws ts (old ++ Wrote t w.0 w.1 ∷ []) new a.2 ∙ ap (λ (y : List ℕ). after_writes b y ws) (accepted_more b x old (Wrote t w.0 w.1))

still_none : (v l : Bool) → l ≡ false → (if v then false else l) ≡ false
still_none v l e = grind (arith, e)

-- where no write to the block was lost, none is
pub none_are_lost : (b : ℕ) (ws : List (ℕ × List ℕ)) (ts : List ℕ) (old new : List Event) → AddsWrites ws ts old new → is_lost_from b false old ≡ false → is_lost_from b false new ≡ false
none_are_lost b [] [] old new a e = ap (is_lost_from b false) a ∙ e
none_are_lost b [] (t ∷ ts) old new a e = absurd a
none_are_lost b (w ∷ ws) [] old new a e = absurd a
none_are_lost b (w ∷ ws) (t ∷ ts) old new a e = none_are_lost b ws ts (old ++ Wrote t w.0 w.1 ∷ []) new a.2 (lost_more b false old (Wrote t w.0 w.1) ∙ still_none (w.0 == b) (is_lost_from b false old) e)

pub all_grow : (ws : List (ℕ × List ℕ)) (ts : List ℕ) (old new : List Event) → AddsWrites ws ts old new → GrowsByWrites old new
all_grow [] [] old new a = record { more = []; log = a ∙ sym (append-nil old); writes = tt }
all_grow [] (t ∷ ts) old new a = absurd a
all_grow (w ∷ ws) [] old new a = absurd a
all_grow (w ∷ ws) (t ∷ ts) old new a = let g = all_grow ws ts (old ++ Wrote t w.0 w.1 ∷ []) new a.2 in record { more = Wrote t w.0 w.1 ∷ g.more; log = g.log ∙ append_assoc old (Wrote t w.0 w.1 ∷ []) g.more; writes = g.writes }

-- one that was lost behind them is a write too
and_lost : (es : List Event) (b : ℕ) (x : List ℕ) → AreWrites es → AreWrites (es ++ Lost b x ∷ [])
and_lost [] b x all = tt
and_lost (Wrote t c y ∷ es) b x all = and_lost es b x all
and_lost (Lost c y ∷ es) b x all = and_lost es b x all
and_lost (Noticed t ∷ es) b x all = absurd all

pub front_grows : (ws : List (ℕ × List ℕ)) (old new : List Event) → AddsFront ws old new → GrowsByWrites old new
front_grows ws old new f = let g = all_grow f.front f.tickets old f.middle f.accepted in ⊎_elim (λ same. subst (GrowsByWrites old) (sym same) g)
    (λ lost. record { more = g.more ++ Lost lost.0 lost.1 ∷ []; log = lost.4 ∙ ap (λ (es : List Event). es ++ Lost lost.0 lost.1 ∷ []) g.log ∙ append_assoc old g.more (Lost lost.0 lost.1 ∷ []); writes = and_lost g.more lost.0 lost.1 g.writes }) f.ends

-- Writes to other blocks.

-- none of these writes is to the block
abbrev pub Avoid : ℕ → List (ℕ × List ℕ) → Type 0
Avoid b [] = Unit {0}
Avoid b (w ∷ ws) = (w.0 ≢ b) × Avoid b ws

-- the block's last accepted bytes are as before, and so is whether a write was lost behind them
pub record StaysAt (b : ℕ) (old new : List Event) : Type 0 where
  pub bytes : (x : List ℕ) → accepted_from b x new ≡ accepted_from b x old
  pub lost : is_lost_from b false new ≡ is_lost_from b false old

pub stays_then : (b : ℕ) (old mid new : List Event) → StaysAt b old mid → StaysAt b mid new → StaysAt b old new
stays_then b old mid new one two = record { bytes = λ x. two.bytes x ∙ one.bytes x; lost = two.lost ∙ one.lost }

pub still_there : (b : ℕ) (old new : List Event) → new ≡ old → StaysAt b old new
still_there b old new e = record { bytes = λ x. ap (accepted_from b x) e; lost = ap (is_lost_from b false) e }

pub all_avoid : (b : ℕ) (ws : List (ℕ × List ℕ)) (ts : List ℕ) (old new : List Event) → AddsWrites ws ts old new → Avoid b ws → StaysAt b old new
all_avoid b [] [] old new a apart = still_there b old new a
all_avoid b [] (t ∷ ts) old new a apart = absurd a
all_avoid b (w ∷ ws) [] old new a apart = absurd a
all_avoid b (w ∷ ws) (t ∷ ts) old new a apart = stays_then b old (old ++ Wrote t w.0 w.1 ∷ []) new
    (record { bytes = λ x. accepted_more b x old (Wrote t w.0 w.1) ∙ passed (w.0 == b) _ _ (ne_eqb w.0 b apart.0); lost = lost_more b false old (Wrote t w.0 w.1) ∙ passed (w.0 == b) _ _ (ne_eqb w.0 b apart.0) })
    (all_avoid b ws ts (old ++ Wrote t w.0 w.1 ∷ []) new a.2 apart.1)

avoid_front : (b : ℕ) (vs ws : List (ℕ × List ℕ)) → Avoid b (vs ++ ws) → Avoid b vs
avoid_front b [] ws a = tt
avoid_front b (v ∷ vs) ws a = (a.0, avoid_front b vs ws a.1)

avoid_rest : (b : ℕ) (vs ws : List (ℕ × List ℕ)) → Avoid b (vs ++ ws) → Avoid b ws
avoid_rest b [] ws a = a
avoid_rest b (v ∷ vs) ws a = avoid_rest b vs ws a.1

avoid_both : (b : ℕ) (vs ws : List (ℕ × List ℕ)) → Avoid b vs → Avoid b ws → Avoid b (vs ++ ws)
avoid_both b [] ws one two = two
avoid_both b (v ∷ vs) ws one two = (one.0, avoid_both b vs ws one.1 two)

pub front_avoids : (b : ℕ) (ws : List (ℕ × List ℕ)) (old new : List Event) → AddsFront ws old new → Avoid b ws → StaysAt b old new
front_avoids b ws old new f apart = stays_then b old f.middle new (all_avoid b f.front f.tickets old f.middle f.accepted (avoid_front b f.front f.rest all)) (⊎_elim (still_there b f.middle new) lost f.ends)
  where
    all : Avoid b (f.front ++ f.rest)
    all = subst (Avoid b) f.split apart

    lost : (c : ℕ) × (x : List ℕ) × (later : List (ℕ × List ℕ)) × (f.rest ≡ (c, x) ∷ later) × (new ≡ f.middle ++ Lost c x ∷ []) → StaysAt b f.middle new
    lost (c, x, later, rest, is) = record {
      bytes = λ y. ap (accepted_from b y) is ∙ accepted_more b y f.middle (Lost c x);
      lost = ap (is_lost_from b false) is ∙ lost_more b false f.middle (Lost c x) ∙ passed (c == b) _ _ (ne_eqb c b (subst (Avoid b) rest (avoid_rest b f.front f.rest all)).0);
    }

avoided : (b : ℕ) (x : List ℕ) (ws : List (ℕ × List ℕ)) → Avoid b ws → after_writes b x ws ≡ x
avoided b x [] a = refl
avoided b x (w ∷ ws) a = ap (λ (y : List ℕ). after_writes b y ws) (passed (w.0 == b) w.1 x (ne_eqb w.0 b a.0)) ∙ avoided b x ws a.1

then_after : (b : ℕ) (x : List ℕ) (vs ws : List (ℕ × List ℕ)) → after_writes b x (vs ++ ws) ≡ after_writes b (after_writes b x vs) ws
then_after b x [] ws = refl
then_after b x (v ∷ vs) ws = then_after b (if v.0 == b then v.1 else x) vs ws

-- The writes of a record.

-- a ring place is before the bitmap
ring_apart : (g : Geometry) (place b : ℕ) → 0 < g.j → bitmap_start g ≤ b → ring_block g place ≢ b
ring_apart g place b some from = by g.j (place % g.j) (mod_below place g.j some) from
  where
    by : (j k : ℕ) → k < j → j + 2 ≤ b → 2 + k ≢ b
    by j k low high e = omega (arith, low, high, e)

ring_avoids : (g : Geometry) (place b : ℕ) (xs : List (List ℕ)) → 0 < g.j → bitmap_start g ≤ b → Avoid b (ring_writes g place xs)
ring_avoids g place b [] some from = tt
ring_avoids g place b (x ∷ xs) some from = (ring_apart g place b some from, ring_avoids g (place + 1) b xs some from)

-- from the bitmap on, the writes behind the fresh blocks avoid each block
behind_avoids : (g : Geometry) (epoch number place : ℕ) (paid laid : List Put) (b : ℕ) → 0 < g.j → bitmap_start g ≤ b
    → Avoid b (ring_writes g (place + 1) (descriptor_blocks epoch (record_of number place paid laid)) ++ (ring_writes g (place + heads (record_of number place paid laid)) (map stored_put paid) ++ (ring_block g place, commit_block (commit_says epoch (record_of number place paid laid))) ∷ []))
behind_avoids g epoch number place paid laid b some from =
    avoid_both b (ring_writes g (place + 1) (descriptor_blocks epoch (record_of number place paid laid))) _ (ring_avoids g (place + 1) b _ some from)
    (avoid_both b (ring_writes g (place + heads (record_of number place paid laid)) (map stored_put paid)) _ (ring_avoids g _ b _ some from) (ring_apart g place b some from, tt))

-- a put that isn't of the block, before others
not_head : (b : ℕ) (q : Put) (qs : List Put) → put_of b (q ∷ qs) ≡ None → (q.block ≢ b) × (put_of b qs ≡ None)
not_head b q qs none = (λ same. grind (arith, nat_tests, none, same), grind (arith, none))

fresh_avoids : (b : ℕ) (laid : List Put) → put_of b laid ≡ None → Avoid b (map fresh_write laid)
fresh_avoids b [] none = tt
fresh_avoids b (q ∷ qs) none = let r = not_head b q qs none in (r.0, fresh_avoids b qs r.1)

-- the record writes no block from the bitmap on but its fresh ones
pub record_avoids : (g : Geometry) (epoch number place : ℕ) (paid laid : List Put) (b : ℕ) → 0 < g.j → bitmap_start g ≤ b → put_of b laid ≡ None → Avoid b (record_writes g epoch number place paid laid)
record_avoids g epoch number place paid laid b some from none = avoid_both b (map fresh_write laid) _ (fresh_avoids b laid none) (behind_avoids g epoch number place paid laid b some from)

-- a row that lacks a block has no put of it
pub none_put : (b : ℕ) (row : List Put) → LacksBlock b row → put_of b row ≡ None
none_put b [] lacks = refl
none_put b (q ∷ row) lacks = passed (q.block == b) (Some q.bytes) (put_of b row) (ne_eqb q.block b (lacks 0 q refl)) ∙ none_put b row (λ k p is. lacks (suc k) p is)

-- and in one that ascends, the first block has no put but the first
rest_lacks : (q : Put) (qs : List Put) → IsRising (q ∷ qs) → LacksBlock q.block qs
rest_lacks q qs rising k p is e = omega (arith, e, rising 0 (suc k) q p (omega arith) refl is)

-- the fresh blocks have the bytes that were put
fresh_after : (b : ℕ) (x : List ℕ) (laid : List Put) → IsRising laid → after_writes b x (map fresh_write laid) ≡ otherwise (put_of b laid) x
fresh_after b x [] rising = refl
fresh_after b x (q ∷ qs) rising = elim (cases_Bool (q.block == b)) [
  | inl e ↦
      ap (λ (u : Bool). after_writes b (if u then q.bytes else x) (map fresh_write qs)) e
      ∙ avoided b q.bytes (map fresh_write qs) (fresh_avoids b qs (ap (λ (n : ℕ). put_of n qs) (sym (eqb-true q.block b e)) ∙ none_put q.block qs (rest_lacks q qs rising)))
      ∙ ap (λ (u : Bool). otherwise (if u then Some q.bytes else put_of b qs) x) (sym e)
  | inr e ↦
      ap (λ (u : Bool). after_writes b (if u then q.bytes else x) (map fresh_write qs)) e
      ∙ fresh_after b x qs (λ i k p r low. rising (suc i) (suc k) p r (omega (arith, low))) ∙ ap (λ (u : Bool). otherwise (if u then Some q.bytes else put_of b qs) x) (sym e)
]

-- so from the bitmap on each block has what the record put there, or what was accepted before
pub record_accepted : (g : Geometry) (epoch number place : ℕ) (paid laid : List Put) (b : ℕ) (x : List ℕ) (ts : List ℕ) (old new : List Event) → 0 < g.j → bitmap_start g ≤ b → IsRising laid → AddsWrites (record_writes g epoch number place paid laid) ts old new
    → accepted_from b x new ≡ otherwise (put_of b laid) (accepted_from b x old)
record_accepted g epoch number place paid laid b x ts old new some from rising a =
    all_accepted b x (record_writes g epoch number place paid laid) ts old new a
    ∙ then_after b (accepted_from b x old) (map fresh_write laid) _
    ∙ avoided b (after_writes b (accepted_from b x old) (map fresh_write laid)) _ (behind_avoids g epoch number place paid laid b some from)
    ∙ fresh_after b (accepted_from b x old) laid rising
