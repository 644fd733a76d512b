-- A checkpoint write is noticed, or the last one to its block, and stays so as the log grows by notices and by writes to other blocks.
use Rattle.std.proofs.Common.{◌≡◌, ◌≢◌, ◌⊎◌, inl, inr, ℕ, suc, ◌+◌, ◌<◌, ◌≤◌, ◌==◌, true, false, List, [], ◌∷◌, ◌++◌, length, map, slice_get, Some, refl, sym, ◌∙◌, subst, arith, append_assoc, append-nil}
use Rattle.std.proofs.lemmas.Bool.Decides.{nat_tests}
use Rattle.std.proofs.lemmas.Bool.{cases_Bool, eqb-true, eq-eqb, false≢true}
use Rattle.disk_contract.specs.declared.event.Event.{Event}
use Rattle.disk_contract.specs.declared.event.Event.TheVariants.{Wrote, Lost, Noticed}
use Rattle.disk_contract.specs.Cell.{greatest_ticket, IsNoticed, notices}
pub use Rattle.disk_contract.specs.Logs.{IsNoticed-more as noticed_on}
use Rattle.layout_geometry.specs.Geometry.{Geometry, bitmap_start}
use Rattle.layout_journal.specs.Run.{heads}
use Rattle.crash_argument.specs.LastWrites.{AvoidsBlock, IsLastWrite}
use Rattle.crash_argument.specs.Writes.{AddsWrites}
use Rattle.engine_running.specs.declared.put.Put.{Put}
use Rattle.engine_running.specs.Record.{record_of, stored_put, descriptor_blocks}
use Rattle.engine_running.specs.Writes.{fresh_write, ring_writes, record_writes}
use Rattle.engine_checkpoint.specs.Agree.{HomeIsSent, IsSentTo}
use Rattle.engine_checkpoint.proofs.HomeWrites.{no_place}
use Rattle.engine_checkpoint.proofs.Lists.{last_or}

avoids_on : (b : ℕ) (es fs : List Event) → AvoidsBlock b es → AvoidsBlock b fs → AvoidsBlock b (es ++ fs)
avoids_on b [] fs one two = two
avoids_on b (Wrote t c x ∷ es) fs one two = (one.0, avoids_on b es fs one.1 two)
avoids_on b (Lost c x ∷ es) fs one two = (one.0, avoids_on b es fs one.1 two)
avoids_on b (Noticed t ∷ es) fs one two = avoids_on b es fs one two

avoids_notices : (b : ℕ) (ts : List ℕ) → AvoidsBlock b (notices ts)
avoids_notices b [] = tt
avoids_notices b (t ∷ ts) = avoids_notices b ts

pub last_write_on : (log more : List Event) (b t : ℕ) (x : List ℕ) → IsLastWrite log b t x → AvoidsBlock b more → IsLastWrite (log ++ more) b t x
last_write_on log more b t x w avoids = grind (arith, nat_tests, append_assoc, avoids_on)

-- one write, where the log grows by what leaves its block alone, or it is noticed
sent_at : (g : Geometry) (log more : List Event) (b t : ℕ) → IsNoticed t log ⊎ IsSentTo g log b t → IsNoticed t log ⊎ AvoidsBlock b more → IsNoticed t (log ++ more) ⊎ IsSentTo g (log ++ more) b t
sent_at g log more b t (inl came) other = inl (noticed_on t log more came)
sent_at g log more b t (inr sent) (inl came) = inl (noticed_on t log more came)
sent_at g log more b t (inr sent) (inr avoids) = inr (record { from = sent.from; bytes = sent.bytes; last = last_write_on log more b t sent.bytes sent.last avoids })

-- and each of a list
pub sent_on : (g : Geometry) (log more : List Event) (home : List (ℕ × ℕ)) → HomeIsSent g log home → ((k b t : ℕ) → slice_get home k ≡ Some (b, t) → bitmap_start g ≤ b → IsNoticed t log ⊎ AvoidsBlock b more) → HomeIsSent g (log ++ more) home
sent_on g log more home sent other k b t is = by (sent k b t is)
  where
    by : IsNoticed t log ⊎ IsSentTo g log b t → IsNoticed t (log ++ more) ⊎ IsSentTo g (log ++ more) b t
    by (inl came) = inl (noticed_on t log more came)
    by (inr own) = sent_at g log more b t (inr own) (other k b t is own.from)

pub sent_noticed : (g : Geometry) (log : List Event) (ts : List ℕ) (home : List (ℕ × ℕ)) → HomeIsSent g log home → HomeIsSent g (log ++ notices ts) home
sent_noticed g log ts home sent = sent_on g log (notices ts) home sent (λ k b t is low. inr (avoids_notices b ts))

-- One checkpoint write more, to a block behind all that were sent.
pub sent_home : (g : Geometry) (log : List Event) (home : List (ℕ × ℕ)) (ticket b : ℕ) (x : List ℕ) (sent : ℕ) → bitmap_start g ≤ b → greatest_ticket log < ticket → ¬ IsNoticed ticket log → sent ≤ b → ((k c t : ℕ) → slice_get home k ≡ Some (c, t) → c < sent)
    → HomeIsSent g log home → HomeIsSent g (log ++ Wrote ticket b x ∷ []) (home ++ (b, ticket) ∷ [])
sent_home g log home ticket b x sent low above fresh upto below were k c t is = by (last_or home (b, ticket) k (c, t) is)
  where
    past : c < sent → b ≢ c
    past lt e = omega (arith, lt, upto, e)

    by : (slice_get home k ≡ Some (c, t)) ⊎ ((k ≡ length home) × (◌≡◌ {A = ℕ × ℕ} (b, ticket) (c, t))) → IsNoticed t (log ++ Wrote ticket b x ∷ []) ⊎ IsSentTo g (log ++ Wrote ticket b x ∷ []) c t
    by (inl was) = sent_at g log (Wrote ticket b x ∷ []) c t (were k c t was) (inr (past (below k c t was), tt))
    by (inr own) = subst (λ (p : ℕ × ℕ). IsNoticed p.1 (log ++ Wrote ticket b x ∷ []) ⊎ IsSentTo g (log ++ Wrote ticket b x ∷ []) p.0 p.1) own.1
        (inr (record { from = low; bytes = x; last = record { before = log; later = []; split = refl; above = above; fresh = fresh; last = tt } }))

-- The writes of a record.

-- none of these writes is of the block
abbrev AvoidsAll : ℕ → List (ℕ × List ℕ) → Type 0
AvoidsAll b [] = Unit {0}
AvoidsAll b (w ∷ ws) = (w.0 ≢ b) × AvoidsAll b ws

avoids_both : (b : ℕ) (ws us : List (ℕ × List ℕ)) → AvoidsAll b ws → AvoidsAll b us → AvoidsAll b (ws ++ us)
avoids_both b [] us one two = two
avoids_both b (w ∷ ws) us one two = (one.0, avoids_both b ws us one.1 two)

avoids_ring : (g : Geometry) (b place : ℕ) (xs : List (List ℕ)) → 0 < g.j → bitmap_start g ≤ b → AvoidsAll b (ring_writes g place xs)
avoids_ring g b place [] some low = tt
avoids_ring g b place (x ∷ xs) some low = (no_place g b some low place, avoids_ring g b (place + 1) xs some low)

-- the fresh blocks leave the block alone, or it is one of them
avoids_laid : (N : Type 0) (b : ℕ) (laid : List Put) → ((i : ℕ) (q : Put) → slice_get laid i ≡ Some q → q.block ≡ b → N) → N ⊎ AvoidsAll b (map fresh_write laid)
avoids_laid N b [] each = inr tt
avoids_laid N b (q ∷ laid) each = by (cases_Bool (q.block == b)) (avoids_laid N b laid (λ i p is. each (suc i) p is))
  where
    by : ((q.block == b) ≡ true) ⊎ ((q.block == b) ≡ false) → N ⊎ AvoidsAll b (map fresh_write laid) → N ⊎ AvoidsAll b (map fresh_write (q ∷ laid))
    by (inl own) rest = inl (each 0 q refl (eqb-true q.block b own))
    by (inr other) (inl n) = inl n
    by (inr other) (inr rest) = inr (λ e. false≢true (sym other ∙ eq-eqb q.block b e), rest)

-- what the writes add leaves the block alone
abbrev AddsApart : ℕ → List Event → List Event → Type 0
AddsApart b old new = (more : List Event) × (new ≡ old ++ more) × AvoidsBlock b more

added : (b : ℕ) (ws : List (ℕ × List ℕ)) (ts : List ℕ) (old new : List Event) → AddsWrites ws ts old new → AvoidsAll b ws → AddsApart b old new
added b [] [] old new same apart = ([], same ∙ sym (append-nil old), tt)
added b [] (t ∷ ts) old new bad apart = absurd bad
added b (w ∷ ws) [] old new bad apart = absurd bad
added b (w ∷ ws) (t ∷ ts) old new adds apart = let r = added b ws ts (old ++ Wrote t w.0 w.1 ∷ []) new adds.2 apart.1 in (Wrote t w.0 w.1 ∷ r.0, r.1 ∙ append_assoc old (Wrote t w.0 w.1 ∷ []) r.0, (apart.0, r.2))

grows_by : (ws : List (ℕ × List ℕ)) (ts : List ℕ) (old new : List Event) → AddsWrites ws ts old new → (more : List Event) × (new ≡ old ++ more)
grows_by [] [] old new same = ([], same ∙ sym (append-nil old))
grows_by [] (t ∷ ts) old new bad = absurd bad
grows_by (w ∷ ws) [] old new bad = absurd bad
grows_by (w ∷ ws) (t ∷ ts) old new adds = let m = grows_by ws ts (old ++ Wrote t w.0 w.1 ∷ []) new adds.2 in (Wrote t w.0 w.1 ∷ m.0, m.1 ∙ append_assoc old (Wrote t w.0 w.1 ∷ []) m.0)

pub sent_committed : (g r : Geometry) → r ≡ g → 0 < g.j → (epoch number place : ℕ) (paid laid : List Put) (ts : List ℕ) (old new : List Event) (home : List (ℕ × ℕ)) → AddsWrites (record_writes r epoch number place paid laid) ts old new
    → ((i : ℕ) (q : Put) → slice_get laid i ≡ Some q → (k t : ℕ) → slice_get home k ≡ Some (q.block, t) → IsNoticed t old) → HomeIsSent g old home → HomeIsSent g new home
sent_committed g r same some epoch number place paid laid ts old new home adds off sent k b t is = by (sent k b t is)
  where
    rest : (h : Geometry) → h ≡ g → bitmap_start g ≤ b → AvoidsAll b (map fresh_write laid) → AvoidsAll b (record_writes h epoch number place paid laid)
    rest h e low fresh = subst (λ (k : Geometry). AvoidsAll b (record_writes k epoch number place paid laid)) (sym e)
        (avoids_both b (map fresh_write laid) _ fresh
        (avoids_both b (ring_writes g (place + 1) (descriptor_blocks epoch (record_of number place paid laid))) _ (avoids_ring g b (place + 1) (descriptor_blocks epoch (record_of number place paid laid)) some low)
        (avoids_both b (ring_writes g (place + heads (record_of number place paid laid)) (map stored_put paid)) _ (avoids_ring g b (place + heads (record_of number place paid laid)) (map stored_put paid) some low)
        (no_place g b some low place, tt))))

    noticed_then : IsNoticed t old → IsNoticed t new ⊎ IsSentTo g new b t
    noticed_then came = let a = grows_by (record_writes r epoch number place paid laid) ts old new adds in inl (subst (λ (es : List Event). IsNoticed t es) (sym a.1) (noticed_on t old a.0 came))

    then : IsSentTo g old b t → IsNoticed t old ⊎ AvoidsAll b (map fresh_write laid) → IsNoticed t new ⊎ IsSentTo g new b t
    then own (inl came) = noticed_then came
    then own (inr apart) =
        let a = added b (record_writes r epoch number place paid laid) ts old new adds (rest r same own.from apart) in
        subst (λ (es : List Event). IsNoticed t es ⊎ IsSentTo g es b t) (sym a.1) (sent_at g old a.0 b t (inr own) (inr a.2))

    by : IsNoticed t old ⊎ IsSentTo g old b t → IsNoticed t new ⊎ IsSentTo g new b t
    by (inl came) = noticed_then came
    by (inr own) = then own (avoids_laid (IsNoticed t old) b laid (λ i q at block. off i q at k t (subst (λ n. slice_get home k ≡ Some (n, t)) (sym block) is)))
