-- Blocks that may be written fresh stay so: what a crash may leave loses maps and gains none, and a checkpoint write goes to a live block.
use Rattle.std.proofs.Common.{◌≡◌, ◌⊎◌, inl, inr, ⊎_elim, ℕ, ◌+◌, ◌<◌, ◌≤◌, false, List, [], ◌∷◌, ◌++◌, Some, refl, sym, ◌∙◌, ap, arith}
use Rattle.std.proofs.lemmas.Bool.{false≢true}
use Rattle.base_types.specs.Seal.{Blocks}
use Rattle.disk_contract.specs.declared.event.Event.{Event}
use Rattle.disk_contract.specs.Logs.{IsNoticed-more as noticed_stays}
use Rattle.layout_journal.specs.declared.header.Header.{Header}
use Rattle.layout_journal.specs.Run.{is_live}
use Rattle.crash_argument.specs.Ledger.{Ledger, WrittenRecord, IsConsistentWith, next_number}
use Rattle.crash_argument.specs.Steps.{with_known, with_header, with_durable_header}
use Rattle.crash_argument.specs.OnePending.{MayWriteAllFresh}
use Rattle.crash_argument.specs.PipelineData.{PipelineData, NeedsCheckpoint, with_home}
use Rattle.crash_argument.proofs.log.Lists.{last_or}
use Rattle.crash_argument.proofs.pipe.BetweenSteps.{same_next}

pub stay_by_events : (log more : List Event) (l : Ledger) (p : PipelineData) (taken : List ℕ) → MayWriteAllFresh log l p taken → MayWriteAllFresh (log ++ more) l p taken
stay_by_events log more l p taken free b own = let f = free b own in (f.0, λ k t is. noticed_stays t log more (f.1 k t is))

pub stay_known : (log : List Event) (l : Ledger) (p : PipelineData) (taken : List ℕ) (number : ℕ) → MayWriteAllFresh log l p taken → MayWriteAllFresh log (with_known l number) p taken
stay_known log l p taken number free b own = free b own

pub stay_header : (log : List Event) (l : Ledger) (p : PipelineData) (taken : List ℕ) (h : Header) → MayWriteAllFresh log l p taken → MayWriteAllFresh log (with_header l h) p taken
stay_header log l p taken h free b own = free b own

pub stay_durable : (base : Blocks) (log : List Event) (l : Ledger) (p : PipelineData) (taken : List ℕ) (h : Header) → IsConsistentWith base log l → l.next ≡ Some h → MayWriteAllFresh log l p taken → MayWriteAllFresh log (with_durable_header l h) p taken
stay_durable base log l p taken h keeps is free b own = let f = free b own in
    (λ n low upto. f.0 n (omega (arith, low, (keeps.headers.fits h (inr is)).sure_grows)) (omega (arith, upto, same_next base log l h keeps is)), f.1)

pub stay_home : (base : Blocks) (log : List Event) (l : Ledger) (p : PipelineData) (taken : List ℕ) (batch : List WrittenRecord) (b t : ℕ) (x : List ℕ) → IsConsistentWith base log l → NeedsCheckpoint l batch b x → MayWriteAllFresh log l p taken → MayWriteAllFresh log l (with_home p b t) taken
stay_home base log l p taken batch b t x keeps needs free c own = let f = free c own in (f.0, λ k u is. ⊎_elim (λ old. f.1 k u old) (λ e. absurd (unlike (ap (λ (q : ℕ × ℕ). q.0) e) f.0)) (last_or p.home (b, t) k (c, u) is))
  where
    now : l.header.sure < next_number l
    now = (keeps.headers.fits l.header (inl refl)).last

    unlike : b ≡ c → ((n : ℕ) → l.header.sure < n → n ≤ next_number l → is_live l.geom (l.map_before n) c ≡ false) → ⊥
    unlike e dead = false≢true (sym (dead (l.header.sure + 1) (omega arith) (omega (arith, now))) ∙ sym (ap (is_live l.geom (l.map_before (l.header.sure + 1))) e) ∙ needs.live)
