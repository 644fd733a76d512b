-- While the pipeline agrees, no write to a block behind the journal is lost: nothing is pending there, or the last write to it was accepted.
use Rattle.std.proofs.Common.{◌≡◌, ⊎_elim, inl, ℕ, zero, suc, ◌≤◌, ◌==◌, ◌&&◌, ◌||◌, nat_le, nat_lt, Bool, true, false, if◌then◌else◌, List, [], ◌∷◌, ◌++◌, length, slice_get, Some, refl, sym, ◌∙◌, ap, arith}
use Rattle.std.proofs.lemmas.Bool.Decides.{nat_tests}
use Rattle.std.proofs.lemmas.Bool.{ne_eqb, leb-true, and_parts, cond-false}
use Rattle.std.proofs.lemmas.Option.{none-some}
use Rattle.base_types.specs.Seal.{Blocks}
use Rattle.layout_geometry.specs.Geometry.{bitmap_start, data_start}
use Rattle.disk_contract.specs.declared.event.Event.{Event}
use Rattle.disk_contract.specs.declared.event.Event.TheVariants.{Wrote, Lost, Noticed}
use Rattle.disk_contract.specs.Cell.{cell_of, accepted, is_lost, is_lost_from}
use Rattle.layout_bytes.specs.Bitmap.{is_set}
use Rattle.layout_journal.specs.Ring.{RingPlaces}
use Rattle.crash_argument.specs.Ledger.{Ledger, IsConsistentWith, next_number}
use Rattle.crash_argument.specs.LastWrites.{AvoidsBlock, IsLastWrite}
use Rattle.crash_argument.specs.OnePending.{IsFreshInNew}
use Rattle.engine_checkpoint.specs.declared.pipeline.Pipeline.{Pipeline}
use Rattle.engine_checkpoint.specs.Agree.{PipelineAgrees, data_of}
use Rattle.engine_checkpoint.specs.Bytes.{IsLiveNow}

-- lost writes of a log in two parts
pub lost_on : (b : ℕ) (lost : Bool) (log more : List Event) → is_lost_from b lost (log ++ more) ≡ is_lost_from b (is_lost_from b lost log) more
lost_on b lost [] more = refl
lost_on b lost (Wrote t c y ∷ log) more = lost_on b (if c == b then false else lost) log more
lost_on b lost (Lost c y ∷ log) more = lost_on b (if c == b then true else lost) log more
lost_on b lost (Noticed t ∷ log) more = lost_on b lost log more

avoids_calm : (b : ℕ) (es : List Event) → AvoidsBlock b es → (lost : Bool) → is_lost_from b lost es ≡ lost
avoids_calm b [] avoids lost = refl
avoids_calm b (Wrote t c y ∷ es) avoids lost = ap (λ v. is_lost_from b v es) (cond-false (c == b) false lost (ne_eqb c b avoids.0)) ∙ avoids_calm b es avoids.1 lost
avoids_calm b (Lost c y ∷ es) avoids lost = ap (λ v. is_lost_from b v es) (cond-false (c == b) true lost (ne_eqb c b avoids.0)) ∙ avoids_calm b es avoids.1 lost
avoids_calm b (Noticed t ∷ es) avoids lost = avoids_calm b es avoids lost

-- where the last write to the block was accepted, none is lost behind it
last_calm : (log : List Event) (b t : ℕ) (x : List ℕ) → IsLastWrite log b t x → is_lost b log ≡ false
last_calm log b t x w = grind (arith, nat_tests, lost_on, avoids_calm)

both_at : {A B : Type 0} (xs : List A) (ys : List B) → length ys ≡ length xs → (k : ℕ) (x : A) → slice_get xs k ≡ Some x → (y : B) × (slice_get ys k ≡ Some y)
both_at [] ys same k x is = absurd (none-some x is)
both_at (a ∷ xs) [] same k x is = absurd (omega (arith, same))
both_at (a ∷ xs) (c ∷ ys) same zero x is = (c, refl)
both_at (a ∷ xs) (c ∷ ys) same (suc k) x is = both_at xs ys (omega (arith, same)) k x is

-- live blocks lie behind the journal
pub live_from : (l : Ledger) (b : ℕ) → IsLiveNow l b → bitmap_start l.geom ≤ b
live_from l b lives = leb-true (bitmap_start l.geom) b (and_parts (nat_le (bitmap_start l.geom) b) (nat_lt b l.geom.n && (nat_lt b (data_start l.geom) || is_set l.geom (l.map_before (next_number l)) b)) lives).0

module _ (base : Blocks) (log : List Event) (l : Ledger) (v : Pipeline) (ring : RingPlaces) (waiting : List (ℕ × ℕ)) (taken : List ℕ) (keeps : IsConsistentWith base log l) (a : PipelineAgrees base log l v ring waiting taken)
    (idle : (base : Blocks) (log : List Event) (b : ℕ) → (cell_of base log b).pending ≡ [] → (is_lost b log ≡ false) × (accepted base log b ≡ (cell_of base log b).settled)) where
  fresh_calm : (b : ℕ) → IsFreshInNew l b → is_lost b log ≡ false
  fresh_calm b f =
      let sure = (keeps.headers.fits l.header (inl refl)).known in
      let ts = both_at l.records (data_of v ring waiting).tickets a.agree.count f.place f.written f.is_record in
      let r = (a.agree.tickets f.place f.written ts.0 f.is_record ts.1 f.not_known).fresh (omega (arith, sure, f.not_known)) f.at f.entry f.is_entry in
      ap (λ c. is_lost c log) (sym f.own) ∙ last_calm log f.entry.block r.0 _ r.2

  -- none of the writes to a block behind the journal is lost
  pub agrees_calm : (b : ℕ) → bitmap_start l.geom ≤ b → is_lost b log ≡ false
  agrees_calm b from = ⊎_elim (λ none. (idle base log b none).0) (λ busy. ⊎_elim (λ f. fresh_calm b f) (λ h. last_calm log b h.ticket h.bytes h.last) busy) (a.one.block b from refl)
