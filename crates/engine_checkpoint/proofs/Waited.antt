-- Notices that came with a wait leave all that the pipeline keeps.
use Rattle.std.proofs.Common.{◌≡◌, ◌⊎◌, inl, inr, ⊎_elim, ℕ, ◌≤◌, ◌==◌, ◌&&◌, ◌||◌, Bool, true, false, List, [], ◌∷◌, ◌++◌, map, refl, sym, subst, append_assoc, append-nil}
use Rattle.std.proofs.lemmas.Bool.{eqb-true, and_parts}
use Rattle.base_types.specs.Seal.{Blocks}
use Rattle.disk_contract.specs.declared.event.Event.{Event}
use Rattle.disk_contract.specs.declared.event.Event.TheVariants.{Noticed}
use Rattle.disk_contract.specs.Cell.{cell_of, greatest_ticket, IsAccepted, IsNoticed, notices}
use Rattle.layout_journal.specs.Ring.{RingPlaces}
use Rattle.crash_argument.specs.Ledger.{Ledger}
use Rattle.crash_argument.specs.Steps.{NoneIsBeingWritten}
use Rattle.crash_argument.specs.OnePending.{HasOnePending, MayWriteAllFresh}
use Rattle.crash_argument.specs.PipelineData.{PipelineData, DataAgree}
use Rattle.engine_notes.specs.Notes.{Expected, is_expected, is_noticed}
use Rattle.engine_checkpoint.specs.declared.pipeline.Pipeline.{Pipeline}
use Rattle.engine_checkpoint.specs.Agree.{HomeIsSent, PipelineAgrees, data_of, home_pair}
use Rattle.engine_checkpoint.proofs.Apart.{accepted_more, greatest_more}
use Rattle.engine_checkpoint.proofs.Heard.{heard}
use Rattle.engine_checkpoint.proofs.HomeSent.{sent_noticed}
use Rattle.engine_checkpoint.proofs.Notices.{moved, noticed_before}

-- what one notice keeps, a row of them keeps
pub through_notices : (P : List Event → Type 0) → ((log : List Event) (t : ℕ) → P log → P (log ++ Noticed t ∷ [])) → (ts : List ℕ) (log : List Event) → P log → P (log ++ notices ts)
through_notices P each [] log p = subst P (sym (append-nil log)) p
through_notices P each (t ∷ ts) log p = subst P (append_assoc log (Noticed t ∷ []) (notices ts)) (through_notices P each ts (log ++ Noticed t ∷ []) (each log t p))

-- a mark that was there, or is new
pub marked_before : (n e : Bool) (t u : ℕ) → (n || (t == u && e)) ≡ true → (n ≡ true) ⊎ (t ≡ u)
marked_before true e t u is = inl refl
marked_before false e t u is = inr (eqb-true t u (and_parts (t == u) e is).0)

module _ (base : Blocks) (log new : List Event) (l : Ledger) (v : Pipeline) (ring : RingPlaces) (waiting : List (ℕ × ℕ)) (taken : List ℕ) (a : PipelineAgrees base log l v ring waiting taken) where
  -- after a wait: each mark of the notes was there before, or its ticket is noticed now
  pub agrees_waited : (ts : List ℕ) (notes : Expected) → new ≡ log ++ notices ts → DataAgree base new l (data_of v ring waiting)
      → ((base : Blocks) (log : List Event) (l : Ledger) (t : ℕ) → NoneIsBeingWritten (cell_of base log) l → NoneIsBeingWritten (cell_of base (log ++ Noticed t ∷ [])) l)
      → ((base : Blocks) (log : List Event) (l : Ledger) (p : PipelineData) (uw : List ℕ) (t : ℕ) → HasOnePending base log l p uw → HasOnePending base (log ++ Noticed t ∷ []) l p uw)
      → ((log more : List Event) (l : Ledger) (p : PipelineData) (taken : List ℕ) → MayWriteAllFresh log l p taken → MayWriteAllFresh (log ++ more) l p taken)
      → ((u : ℕ) → is_expected u notes.notes ≡ is_expected u v.notes.notes) → ((u : ℕ) → is_noticed u notes.notes ≡ true → (is_noticed u v.notes.notes ≡ true) ⊎ IsNoticed u new)
      → PipelineAgrees base new l (heard v notes) ring waiting taken
  agrees_waited ts notes is agree idle one free same marks = moved base log new l v ring waiting taken a notes agree
      (subst (λ (lg : List Event). NoneIsBeingWritten (cell_of base lg) l) (sym is) (through_notices (λ lg. NoneIsBeingWritten (cell_of base lg) l) (λ lg t. idle base lg l t) ts log a.idle))
      (subst (λ (lg : List Event). HasOnePending base lg l (data_of v ring waiting) []) (sym is) (through_notices (λ lg. HasOnePending base lg l (data_of v ring waiting) []) (λ lg t. one base lg l (data_of v ring waiting) [] t) ts log a.one))
      (λ u e. ⊎_elim (λ was. subst (λ (lg : List Event). IsNoticed u lg) (sym is) (through_notices (λ lg. IsNoticed u lg) (λ lg t. noticed_before u lg (Noticed t)) ts log (a.notes u was))) (λ now. now) (marks u e))
      same
      (subst (λ (lg : List Event). MayWriteAllFresh lg l (data_of v ring waiting) taken) (sym is) (free log (notices ts) l (data_of v ring waiting) taken a.free))
      (subst (λ (lg : List Event). greatest_ticket log ≤ greatest_ticket lg) (sym is) (greatest_more log (notices ts)))
      (λ u given. subst (λ (lg : List Event). IsAccepted u lg) (sym is) (accepted_more u log (notices ts) given))
      (subst (λ (lg : List Event). HomeIsSent l.geom lg (map home_pair v.home.items)) (sym is) (sent_noticed l.geom log ts (map home_pair v.home.items) a.sent))
