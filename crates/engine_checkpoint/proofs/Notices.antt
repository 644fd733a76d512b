-- A notice leaves all that the pipeline keeps.
use Rattle.std.proofs.Common.{◌≡◌, ◌⊎◌, inl, inr, ⊎_elim, ℕ, ◌≤◌, ◌&&◌, ◌||◌, ◌==◌, Bool, true, false, List, [], ◌∷◌, ◌++◌, map, Option, Some, None, Result, Ok, Err, IsErr, refl, sym, ◌∙◌, subst, ap, arith}
use Rattle.std.proofs.lemmas.Bool.Decides.{nat_tests}
use Rattle.std.proofs.lemmas.Bool.{eq-eqb, eqb-true, and_parts, false≢true, or_right, or_left}
use Rattle.std.proofs.lemmas.Option.{same_Some, none-some}
use Rattle.base_types.specs.Seal.{Blocks}
use Rattle.disk_contract.specs.declared.event.Event.{Event}
use Rattle.disk_contract.specs.declared.event.Event.TheVariants.{Wrote, Lost, Noticed}
use Rattle.disk_contract.specs.Cell.{cell_of, greatest_ticket, IsAccepted, IsNoticed}
use Rattle.disk_contract.specs.Disk.{AddsPoll}
use Rattle.layout_journal.specs.Ring.{RingPlaces}
use Rattle.crash_argument.specs.Ledger.{Ledger}
use Rattle.crash_argument.specs.Steps.{NoneIsBeingWritten}
use Rattle.crash_argument.specs.OnePending.{HasOnePending, MayWriteAllFresh}
use Rattle.crash_argument.specs.PipelineData.{PipelineData, DataAgree}
use Rattle.engine_notes.specs.declared.notes.Note.{Note}
use Rattle.engine_notes.specs.Notes.{Expected, is_expected, is_noticed}
use Rattle.engine_checkpoint.specs.declared.pipeline.Pipeline.{Pipeline}
use Rattle.engine_checkpoint.specs.Agree.{HomeIsSent, PipelineAgrees, NotesAreTrue, data_of, home_pair}
use Rattle.engine_checkpoint.specs.Steps.{TakesOne}
use Rattle.engine_checkpoint.proofs.Apart.{accepted_more, greatest_more, apart_on}
use Rattle.engine_checkpoint.proofs.Expected.{expected_with, same_more}
use Rattle.engine_checkpoint.proofs.Heard.{heard}
use Rattle.engine_checkpoint.proofs.HomeSent.{sent_noticed}

-- what is noticed stays so, and the last notice is one
pub noticed_before : (t : ℕ) (log : List Event) (e : Event) → IsNoticed t log → IsNoticed t (log ++ e ∷ [])
noticed_before t [] e n = absurd (false≢true n)
noticed_before t (Wrote u b x ∷ log) e n = noticed_before t log e n
noticed_before t (Lost b x ∷ log) e n = noticed_before t log e n
noticed_before t (Noticed u ∷ log) e n = grind (arith, nat_tests, noticed_before t log e)

last_noticed : (t : ℕ) (log : List Event) → IsNoticed t (log ++ Noticed t ∷ [])
last_noticed t [] = or_left (t == t) false (eq-eqb t t refl)
last_noticed t (Wrote u b x ∷ log) = last_noticed t log
last_noticed t (Lost b x ∷ log) = last_noticed t log
last_noticed t (Noticed u ∷ log) = or_right (u == t) (Rattle.disk_contract.specs.Cell.is_noticed t (log ++ Noticed t ∷ [])) (last_noticed t log)

-- what was noticed, or is the ticket
noticed_or : (n e : Bool) (t u : ℕ) → (n || (t == u && e)) ≡ true → (u ≡ t) ⊎ (n ≡ true)
noticed_or true e t u is = inr refl
noticed_or false e t u is = inl (sym (eqb-true t u (and_parts (t == u) e is).0))

-- the notes once they have taken a notice
pub notes_more : (t : ℕ) (log : List Event) (old new : List Note) → NotesAreTrue log old → ((u : ℕ) → is_noticed u new ≡ (is_noticed u old || (t == u && is_expected u old))) → NotesAreTrue (log ++ Noticed t ∷ []) new
notes_more t log old new true_then mark u e = ⊎_elim (λ same. subst (λ n. IsNoticed n (log ++ Noticed t ∷ [])) (sym same) (last_noticed t log)) (λ was. noticed_before u log (Noticed t) (true_then u was)) (noticed_or (is_noticed u old) (is_expected u old) t u (sym (mark u) ∙ e))

module _ (base : Blocks) (log new : List Event) (l : Ledger) (v : Pipeline) (ring : RingPlaces) (waiting : List (ℕ × ℕ)) (taken : List ℕ) (a : PipelineAgrees base log l v ring waiting taken) where
  pub moved : (notes : Expected) → DataAgree base new l (data_of v ring waiting) → NoneIsBeingWritten (cell_of base new) l → HasOnePending base new l (data_of v ring waiting) [] → NotesAreTrue new notes.notes → ((u : ℕ) → is_expected u notes.notes ≡ is_expected u v.notes.notes)
      → MayWriteAllFresh new l (data_of v ring waiting) taken → greatest_ticket log ≤ greatest_ticket new → ((u : ℕ) → IsAccepted u log → IsAccepted u new) → HomeIsSent l.geom new (map home_pair v.home.items) → PipelineAgrees base new l (heard v notes) ring waiting taken
  moved notes agree idle one true_now same free grows stays sent = record {
    geom = a.geom;
    ring_geom = a.ring_geom;
    slot = a.slot;
    header = a.header;
    next = a.next;
    not_closed = a.not_closed;
    known = a.known;
    count = a.count;
    sure = a.sure;
    batch = a.batch;
    freed = a.freed;
    freed_by = a.freed_by;
    placed_at = a.placed_at;
    sure_at = a.sure_at;
    durable_at = a.durable_at;
    committed_at = a.committed_at;
    agree = agree;
    notes = true_now;
    given = λ u e. stays u (a.given u (sym (same u) ∙ e));
    expected = expected_with v notes (same_more v.notes.notes notes.notes same) a.expected;
    apart = apart_on log new v notes grows a.apart;
    sent = sent;
    idle = idle;
    one = one;
    free = free;
  }

  -- after a poll that gave a notice, which the notes have taken
  pub agrees_notice : (t : ℕ) (notes : Expected) → new ≡ log ++ Noticed t ∷ [] → DataAgree base new l (data_of v ring waiting)
      → ((base : Blocks) (log : List Event) (l : Ledger) (t : ℕ) → NoneIsBeingWritten (cell_of base log) l → NoneIsBeingWritten (cell_of base (log ++ Noticed t ∷ [])) l)
      → ((base : Blocks) (log : List Event) (l : Ledger) (p : PipelineData) (uw : List ℕ) (t : ℕ) → HasOnePending base log l p uw → HasOnePending base (log ++ Noticed t ∷ []) l p uw)
      → ((log more : List Event) (l : Ledger) (p : PipelineData) (taken : List ℕ) → MayWriteAllFresh log l p taken → MayWriteAllFresh (log ++ more) l p taken)
      → ((u : ℕ) → is_expected u notes.notes ≡ is_expected u v.notes.notes) → ((u : ℕ) → is_noticed u notes.notes ≡ (is_noticed u v.notes.notes || (t == u && is_expected u v.notes.notes)))
      → PipelineAgrees base new l (heard v notes) ring waiting taken
  agrees_notice t notes is agree idle one free same mark = moved notes agree
      (subst (λ (lg : List Event). NoneIsBeingWritten (cell_of base lg) l) (sym is) (idle base log l t a.idle))
      (subst (λ (lg : List Event). HasOnePending base lg l (data_of v ring waiting) []) (sym is) (one base log l (data_of v ring waiting) [] t a.one))
      (subst (λ (lg : List Event). NotesAreTrue lg notes.notes) (sym is) (notes_more t log v.notes.notes notes.notes a.notes mark))
      same
      (subst (λ (lg : List Event). MayWriteAllFresh lg l (data_of v ring waiting) taken) (sym is) (free log (Noticed t ∷ []) l (data_of v ring waiting) taken a.free))
      (subst (λ (lg : List Event). greatest_ticket log ≤ greatest_ticket lg) (sym is) (greatest_more log (Noticed t ∷ [])))
      (λ u given. subst (λ (lg : List Event). IsAccepted u lg) (sym is) (accepted_more u log (Noticed t ∷ []) given))
      (subst (λ (lg : List Event). HomeIsSent l.geom lg (map home_pair v.home.items)) (sym is) (sent_noticed l.geom log (t ∷ []) (map home_pair v.home.items) a.sent))

-- under other names of the disk's base and log
pub agrees_moved : (base base2 : Blocks) (log new : List Event) (l : Ledger) (v : Pipeline) (ring : RingPlaces) (waiting : List (ℕ × ℕ)) (taken : List ℕ) → base2 ≡ base → new ≡ log → PipelineAgrees base log l v ring waiting taken → PipelineAgrees base2 new l v ring waiting taken
agrees_moved base base2 log new l v ring waiting taken same is a = subst (λ (b : Blocks). PipelineAgrees b new l v ring waiting taken) (sym same) (subst (λ (lg : List Event). PipelineAgrees base lg l v ring waiting taken) (sym is) a)

-- what a poll adds, by its answer
pub some_adds : (E : Type 0) (r : Option ℕ) (t : ℕ) (old new : List Event) → r ≡ Some t → AddsPoll {E = E} (Ok r) old new → new ≡ old ++ Noticed t ∷ []
some_adds E None t old new e a = cc
some_adds E (Some u) t old new e a = a.1 ∙ ap (λ n. old ++ Noticed n ∷ []) (same_Some _ _ e)

pub none_adds : (E : Type 0) (r : Option ℕ) (old new : List Event) → r ≡ None → AddsPoll {E = E} (Ok r) old new → new ≡ old
none_adds E None old new e a = a
none_adds E (Some u) old new e a = absurd (none-some u (sym e))

-- where the poll failed, nothing was taken
pub took_none : {E : Type 0} (r : Result Bool E) (v w : Pipeline) (old new : List Event) → IsErr r → w ≡ v → new ≡ old → TakesOne r v w old new
took_none (Ok b) v w old new e rest same = absurd (false≢true e)
took_none (Err f) v w old new e rest same = (same, rest)
