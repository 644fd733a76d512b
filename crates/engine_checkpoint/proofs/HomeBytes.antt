-- The bytes that go home are the newest payloads of the sure records.
use Rattle.std.proofs.Common.{◌≡◌, ℕ, suc, List, [], ◌∷◌, length, take, drop, map, slice_get, Option, Some, None, refl, ◌∙◌, ap, arith}
use Rattle.std.proofs.lemmas.Bool.Decides.{nat_tests}
use Rattle.std.proofs.lemmas.Option.{same_Some, none-some}
use Rattle.base_types.specs.Seal.{Blocks}
use Rattle.disk_contract.specs.declared.event.Event.{Event}
use Rattle.layout_journal.specs.Ring.{RingPlaces}
use Rattle.layout_journal.specs.Run.{names_block}
use Rattle.crash_argument.specs.Ledger.{Ledger, WrittenRecord, payload_in}
use Rattle.crash_argument.specs.HomeTest.{is_one_of, goes_after, goes_home}
use Rattle.crash_argument.specs.PipelineData.{with_batch}
use Rattle.engine_running.specs.Rows.{put_of}
use Rattle.engine_running.specs.declared.states.Sure.{Sure}
use Rattle.engine_checkpoint.specs.declared.pipeline.Pipeline.{Pipeline}
use Rattle.engine_checkpoint.specs.Agree.{PipelineAgrees, data_of}
use Rattle.engine_checkpoint.specs.HomeState.{home_of}
use Rattle.engine_checkpoint.specs.Kept.{of_sure, newest_after, newest_in}
use Rattle.engine_checkpoint.proofs.Lists.{get_drop}

-- the record and the freed blocks at a place say of the block what the sure state says
record SaysOf (ws : List WrittenRecord) (fs : List (List ℕ)) (k b : ℕ) (t : Sure) : Type 0 where
  pub written : WrittenRecord
  pub is : slice_get ws k ≡ Some written
  pub freed : slice_get fs k ≡ Some t.freed.items
  pub paid : payload_in written b ≡ put_of b t.payloads.items
  pub laid : names_block written.says.fresh b ≡ is_one_of b t.fresh.items

goes_one : (old : Option (List ℕ)) (w : WrittenRecord) (f : List ℕ) (t : Sure) (b : ℕ) → f ≡ t.freed.items → payload_in w b ≡ put_of b t.payloads.items → names_block w.says.fresh b ≡ is_one_of b t.fresh.items → goes_after old w f b ≡ newest_after old (of_sure t) b
goes_one old w f t b freed paid laid = grind (arith, nat_tests)

goes_all : (ss : List Sure) (ws : List WrittenRecord) (fs : List (List ℕ)) (old : Option (List ℕ)) (b : ℕ) → ((k : ℕ) (t : Sure) → slice_get ss k ≡ Some t → SaysOf ws fs k b t) → goes_home old (take (length ss) ws) (take (length ss) fs) b ≡ newest_in old (map of_sure ss) b
goes_all [] ws fs old b says = refl
goes_all (t ∷ ss) [] fs old b says = let r = says 0 t refl in absurd (none-some r.written r.is)
goes_all (t ∷ ss) (w ∷ ws) [] old b says = let r = says 0 t refl in absurd (none-some t.freed.items r.freed)
goes_all (t ∷ ss) (w ∷ ws) (f ∷ fs) old b says =
    let r = says 0 t refl in
    goes_all ss ws fs (goes_after old w f b) b (λ k u is. let q = says (suc k) u is in record { written = q.written; is = q.is; freed = q.freed; paid = q.paid; laid = q.laid })
    ∙ ap (λ (o : Option (List ℕ)). newest_in o (map of_sure ss) b) (goes_one old w f t b (same_Some f t.freed.items r.freed) (ap (λ (x : WrittenRecord). payload_in x b) (same_Some w r.written r.is) ∙ r.paid) (ap (λ (x : WrittenRecord). names_block x.says.fresh b) (same_Some w r.written r.is) ∙ r.laid))

-- What the test finds for the sure records, once they are the batch, is their newest payload.
pub home_is_newest : (base : Blocks) (log : List Event) (l : Ledger) (v : Pipeline) (ring : RingPlaces) (waiting : List (ℕ × ℕ)) (taken : List ℕ) (a : PipelineAgrees base log l v ring waiting taken) (b : ℕ) → home_of l (with_batch (data_of v ring waiting) (length v.sure.items)) a.freed b ≡ newest_in None (map of_sure v.sure.items) b
home_is_newest base log l v ring waiting taken a b = goes_all v.sure.items (drop (length v.placed.items) l.records) (drop (length v.placed.items) a.freed) None b
    (λ k t is. let r = a.sure_at k t is in record {
      written = r.written;
      is = get_drop (length v.placed.items) l.records k ∙ r.is;
      freed = get_drop (length v.placed.items) a.freed k ∙ r.freed_is;
      paid = r.keeps.paid b;
      laid = r.keeps.laid b;
    })
