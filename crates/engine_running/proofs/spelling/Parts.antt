-- The blocks of a record, from its puts.
use Rattle.std.proofs.Common.{◌≡◌, ◌⊎◌, ⊎_elim, inl, inr, ℕ, suc, ◌+◌, ◌<◌, List, [], ◌∷◌, ◌++◌, length, map, slice_get, Some, Result, Ok, Err, IsErr, refl, sym, ◌∙◌, ap, arith, option_map}
use Rattle.std.proofs.lemmas.Bool.Decides.{nat_tests}
use Rattle.std.proofs.lemmas.Bool.{false≢true}
use Rattle.std.proofs.lemmas.List.{length-map}
use Rattle.std.proofs.lemmas.Option.{slice_get-map}
use Rattle.base_types.specs.Seal.{Blocks}
use Rattle.disk_contract.specs.declared.event.Event.{Event}
use Rattle.disk_contract.specs.Cell.{cell_of}
use Rattle.layout_geometry.specs.Geometry.{Geometry, ring_block}
use Rattle.layout_journal.specs.declared.record.Commit.{Commit}
use Rattle.layout_journal.specs.Layout.{descriptor_count}
use Rattle.layout_journal.specs.Spelling.{commit_block}
use Rattle.layout_journal.specs.Run.{entries, heads, places, commit_says}
use Rattle.crash_argument.specs.Ledger.{Ledger, WrittenRecord, block_at}
use Rattle.crash_argument.specs.Steps.{NoneIsBeingWritten, with_record}
use Rattle.crash_argument.specs.Points.{MountedSession, IsSafe}
use Rattle.crash_argument.specs.PipelineData.{PipelineData, DataAgree}
use Rattle.crash_argument.specs.Recording.{IsPartlyWritten}
use Rattle.engine_running.specs.declared.put.Put.{Put}
use Rattle.engine_running.specs.Record.{record_of, written_of, descriptor_blocks, stored_put, bytes_of, fresh_entry, payload_entry, AreLaid, AreParts}
use Rattle.engine_running.specs.Writes.{fresh_write, ring_writes, record_writes}
use Rattle.engine_running.specs.Commits.{RecordLeaves}
use Rattle.engine_running.proofs.spelling.Forms.{get_is, index_map}
use Rattle.engine_running.proofs.spelling.Spelled.{ring_descriptor, ring_payload, descriptor_block_at, length_descriptor_blocks, same_descriptors, entries_length}

-- between records nothing of the next one is issued
pub nothing_issued : (base : Blocks) (log : List Event) (l : Ledger) (p : PipelineData) (w : WrittenRecord) (tickets : List ℕ) → NoneIsBeingWritten (cell_of base log) l → DataAgree base log l p → IsPartlyWritten base log l p w tickets 0 1
nothing_issued base log l p w tickets idle known = grind (arith, nat_tests)

module _ (epoch number place : ℕ) (paid laid : List Put) where
  pub are_laid : AreLaid laid (written_of epoch number place paid laid)
  are_laid i p is = (fresh_entry p, slice_get-map fresh_entry laid i ∙ ap (option_map fresh_entry) is, refl, sym (index_map bytes_of laid i p is))

  pub are_descriptors : AreParts (written_of epoch number place paid laid) 1 (descriptor_blocks epoch (record_of number 0 paid laid))
  are_descriptors i lt = ap (λ (l : List (List ℕ)). block_at l i) (same_descriptors epoch number 0 place paid laid)
      ∙ descriptor_block_at epoch (record_of number place paid laid) i (below lt) ∙ sym (ring_descriptor epoch number place paid laid i (below lt))
    where
      below : i < length (descriptor_blocks epoch (record_of number 0 paid laid)) → i < descriptor_count (length (entries (record_of number place paid laid)))
      below lt = omega (arith, lt, length_descriptor_blocks epoch (record_of number 0 paid laid))

  pub are_payloads : (from : ℕ) → from ≡ heads (record_of number place paid laid) → AreParts (written_of epoch number place paid laid) from (map stored_put paid)
  are_payloads from e i lt = here (get_is (map stored_put paid) i [] lt)
    where
      lt2 : i < length paid
      lt2 = omega (arith, lt, length-map paid stored_put)

      here : slice_get (map stored_put paid) i ≡ Some (block_at (map stored_put paid) i) → block_at (map stored_put paid) i ≡ block_at (written_of epoch number place paid laid).ring (from + i)
      here at = index_map stored_put paid i (item paid i lt2).0 (item paid i lt2).1 ∙ sym (ring_payload epoch number place paid laid i (item paid i lt2).0 (item paid i lt2).1) ∙ ap (λ n. block_at (written_of epoch number place paid laid).ring (n + i)) (sym e)
        where
          item : (ps : List Put) (k : ℕ) → k < length ps → (p : Put) × (slice_get ps k ≡ Some p)
          item [] k lt = absurd (omega arith)
          item (p ∷ ps) Rattle.std.specs.Prelude.zero lt = (p, refl)
          item (p ∷ ps) (suc k) lt = item ps k (omega arith)

module _ (epoch number place : ℕ) (paid laid : List Put) where
  -- the payloads are behind the commit block and the descriptors
  pub heads_is : 1 + descriptor_count (length paid + length laid) ≡ heads (record_of number place paid laid)
  heads_is = ap (λ n. 1 + descriptor_count n) (sym (entries_length number place paid laid))

  -- and end where the record ends
  pub ends_is : (from : ℕ) → from ≡ 1 + descriptor_count (length paid + length laid) → from + length paid ≡ places (record_of number place paid laid)
  ends_is from e = omega (arith, e, heads_is, length-map paid payload_entry)

  -- what the commit block says
  pub commit_is : (d a b : ℕ) → d ≡ descriptor_count (length paid + length laid) → a ≡ length paid → b ≡ length laid
      → ◌≡◌ {A = Commit} (record { epoch = epoch; number = number; descriptors = d; payloads = a; fresh = b }) (commit_says epoch (record_of number place paid laid))
  commit_is d a b e f h =
      ap (λ n. record { epoch = epoch; number = number; descriptors = n; payloads = a; fresh = b }) (e ∙ ap descriptor_count (sym (entries_length number place paid laid)))
      ∙ ap (λ n. record { epoch = epoch; number = number; descriptors = descriptor_count (length (entries (record_of number place paid laid))); payloads = n; fresh = b }) (f ∙ sym (length-map paid payload_entry))
      ∙ ap (λ n. record { epoch = epoch; number = number; descriptors = descriptor_count (length (entries (record_of number place paid laid))); payloads = length (map payload_entry paid); fresh = n }) (h ∙ sym (length-map laid fresh_entry))

-- the writes of a record, as its parts make them
pub writes_are : (g : Geometry) (epoch number place : ℕ) (paid laid : List Put) (d block : ℕ) (x : List ℕ) → d ≡ descriptor_count (length paid + length laid) → block ≡ ring_block g place → x ≡ commit_block (commit_says epoch (record_of number place paid laid))
    → map fresh_write laid ++ (ring_writes g (place + 1) (descriptor_blocks epoch (record_of number 0 paid laid)) ++ (ring_writes g (place + 1 + d) (map stored_put paid) ++ (block, x) ∷ [])) ≡ record_writes g epoch number place paid laid
writes_are g epoch number place paid laid d block x d_is block_is x_is =
    ap (λ (l : List (List ℕ)). map fresh_write laid ++ (ring_writes g (place + 1) l ++ (ring_writes g (place + 1 + d) (map stored_put paid) ++ (block, x) ∷ []))) (same_descriptors epoch number 0 place paid laid)
    ∙ ap (λ n. map fresh_write laid ++ (ring_writes g (place + 1) (descriptor_blocks epoch (record_of number place paid laid)) ++ (ring_writes g n (map stored_put paid) ++ (block, x) ∷ []))) (at (heads_is epoch number place paid laid))
    ∙ ap (λ n. map fresh_write laid ++ (ring_writes g (place + 1) (descriptor_blocks epoch (record_of number place paid laid)) ++ (ring_writes g (place + heads (record_of number place paid laid)) (map stored_put paid) ++ (n, x) ∷ []))) block_is
    ∙ ap (λ (y : List ℕ). map fresh_write laid ++ (ring_writes g (place + 1) (descriptor_blocks epoch (record_of number place paid laid)) ++ (ring_writes g (place + heads (record_of number place paid laid)) (map stored_put paid) ++ (ring_block g place, y) ∷ []))) x_is
  where
    at : 1 + descriptor_count (length paid + length laid) ≡ heads (record_of number place paid laid) → place + 1 + d ≡ place + heads (record_of number place paid laid)
    at e = omega (arith, e, d_is)

-- the first place of a record is in the ring
pub first_block : (g h : Geometry) (place block : ℕ) → g ≡ h → block ≡ ring_block g place → block ≡ ring_block h place
first_block g h place block same e = e ∙ ap (λ (q : Geometry). ring_block q place) same

pub left_safe : {A E : Type 0} (s : MountedSession) (l : Ledger) (p : PipelineData) (w : WrittenRecord) (m : Blocks) (t floor : ℕ) (r : Result A E) (tickets : List ℕ) (base : Blocks) (new : List Event) → IsErr r → IsSafe s base new l t floor → RecordLeaves s l p w m t floor r tickets base new
left_safe s l p w m t floor (Ok a) tickets base new e safe = absurd (false≢true e)
left_safe s l p w m t floor (Err a) tickets base new e safe = inl safe

pub left_either : {A E : Type 0} (s : MountedSession) (l : Ledger) (p : PipelineData) (w : WrittenRecord) (m : Blocks) (t floor : ℕ) (r : Result A E) (tickets : List ℕ) (base : Blocks) (log new : List Event) → IsErr r
    → ((new ≡ log) × IsSafe s base new l t floor) ⊎ (IsSafe s base new (with_record l w m) t floor) → RecordLeaves s l p w m t floor r tickets base new
left_either s l p w m t floor (Ok a) tickets base log new e either = absurd (false≢true e)
left_either s l p w m t floor (Err a) tickets base log new e either = ⊎_elim (λ p. inl p.1) inr either
