-- Which number a record has, by the place at which it stands in its state.
use Rattle.std.proofs.Common.{◌≡◌, ℕ, ◌+◌, ◌≤◌, ◌++◌, length, map, slice_get, Some, sym, ◌∙◌, ap, arith, length-append}
use Rattle.std.proofs.lemmas.Bool.Decides.{nat_tests}
use Rattle.std.proofs.lemmas.List.{length-map}
use Rattle.engine_running.specs.declared.commit.Committed.{Committed}
use Rattle.engine_running.specs.declared.states.Durable.{Durable}
use Rattle.engine_running.specs.declared.states.Sure.{Sure}
use Rattle.engine_running.specs.declared.states.Placed.{Placed}
use Rattle.engine_checkpoint.specs.declared.pipeline.Pipeline.{Pipeline}
use Rattle.engine_checkpoint.specs.Agree.{durable_count}
use Rattle.engine_checkpoint.specs.Kept.{Kept, kept, of_committed, of_durable, of_sure, numbers, number_of, placed_number}
use Rattle.engine_checkpoint.specs.Order.{IsInOrder}
use Rattle.engine_checkpoint.proofs.Lists.{get_old}
use Rattle.engine_checkpoint.proofs.KeptRows.{range_at, get_map, get_behind}

module _ (v : Pipeline) (o : IsInOrder v) where
  -- a number at a place of all
  number_at : (k n : ℕ) → slice_get (numbers v) k ≡ Some n → n ≡ v.header.start + k
  number_at k n is = range_at v.header.start (length (numbers v)) k n (sym (ap (λ ns. slice_get ns k) o.numbers_are) ∙ is)

  pub placed_at_number : (k : ℕ) (t : Placed) → slice_get v.placed.items k ≡ Some t → t.number ≡ v.header.start + k
  placed_at_number k t is = number_at k t.number (get_old (map placed_number v.placed.items) (map number_of (kept v)) k t.number (get_map placed_number v.placed.items k t is))

  kept_number : (k : ℕ) (t : Kept) → slice_get (kept v) k ≡ Some t → t.number ≡ v.header.start + length v.placed.items + k
  kept_number k t is = omega (arith, number_at (length v.placed.items + k) t.number (get_behind (map placed_number v.placed.items) (map number_of (kept v)) (length v.placed.items + k) k t.number (omega (arith, length-map v.placed.items placed_number)) (get_map number_of (kept v) k t is)))

  pub sure_number : (k : ℕ) (t : Sure) → slice_get v.sure.items k ≡ Some t → t.number ≡ v.header.start + length v.placed.items + k
  sure_number k t is = kept_number k (of_sure t) (get_old (map of_sure v.sure.items) (map of_durable v.durable.items ++ map of_committed v.committed.items) k (of_sure t) (get_map of_sure v.sure.items k t is))

  pub durable_number : (k : ℕ) (t : Durable) → slice_get v.durable.items k ≡ Some t → t.number ≡ v.header.start + length v.placed.items + length v.sure.items + k
  durable_number k t is = omega (
    arith,
    kept_number (length v.sure.items + k) (of_durable t)
        (get_behind (map of_sure v.sure.items) (map of_durable v.durable.items ++ map of_committed v.committed.items) (length v.sure.items + k) k (of_durable t) (omega (arith, length-map v.sure.items of_sure))
        (get_old (map of_durable v.durable.items) (map of_committed v.committed.items) k (of_durable t) (get_map of_durable v.durable.items k t is))),
  )

  pub committed_number : (k : ℕ) (t : Committed) → slice_get v.committed.items k ≡ Some t → t.number ≡ v.header.start + durable_count v + k
  committed_number k t is = omega (
    arith,
    kept_number (length v.sure.items + (length v.durable.items + k)) (of_committed t)
        (get_behind (map of_sure v.sure.items) (map of_durable v.durable.items ++ map of_committed v.committed.items) (length v.sure.items + (length v.durable.items + k)) (length v.durable.items + k) (of_committed t) (omega (arith, length-map v.sure.items of_sure))
        (get_behind (map of_durable v.durable.items) (map of_committed v.committed.items) (length v.durable.items + k) k (of_committed t) (omega (arith, length-map v.durable.items of_durable)) (get_map of_committed v.committed.items k t is))),
  )

  -- records that follow one another have numbers that do
  pub committed_rise : (i k : ℕ) (c d : Committed) → slice_get v.committed.items i ≡ Some c → slice_get v.committed.items k ≡ Some d → i ≤ k → c.number ≤ d.number
  committed_rise i k c d at there le = omega (arith, le, committed_number i c at, committed_number k d there)

-- there are as many numbers as records, so no fewer than sure ones
pub sure_numbers : (v : Pipeline) → length v.sure.items ≤ length (numbers v)
sure_numbers v = grind (arith, nat_tests, length-append, length-map)
