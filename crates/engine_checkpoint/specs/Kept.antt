-- The records of the pipeline, oldest first, whichever state they are in: their numbers, their ring places, and what those that aren't placed still have. It is described in docs/PIPELINE.md.
use Rattle.std.specs.Prelude.{ℕ, ◌+◌, if◌then◌else◌, List, [], ◌∷◌, ◌++◌, length, drop, map, Option, None}
use Rattle.layout_journal.specs.Run.{or_else}
use Rattle.crash_argument.specs.HomeTest.{is_one_of}
use Rattle.engine_running.specs.declared.put.Put.{Put}
use Rattle.engine_running.specs.Rows.{put_of}
use Rattle.engine_running.specs.declared.commit.Committed.{Committed}
use Rattle.engine_running.specs.declared.states.Durable.{Durable}
use Rattle.engine_running.specs.declared.states.Sure.{Sure}
use Rattle.engine_running.specs.declared.states.Placed.{Placed}
use Rattle.engine_checkpoint.specs.declared.pipeline.Pipeline.{Pipeline}

-- what is kept of a record that isn't placed, in each of its states
pub record Kept : Type 0 where
  pub number : ℕ
  pub count : ℕ
  pub payloads : List Put
  pub fresh : List ℕ
  pub freed : List ℕ

abbrev pub of_committed : Committed → Kept
of_committed t = record { number = t.number; count = t.count; payloads = t.payloads.items; fresh = t.fresh.items; freed = t.freed.items }

abbrev pub of_durable : Durable → Kept
of_durable t = record { number = t.number; count = t.count; payloads = t.payloads.items; fresh = t.fresh.items; freed = t.freed.items }

abbrev pub of_sure : Sure → Kept
of_sure t = record { number = t.number; count = t.count; payloads = t.payloads.items; fresh = t.fresh.items; freed = t.freed.items }

abbrev pub number_of : Kept → ℕ
number_of k = k.number

abbrev pub count_of : Kept → ℕ
count_of k = k.count

abbrev pub placed_number : Placed → ℕ
placed_number t = t.number

abbrev pub placed_count : Placed → ℕ
placed_count t = t.count

-- the records that aren't placed
abbrev pub kept : Pipeline → List Kept
kept v = map of_sure v.sure.items ++ (map of_durable v.durable.items ++ map of_committed v.committed.items)

-- the numbers of all records that aren't released
abbrev pub numbers : Pipeline → List ℕ
numbers v = map placed_number v.placed.items ++ map number_of (kept v)

-- all of these together
abbrev pub total : List ℕ → ℕ
total [] = 0
total (n ∷ ns) = n + total ns

-- how many ring places these records have
abbrev pub places_taken : Pipeline → ℕ
places_taken v = total (map placed_count v.placed.items) + total (map count_of (kept v))

-- how many payloads these records have
abbrev pub payloads_in : List Kept → ℕ
payloads_in [] = 0
payloads_in (k ∷ ks) = length k.payloads + payloads_in ks

-- the records behind the batch, whose checkpoint writes are still to come
abbrev pub behind_batch : Pipeline → List Kept
behind_batch v = drop v.batch (kept v)

-- what a record makes of the newest bytes of a block: within one record a free of the block comes last
abbrev pub newest_after : Option (List ℕ) → Kept → ℕ → Option (List ℕ)
newest_after before k b = if is_one_of b k.freed then None else or_else (put_of b k.payloads) (if is_one_of b k.fresh then None else before)

-- the newest payload of a block in these records, None where a later one wrote it fresh or freed it
abbrev pub newest_in : Option (List ℕ) → List Kept → ℕ → Option (List ℕ)
newest_in before [] b = before
newest_in before (k ∷ ks) b = newest_in (newest_after before k b) ks b
