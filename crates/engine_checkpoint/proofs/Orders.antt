-- The order of the records and the room for them stay as a record goes from one state to the next: which records there are, and how many payloads, doesn't change.
use Rattle.std.proofs.Common.{◌≡◌, ◌+◌, ◌≤◌, [], ◌∷◌, ◌++◌, map, ◌∙◌, ap, arith, deque_len, deque_capacity, append_assoc}
use Rattle.std.proofs.lemmas.Bool.Decides.{nat_tests}
use Rattle.engine_running.specs.declared.commit.Committed.{Committed}
use Rattle.engine_running.specs.declared.states.Durable.{Durable}
use Rattle.engine_running.specs.States.{IsDurableOf}
use Rattle.engine_checkpoint.specs.declared.pipeline.Pipeline.{Pipeline}
use Rattle.engine_checkpoint.specs.Agree.{durable_count}
use Rattle.engine_checkpoint.specs.Kept.{kept, numbers, number_of, placed_number}
use Rattle.engine_checkpoint.specs.Order.{IsInOrder, HasRoom, header_notes}
use Rattle.engine_checkpoint.proofs.Index.{durable_kept}
use Rattle.engine_checkpoint.proofs.Lists.{map_push}

-- the oldest committed record becomes the last durable one: the records are the same
pub kept_settled : (v w : Pipeline) (c : Committed) (d : Durable) → w ≡ record v { committed = w.committed; durable = w.durable; notes = w.notes } → v.committed.items ≡ c ∷ w.committed.items → w.durable.items ≡ v.durable.items ++ d ∷ [] → IsDurableOf c d → kept w ≡ kept v
kept_settled v w c d rest was more is = grind (arith, nat_tests, map_push, append_assoc, durable_kept)

module _ (v w : Pipeline) (rest : w ≡ record v { committed = w.committed; durable = w.durable; notes = w.notes }) (same : kept w ≡ kept v) where
  -- the numbers are the same
  numbers_same : numbers w ≡ numbers v
  numbers_same = ap (λ (p : Pipeline). map placed_number p.placed.items ++ map number_of (kept w)) rest ∙ ap (λ ks. map placed_number v.placed.items ++ map number_of ks) same

  -- as long as no fewer records are durable, their order stays
  pub order_settled : durable_count v ≤ durable_count w → IsInOrder v → IsInOrder w
  order_settled more o = grind (arith, nat_tests, numbers_same)

  -- and so does their room
  pub room_settled : deque_len w.durable + deque_len w.committed ≤ deque_len v.durable + deque_len v.committed → deque_len w.committed ≤ deque_len v.committed → deque_capacity v.durable ≤ deque_capacity w.durable → deque_capacity v.committed ≤ deque_capacity w.committed
      → v.notes.room + header_notes v ≤ w.notes.room + header_notes w → HasRoom v → HasRoom w
  room_settled both fewer durable_room committed_room notes r = grind (arith, nat_tests, numbers_same, deque_capacity)
