-- How far all records are on their way, round by round of a drain: after each round in which all tickets are noticed they are one stage further. It is described in docs/PIPELINE.md.
use Rattle.std.specs.Prelude.{◌≡◌, ⊤, ℕ, zero, suc, ◌+◌, [], length, Some, None}
use Rattle.engine_checkpoint.specs.declared.pipeline.Pending.{Pending}
use Rattle.engine_checkpoint.specs.declared.pipeline.Pipeline.{Pipeline}
use Rattle.engine_checkpoint.specs.Agree.{durable_count}

-- no record is committed without being durable, and a header is pending that makes all of them sure and releases all that are placed; or there is nothing for one to do
pub record AllAreDurable (v : Pipeline) : Type 0 where
  pub committed : v.committed.items ≡ []
  pub start : (q : Pending) → v.next ≡ Some q → q.header.start ≡ v.header.start + length v.placed.items
  pub sure : (q : Pending) → v.next ≡ Some q → q.header.sure + 1 ≡ v.header.start + durable_count v
  pub durable : v.next ≡ None → v.durable.items ≡ []
  pub placed : v.next ≡ None → v.placed.items ≡ []

-- and all of them are placed or in the batch
pub record AllAreSure (v : Pipeline) : Type 0 where
  pub before : AllAreDurable v
  pub durable : v.durable.items ≡ []
  pub batch : length v.sure.items ≡ v.batch

-- and all of them are placed
pub record AllArePlaced (v : Pipeline) : Type 0 where
  pub before : AllAreSure v
  pub sure : v.sure.items ≡ []

-- and there is none left
pub record AllAreReleased (v : Pipeline) : Type 0 where
  pub before : AllArePlaced v
  pub placed : v.placed.items ≡ []

-- after so many rounds
abbrev pub IsAtStage : ℕ → Pipeline → Type 0
IsAtStage zero v = ⊤
IsAtStage (suc zero) v = AllAreDurable v
IsAtStage (suc (suc zero)) v = AllAreSure v
IsAtStage (suc (suc (suc zero))) v = AllArePlaced v
IsAtStage (suc (suc (suc (suc n)))) v = AllAreReleased v
