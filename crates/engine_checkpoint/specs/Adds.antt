-- What the pipeline's calls add to the log: to which blocks they write, and which bytes. It is described in docs/PIPELINE.md.
use Rattle.std.specs.Prelude.{◌≡◌, ◌⊎◌, ℕ, ◌<◌, List, ◌++◌, take, drop, Some, None, Result, OnOk, Contains}
use Rattle.disk_contract.specs.declared.event.Event.{Event}
use Rattle.disk_contract.specs.declared.event.Event.TheVariants.{Wrote, Lost}
use Rattle.engine_checkpoint.specs.Kept.{Kept, newest_in}

-- the bytes are those of the block's newest payload in some front of these records
pub record HasPayload (ks : List Kept) (b : ℕ) (x : List ℕ) : Type 0 where
  pub front : ℕ
  pub newest : newest_in None (take front ks) b ≡ Some x

-- The log has grown by notices, by writes to blocks 0 and 1, where the headers are, and by checkpoint writes of payloads that these records had. Where the call succeeded, no write was lost.
pub record AddsHome {A E : Type 0} (result : Result A E) (ks : List Kept) (old new : List Event) : Type 0 where
  pub more : List Event
  pub log : new ≡ old ++ more
  pub wrote : (ticket b : ℕ) (x : List ℕ) → Contains more (Wrote ticket b x) → (b < 2) ⊎ HasPayload ks b x
  pub lost : (b : ℕ) (x : List ℕ) → Contains more (Lost b x) → (b < 2) ⊎ HasPayload ks b x
  pub calm : OnOk result ((b : ℕ) (x : List ℕ) → ¬ Contains more (Lost b x))

-- some of the records have left at the front
pub record LosesFront (old new : List Kept) : Type 0 where
  pub count : ℕ
  pub rest : new ≡ drop count old
