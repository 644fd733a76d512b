-- What a reader or a writer is beside its count of faults, as callers see an adapter.
use Rattle.std.specs.Prelude.{ℕ}

-- what stands below, and how many calls have failed
pub record Counted (T : Type 0) : Type 0 where
  pub inner : T
  pub faults : ℕ
