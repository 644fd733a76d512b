-- What calls in a row spend.
use Rattle.std.proofs.Common.{◌≡◌, ◌+◌, ℕ, zero, suc, Bool, false, ◌∙◌, ap, arith}
use Rattle.base_types.specs.Counts.{next_count, after_call, after_calls}
use Rattle.disk_contract.specs.Disk.{State, Spends}

-- so many calls, and then more
more_calls : (a b n : ℕ) → after_calls a (after_calls b n) ≡ after_calls (a + b) n
more_calls zero b n = ap (λ k. after_calls k n) {x = b} {y = 0 + b} (omega arith)
more_calls (suc a) b n = ap next_count (more_calls a b n) ∙ ap (λ k. after_calls k n) {x = suc (a + b)} {y = suc a + b} (omega arith)

pub spends_together : (failed : Bool) (waits polls more_waits more_polls : ℕ) (old mid new : State) → Spends false waits polls old mid → Spends failed more_waits more_polls mid new → Spends failed (more_waits + waits) (more_polls + polls) old new
spends_together failed waits polls more_waits more_polls old mid new a b = record {
  same = record { blocks = b.same.blocks ∙ a.same.blocks; base = b.same.base ∙ a.same.base; manner = b.same.manner ∙ a.same.manner };
  faults = b.faults ∙ ap (after_call failed) a.faults;
  read_faults = b.read_faults ∙ a.read_faults;
  waits = b.waits ∙ ap (after_calls more_waits) a.waits ∙ more_calls more_waits waits old.waits;
  polls = b.polls ∙ ap (after_calls more_polls) a.polls ∙ more_calls more_polls polls old.polls;
}
