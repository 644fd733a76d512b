-- How many commands a load has.
use Rattle.std.proofs.Common.{◌≡◌, ℕ, zero, suc, length, refl, ap}
use Rattle.lang_load.specs.Load.{load_commands, state_behind}

pub load_count : (n state : ℕ) → length (load_commands n state) ≡ n
load_count zero state = refl
load_count (suc n) state = ap suc (load_count n (state_behind state))
