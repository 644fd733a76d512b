use Rattle.std.proofs.Common.{not, ap, ◌∙◌, append-nil}
use Rattle.layout_bitmap.specs.Bits.{bit_in, free_blocks}
use Rattle.engine_reuse.specs.Numbers.{is_among}
use Rattle.engine_reuse.proofs.Accounts.{dead_released, dead_taken}
use Rattle.engine_reuse.proofs.Sound.{among_data, dead_sealed}
use Rattle.engine_reuse.proofs.laws.calls_change_what_is_dead.Goals as goal

pub returns-clause-begins : goal.returns-clause-begins
returns-clause-begins c = λ g m b lies. ap (is_among b) (append-nil (free_blocks g m)) ∙ among_data g (λ k. not (bit_in m k)) b lies

pub returns-clause-sealed : goal.returns-clause-sealed
returns-clause-sealed c = dead_sealed

pub returns-clause-released : goal.returns-clause-released
returns-clause-released c = dead_released

pub returns-clause-taken : goal.returns-clause-taken
returns-clause-taken c = dead_taken
