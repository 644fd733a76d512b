use Rattle.std.proofs.Common.{not}
use Rattle.std.proofs.lemmas.Bool.{not-true, not_from_false}
use Rattle.layout_geometry.specs.Geometry.{data_start}
use Rattle.layout_bitmap.specs.Bits.{bit_in}
use Rattle.layout_bitmap.proofs.Frees.{kept_within, kept_passes, is_kept, kept_ascend}
use Rattle.layout_bitmap.proofs.laws.free_blocks_are_free.Goals as goal

pub returns-clause-each : goal.returns-clause-each
returns-clause-each c = λ g m k d low.
    let lies = kept_within (λ b. not (bit_in m b)) (data_start g) g.n k d low in
    record { from = lies.0; below = lies.1; clear = not-true _ (kept_passes (λ b. not (bit_in m b)) (data_start g) g.n k d low) }

pub returns-clause-all : goal.returns-clause-all
returns-clause-all c = λ g m b free. is_kept (λ k. not (bit_in m k)) (data_start g) b g.n free.from free.below (not_from_false _ free.clear)

pub returns-clause-ascending : goal.returns-clause-ascending
returns-clause-ascending c = λ g m. kept_ascend (λ b. not (bit_in m b)) (data_start g) g.n
