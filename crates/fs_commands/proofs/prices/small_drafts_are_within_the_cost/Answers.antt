use Rattle.std.proofs.Common.{◌+◌, ◌-◌, max}
use Rattle.layout_geometry.specs.Geometry.{bitmap_blocks}
use Rattle.lang_tree.specs.Figures.{removing, shrinking, blocks_met, blocks_for}
use Rattle.lang_tree.specs.Sharing.{shared_met, writing_over}
use Rattle.fs_commands.proofs.AtMost.{within, for_removing, for_writing, for_shrinking}
use Rattle.fs_commands.proofs.prices.small_drafts_are_within_the_cost.Goals as goal

pub returns-clause-removing : goal.returns-clause-removing
returns-clause-removing c = λ g d freed most. within g d 4 0 0 freed (removing (bitmap_blocks g) freed).cost most (for_removing freed (bitmap_blocks g))

pub returns-clause-writing : goal.returns-clause-writing
returns-clause-writing c = λ g d shared size lo hi most.
    let met = shared_met shared size lo hi in
    let taken = met + (blocks_for (max size hi) - blocks_for size) in
    within g d (blocks_met size lo hi - met + 1) taken taken 0 (writing_over (bitmap_blocks g) shared size lo hi).cost most (for_writing (blocks_met size lo hi - met) taken (bitmap_blocks g))

pub returns-clause-shrinking : goal.returns-clause-shrinking
returns-clause-shrinking c = λ g d freed most. within g d 1 0 0 freed (shrinking (bitmap_blocks g) freed).cost most (for_shrinking freed (bitmap_blocks g))
