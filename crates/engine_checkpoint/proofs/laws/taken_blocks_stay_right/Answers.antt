-- By the law on dead blocks that don't wait, and by the one that says that a block that waits may not be taken.
use Rattle.std.proofs.Common.{◌∷◌, [], ◌++◌, ◌-◌}
use Rattle.engine_checkpoint.proofs.Taking.{right_taken, right_fewer, right_held}
use Rattle.engine_checkpoint.proofs.laws.taken_blocks_stay_right.Goals as goal

pub returns-clause-takes : goal.returns-clause-takes
returns-clause-takes c = λ s base log l t floor v ring dead taken list now sound geom r may each. right_taken s base log l t floor v ring dead taken r list now c.a_reusable_block_is_dead.ensures.dead c.a_freed_block_waits.ensures.waits sound geom may each

pub returns-clause-frees : goal.returns-clause-frees
returns-clause-frees c = λ s base log l t floor v ring dead taken b r. right_held s base log l t floor v ring dead taken r (dead.held ++ b ∷ []) (dead.room - 1)

pub returns-clause-fewer : goal.returns-clause-fewer
returns-clause-fewer c = λ s base log l t floor v ring dead taken now r each. right_fewer s base log l t floor v ring dead taken r now each

pub returns-clause-room : goal.returns-clause-room
returns-clause-room c = λ s base log l t floor v ring dead taken n r. right_held s base log l t floor v ring dead taken r dead.held n
