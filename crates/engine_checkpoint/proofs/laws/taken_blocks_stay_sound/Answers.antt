-- Nothing of what is asked speaks of the blocks that may be taken, of those that are held, or of the room.
use Rattle.engine_checkpoint.proofs.laws.taken_blocks_stay_sound.Goals as goal

pub returns-clause-takes : goal.returns-clause-takes
returns-clause-takes c = λ v ring dead list s. record { order = s.order; room = s.room; index = s.index; goes_with = record { ring_geom = s.goes_with.ring_geom; taken = s.goes_with.taken; dead_geom = s.goes_with.dead_geom; waiting = s.goes_with.waiting } }

pub returns-clause-frees : goal.returns-clause-frees
returns-clause-frees c = λ v ring dead b s. record { order = s.order; room = s.room; index = s.index; goes_with = record { ring_geom = s.goes_with.ring_geom; taken = s.goes_with.taken; dead_geom = s.goes_with.dead_geom; waiting = s.goes_with.waiting } }

pub returns-clause-room : goal.returns-clause-room
returns-clause-room c = λ v ring dead n s. record { order = s.order; room = s.room; index = s.index; goes_with = record { ring_geom = s.goes_with.ring_geom; taken = s.goes_with.taken; dead_geom = s.goes_with.dead_geom; waiting = s.goes_with.waiting } }
