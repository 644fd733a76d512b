use Rattle.crash_argument.proofs.pipe.TakenBlocks.{stay_by_events, stay_known, stay_header, stay_durable, stay_home}
use Rattle.crash_argument.proofs.between.taken_blocks_stay_dead.Goals as goal

pub returns : goal.returns
returns c = record { events = stay_by_events; known = stay_known; header = stay_header; durable = stay_durable; home = stay_home }
