-- The blocks that are going home are listed, and then given to the dead blocks.
use Rattle.std.proofs.Common.{List, length, ap, arith}
use Rattle.engine_checkpoint.specs.declared.pipeline.HomeWrite.{HomeWrite}
use Rattle.engine_checkpoint.proofs.Served.{room_for_home}
use Rattle.engine_checkpoint.proofs.advance.serve_blocks.Goals as goal

pub list_going_home-requires : goal.list_going_home-requires
list_going_home-requires c = omega (arith, room_for_home c.args.pipeline.now c.requires.order c.requires.room, ap (λ (hs : List HomeWrite). length hs) c.as_slice.ensures.value)
