use Rattle.fs_commands.specs.Opened.{blocks_in}
use Rattle.cmd_log.proofs.Histories.{begins}
use Rattle.cmd_log.proofs.serving.Logged.open.Goals as goal

pub returns-in-Ok-clause-logs : goal.returns-in-Ok-clause-logs
returns-in-Ok-clause-logs g c = λ told drawn k t mounted l served is.
    begins g.S.Blocks.state
    (record { former = c.each_crash_leaves_a_former_log.ensures; rests = c.a_resting_log_is_as_it_was.ensures told })
    c.an_image_stands_for_one_tree.ensures.blocks k t mounted l (blocks_in c.args.fs) (blocks_in c.in-Ok.log.fs) served is (c.in-Ok.ensures.goes told) (drawn (blocks_in c.in-Ok.log.fs))
