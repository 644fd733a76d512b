use Rattle.fs_commands.specs.Opened.{blocks_in}
use Rattle.cmd_log.proofs.Histories.{logged_more}
use Rattle.cmd_log.proofs.serving.Logged.answer.Goals as goal

pub returns-clause-logs : goal.returns-clause-logs
returns-clause-logs g c = λ told drawn k begun opened calls replies marks logged.
    logged_more g.S.Blocks.state
    (record { former = c.each_crash_leaves_a_former_log.ensures; rests = c.a_resting_log_is_as_it_was.ensures told })
    k begun opened calls replies marks c.args.call.now c.reply-reply.result (blocks_in c.args.self.now.fs) (blocks_in c.reply-reply.new.self.fs) (drawn (blocks_in c.reply-reply.new.self.fs)) logged
    (c.reply-reply.ensures.takes told logged.now logged.keeps)
