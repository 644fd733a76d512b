use Rattle.cmd_mirror.proofs.Replies.{failed_reply, stopped_reply, unread_reply}
use Rattle.cmd_mirror.proofs.reply_laws.a_reply_tells_a_fault_of_both_disks.Goals as goal

pub returns-clause-reads : goal.returns-clause-reads
returns-clause-reads c = λ tells first last a b marks cmds replies r fails i at. fails.reads (unread_reply _ _ replies r.moments r.marked.later r.marked.go i at)

pub returns-clause-others : goal.returns-clause-others
returns-clause-others c = λ tells first last a b marks cmds replies r fails i at. fails.others (failed_reply _ _ replies r.moments r.marked.later r.marked.go i at)

pub returns-clause-stopped : goal.returns-clause-stopped
returns-clause-stopped c = λ tells first last a b marks cmds replies r fails i at. fails.others (stopped_reply _ _ replies r.moments r.marked.later r.marked.go i at)
