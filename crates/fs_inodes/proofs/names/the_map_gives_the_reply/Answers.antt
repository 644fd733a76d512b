use Rattle.fs_inodes.proofs.agreement.Agree.{agrees}
use Rattle.fs_inodes.proofs.lookups.Reasons.{look_given}
use Rattle.fs_inodes.proofs.lookups.Replies.{stat_given, shown_given, reply_given}
use Rattle.fs_inodes.proofs.names.the_map_gives_the_reply.Goals as goal

pub returns-clause-stat : goal.returns-clause-stat
returns-clause-stat c = λ limit m t path is. stat_given limit m t (agrees c.the_tree_is_lawful.ensures limit m t is) path

pub returns-clause-reply : goal.returns-clause-reply
returns-clause-reply c = λ s m cmd is e. reply_given c.the_tree_is_lawful.ensures s m (agrees c.the_tree_is_lawful.ensures s.limit.nodes m s.tree is) cmd e

pub returns-clause-looks : goal.returns-clause-looks
returns-clause-looks c = λ limit m t l is.
    let a = agrees c.the_tree_is_lawful.ensures limit m t is in
    (look_given c.the_tree_is_lawful.ensures limit m t a l, shown_given limit m t a l)
