use Rattle.fs_session.proofs.applying.Causes.{spent_before, stopped_before, unread_counted}
use Rattle.fs_session.proofs.laws.a_refusal_for_the_disk_has_its_cause.Goals as goal

pub returns-clause-read : goal.returns-clause-read
returns-clause-read g c = λ told old new f cmd reply h applies is. unread_counted g.S.Blocks.tells g.S.Blocks.state told c.a_tree_in_memory_refuses_for_no_disk.ensures.alone f cmd reply old new h applies is

pub returns-clause-stopped : goal.returns-clause-stopped
returns-clause-stopped g c = λ told old new f cmd reply h applies is. stopped_before g.S.Blocks.tells g.S.Blocks.state told c.a_tree_in_memory_refuses_for_no_disk.ensures.alone f cmd reply old new h applies is

pub returns-clause-spent : goal.returns-clause-spent
returns-clause-spent g c = λ told old new f cmd reply h applies is. spent_before g.S.Blocks.tells g.S.Blocks.state told c.a_tree_in_memory_refuses_for_no_disk.ensures.alone f cmd reply old new h applies is
