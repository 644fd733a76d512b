use Rattle.cmd_log.proofs.Lacking.{lacks_blocks}
use Rattle.cmd_log.proofs.laws.a_call_is_full_only_for_want_of_blocks.Goals as goal

pub returns : goal.returns
returns c = lacks_blocks c.a_tree_in_memory_refuses_for_no_disk.ensures.alone
