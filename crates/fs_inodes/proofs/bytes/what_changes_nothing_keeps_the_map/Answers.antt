use Rattle.fs_inodes.proofs.commands.Unchanged.{refused, looked, nothing_written, nothing_filled, same_size, same_node, changed_aside}
use Rattle.fs_inodes.proofs.bytes.what_changes_nothing_keeps_the_map.Goals as goal

pub returns-clause-refused : goal.returns-clause-refused
returns-clause-refused c = refused

pub returns-clause-looked : goal.returns-clause-looked
returns-clause-looked c = looked

pub returns-clause-nothing_written : goal.returns-clause-nothing_written
returns-clause-nothing_written c = nothing_written

pub returns-clause-nothing_filled : goal.returns-clause-nothing_filled
returns-clause-nothing_filled c = nothing_filled

pub returns-clause-same_size : goal.returns-clause-same_size
returns-clause-same_size c = same_size

pub returns-clause-same_node : goal.returns-clause-same_node
returns-clause-same_node c = same_node

pub returns-clause-snapshots : goal.returns-clause-snapshots
returns-clause-snapshots c = changed_aside
