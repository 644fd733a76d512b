use Rattle.fs_snapshots.proofs.knowing.Counted.{counts_tell, keeps}
use Rattle.fs_snapshots.proofs.knowing.Named.{number_is}
use Rattle.fs_snapshots.proofs.known.what_is_known_of_snapshots_is_so.Goals as goal

pub returns-clause-kept : goal.returns-clause-kept
returns-clause-kept c = λ g m counts known. counts_tell g m counts known

pub returns-clause-each : goal.returns-clause-each
returns-clause-each c = keeps

pub returns-clause-named : goal.returns-clause-named
returns-clause-named c = λ g m t name stands. number_is g m t stands name
