use Rattle.engine_recover.proofs.Epochs.{header_below, commit_below, descriptor_below}
use Rattle.engine_recover.proofs.laws.no_epoch_is_above_the_greatest.Goals as goal

pub returns-clause-headers : goal.returns-clause-headers
returns-clause-headers c = header_below

pub returns-clause-commits : goal.returns-clause-commits
returns-clause-commits c = commit_below

pub returns-clause-descriptors : goal.returns-clause-descriptors
returns-clause-descriptors c = descriptor_below
