use Rattle.fs_files.proofs.finishing.GoingOn.{begun, rests, synced}
use Rattle.fs_files.proofs.finish.a_sync_may_follow.Goals as goal

pub returns-clause-begun : goal.returns-clause-begun
returns-clause-begun c = begun

pub returns-clause-rests : goal.returns-clause-rests
returns-clause-rests c = rests

pub returns-clause-synced : goal.returns-clause-synced
returns-clause-synced c = synced
