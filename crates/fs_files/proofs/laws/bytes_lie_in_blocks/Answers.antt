use Rattle.fs_files.proofs.drafts.Alone.{met_alone}
use Rattle.fs_files.proofs.frames.Met.{met_count, met_most}
use Rattle.fs_files.proofs.laws.bytes_lie_in_blocks.Goals as goal

pub returns-clause-count : goal.returns-clause-count
returns-clause-count c = met_count

pub returns-clause-most : goal.returns-clause-most
returns-clause-most c = met_most

pub returns-clause-kept_too : goal.returns-clause-kept_too
returns-clause-kept_too c = met_alone
