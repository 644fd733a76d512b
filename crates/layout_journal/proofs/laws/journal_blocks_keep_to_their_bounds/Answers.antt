-- Each number was tested when the block was read.
use Rattle.layout_journal.proofs.Bounds.{header_bounds, commit_bounds}
use Rattle.layout_journal.proofs.laws.journal_blocks_keep_to_their_bounds.Goals as goal

pub returns-clause-headers : goal.returns-clause-headers
returns-clause-headers c = header_bounds

pub returns-clause-commits : goal.returns-clause-commits
returns-clause-commits c = commit_bounds
