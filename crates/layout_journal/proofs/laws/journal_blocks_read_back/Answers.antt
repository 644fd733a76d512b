use Rattle.layout_journal.proofs.Spelled.{header_reads, commit_reads, descriptor_reads}
use Rattle.layout_journal.proofs.laws.journal_blocks_read_back.Goals as goal

pub returns : goal.returns
returns c = record { headers = header_reads; commits = commit_reads; descriptors = descriptor_reads }
