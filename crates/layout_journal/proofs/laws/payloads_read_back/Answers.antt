use Rattle.layout_journal.proofs.Stored.{stored_reads, stored_is}
use Rattle.layout_journal.proofs.laws.payloads_read_back.Goals as goal

pub returns : goal.returns
returns c = record { bytes = stored_reads; stored = stored_is }
