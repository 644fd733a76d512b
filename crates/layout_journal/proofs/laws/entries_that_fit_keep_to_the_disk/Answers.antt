use Rattle.layout_journal.proofs.FitEntries.{payload_in_disk, fresh_in_disk, fresh_ordered, fresh_apart}
use Rattle.layout_journal.proofs.laws.entries_that_fit_keep_to_the_disk.Goals as goal

pub returns : goal.returns
returns c = record { payloads = payload_in_disk; fresh = fresh_in_disk; ascending = fresh_ordered; apart = fresh_apart }
