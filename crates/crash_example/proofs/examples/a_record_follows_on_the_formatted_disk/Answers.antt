use Rattle.std.proofs.Common.{ℕ}
use Rattle.disk_contract.specs.Cell.{Cell, cell_of}
use Rattle.layout_journal.specs.Formatted.{empty_header, formatted}
use Rattle.crash_example.specs.FirstRecord.{least}
use Rattle.crash_argument.specs.Formatted.{mount_events}
use Rattle.crash_example.proofs.FirstMount.{least_fits, others_stay}
use Rattle.crash_example.proofs.FirstNext.{first_next, first_frees}
use Rattle.crash_example.proofs.FirstSpelled.{first_spelled}
use Rattle.crash_example.proofs.examples.a_record_follows_on_the_formatted_disk.Goals as goal

abbrev cells : ℕ → ℕ → Cell
cells ticket = cell_of (formatted least) (mount_events least ticket)

pub returns : goal.returns
returns c =
    let begun = λ (ticket : ℕ). c.a_formatted_disk_is_mounted.ensures.mounted least ticket least_fits in
    let read = c.journal_blocks_read_back.ensures in record {
      next = λ ticket x. first_next (cells ticket) (others_stay ticket) x (first_spelled read.commits read.descriptors x);
      freed = λ ticket x. first_frees (cells ticket) (others_stay ticket) x;
      begun = begun;
      safe = λ ticket. c.a_mounted_disk_is_safe.ensures (formatted least) (mount_events least ticket) least 1 (empty_header least 2 2) (begun ticket);
      knows = λ ticket. c.a_mounted_disk_has_its_data.ensures.begins (formatted least) (mount_events least ticket) least 1 (empty_header least 2 2) (begun ticket);
      idle = λ ticket. c.a_mounted_disk_begins.ensures.idle (formatted least) (mount_events least ticket) least 1 (empty_header least 2 2) (begun ticket);
    }
