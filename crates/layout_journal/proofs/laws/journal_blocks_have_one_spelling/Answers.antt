-- One way a block is taken apart field by field, the other way its spelling is read.
use Rattle.layout_journal.proofs.OneSpelling.{header_spelled, commit_spelled, descriptor_spelled}
use Rattle.layout_journal.proofs.OneValue.{header_is_read, commit_is_read, descriptor_is_read, one_header, one_commit, one_descriptor, stored_again}
use Rattle.layout_journal.proofs.laws.journal_blocks_have_one_spelling.Goals as goal

pub returns : goal.returns
returns c = let told = c.fields_tell_their_bytes.ensures in record {
  headers = λ n b h len low. (header_spelled told.zeros told.first_zeros told.numbers n b h len low, header_is_read n b h);
  commits = λ g b d len low. (commit_spelled told.zeros told.first_zeros told.numbers g b d len low, commit_is_read g b d);
  descriptors = λ g b d small len low. (descriptor_spelled told.zeros told.first_zeros told.numbers g b d len low, descriptor_is_read g b d small);
  one_header = one_header;
  one_commit = one_commit;
  one_descriptor = one_descriptor;
  payloads = stored_again;
}
