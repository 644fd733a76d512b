use Rattle.layout_journal.proofs.Tags.{commit_no_descriptor, commit_no_header, descriptor_no_commit, descriptor_no_header, stored_no_header, stored_no_commit, stored_no_descriptor}
use Rattle.layout_journal.proofs.laws.journal_blocks_are_told_apart.Goals as goal

pub returns : goal.returns
returns c = record {
  commit_no_descriptor = commit_no_descriptor;
  commit_no_header = commit_no_header;
  descriptor_no_commit = descriptor_no_commit;
  descriptor_no_header = descriptor_no_header;
  stored_no_header = stored_no_header;
  stored_no_commit = stored_no_commit;
  stored_no_descriptor = stored_no_descriptor;
}
