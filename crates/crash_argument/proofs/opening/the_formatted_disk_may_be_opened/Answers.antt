use Rattle.std.proofs.Common.{replicate}
use Rattle.layout_journal.specs.declared.entry.EntryKind.TheVariants.{Payload}
use Rattle.crash_argument.proofs.mount.Formatted.{zeros_are_stored}
use Rattle.crash_argument.proofs.mount.FormattedOpens.{formatted_opens, formatted_runs}
use Rattle.crash_argument.proofs.opening.the_formatted_disk_may_be_opened.Goals as goal

pub returns : goal.returns
returns c = record {
  ready = λ g fits. formatted_opens
      c.journal_blocks_read_back.ensures.headers
      (λ n. c.journal_blocks_are_told_apart.ensures.stored_no_header Payload n (replicate 1024 0) zeros_are_stored)
      (λ k. c.journal_blocks_are_told_apart.ensures.stored_no_commit Payload k (replicate 1024 0) zeros_are_stored)
      (λ k. c.journal_blocks_are_told_apart.ensures.stored_no_descriptor Payload k (replicate 1024 0) zeros_are_stored)
      c.the_formatted_disk_is_empty.ensures.journal g fits (c.the_journal_is_lawful.ensures.geometry_sizes g fits);
  run = λ g fits. formatted_runs (λ k. c.journal_blocks_are_told_apart.ensures.stored_no_commit Payload k (replicate 1024 0) zeros_are_stored) c.the_formatted_disk_is_empty.ensures.journal g (c.the_journal_is_lawful.ensures.geometry_sizes g fits).0;
}
