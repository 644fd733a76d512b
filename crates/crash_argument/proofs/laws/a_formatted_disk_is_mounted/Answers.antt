use Rattle.std.proofs.Common.{replicate}
use Rattle.layout_journal.specs.declared.entry.EntryKind.TheVariants.{Payload}
use Rattle.crash_argument.proofs.mount.Formatted.{formatted_mounts, zeros_are_stored}
use Rattle.crash_argument.proofs.laws.a_formatted_disk_is_mounted.Goals as goal

pub returns : goal.returns
returns c = record {
  mounted = λ g ticket fits. formatted_mounts
      c.journal_blocks_read_back.ensures.headers
      (λ k. c.the_journal_is_lawful.ensures.stored_no_commit Payload k (replicate 1024 0) zeros_are_stored)
      (λ k. c.the_journal_is_lawful.ensures.stored_no_descriptor Payload k (replicate 1024 0) zeros_are_stored)
      c.the_formatted_disk_is_empty.ensures.journal g ticket fits (c.the_journal_is_lawful.ensures.geometry_sizes g fits);
}
