use Rattle.std.proofs.Common.{replicate}
use Rattle.layout_journal.specs.declared.entry.EntryKind.TheVariants.{Payload}
use Rattle.cmd_image.proofs.Mountable.{mountable, zeros_are_stored}
use Rattle.cmd_image.proofs.formatted_laws.a_formatted_image_can_be_mounted.Goals as goal

pub returns : goal.returns
returns c = λ g at fits like. mountable (record {
  bits = c.the_formatted_disk_is_empty.ensures.bits;
  journal = c.the_formatted_disk_is_empty.ensures.journal;
  reads = c.journal_blocks_read_back.ensures.headers;
  no_header = λ n. c.journal_blocks_are_told_apart.ensures.stored_no_header Payload n (replicate 1024 0) zeros_are_stored;
  no_commit = λ k. c.journal_blocks_are_told_apart.ensures.stored_no_commit Payload k (replicate 1024 0) zeros_are_stored;
}) g fits ((c.geometries_are_within_limits.ensures g).0 fits) at like
