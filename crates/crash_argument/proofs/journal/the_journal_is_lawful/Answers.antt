use Rattle.crash_argument.proofs.theorem.Geometries.{sized}
use Rattle.crash_argument.proofs.journal.the_journal_is_lawful.Goals as goal

pub returns : goal.returns
returns c = record {
  header_sealed = c.journal_blocks_are_sealed.ensures.headers;
  commit_sealed = c.journal_blocks_are_sealed.ensures.commits;
  descriptor_sealed = c.journal_blocks_are_sealed.ensures.descriptors;
  commit_no_descriptor = c.journal_blocks_are_told_apart.ensures.commit_no_descriptor;
  descriptor_no_commit = c.journal_blocks_are_told_apart.ensures.descriptor_no_commit;
  stored_no_commit = c.journal_blocks_are_told_apart.ensures.stored_no_commit;
  stored_no_descriptor = c.journal_blocks_are_told_apart.ensures.stored_no_descriptor;
  header_bounds = c.journal_blocks_keep_to_their_bounds.ensures.headers;
  geometry_sizes = λ g fits. sized g ((c.geometries_are_within_limits.ensures g).0 fits);
  told_entries = c.descriptors_tell_the_entries.ensures;
  payload_in_disk = c.entries_that_fit_keep_to_the_disk.ensures.payloads;
  fresh_data = λ g r i e fit is. (c.entries_that_fit_keep_to_the_disk.ensures.fresh g r i e fit is).0;
  fresh_below = λ g r i e fit is. (c.entries_that_fit_keep_to_the_disk.ensures.fresh g r i e fit is).1;
  fresh_ordered = c.entries_that_fit_keep_to_the_disk.ensures.ascending;
  fresh_apart = c.entries_that_fit_keep_to_the_disk.ensures.apart;
  one_map = c.an_image_holds_one_map.ensures.maps;
}
