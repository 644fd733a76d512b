use Rattle.std.proofs.Common.{ℕ, ◌<◌, arith, replicate, subst}
use Rattle.layout_journal.specs.declared.entry.EntryKind.TheVariants.{Payload}
use Rattle.layout_journal.specs.Run.{Newest}
use Rattle.cmd_upgrade.proofs.Formatted.{begins, has_geometry, zeros_are_stored}
use Rattle.cmd_upgrade.proofs.tree_laws.a_formatted_image_has_its_geometry.Goals as goal

pub returns-clause-geom : goal.returns-clause-geom
returns-clause-geom c = λ g n img slot h fits image newest.
    has_geometry g fits ((c.geometries_are_within_limits.ensures g).0 fits) img (λ b low. image.blocks b (omega (arith, low, image.size))) (c.the_formatted_disk_is_empty.ensures.journal g)
    c.journal_blocks_read_back.ensures.headers (λ k. c.journal_blocks_are_told_apart.ensures.stored_no_header Payload k (replicate 1024 0) zeros_are_stored)
    slot h (subst (λ (k : ℕ). Newest k img slot h) image.size newest)

pub returns-clause-numbers : goal.returns-clause-numbers
returns-clause-numbers c = λ g n img slot h records fits image newest run.
    begins g fits ((c.geometries_are_within_limits.ensures g).0 fits) img (λ b low. image.blocks b (omega (arith, low, image.size))) (c.the_formatted_disk_is_empty.ensures.journal g)
    c.journal_blocks_read_back.ensures.headers (λ k. c.journal_blocks_are_told_apart.ensures.stored_no_header Payload k (replicate 1024 0) zeros_are_stored)
    (c.journal_blocks_are_told_apart.ensures.stored_no_commit Payload g (replicate 1024 0) zeros_are_stored) slot h records (subst (λ (k : ℕ). Newest k img slot h) image.size newest) run
