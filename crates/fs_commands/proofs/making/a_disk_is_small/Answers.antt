use Rattle.fs_files.specs.Drafts.{begun_beside}
use Rattle.fs_commands.proofs.naming.Drafting.{few_places}
use Rattle.fs_commands.proofs.making.a_disk_is_small.Goals as goal

pub returns-clause-places : goal.returns-clause-places
returns-clause-places g c = λ told counts may k.
    let draft = c.a_draft_may_begin.ensures counts may in
    few_places (g.S.Blocks.state c.args.blocks.now) k (λ x is. (c.a_file_has_its_blocks.ensures c.args.blocks.now (begun_beside counts) k x told draft is, c.a_file_fits_the_disk.ensures (begun_beside counts) k x told draft is))
