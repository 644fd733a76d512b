use Rattle.std.proofs.Common.{◌≡◌, Some, rules}
use Rattle.layout_journal.specs.Layout.{commit_of}
use Rattle.crash_record.proofs.blocks.commit_in.Goals as goal

pub returns-clause-within : goal.returns-clause-within
returns-clause-within c =
    let e : commit_of c.args.header.now.geom c.args.block.now ≡ Some c.in_ok-commit.commit = search rules in
    c.journal_blocks_keep_to_their_bounds.ensures.commits c.args.header.now.geom c.args.block.now c.in_ok-commit.commit e
