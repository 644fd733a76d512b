use Rattle.fs_files.specs.Calls.{GrowthRefused}
use Rattle.fs_files.specs.Growing.{placed}
use Rattle.fs_files.specs.Shared.{is_kept}
use Rattle.fs_files.proofs.drafts.Refused.{passed_on}
use Rattle.fs_files.proofs.grow.grow.Goals as goal

pub returns-in_err-lowest-clause-refused : goal.returns-in_err-lowest-clause-refused
returns-in_err-lowest-clause-refused g c =
    let old = (g.S.Blocks.state c.args.blocks.now).books in
    let new = (g.S.Blocks.state c.lowest.new.blocks).books in
    let with_more = placed (is_kept c.args.draft.now.kept) c.args.lo c.args.hi c.args.node.now.places in
    passed_on c.from_residual.result c.in_err-lowest.field-0.0 (λ why. GrowthRefused c.args.need with_more old new why) c.from_residual.ensures.1 (c.in_err-lowest.ensures.refused with_more)
