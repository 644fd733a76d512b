use Rattle.std.proofs.Common.{◌≡◌, arith, rules}
use Rattle.disk_contract.specs.Bay.{zero_blocks}
use Rattle.layout_journal.specs.Formatted.{formatted}
use Rattle.cmd_host.proofs.Images.{none_yet, one_more, all_there}
use Rattle.cmd_host.proofs.image.formatted_image.Goals as goal

pub loop-b-init : goal.loop-b-init
loop-b-init c =
    let zeros : c.in_ok-image.image ≡ zero_blocks c.args.geom.now.n = search rules in
    none_yet (formatted c.args.geom.now) c.args.geom.now.n c.in_ok-image.image zeros

pub loop-b-preserved : goal.loop-b-preserved
loop-b-preserved c = one_more (formatted c.args.geom.now) c.args.geom.now.n _ _ c.loop-b.b c.formatted_block.result c.loop-b.invariant (omega (arith, c.loop-b-test.true)) c.formatted_block.ensures c.in_ok-set.ensures.done

pub returns-clause-blocks : goal.returns-clause-blocks
returns-clause-blocks c = all_there (formatted c.args.geom.now) c.args.geom.now.n _ c.loop-b.b c.loop-b.invariant (λ k from. c.the_formatted_disk_is_empty.ensures.zeros c.args.geom.now k c.lawful.ensures.fits (omega (arith, from)))
