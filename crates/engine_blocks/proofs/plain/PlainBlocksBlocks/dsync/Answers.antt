use Rattle.std.proofs.Common.{◌∙◌, sym, ap, arith}
use Rattle.engine_blocks.proofs.PlainServes.{ends_floor}
use Rattle.engine_blocks.proofs.PlainSyncs.{syncs_durably, floor_stays}
use Rattle.engine_blocks.proofs.plain.PlainBlocksBlocks.dsync.Goals as goal

pub returns-clause-syncs : goal.returns-clause-syncs
returns-clause-syncs c = syncs_durably c.args.self.now c.osync.new.self c.in_ok-point.point c.in_ok-point.point (omega (arith, c.osync.new.self.floor_is, c.in_ok-point.ensures.syncs.point)) c.in_ok-point.ensures.syncs

pub returns-clause-idles : goal.returns-clause-idles
returns-clause-idles c = λ none known.
    let books = (c.osync.ensures.idles none).books in
    floor_stays c.args.self.now c.osync.new.self c.in_ok-point.point (c.in_ok-point.ensures.syncs.point ∙ ap (λ k. k.point) books ∙ sym known ∙ sym (ap (λ k. k.floor) books)) (c.osync.ensures.idles none)

pub returns-clause-frees : goal.returns-clause-frees
returns-clause-frees c = λ tells. ends_floor c.args.self.now c.osync.new.self c.in_ok-point.point (c.in_ok-point.ensures.frees tells)
