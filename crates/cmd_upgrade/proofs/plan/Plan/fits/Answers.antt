-- The nodes of the tree are one more than the first places, and its blocks are counted.
use Rattle.std.proofs.Common.{arith, le-leb, leb-true, true≢false, sym}
use Rattle.cmd_upgrade.proofs.Whole.{fits_back, no_nodes, takes, whole_blocks, whole_count}
use Rattle.cmd_upgrade.proofs.plan.Plan.fits.Goals as goal

pub returns-then-i-len : goal.returns-then-i-len
returns-then-i-len c = λ limit t ok whole.
    let count = whole_count c.each_path_is_made_once.ensures.made limit t ok c.args.geom.now.layout c.args.self.now whole in (
      (λ told. absurd (true≢false (sym told))),
      (λ is. absurd (no_nodes c.args.geom.now t c.args.self.now count (omega (arith, c.if-i-len.true, c.i.ensures, c.len.ensures.len)) is)),
    )

pub returns : goal.returns
returns c = λ limit t ok whole.
    let count = whole_count c.each_path_is_made_once.ensures.made limit t ok c.args.geom.now.layout c.args.self.now whole in
    let blocks = whole_blocks c.each_path_is_made_once.ensures.made limit t ok c.args.geom.now.layout c.args.self.now whole in (
      (λ told. takes c.args.geom.now t c.args.self.now count blocks (λ many. omega (arith, many, c.if-i-len.false, c.i.ensures, c.len.ensures.len)) c.lawful.ensures.limits.most_blocks
          (omega (arith, leb-true _ _ told, c.n.ensures, c.data_start.ensures, c.from.ensures))),
      (λ is. le-leb _ _ (omega (arith, fits_back c.args.geom.now t c.args.self.now blocks is, c.n.ensures, c.data_start.ensures, c.from.ensures))),
    )
