use Rattle.std.proofs.Common.{◌∙◌, ap}
use Rattle.engine_blocks.proofs.history.History.set.Goals as goal

pub returns-clause-points : goal.returns-clause-points
returns-clause-points c =
    c.save.ensures.points c.self.inside.blocks.items c.self.inside.starts.items c.args.bytes.now c.index.ensures c.self.invariant.behind ∙ ap (λ h. h.points) c.self.view_is
