use Rattle.std.proofs.Common.{◌∙◌, ◌-◌, ap, arith}
use Rattle.fs_commands.proofs.counting.Nodes.{grows_kept, cuts_kept}
use Rattle.fs_commands.proofs.sharing.kept_resized.Goals as goal

pub returns-then-old-new-clause-kept : goal.returns-then-old-new-clause-kept
returns-then-old-new-clause-kept g c = λ told. grows_kept (g.S.Blocks.state c.args.blocks.now) c.args.shared.now c.args.number c.args.old c.args.new c.kept_met.result c.if-old-new.true (c.kept_met.ensures.met told)

pub returns-clause-kept : goal.returns-clause-kept
returns-clause-kept g c = λ told.
    cuts_kept (g.S.Blocks.state c.args.blocks.now) c.args.shared.now c.args.number c.args.old c.args.new c.blocks_for-from.result c.saturating_sub-count.result c.kept_blocks.result (omega (arith, c.if-old-new.false)) c.blocks_for-from.ensures
    (c.saturating_sub-count.ensures ∙ ap (λ a. a - c.blocks_for-from.result) c.blocks_for.ensures) (c.kept_blocks.ensures.rest told)
