use Rattle.fs_commands.specs.Removing.{lose_cmd}
use Rattle.fs_commands.proofs.planning.Before.{looked_first}
use Rattle.fs_commands.proofs.planning.Behind.{loses_still, may_plan_still}
use Rattle.fs_commands.proofs.planning.Looking.{cut_short}
use Rattle.fs_commands.proofs.removed.Decided.{loss_still}
use Rattle.fs_commands.proofs.removing.plan_name_loss.Goals as goal

pub plan_loss_of-requires-clause-may : goal.plan_loss_of-requires-clause-may
plan_loss_of-requires-clause-may g c = may_plan_still g.S.Blocks.tells _ _ c.in-Ok.ensures.looks c.requires.may

pub plan_loss_of-requires-clause-loss : goal.plan_loss_of-requires-clause-loss
plan_loss_of-requires-clause-loss g c = λ told.
    let loss = c.requires.loss told in
    (loss.0, loss_still g.S.Blocks.tells _ _ c.args.kind loss.0 c.args.named.now c.in-Ok.ensures.looks told loss.1)

pub plan_loss_of-requires-clause-gone : goal.plan_loss_of-requires-clause-gone
plan_loss_of-requires-clause-gone g c = λ told.
    let t = c.requires.may.stands told in
    let loss = c.requires.loss told in
    let known = c.what_goes_is_known.ensures told t.0 c.args.kind loss.0 c.args.named.now t.1 loss.1 in
    loses_still g.S.Blocks.tells _ _ c.in-Ok.ensures.looks told c.args.shared.now c.args.named.now.entry.node c.in-Ok.gone (c.in-Ok.ensures.gone told known.small)

pub returns-in-Ok-clause-plans : goal.returns-in-Ok-clause-plans
returns-in-Ok-clause-plans g c = λ path loss.
    looked_first g.S.Blocks.tells g.S.Blocks.state c.calls_compose.ensures.rests c.calls_compose.ensures.advances (lose_cmd c.args.kind path) _ c.args.blocks.now c.blocks_gone.new.blocks _ c.requires.may.begin.going c.in-Ok.ensures.looks
    (c.plan_loss_of.ensures.plans path (λ told. loss_still g.S.Blocks.tells _ _ c.args.kind path c.args.named.now c.in-Ok.ensures.looks told (loss told)))

pub returns-in-Err-clause-plans : goal.returns-in-Err-clause-plans
returns-in-Err-clause-plans g c = λ path loss.
    cut_short g.S.Blocks.tells g.S.Blocks.state c.calls_compose.ensures.rests (lose_cmd c.args.kind path) c.args.blocks.now c.blocks_gone.new.blocks c.in-Err.why c.refusal_of.result c.refusal_of.ensures c.requires.may.begin.going c.in-Err.ensures.refused c.in-Err.ensures.looks
