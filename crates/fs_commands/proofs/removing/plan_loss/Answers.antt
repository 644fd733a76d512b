use Rattle.std.proofs.Common.{Ok, subst, ap, ◌∙◌}
use Rattle.fs_files.specs.Calls.{files_in}
use Rattle.fs_files.specs.Drafts.{nothing_drafted}
use Rattle.fs_commands.specs.Looks.{ComesTo, walk_of}
use Rattle.fs_commands.specs.Removing.{lose_cmd}
use Rattle.fs_commands.proofs.planning.Before.{looked_first}
use Rattle.fs_commands.proofs.planning.Looking.{cut_short}
use Rattle.fs_session.specs.Sessions.{inodes}
use Rattle.fs_commands.proofs.removed.Accepted.{walk_why}
use Rattle.fs_commands.proofs.removed.Refused.{refused_loss}
use Rattle.fs_commands.proofs.planning.Behind.{may_plan_still, comes_still}
use Rattle.fs_commands.proofs.removing.plan_loss.Goals as goal

pub returns-in-Err-clause-plans : goal.returns-in-Err-clause-plans
returns-in-Err-clause-plans g c =
    cut_short g.S.Blocks.tells g.S.Blocks.state c.calls_compose.ensures.rests (lose_cmd c.args.kind c.args.path.now) c.args.blocks.now c.look_up.new.blocks c.in-Err.why c.refusal_of.result c.refusal_of.ensures c.requires.may.begin.going c.in-Err.ensures.refused c.in-Err.ensures.looks

pub plan_loss_at-requires-clause-may : goal.plan_loss_at-requires-clause-may
plan_loss_at-requires-clause-may g c = may_plan_still g.S.Blocks.tells _ _ c.in-Ok.ensures.looks c.requires.may

pub plan_loss_at-requires-clause-comes : goal.plan_loss_at-requires-clause-comes
plan_loss_at-requires-clause-comes g c = λ told.
    let tree = c.requires.may.stands told in
    comes_still g.S.Blocks.tells _ _ c.in-Ok.ensures.looks told c.args.path.now (Ok c.in-Ok-spot.spot) (subst (ComesTo (g.S.Blocks.state c.args.blocks.now).books.geom.layout (files_in (g.S.Blocks.state c.args.blocks.now) nothing_drafted) c.args.path.now) c.in-Ok-spot.is (c.in-Ok.ensures.comes told tree.0 tree.1))

pub returns-in-Ok-spot-clause-plans : goal.returns-in-Ok-spot-clause-plans
returns-in-Ok-spot-clause-plans g c = looked_first g.S.Blocks.tells g.S.Blocks.state c.calls_compose.ensures.rests c.calls_compose.ensures.advances (lose_cmd c.args.kind c.args.path.now) _ c.args.blocks.now c.look_up.new.blocks _ c.requires.may.begin.going c.in-Ok.ensures.looks c.plan_loss_at.ensures.plans

pub returns-in-Err-spot-clause-plans : goal.returns-in-Err-spot-clause-plans
returns-in-Err-spot-clause-plans g c =
    refused_loss g.S.Blocks.tells g.S.Blocks.state c.calls_compose.ensures.rests g.met.S.Blocks.is_sound c.blocks_have_the_map_of_their_tree.ensures.map c.the_map_gives_the_refusal.ensures.refusal c.args.kind c.args.path.now c.args.blocks.now c.look_up.new.blocks c.in-Err-spot.why c.requires.may.begin.going
    (λ told tree h. walk_why c.args.kind (inodes (g.S.Blocks.state c.args.blocks.now)) c.args.path.now c.in-Err-spot.why (c.what_a_path_comes_to_gives_the_walk.ensures.walk (g.S.Blocks.state c.args.blocks.now).books.geom.layout (files_in (g.S.Blocks.state c.args.blocks.now) nothing_drafted) c.args.path.now c.in-Ok.spot (c.in-Ok.ensures.comes told tree h) ∙ ap walk_of c.in-Err-spot.is))
    c.in-Ok.ensures.looks
