use Rattle.std.proofs.Common.{Some}
use Rattle.lang_tree.specs.declared.command.Cmd.TheVariants.{Rename}
use Rattle.fs_commands.proofs.planning.Before.{looked_first}
use Rattle.fs_commands.proofs.planning.Behind.{loses_still, may_plan_still}
use Rattle.fs_commands.proofs.planning.Looking.{cut_short}
use Rattle.fs_commands.proofs.moved.Known.{move_still}
use Rattle.fs_commands.proofs.moving.plan_onto.Goals as goal

pub plan_onto_lost-requires-clause-may : goal.plan_onto_lost-requires-clause-may
plan_onto_lost-requires-clause-may g c = may_plan_still g.S.Blocks.tells _ _ c.in-Ok.ensures.looks c.requires.may

pub plan_onto_lost-requires-clause-known : goal.plan_onto_lost-requires-clause-known
plan_onto_lost-requires-clause-known g c = λ told.
    let m = c.requires.known told in
    let target = c.args.target.now in
    (m.0, m.1, move_still g.S.Blocks.tells _ _ m.0 m.1 c.args.source.now target.dir target.count (Some target.entry) c.args.other.now c.in-Ok.ensures.looks told m.2)

pub plan_onto_lost-requires-clause-gone : goal.plan_onto_lost-requires-clause-gone
plan_onto_lost-requires-clause-gone g c = λ told.
    let t = c.requires.may.stands told in
    let m = c.requires.known told in
    let target = c.args.target.now in
    let known = c.a_move_is_known.ensures.knows told m.0 m.1 c.args.source.now target.dir target.count (Some target.entry) c.args.other.now m.2 in
    let onto = c.a_move_is_known.ensures.onto told t.0 m.0 m.1 c.args.source.now target c.args.other.now t.1 m.2 known in
    loses_still g.S.Blocks.tells _ _ c.in-Ok.ensures.looks told c.args.shared.now target.entry.node c.in-Ok.gone (c.in-Ok.ensures.gone told onto.2)

pub returns-in-Ok-clause-plans : goal.returns-in-Ok-clause-plans
returns-in-Ok-clause-plans g c = λ from to move.
    let target = c.args.target.now in
    looked_first g.S.Blocks.tells g.S.Blocks.state c.calls_compose.ensures.rests c.calls_compose.ensures.advances (Rename from to) _ c.args.blocks.now c.blocks_gone.new.blocks _ c.requires.may.begin.going c.in-Ok.ensures.looks
    (c.plan_onto_lost.ensures.plans from to (λ told. move_still g.S.Blocks.tells _ _ from to c.args.source.now target.dir target.count (Some target.entry) c.args.other.now c.in-Ok.ensures.looks told (move told)))

pub returns-in-Err-clause-plans : goal.returns-in-Err-clause-plans
returns-in-Err-clause-plans g c = λ from to move.
    cut_short g.S.Blocks.tells g.S.Blocks.state c.calls_compose.ensures.rests (Rename from to) c.args.blocks.now c.blocks_gone.new.blocks c.in-Err.why c.refusal_of.result c.refusal_of.ensures c.requires.may.begin.going c.in-Err.ensures.refused c.in-Err.ensures.looks
