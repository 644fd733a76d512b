use Rattle.std.proofs.Common.{Ok, subst}
use Rattle.fs_commands.specs.Making.{MayAppear, make_cmd}
use Rattle.fs_commands.proofs.planning.Behind.{below_still, counted_still, may_plan_still, may_appear_still}
use Rattle.fs_commands.proofs.planning.Before.{looked_first}
use Rattle.fs_commands.proofs.planning.Looking.{refusal_plan, cut_short}
use Rattle.fs_files.specs.Calls.{files_in}
use Rattle.fs_files.specs.Drafts.{nothing_drafted}
use Rattle.fs_commands.proofs.making.plan_node.Goals as goal

pub make_in-requires-clause-below : goal.make_in-requires-clause-below
make_in-requires-clause-below g c = λ told. below_still g.S.Blocks.tells _ _ c.in-Ok-Ok.ensures.looks told c.args.first_unused (c.requires.below told)

pub make_in-requires-clause-there : goal.make_in-requires-clause-there
make_in-requires-clause-there g c = λ told.
    let t = c.requires.may.stands told in
    counted_still g.S.Blocks.tells _ _ c.in-Ok-Ok.ensures.looks told c.args.path.now c.in-Ok-Ok.vacancy (subst (MayAppear (g.S.Blocks.state c.args.blocks.now).books.geom.layout (files_in (g.S.Blocks.state c.args.blocks.now) nothing_drafted) c.args.path.now) c.in-Ok-Ok.field-0-is (c.in-Ok-Ok.ensures.vacancy told t.0 t.1))

pub make_in-requires-clause-may : goal.make_in-requires-clause-may
make_in-requires-clause-may g c = may_plan_still g.S.Blocks.tells _ _ c.in-Ok-Ok.ensures.looks c.requires.may

pub returns-in-Ok-Ok-clause-plans : goal.returns-in-Ok-Ok-clause-plans
returns-in-Ok-Ok-clause-plans g c =
    let looks = c.in-Ok-Ok.ensures.looks in
    looked_first g.S.Blocks.tells g.S.Blocks.state c.calls_compose.ensures.rests c.calls_compose.ensures.advances (make_cmd c.args.kind c.args.path.now) _ c.args.blocks.now c.find_vacancy.new.blocks _ c.requires.may.begin.going looks
    (c.make_in.ensures.plans c.args.path.now (λ told. let t = c.requires.may.stands told in
    may_appear_still g.S.Blocks.tells _ _ looks told c.args.path.now (Ok c.in-Ok-Ok.vacancy) (subst (MayAppear (g.S.Blocks.state c.args.blocks.now).books.geom.layout (files_in (g.S.Blocks.state c.args.blocks.now) nothing_drafted) c.args.path.now) c.in-Ok-Ok.field-0-is (c.in-Ok-Ok.ensures.vacancy told t.0 t.1))))

pub returns-in-Ok-Err-clause-plans : goal.returns-in-Ok-Err-clause-plans
returns-in-Ok-Err-clause-plans g c =
    refusal_plan g.S.Blocks.tells g.S.Blocks.state c.calls_compose.ensures.rests g.met.S.Blocks.is_sound (make_cmd c.args.kind c.args.path.now) c.args.blocks.now c.find_vacancy.new.blocks c.in-Ok-Err.why c.requires.may.begin.going
    (λ told f h. c.the_tree_makes_nodes.ensures.refused c.args.blocks.now f c.args.kind c.args.path.now c.in-Ok-Err.why h (subst (MayAppear (g.S.Blocks.state c.args.blocks.now).books.geom.layout (files_in (g.S.Blocks.state c.args.blocks.now) nothing_drafted) c.args.path.now) c.in-Ok-Err.field-0-is (c.in-Ok-Err.ensures.vacancy told f.tree h.tree))) c.in-Ok-Err.ensures.looks

pub returns-in-Err-clause-plans : goal.returns-in-Err-clause-plans
returns-in-Err-clause-plans g c =
    cut_short g.S.Blocks.tells g.S.Blocks.state c.calls_compose.ensures.rests (make_cmd c.args.kind c.args.path.now) c.args.blocks.now c.find_vacancy.new.blocks c.in-Err.why c.refusal_of.result c.refusal_of.ensures c.requires.may.begin.going c.in-Err.ensures.refused c.in-Err.ensures.looks
