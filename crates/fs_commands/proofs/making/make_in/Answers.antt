use Rattle.std.proofs.Common.{◌≤◌, ◌<◌, length, IfSome, Ok, sym, subst, ap, ◌∙◌}
use Rattle.std.proofs.lemmas.Bool.{ltb-false, ltb-true}
use Rattle.base_types.specs.declared.layout.Layout.{Layout}
use Rattle.base_types.specs.Layouts.{longest_name}
use Rattle.layout_geometry.specs.Geometry.{Geometry}
use Rattle.engine_blocks.specs.State.{Bookkeeping}
use Rattle.lang_tree.specs.declared.command.Refusal.TheVariants.{NameTooLong, NoNode}
use Rattle.fs_files.specs.Calls.{files_in}
use Rattle.fs_files.specs.Drafts.{nothing_drafted}
use Rattle.fs_commands.specs.Making.{make_cmd}
use Rattle.fs_session.specs.Sessions.{AreUsedBelow}
use Rattle.fs_commands.proofs.planning.Behind.{below_still, count_still, may_plan_still, may_appear_still, least_still}
use Rattle.fs_commands.proofs.planning.Before.{looked_first}
use Rattle.fs_commands.proofs.planning.Looking.{refusal_plan, cut_short}
use Rattle.fs_commands.proofs.making.make_in.Goals as goal

pub make_node-requires-clause-may : goal.make_node-requires-clause-may
make_node-requires-clause-may g c = may_plan_still g.S.Blocks.tells _ _ c.in-Ok-Some.ensures.looks c.requires.may

pub make_node-requires-clause-there : goal.make_node-requires-clause-there
make_node-requires-clause-there g c = λ told. count_still g.S.Blocks.tells _ _ c.in-Ok-Some.ensures.looks told c.args.vacancy.now.dir c.args.vacancy.now.count (c.requires.there told)

pub make_node-requires-clause-below : goal.make_node-requires-clause-below
make_node-requires-clause-below g c = λ told.
    below_still g.S.Blocks.tells _ _ c.in-Ok-Some.ensures.looks told c.in-Ok-Some.node
    (subst (λ o. IfSome o (AreUsedBelow (files_in (g.S.Blocks.state c.args.blocks.now) nothing_drafted))) c.in-Ok-Some.field-0-is (c.in-Ok-Some.ensures.used told))

-- its name isn't too long
pub make_node-requires-clause-short : goal.make_node-requires-clause-short
make_node-requires-clause-short g c =
    subst (λ (l : Layout). length c.args.vacancy.now.name ≤ longest_name l) (c.layout-layout.ensures ∙ ap (λ (k : Geometry). k.layout) c.geom.ensures ∙ ap (λ (k : Bookkeeping). k.geom.layout) (sym (c.in-Ok-Some.ensures.looks.books)))
    (ltb-false (longest_name c.layout-layout.result) (length c.args.vacancy.now.name) (sym c.is_long.ensures ∙ c.if-is_long.false))

pub returns-then-is_long-clause-plans : goal.returns-then-is_long-clause-plans
returns-then-is_long-clause-plans g c = λ path appears.
    refusal_plan g.S.Blocks.tells g.S.Blocks.state c.calls_compose.ensures.rests g.met.S.Blocks.is_sound (make_cmd c.args.kind path) c.args.blocks.now c.least_unused.new.blocks NameTooLong c.requires.may.begin.going
    (λ told f h. c.the_tree_makes_nodes.ensures.long c.args.blocks.now f c.args.kind path c.args.vacancy.now c.in-Ok-Some.node h (appears told) (sym (c.in-Ok-Some.ensures.least told) ∙ c.in-Ok-Some.field-0-is)
    (subst (λ (l : Layout). longest_name l < length c.args.vacancy.now.name) (c.layout-layout.ensures ∙ ap (λ (k : Geometry). k.layout) c.geom.ensures) (ltb-true (longest_name c.layout-layout.result) (length c.args.vacancy.now.name) (sym c.is_long.ensures ∙ c.if-is_long.true)))) c.in-Ok-Some.ensures.looks

pub returns-else-is_long-clause-plans : goal.returns-else-is_long-clause-plans
returns-else-is_long-clause-plans g c = λ path appears.
    let looks = c.in-Ok-Some.ensures.looks in
    looked_first g.S.Blocks.tells g.S.Blocks.state c.calls_compose.ensures.rests c.calls_compose.ensures.advances (make_cmd c.args.kind path) _ c.args.blocks.now c.least_unused.new.blocks _ c.requires.may.begin.going looks
    (c.make_node.ensures.plans path (λ told. may_appear_still g.S.Blocks.tells _ _ looks told path (Ok c.args.vacancy.now) (appears told))
    (λ told. least_still g.S.Blocks.tells _ _ looks told c.in-Ok-Some.node (sym (c.in-Ok-Some.ensures.least told) ∙ c.in-Ok-Some.field-0-is)))

pub returns-in-Ok-None-clause-plans : goal.returns-in-Ok-None-clause-plans
returns-in-Ok-None-clause-plans g c = λ path appears.
    refusal_plan g.S.Blocks.tells g.S.Blocks.state c.calls_compose.ensures.rests g.met.S.Blocks.is_sound (make_cmd c.args.kind path) c.args.blocks.now c.least_unused.new.blocks NoNode c.requires.may.begin.going
    (λ told f h. c.the_tree_makes_nodes.ensures.no_node c.args.blocks.now f c.args.kind path c.args.vacancy.now h (appears told) (sym (c.in-Ok-None.ensures.least told) ∙ c.in-Ok-None.field-0-is)) c.in-Ok-None.ensures.looks

pub returns-in-Err-clause-plans : goal.returns-in-Err-clause-plans
returns-in-Err-clause-plans g c = λ path appears.
    cut_short g.S.Blocks.tells g.S.Blocks.state c.calls_compose.ensures.rests (make_cmd c.args.kind path) c.args.blocks.now c.least_unused.new.blocks c.in-Err.why c.refusal_of.result c.refusal_of.ensures c.requires.may.begin.going c.in-Err.ensures.refused c.in-Err.ensures.looks
