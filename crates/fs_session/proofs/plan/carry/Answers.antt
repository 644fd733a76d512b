use Rattle.std.proofs.Common.{◌≡◌, Result, Ok, refl, sym, subst, ap, ◌∙◌}
use Rattle.lang_tree.specs.declared.command.Refusal.{Refusal}
use Rattle.fs_session.specs.declared.plan.Plan.{Plan}
use Rattle.fs_session.specs.declared.plan.Plan.TheVariants.{Change}
use Rattle.fs_session.specs.Plans.{LeavesMap, Plans, OnChange, MayBeMade}
use Rattle.fs_session.proofs.carrying.Carried.{carried_answer, carried_change, carried_refusal, drafted_so, refused_plan, made_rests, kept_rests, sound_made, between_made, between_kept}
use Rattle.fs_session.proofs.plan.carry.Goals as goal

pub returns-in-Err-clause-carries : goal.returns-in-Err-clause-carries
returns-in-Err-clause-carries g c = λ cmd start sync plans.
    refused_plan g.S.Blocks.tells cmd (g.S.Blocks.state start) (g.S.Blocks.state c.args.blocks.now) c.in-Err.why
    (subst (λ (r : Result Plan Refusal). Plans g.S.Blocks.tells cmd r (g.S.Blocks.state start) (g.S.Blocks.state c.args.blocks.now)) c.in-Err.is plans)

pub returns-in-Ok-Answer-clause-carries : goal.returns-in-Ok-Answer-clause-carries
returns-in-Ok-Answer-clause-carries g c = λ cmd start sync plans.
    carried_answer g.S.Blocks.tells cmd (g.S.Blocks.state start) (g.S.Blocks.state c.args.blocks.now) c.in-Ok-Answer.reply (g.met.S.Blocks.is_sound c.args.blocks.now)
    (subst (λ (r : Result Plan Refusal). Plans g.S.Blocks.tells cmd r (g.S.Blocks.state start) (g.S.Blocks.state c.args.blocks.now)) (c.in-Ok-Answer.is ∙ ap (λ (p : Plan). Ok p) c.in-Ok-Answer.field-0-is) plans)

pub returns-in-Ok-clause-carries : goal.returns-in-Ok-clause-carries
returns-in-Ok-clause-carries g c = λ cmd start sync plans.
    let tells = g.S.Blocks.tells in
    let mid = g.S.Blocks.state c.args.blocks.now in
    let new = g.S.Blocks.state c.carry_out.new.blocks in
    let is : c.args.planned ≡ Ok (Change c.in-Ok-Change.draft c.in-Ok-Change.cost c.in-Ok-Change.nodes) = c.in-Ok-Change.is ∙ ap (λ (p : Plan). Ok p) c.in-Ok-Change.field-0-is in
    let plan = subst (λ (r : Result Plan Refusal). Plans tells cmd r (g.S.Blocks.state start) mid) is plans in
    let rest = made_rests tells c.in-Ok-Change.draft c.in-Ok-Change.cost mid new c.in-Ok.ensures.made in
    let may = subst (λ (r : Result Plan Refusal). OnChange r (λ d cost nodes. MayBeMade tells d cost nodes mid)) is c.requires.may in
    carried_change tells cmd (g.S.Blocks.state start) mid new (λ bitmap s. c.a_command_changes_where_it_costs.ensures bitmap s cmd sync) c.sharing_costs_where_all_costs.ensures sync (g.met.S.Blocks.is_sound c.args.blocks.now)
    (λ told d cost f m session draft made drafted. (c.a_draft_makes_the_tree_of_its_command.ensures.tree told start cmd d cost f m session draft made drafted, c.a_draft_makes_the_tree_of_its_command.ensures.keeps told start cmd d cost f m session draft made drafted))
    c.in-Ok-Change.draft c.in-Ok-Change.cost c.in-Ok-Change.nodes may.draft plan c.in-Ok.ensures.made c.in-Ok.ensures.disk
    (λ told. c.calls_compose.ensures.advances start c.args.blocks.now c.carry_out.new.blocks (plan.settles.crash told) (c.calls_compose.ensures.rests told c.args.blocks.now c.carry_out.new.blocks rest.point rest.floor (c.in-Ok.ensures.disk.crash told)))

pub returns-in-Ok-clause-between : goal.returns-in-Ok-clause-between
returns-in-Ok-clause-between g c =
    let tells = g.S.Blocks.tells in
    let mid = g.S.Blocks.state c.args.blocks.now in
    let is : c.args.planned ≡ Ok (Change c.in-Ok-Change.draft c.in-Ok-Change.cost c.in-Ok-Change.nodes) = c.in-Ok-Change.is ∙ ap (λ (p : Plan). Ok p) c.in-Ok-Change.field-0-is in
    let new = g.S.Blocks.state c.carry_out.new.blocks in
    let may = subst (λ (r : Result Plan Refusal). OnChange r (λ d cost nodes. MayBeMade tells d cost nodes mid)) is c.requires.may in
    between_made tells c.in-Ok-Change.draft c.in-Ok-Change.cost c.in-Ok-Change.nodes c.args.unused.now c.follow.new.self mid new c.in-Ok.ensures.made may
    (sound_made tells c.in-Ok-Change.draft c.in-Ok-Change.cost c.in-Ok-Change.nodes mid new may c.in-Ok.ensures.made) c.in-Ok.ensures.goes_on c.follow.ensures c.requires.between

pub returns-in-Err-carry_out-clause-carries : goal.returns-in-Err-carry_out-clause-carries
returns-in-Err-carry_out-clause-carries g c = λ cmd start sync plans.
    let tells = g.S.Blocks.tells in
    let mid = g.S.Blocks.state c.args.blocks.now in
    let new = g.S.Blocks.state c.carry_out.new.blocks in
    let is : c.args.planned ≡ Ok (Change c.in-Ok-Change.draft c.in-Ok-Change.cost c.in-Ok-Change.nodes) = c.in-Ok-Change.is ∙ ap (λ (p : Plan). Ok p) c.in-Ok-Change.field-0-is in
    let plan = subst (λ (r : Result Plan Refusal). Plans tells cmd r (g.S.Blocks.state start) mid) is plans in
    let kept = c.in-Err-carry_out.ensures.kept in
    let rest = kept_rests tells mid new kept in
    carried_refusal tells cmd (g.S.Blocks.state start) mid new c.in-Ok-Change.draft c.in-Ok-Change.cost c.in-Ok-Change.nodes c.in-Err-carry_out.why plan c.in-Err-carry_out.ensures.refused kept c.in-Err-carry_out.ensures.disk
    (λ told. c.calls_compose.ensures.advances start c.args.blocks.now c.carry_out.new.blocks (plan.settles.crash told) (c.calls_compose.ensures.rests told c.args.blocks.now c.carry_out.new.blocks rest.point rest.floor (c.in-Err-carry_out.ensures.disk.crash told)))

pub returns-in-Err-carry_out-clause-between : goal.returns-in-Err-carry_out-clause-between
returns-in-Err-carry_out-clause-between g c =
    between_kept g.S.Blocks.tells (g.S.Blocks.state c.args.blocks.now) (g.S.Blocks.state c.carry_out.new.blocks) c.args.unused.now c.in-Err-carry_out.ensures.kept c.in-Err-carry_out.ensures.goes_on c.requires.between

pub returns-in-Ok-clause-map : goal.returns-in-Ok-clause-map
returns-in-Ok-clause-map g c = λ told.
    let is : c.args.planned ≡ Ok (Change c.in-Ok-Change.draft c.in-Ok-Change.cost c.in-Ok-Change.nodes) = c.in-Ok-Change.is ∙ ap (λ (p : Plan). Ok p) c.in-Ok-Change.field-0-is in
    subst (λ (r : Result Plan Refusal). LeavesMap r (g.S.Blocks.state c.args.blocks.now) (g.S.Blocks.state c.carry_out.new.blocks)) (sym is)
    (drafted_so c.in-Ok-Change.draft (g.S.Blocks.state c.args.blocks.now) (g.S.Blocks.state c.carry_out.new.blocks) (c.in-Ok.ensures.made.map told))

pub returns-in-Ok-Answer-clause-map : goal.returns-in-Ok-Answer-clause-map
returns-in-Ok-Answer-clause-map g c = λ told.
    subst (λ (r : Result Plan Refusal). LeavesMap r (g.S.Blocks.state c.args.blocks.now) (g.S.Blocks.state c.args.blocks.now)) (sym (c.in-Ok-Answer.is ∙ ap (λ (p : Plan). Ok p) c.in-Ok-Answer.field-0-is)) refl
