use Rattle.std.proofs.Common.{Ok, subst}
use Rattle.lang_tree.specs.declared.command.Cmd.TheVariants.{Link}
use Rattle.fs_commands.specs.Making.{MayAppear}
use Rattle.fs_commands.proofs.keeping.Begun.{plain_behind}
use Rattle.fs_commands.proofs.planning.Behind.{counted_still, may_plan_still, may_appear_still, found_still, used_still}
use Rattle.fs_commands.proofs.planning.Before.{looked_first}
use Rattle.fs_commands.proofs.planning.Looking.{refusal_plan, cut_short}
use Rattle.fs_files.specs.Calls.{files_in}
use Rattle.fs_files.specs.Drafts.{nothing_drafted}
use Rattle.fs_commands.proofs.making.link_to.Goals as goal

pub link_in-requires-clause-may : goal.link_in-requires-clause-may
link_in-requires-clause-may g c = may_plan_still g.S.Blocks.tells _ _ c.in-Ok-Ok.ensures.looks c.requires.may

pub link_in-requires-clause-there : goal.link_in-requires-clause-there
link_in-requires-clause-there g c = λ told.
    let t = c.requires.may.stands told in
    counted_still g.S.Blocks.tells _ _ c.in-Ok-Ok.ensures.looks told c.args.other.now c.in-Ok-Ok.vacancy (subst (MayAppear (g.S.Blocks.state c.args.blocks.now).books.geom.layout (files_in (g.S.Blocks.state c.args.blocks.now) nothing_drafted) c.args.other.now) c.in-Ok-Ok.field-0-is (c.in-Ok-Ok.ensures.vacancy told t.0 t.1))

pub link_in-requires-clause-used : goal.link_in-requires-clause-used
link_in-requires-clause-used g c = λ told. used_still g.S.Blocks.tells _ _ c.in-Ok-Ok.ensures.looks told c.args.found.now.number (c.requires.used told)

pub link_in-requires-clause-plain : goal.link_in-requires-clause-plain
link_in-requires-clause-plain g c = λ told. plain_behind g.S.Blocks.tells _ _ c.in-Ok-Ok.ensures.looks told c.args.found.now.number (c.requires.plain told)

pub returns-in-Ok-Ok-clause-plans : goal.returns-in-Ok-Ok-clause-plans
returns-in-Ok-Ok-clause-plans g c = λ path walked.
    let looks = c.in-Ok-Ok.ensures.looks in
    let other = c.args.other.now in
    looked_first g.S.Blocks.tells g.S.Blocks.state c.calls_compose.ensures.rests c.calls_compose.ensures.advances (Link path other) _ c.args.blocks.now c.find_vacancy.new.blocks _ c.requires.may.begin.going looks
    (c.link_in.ensures.plans path other (λ told. found_still g.S.Blocks.tells _ _ looks told path (Ok c.args.found.now) (walked told))
    (λ told. let t = c.requires.may.stands told in may_appear_still g.S.Blocks.tells _ _ looks told other (Ok c.in-Ok-Ok.vacancy) (subst (MayAppear (g.S.Blocks.state c.args.blocks.now).books.geom.layout (files_in (g.S.Blocks.state c.args.blocks.now) nothing_drafted) other) c.in-Ok-Ok.field-0-is (c.in-Ok-Ok.ensures.vacancy told t.0 t.1))))

pub returns-in-Ok-Err-clause-plans : goal.returns-in-Ok-Err-clause-plans
returns-in-Ok-Err-clause-plans g c = λ path walked.
    refusal_plan g.S.Blocks.tells g.S.Blocks.state c.calls_compose.ensures.rests g.met.S.Blocks.is_sound (Link path c.args.other.now) c.args.blocks.now c.find_vacancy.new.blocks c.in-Ok-Err.why c.requires.may.begin.going
    (λ told f h. c.the_tree_links_files.ensures.refused c.args.blocks.now f path c.args.other.now c.args.found.now c.in-Ok-Err.why h (walked told) (subst (MayAppear (g.S.Blocks.state c.args.blocks.now).books.geom.layout (files_in (g.S.Blocks.state c.args.blocks.now) nothing_drafted) c.args.other.now) c.in-Ok-Err.field-0-is (c.in-Ok-Err.ensures.vacancy told f.tree h.tree)))
    c.in-Ok-Err.ensures.looks

pub returns-in-Err-clause-plans : goal.returns-in-Err-clause-plans
returns-in-Err-clause-plans g c = λ path walked.
    cut_short g.S.Blocks.tells g.S.Blocks.state c.calls_compose.ensures.rests (Link path c.args.other.now) c.args.blocks.now c.find_vacancy.new.blocks c.in-Err.why c.refusal_of.result c.refusal_of.ensures c.requires.may.begin.going c.in-Err.ensures.refused c.in-Err.ensures.looks
