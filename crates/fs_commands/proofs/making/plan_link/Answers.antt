use Rattle.std.proofs.Common.{Ok, subst}
use Rattle.lang_tree.specs.declared.command.Cmd.TheVariants.{Link}
use Rattle.fs_commands.specs.Looks.{LeadsToFound}
use Rattle.fs_commands.proofs.keeping.Begun.{plain_behind, walked_plain}
use Rattle.fs_commands.proofs.planning.Behind.{may_plan_still, found_still}
use Rattle.fs_commands.proofs.planning.Before.{looked_first}
use Rattle.fs_commands.proofs.planning.Looking.{refusal_plan, cut_short}
use Rattle.fs_files.specs.Calls.{files_in}
use Rattle.fs_files.specs.Drafts.{nothing_drafted}
use Rattle.fs_commands.proofs.making.plan_link.Goals as goal

pub link_to-requires-clause-may : goal.link_to-requires-clause-may
link_to-requires-clause-may g c = may_plan_still g.S.Blocks.tells _ _ c.in-Ok-Ok.ensures.looks c.requires.may

pub link_to-requires-clause-plain : goal.link_to-requires-clause-plain
link_to-requires-clause-plain g c = λ told.
    let s = g.S.Blocks.state c.args.blocks.now in
    let t = c.requires.may.stands told in
    let found = subst (LeadsToFound s.books.geom.layout (files_in s nothing_drafted) c.args.path.now) c.in-Ok-Ok.field-0-is (c.in-Ok-Ok.ensures.found told t.0 t.1) in
    plain_behind g.S.Blocks.tells _ _ c.in-Ok-Ok.ensures.looks told c.in-Ok-Ok.found.number
    (walked_plain c.walks_are_the_same.ensures.ends s.books.geom.i s.books.geom.layout (files_in s nothing_drafted) t.0 c.args.path.now c.in-Ok-Ok.found.number (c.blocks_have_the_map_of_their_tree.ensures.map s.books.geom s.map t.0 t.1) found.0)

pub returns-in-Ok-Ok-clause-plans : goal.returns-in-Ok-Ok-clause-plans
returns-in-Ok-Ok-clause-plans g c =
    let looks = c.in-Ok-Ok.ensures.looks in
    looked_first g.S.Blocks.tells g.S.Blocks.state c.calls_compose.ensures.rests c.calls_compose.ensures.advances (Link c.args.path.now c.args.other.now) _ c.args.blocks.now c.find_node.new.blocks _ c.requires.may.begin.going looks
    (c.link_to.ensures.plans c.args.path.now (λ told. let t = c.requires.may.stands told in
    found_still g.S.Blocks.tells _ _ looks told c.args.path.now (Ok c.in-Ok-Ok.found) (subst (LeadsToFound (g.S.Blocks.state c.args.blocks.now).books.geom.layout (files_in (g.S.Blocks.state c.args.blocks.now) nothing_drafted) c.args.path.now) c.in-Ok-Ok.field-0-is (c.in-Ok-Ok.ensures.found told t.0 t.1))))

pub returns-in-Ok-Err-clause-plans : goal.returns-in-Ok-Err-clause-plans
returns-in-Ok-Err-clause-plans g c =
    refusal_plan g.S.Blocks.tells g.S.Blocks.state c.calls_compose.ensures.rests g.met.S.Blocks.is_sound (Link c.args.path.now c.args.other.now) c.args.blocks.now c.find_node.new.blocks c.in-Ok-Err.why c.requires.may.begin.going
    (λ told f h. c.the_tree_links_files.ensures.nowhere c.args.blocks.now f c.args.path.now c.args.other.now c.in-Ok-Err.why h (subst (LeadsToFound (g.S.Blocks.state c.args.blocks.now).books.geom.layout (files_in (g.S.Blocks.state c.args.blocks.now) nothing_drafted) c.args.path.now) c.in-Ok-Err.field-0-is (c.in-Ok-Err.ensures.found told f.tree h.tree))) c.in-Ok-Err.ensures.looks

pub returns-in-Err-clause-plans : goal.returns-in-Err-clause-plans
returns-in-Err-clause-plans g c =
    cut_short g.S.Blocks.tells g.S.Blocks.state c.calls_compose.ensures.rests (Link c.args.path.now c.args.other.now) c.args.blocks.now c.find_node.new.blocks c.in-Err.why c.refusal_of.result c.refusal_of.ensures c.requires.may.begin.going c.in-Err.ensures.refused c.in-Err.ensures.looks
