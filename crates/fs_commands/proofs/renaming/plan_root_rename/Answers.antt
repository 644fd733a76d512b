use Rattle.std.proofs.Common.{[], Ok, Some, refl, sym, subst, ap, ◌∙◌, None, ◌≡◌}
use Rattle.fs_inodes.specs.Refusals.{rename_reason}
use Rattle.lang_tree.specs.declared.command.Cmd.TheVariants.{Rename}
use Rattle.fs_files.specs.Calls.{files_in}
use Rattle.fs_files.specs.Drafts.{nothing_drafted}
use Rattle.fs_commands.specs.declared.paths.Spot.TheVariants.{Root as TheRoot, Inside}
use Rattle.fs_commands.specs.Looks.{ComesTo}
use Rattle.fs_session.specs.Sessions.{inodes}
use Rattle.fs_commands.proofs.planning.Looking.{cut_short}
use Rattle.fs_commands.proofs.removed.Decided.{not_root}
use Rattle.fs_commands.proofs.renamed.Reasons.{of_root_refuses, parent_refuses}
use Rattle.fs_commands.proofs.renamed.Answered.{lead_to_one, refused_rename, same_rename}
use Rattle.fs_commands.proofs.renamed.Found.{number_apart}
use Rattle.fs_commands.proofs.renaming.plan_root_rename.Goals as goal

pub returns-in-Err-clause-plans : goal.returns-in-Err-clause-plans
returns-in-Err-clause-plans g c =
    cut_short g.S.Blocks.tells g.S.Blocks.state c.calls_compose.ensures.rests (Rename [] c.args.to.now) c.args.blocks.now c.look_up.new.blocks c.in-Err.why c.refusal_of.result c.refusal_of.ensures c.requires.may.begin.going c.in-Err.ensures.refused c.in-Err.ensures.looks

pub returns-in-Root-clause-plans : goal.returns-in-Root-clause-plans
returns-in-Root-clause-plans g c =
    same_rename g.S.Blocks.tells g.S.Blocks.state c.calls_compose.ensures.rests g.met.S.Blocks.is_sound c.blocks_have_the_map_of_their_tree.ensures.map c.the_map_gives_the_reply.ensures.reply c.what_changes_nothing_keeps_the_map.ensures.same_node c.the_map_gives_the_figures.ensures.over [] c.args.to.now c.args.blocks.now c.look_up.new.blocks c.requires.may.begin.going
    (λ told tree h.
    let comes = subst (ComesTo (g.S.Blocks.state c.args.blocks.now).books.geom.layout (files_in (g.S.Blocks.state c.args.blocks.now) nothing_drafted) c.args.to.now) (c.in-Ok-spot.is ∙ ap Ok c.in-Root.is) (c.in-Ok.ensures.comes told tree h) in
    let law = c.what_a_path_comes_to_gives_the_walk.ensures in
    lead_to_one (g.S.Blocks.state c.args.blocks.now).books.geom.layout (inodes (g.S.Blocks.state c.args.blocks.now)) [] c.args.to.now 1 (Some 1) refl (law.number (g.S.Blocks.state c.args.blocks.now).books.geom.layout (files_in (g.S.Blocks.state c.args.blocks.now) nothing_drafted) c.args.to.now TheRoot comes) refl
    (subst (λ p. rename_reason (g.S.Blocks.state c.args.blocks.now).books.geom.layout (inodes (g.S.Blocks.state c.args.blocks.now)) [] p ≡ None) (sym comes) refl))
    c.in-Ok.ensures.looks

pub returns-in-Inside-clause-plans : goal.returns-in-Inside-clause-plans
returns-in-Inside-clause-plans g c =
    let files = files_in (g.S.Blocks.state c.args.blocks.now) nothing_drafted in
    let here = c.in-Inside in
    let spot = Inside here.dir here.count here.entry in
    refused_rename g.S.Blocks.tells g.S.Blocks.state c.calls_compose.ensures.rests g.met.S.Blocks.is_sound c.blocks_have_the_map_of_their_tree.ensures.map c.the_map_gives_the_refusal.ensures.refusal [] c.args.to.now c.args.blocks.now c.look_up.new.blocks c.root_refusal.result c.requires.may.begin.going
    (λ told tree h.
    let comes = subst (ComesTo (g.S.Blocks.state c.args.blocks.now).books.geom.layout files c.args.to.now) (c.in-Ok-spot.is ∙ ap Ok here.is) (c.in-Ok.ensures.comes told tree h) in
    let shown = c.what_is_found_is_shown.ensures.entry told tree c.args.to.now here.dir here.count here.entry h comes in
    let law = c.what_a_path_comes_to_gives_the_walk.ensures in
    of_root_refuses (g.S.Blocks.state c.args.blocks.now).books.geom.layout (inodes (g.S.Blocks.state c.args.blocks.now)) c.args.to.now c.root_refusal.result (law.parent (g.S.Blocks.state c.args.blocks.now).books.geom.layout files c.args.to.now spot comes)
    (λ n is. number_apart (inodes (g.S.Blocks.state c.args.blocks.now)) here.entry n shown.1 (sym (law.number (g.S.Blocks.state c.args.blocks.now).books.geom.layout files c.args.to.now spot comes) ∙ is))
    (c.root_refusal.ensures (inodes (g.S.Blocks.state c.args.blocks.now)) c.args.to.now (c.what_is_found_is_shown.ensures.root tree h) (not_root c.args.to.now comes.0 comes.1 comes.2) shown.0))
    c.in-Ok.ensures.looks

pub returns-in-Err-spot-clause-plans : goal.returns-in-Err-spot-clause-plans
returns-in-Err-spot-clause-plans g c =
    refused_rename g.S.Blocks.tells g.S.Blocks.state c.calls_compose.ensures.rests g.met.S.Blocks.is_sound c.blocks_have_the_map_of_their_tree.ensures.map c.the_map_gives_the_refusal.ensures.refusal [] c.args.to.now c.args.blocks.now c.look_up.new.blocks c.in-Err-spot.why c.requires.may.begin.going
    (λ told tree h. parent_refuses (g.S.Blocks.state c.args.blocks.now).books.geom.layout (inodes (g.S.Blocks.state c.args.blocks.now)) [] c.args.to.now 1 c.in-Err-spot.why refl (subst (ComesTo (g.S.Blocks.state c.args.blocks.now).books.geom.layout (files_in (g.S.Blocks.state c.args.blocks.now) nothing_drafted) c.args.to.now) c.in-Err-spot.is (c.in-Ok.ensures.comes told tree h))) c.in-Ok.ensures.looks
