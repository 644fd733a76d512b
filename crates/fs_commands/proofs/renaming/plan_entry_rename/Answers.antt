use Rattle.std.proofs.Common.{Ok, Some, sym, subst, ap, ◌∙◌}
use Rattle.lang_tree.specs.declared.command.Cmd.TheVariants.{Rename}
use Rattle.fs_files.specs.Calls.{files_in}
use Rattle.fs_files.specs.Drafts.{nothing_drafted}
use Rattle.fs_commands.specs.declared.paths.Spot.TheVariants.{Inside}
use Rattle.fs_commands.specs.Looks.{ComesTo}
use Rattle.fs_session.specs.Sessions.{inodes}
use Rattle.fs_commands.proofs.planning.Before.{looked_first}
use Rattle.fs_commands.proofs.planning.Looking.{no_look, cut_short}
use Rattle.fs_commands.proofs.planning.Behind.{may_plan_still, comes_still}
use Rattle.fs_commands.proofs.renamed.Reasons.{onto_root_refuses, parent_refuses}
use Rattle.fs_commands.proofs.renamed.Answered.{refused_rename}
use Rattle.fs_commands.proofs.renamed.Moves.{no_last}
use Rattle.fs_commands.proofs.renaming.plan_entry_rename.Goals as goal

pub returns-in_default-clause-plans : goal.returns-in_default-clause-plans
returns-in_default-clause-plans g c =
    refused_rename g.S.Blocks.tells g.S.Blocks.state c.calls_compose.ensures.rests g.met.S.Blocks.is_sound c.blocks_have_the_map_of_their_tree.ensures.map c.the_map_gives_the_refusal.ensures.refusal c.args.from.now c.args.to.now c.args.blocks.now c.args.blocks.now c.onto_root_refusal.result c.requires.may.begin.going
    (λ told tree h.
    let shown = c.what_is_found_is_shown.ensures.entry told tree c.args.from.now c.args.source.now.dir c.args.source.now.count (Some c.args.source.now.entry) h (c.requires.comes told) in
    onto_root_refuses (g.S.Blocks.state c.args.blocks.now).books.geom.layout (inodes (g.S.Blocks.state c.args.blocks.now)) c.args.from.now c.args.to.now c.args.source.now.entry.node.number c.onto_root_refusal.result (sym c.names.ensures ∙ no_last c.names.result.now c.in_default.ensures.value) (c.what_a_path_comes_to_gives_the_walk.ensures.walk (g.S.Blocks.state c.args.blocks.now).books.geom.layout (files_in (g.S.Blocks.state c.args.blocks.now) nothing_drafted) c.args.from.now (Ok (Inside c.args.source.now.dir c.args.source.now.count (Some c.args.source.now.entry))) (c.requires.comes told)) shown.0.0 shown.1.0
    (c.onto_root_refusal.ensures (inodes (g.S.Blocks.state c.args.blocks.now)) c.args.from.now (c.what_is_found_is_shown.ensures.root tree h) shown.1.1 shown.0.1))
    (no_look g.S.Blocks.tells (g.S.Blocks.state c.args.blocks.now))

pub returns-in-Err-clause-plans : goal.returns-in-Err-clause-plans
returns-in-Err-clause-plans g c =
    cut_short g.S.Blocks.tells g.S.Blocks.state c.calls_compose.ensures.rests (Rename c.args.from.now c.args.to.now) c.args.blocks.now c.look_up.new.blocks c.in-Err.why c.refusal_of.result c.refusal_of.ensures c.requires.may.begin.going c.in-Err.ensures.refused c.in-Err.ensures.looks

pub plan_entry_move-requires-clause-may : goal.plan_entry_move-requires-clause-may
plan_entry_move-requires-clause-may g c = may_plan_still g.S.Blocks.tells _ _ c.in-Ok.ensures.looks c.requires.may

pub plan_entry_move-requires-clause-target : goal.plan_entry_move-requires-clause-target
plan_entry_move-requires-clause-target g c = λ told.
    let here = c.in-Inside in
    let tree = c.requires.may.stands told in
    comes_still g.S.Blocks.tells _ _ c.in-Ok.ensures.looks told c.args.to.now (Ok (Inside here.dir here.count here.entry)) (subst (ComesTo _ _ _) (c.in-Ok-spot.is ∙ ap Ok here.is) (c.in-Ok.ensures.comes told tree.0 tree.1))

pub returns-in-Root-clause-plans : goal.returns-in-Root-clause-plans
returns-in-Root-clause-plans g c =
    refused_rename g.S.Blocks.tells g.S.Blocks.state c.calls_compose.ensures.rests g.met.S.Blocks.is_sound c.blocks_have_the_map_of_their_tree.ensures.map c.the_map_gives_the_refusal.ensures.refusal c.args.from.now c.args.to.now c.args.blocks.now c.look_up.new.blocks c.onto_root_refusal-in-Root.result c.requires.may.begin.going
    (λ told tree h.
    let shown = c.what_is_found_is_shown.ensures.entry told tree c.args.from.now c.args.source.now.dir c.args.source.now.count (Some c.args.source.now.entry) h (c.requires.comes told) in
    onto_root_refuses (g.S.Blocks.state c.args.blocks.now).books.geom.layout (inodes (g.S.Blocks.state c.args.blocks.now)) c.args.from.now c.args.to.now c.args.source.now.entry.node.number c.onto_root_refusal-in-Root.result (subst (ComesTo (g.S.Blocks.state c.args.blocks.now).books.geom.layout (files_in (g.S.Blocks.state c.args.blocks.now) nothing_drafted) c.args.to.now) (c.in-Ok-spot.is ∙ ap Ok c.in-Root.is) (c.in-Ok.ensures.comes told tree h)) (c.what_a_path_comes_to_gives_the_walk.ensures.walk (g.S.Blocks.state c.args.blocks.now).books.geom.layout (files_in (g.S.Blocks.state c.args.blocks.now) nothing_drafted) c.args.from.now (Ok (Inside c.args.source.now.dir c.args.source.now.count (Some c.args.source.now.entry))) (c.requires.comes told)) shown.0.0 shown.1.0
    (c.onto_root_refusal-in-Root.ensures (inodes (g.S.Blocks.state c.args.blocks.now)) c.args.from.now (c.what_is_found_is_shown.ensures.root tree h) shown.1.1 shown.0.1))
    c.in-Ok.ensures.looks

pub returns-in-Inside-clause-plans : goal.returns-in-Inside-clause-plans
returns-in-Inside-clause-plans g c = looked_first g.S.Blocks.tells g.S.Blocks.state c.calls_compose.ensures.rests c.calls_compose.ensures.advances (Rename c.args.from.now c.args.to.now) _ c.args.blocks.now c.look_up.new.blocks _ c.requires.may.begin.going c.in-Ok.ensures.looks c.plan_entry_move.ensures.plans

pub returns-in-Err-spot-clause-plans : goal.returns-in-Err-spot-clause-plans
returns-in-Err-spot-clause-plans g c =
    refused_rename g.S.Blocks.tells g.S.Blocks.state c.calls_compose.ensures.rests g.met.S.Blocks.is_sound c.blocks_have_the_map_of_their_tree.ensures.map c.the_map_gives_the_refusal.ensures.refusal c.args.from.now c.args.to.now c.args.blocks.now c.look_up.new.blocks c.in-Err-spot.why c.requires.may.begin.going
    (λ told tree h. parent_refuses (g.S.Blocks.state c.args.blocks.now).books.geom.layout (inodes (g.S.Blocks.state c.args.blocks.now)) c.args.from.now c.args.to.now c.args.source.now.entry.node.number c.in-Err-spot.why (c.what_a_path_comes_to_gives_the_walk.ensures.walk (g.S.Blocks.state c.args.blocks.now).books.geom.layout (files_in (g.S.Blocks.state c.args.blocks.now) nothing_drafted) c.args.from.now (Ok (Inside c.args.source.now.dir c.args.source.now.count (Some c.args.source.now.entry))) (c.requires.comes told))
    (subst (ComesTo (g.S.Blocks.state c.args.blocks.now).books.geom.layout (files_in (g.S.Blocks.state c.args.blocks.now) nothing_drafted) c.args.to.now) c.in-Err-spot.is (c.in-Ok.ensures.comes told tree h)))
    c.in-Ok.ensures.looks
