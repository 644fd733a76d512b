use Rattle.std.proofs.Common.{[], Ok, sym, subst, ap, ◌∙◌}
use Rattle.lang_tree.specs.declared.command.Cmd.TheVariants.{Rename}
use Rattle.lang_tree.specs.declared.command.Refusal.TheVariants.{NotFound}
use Rattle.fs_files.specs.Calls.{files_in}
use Rattle.fs_files.specs.Drafts.{nothing_drafted}
use Rattle.fs_commands.specs.declared.paths.Spot.{Spot}
use Rattle.fs_commands.specs.declared.paths.Spot.TheVariants.{Inside}
use Rattle.fs_commands.specs.Looks.{ComesTo, walk_of}
use Rattle.fs_session.specs.Sessions.{inodes}
use Rattle.fs_commands.proofs.planning.Looking.{no_look}
use Rattle.fs_commands.proofs.removed.Decided.{plans_as}
use Rattle.fs_commands.proofs.renamed.Reasons.{walk_refuses}
use Rattle.fs_commands.proofs.renamed.Answered.{refused_rename}
use Rattle.fs_commands.proofs.renaming.plan_rename_of.Goals as goal

pub returns-in-Root-clause-plans : goal.returns-in-Root-clause-plans
returns-in-Root-clause-plans g c =
    let s = g.S.Blocks.state c.args.blocks.now in
    plans_as g.S.Blocks.tells (Rename [] c.args.to.now) (Rename c.args.from.now c.args.to.now) c.plan_root_rename.result s (g.S.Blocks.state c.plan_root_rename.new.blocks)
    (λ told. ap (λ p. Rename p c.args.to.now) (sym (subst (λ (p : Spot). ComesTo s.books.geom.layout (files_in s nothing_drafted) c.args.from.now (Ok p)) c.in-Root.is (c.requires.comes told))))
    c.plan_root_rename.ensures.plans

pub returns-in-None-clause-plans : goal.returns-in-None-clause-plans
returns-in-None-clause-plans g c =
    let here = c.in-Inside in
    refused_rename g.S.Blocks.tells g.S.Blocks.state c.calls_compose.ensures.rests g.met.S.Blocks.is_sound c.blocks_have_the_map_of_their_tree.ensures.map c.the_map_gives_the_refusal.ensures.refusal c.args.from.now c.args.to.now c.args.blocks.now c.args.blocks.now NotFound c.requires.may.begin.going
    (λ told tree h. walk_refuses (g.S.Blocks.state c.args.blocks.now).books.geom.layout (inodes (g.S.Blocks.state c.args.blocks.now)) c.args.from.now c.args.to.now NotFound
    (c.what_a_path_comes_to_gives_the_walk.ensures.walk (g.S.Blocks.state c.args.blocks.now).books.geom.layout (files_in (g.S.Blocks.state c.args.blocks.now) nothing_drafted) c.args.from.now (Ok c.args.spot.now) (c.requires.comes told) ∙ ap (λ (p : Spot). walk_of (Ok p)) here.is ∙ ap (λ o. walk_of (Ok (Inside here.dir here.count o))) c.in-None.is)) (no_look g.S.Blocks.tells (g.S.Blocks.state c.args.blocks.now))
