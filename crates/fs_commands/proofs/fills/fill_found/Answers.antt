use Rattle.std.proofs.Common.{◌≡◌, ◌+◌, min, subst, true, false, refl, ap, ◌∙◌}
use Rattle.lang_tree.specs.declared.command.Cmd.TheVariants.{Fill}
use Rattle.lang_tree.specs.declared.command.Refusal.TheVariants.{TooLarge}
use Rattle.fs_session.specs.Sessions.{inodes}
use Rattle.fs_commands.proofs.filling.Reasons.{ends_past, nothing_filled}
use Rattle.fs_commands.proofs.writing.Reasons.{refusal_is}
use Rattle.fs_commands.proofs.planning.Looking.{no_look, refusal_plan, done_plan, cut_short}
use Rattle.fs_commands.proofs.fills.fill_found.Given as given
use Rattle.lang_tree.specs.Conditions.{refusal}
use Rattle.fs_commands.specs.Figures.{MeetsKept}
use Rattle.fs_commands.proofs.planning.Before.{looked_first}
use Rattle.fs_commands.proofs.planning.Behind.{file_is_still, may_plan_still, meets_still, walks_still}
use Rattle.fs_commands.proofs.fills.fill_found.Goals as goal

pub fill_over-requires-clause-may : goal.fill_over-requires-clause-may
fill_over-requires-clause-may g c = may_plan_still g.S.Blocks.tells _ _ c.in-Ok.ensures.looks c.requires.may

pub fill_over-requires-clause-file : goal.fill_over-requires-clause-file
fill_over-requires-clause-file g c = λ told. file_is_still g.S.Blocks.tells _ _ c.in-Ok.ensures.looks told c.args.found.now (c.requires.file told)

pub fill_over-requires-clause-met : goal.fill_over-requires-clause-met
fill_over-requires-clause-met g c = λ told.
    let hi = c.args.offset + c.args.count in
    meets_still g.S.Blocks.tells _ _ c.in-Ok.ensures.looks told c.args.shared.now c.args.found.now.number (min c.args.offset (min c.args.found.now.facts.size 1073741824)) hi c.in-Ok.met
    (subst (λ lo. MeetsKept (g.S.Blocks.state c.args.blocks.now) c.args.shared.now c.args.found.now.number lo hi c.in-Ok.met) (c.min-lo.ensures ∙ ap (min c.args.offset) c.size_of.ensures) (c.in-Ok.ensures.met told))

pub returns-then-is_too_large-clause-plans : goal.returns-then-is_too_large-clause-plans
returns-then-is_too_large-clause-plans g c = λ path walk.
    refusal_plan g.S.Blocks.tells g.S.Blocks.state c.calls_compose.ensures.rests g.met.S.Blocks.is_sound (Fill path c.args.offset c.args.count c.args.byte) c.args.blocks.now c.args.blocks.now TooLarge c.requires.may.begin.going
    (λ told f h. refusal_is (inodes (g.S.Blocks.state c.args.blocks.now)) f (Fill path c.args.offset c.args.count c.args.byte) path c.args.offset c.args.count c.the_map_gives_the_refusal.ensures.refusal (λ l least kept. refl) c.args.found.now (c.a_file_is_at_its_path.ensures told f path c.args.found.now h (c.requires.file told) (walk told)) true (ends_past c.args.offset c.from.result c.args.count c.is_too_large.result true c.from.ensures c.is_too_large.ensures c.if-is_too_large.true)) (no_look g.S.Blocks.tells (g.S.Blocks.state c.args.blocks.now))

pub returns-then-count-eq0-clause-plans : goal.returns-then-count-eq0-clause-plans
returns-then-count-eq0-clause-plans g c = λ path walk.
    done_plan g.S.Blocks.tells g.S.Blocks.state c.calls_compose.ensures.rests g.met.S.Blocks.is_sound (Fill path c.args.offset c.args.count c.args.byte) c.args.blocks.now c.args.blocks.now c.requires.may.begin.going
    (λ told f h. let same = nothing_filled (g.S.Blocks.state c.args.blocks.now) f path c.args.offset c.args.count c.args.byte (refusal_is (inodes (g.S.Blocks.state c.args.blocks.now)) f (Fill path c.args.offset c.args.count c.args.byte) path c.args.offset c.args.count c.the_map_gives_the_refusal.ensures.refusal (λ l least kept. refl) c.args.found.now (c.a_file_is_at_its_path.ensures told f path c.args.found.now h (c.requires.file told) (walk told)) false (ends_past c.args.offset c.from.result c.args.count c.is_too_large.result false c.from.ensures c.is_too_large.ensures c.if-is_too_large.false)) c.if-count-eq0.true in
    same) (no_look g.S.Blocks.tells (g.S.Blocks.state c.args.blocks.now))

pub returns-in-Ok-clause-plans : goal.returns-in-Ok-clause-plans
returns-in-Ok-clause-plans g c = λ path walk.
    looked_first g.S.Blocks.tells g.S.Blocks.state c.calls_compose.ensures.rests c.calls_compose.ensures.advances (Fill path c.args.offset c.args.count c.args.byte) _ c.args.blocks.now c.kept_met.new.blocks _ c.requires.may.begin.going c.in-Ok.ensures.looks
    (c.fill_over.ensures.plans path (λ told. walks_still g.S.Blocks.tells _ _ c.in-Ok.ensures.looks told path c.args.found.now.number (walk told)))

pub returns-in-Err-clause-plans : goal.returns-in-Err-clause-plans
returns-in-Err-clause-plans g c = λ path walk.
    cut_short g.S.Blocks.tells g.S.Blocks.state c.calls_compose.ensures.rests (Fill path c.args.offset c.args.count c.args.byte) c.args.blocks.now c.kept_met.new.blocks c.in-Err.why c.refusal_of.result c.refusal_of.ensures c.requires.may.begin.going c.in-Err.ensures.refused c.in-Err.ensures.looks
