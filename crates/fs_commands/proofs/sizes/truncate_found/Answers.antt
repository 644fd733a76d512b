use Rattle.std.proofs.Common.{true, false, length, sym, ap, ◌∙◌, arith, ◌≡◌}
use Rattle.std.proofs.lemmas.Option.{same_Some}
use Rattle.lang_tree.specs.declared.command.Cmd.TheVariants.{Truncate}
use Rattle.lang_tree.specs.declared.command.Refusal.TheVariants.{TooLarge}
use Rattle.crash_stands.specs.Files.{FileNode}
use Rattle.fs_files.specs.declared.look.FileFacts.{FileFacts}
use Rattle.fs_files.specs.Drafts.{begun_beside}
use Rattle.fs_session.specs.Sessions.{inodes}
use Rattle.fs_commands.proofs.planning.Looking.{no_look, refusal_plan, done_plan, cut_short}
use Rattle.fs_commands.proofs.sizing.Reasons.{refusal_is, nothing_resized}
use Rattle.fs_commands.proofs.sizes.truncate_found.Given as given
use Rattle.lang_tree.specs.Conditions.{refusal}
use Rattle.fs_commands.proofs.planning.Before.{looked_first}
use Rattle.fs_commands.proofs.planning.Behind.{file_is_still, may_plan_still, resizes_still, walks_still}
use Rattle.fs_commands.proofs.sizes.truncate_found.Goals as goal

pub truncate_over-requires-clause-may : goal.truncate_over-requires-clause-may
truncate_over-requires-clause-may g c = may_plan_still g.S.Blocks.tells _ _ c.in-Ok.ensures.looks c.requires.may

pub truncate_over-requires-clause-file : goal.truncate_over-requires-clause-file
truncate_over-requires-clause-file g c = λ told. file_is_still g.S.Blocks.tells _ _ c.in-Ok.ensures.looks told c.args.found.now (c.requires.file told)

pub truncate_over-requires-clause-kept : goal.truncate_over-requires-clause-kept
truncate_over-requires-clause-kept g c = λ told.
    resizes_still g.S.Blocks.tells _ _ c.in-Ok.ensures.looks told c.args.shared.now c.args.found.now.number c.args.size c.in-Ok.kept (c.in-Ok.ensures.kept told (λ x is.
    let file = c.requires.file told in
    let fits = c.a_file_fits_the_disk.ensures (begun_beside c.args.shared.now) c.args.found.now.number x told (c.a_draft_may_begin.ensures c.args.shared.now c.requires.may.begin) is in
    let size : c.args.found.now.facts.size ≡ length x.bytes = ap (λ (q : FileFacts). q.size) file.2 ∙ ap (λ (y : FileNode). length y.bytes) (same_Some file.0 x (sym file.1 ∙ is)) in
    omega (arith, size, fits, c.size_of.ensures)))

pub returns-then-is_past_the_most-clause-plans : goal.returns-then-is_past_the_most-clause-plans
returns-then-is_past_the_most-clause-plans g c = λ path walk.
    refusal_plan g.S.Blocks.tells g.S.Blocks.state c.calls_compose.ensures.rests g.met.S.Blocks.is_sound (Truncate path c.args.size) c.args.blocks.now c.args.blocks.now TooLarge c.requires.may.begin.going (λ told f h. refusal_is (inodes (g.S.Blocks.state c.args.blocks.now)) f path c.args.size c.the_map_gives_the_refusal.ensures.refusal c.args.found.now (c.a_file_is_at_its_path.ensures told f path c.args.found.now h (c.requires.file told) (walk told)) true (sym c.is_past_the_most.ensures ∙ c.if-is_past_the_most.true)) (no_look g.S.Blocks.tells (g.S.Blocks.state c.args.blocks.now))

pub returns-then-from-found-clause-plans : goal.returns-then-from-found-clause-plans
returns-then-from-found-clause-plans g c = λ path walk.
    done_plan g.S.Blocks.tells g.S.Blocks.state c.calls_compose.ensures.rests g.met.S.Blocks.is_sound (Truncate path c.args.size) c.args.blocks.now c.args.blocks.now c.requires.may.begin.going
    (λ told f h. let same = nothing_resized (inodes (g.S.Blocks.state c.args.blocks.now)) f path c.args.size c.the_map_gives_the_refusal.ensures.refusal c.args.found.now (c.a_file_is_at_its_path.ensures told f path c.args.found.now h (c.requires.file told) (walk told))
    (g.S.Blocks.state c.args.blocks.now) (sym c.is_past_the_most.ensures ∙ c.if-is_past_the_most.false) (sym c.from.ensures ∙ c.if-from-found.true) in
    same) (no_look g.S.Blocks.tells (g.S.Blocks.state c.args.blocks.now))

pub returns-in-Ok-clause-plans : goal.returns-in-Ok-clause-plans
returns-in-Ok-clause-plans g c = λ path walk.
    looked_first g.S.Blocks.tells g.S.Blocks.state c.calls_compose.ensures.rests c.calls_compose.ensures.advances (Truncate path c.args.size) _ c.args.blocks.now c.kept_resized.new.blocks _ c.requires.may.begin.going c.in-Ok.ensures.looks
    (c.truncate_over.ensures.plans path (λ told. walks_still g.S.Blocks.tells _ _ c.in-Ok.ensures.looks told path c.args.found.now.number (walk told)))

pub returns-in-Err-clause-plans : goal.returns-in-Err-clause-plans
returns-in-Err-clause-plans g c = λ path walk.
    cut_short g.S.Blocks.tells g.S.Blocks.state c.calls_compose.ensures.rests (Truncate path c.args.size) c.args.blocks.now c.kept_resized.new.blocks c.in-Err.why c.refusal_of.result c.refusal_of.ensures c.requires.may.begin.going c.in-Err.ensures.refused c.in-Err.ensures.looks
