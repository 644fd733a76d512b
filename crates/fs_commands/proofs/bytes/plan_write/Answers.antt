use Rattle.std.proofs.Common.{length, subst}
use Rattle.lang_tree.specs.declared.command.Cmd.TheVariants.{Write}
use Rattle.fs_commands.specs.Looks.{LeadsToFile}
use Rattle.fs_commands.proofs.planning.Behind.{may_plan_still, file_still, walk_still}
use Rattle.fs_commands.proofs.planning.Before.{looked_first}
use Rattle.fs_commands.proofs.planning.Looking.{reason_plan, cut_short}
use Rattle.fs_commands.proofs.writing.Reasons.{no_file_to_write}
use Rattle.fs_session.specs.Sessions.{inodes}
use Rattle.fs_files.specs.Calls.{files_in}
use Rattle.fs_files.specs.Drafts.{nothing_drafted}
use Rattle.fs_commands.proofs.bytes.plan_write.Goals as goal

pub write_found-requires-clause-may : goal.write_found-requires-clause-may
write_found-requires-clause-may g c = may_plan_still g.S.Blocks.tells _ _ c.in-Ok-Ok.ensures.looks c.requires.may

pub write_found-requires-clause-file : goal.write_found-requires-clause-file
write_found-requires-clause-file g c = λ told.
    let tree = c.requires.may.stands told in
    file_still g.S.Blocks.tells _ _ c.in-Ok-Ok.ensures.looks told c.args.path.now c.in-Ok-Ok.found (subst (LeadsToFile (g.S.Blocks.state c.args.blocks.now).books.geom.layout (files_in (g.S.Blocks.state c.args.blocks.now) nothing_drafted) c.args.path.now) c.in-Ok-Ok.field-0-is (c.in-Ok-Ok.ensures.file told tree.0 tree.1))

pub returns-in-Ok-Ok-clause-plans : goal.returns-in-Ok-Ok-clause-plans
returns-in-Ok-Ok-clause-plans g c =
    looked_first g.S.Blocks.tells g.S.Blocks.state c.calls_compose.ensures.rests c.calls_compose.ensures.advances (Write c.args.path.now c.args.offset c.args.bytes.now) _ c.args.blocks.now c.find_file.new.blocks _ c.requires.may.begin.going c.in-Ok-Ok.ensures.looks
    (c.write_found.ensures.plans c.args.path.now (λ told. let tree = c.requires.may.stands told in
    walk_still g.S.Blocks.tells _ _ c.in-Ok-Ok.ensures.looks told c.args.path.now c.in-Ok-Ok.found (subst (LeadsToFile (g.S.Blocks.state c.args.blocks.now).books.geom.layout (files_in (g.S.Blocks.state c.args.blocks.now) nothing_drafted) c.args.path.now) c.in-Ok-Ok.field-0-is (c.in-Ok-Ok.ensures.file told tree.0 tree.1))))

pub returns-in-Ok-Err-clause-plans : goal.returns-in-Ok-Err-clause-plans
returns-in-Ok-Err-clause-plans g c =
    reason_plan g.S.Blocks.tells g.S.Blocks.state c.calls_compose.ensures.rests g.met.S.Blocks.is_sound c.blocks_have_the_map_of_their_tree.ensures.map c.the_map_gives_the_refusal.ensures.refusal (Write c.args.path.now c.args.offset c.args.bytes.now) c.args.blocks.now c.find_file.new.blocks c.in-Ok-Err.why c.requires.may.begin.going
    (λ told t h least kept. no_file_to_write (inodes (g.S.Blocks.state c.args.blocks.now)) c.args.path.now c.args.offset (length c.args.bytes.now) c.in-Ok-Err.why (subst (LeadsToFile (g.S.Blocks.state c.args.blocks.now).books.geom.layout (files_in (g.S.Blocks.state c.args.blocks.now) nothing_drafted) c.args.path.now) c.in-Ok-Err.field-0-is (c.in-Ok-Err.ensures.file told t h))) c.in-Ok-Err.ensures.looks

pub returns-in-Err-clause-plans : goal.returns-in-Err-clause-plans
returns-in-Err-clause-plans g c =
    cut_short g.S.Blocks.tells g.S.Blocks.state c.calls_compose.ensures.rests (Write c.args.path.now c.args.offset c.args.bytes.now) c.args.blocks.now c.find_file.new.blocks c.in-Err.why c.refusal_of.result c.refusal_of.ensures c.requires.may.begin.going c.in-Err.ensures.refused c.in-Err.ensures.looks
