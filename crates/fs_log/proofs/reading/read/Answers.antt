use Rattle.std.proofs.Common.{◌≡◌, inr, ap, ◌∙◌, subst, sym}
use Rattle.lang_tree.specs.declared.command.Cmd.TheVariants.{Read}
use Rattle.lang_log.specs.Names.{segment_path}
use Rattle.fs_commands.specs.Opened.{blocks_in}
use Rattle.lang_tree.specs.declared.command.Refusal.TheVariants.{NoMemory}
use Rattle.lang_tree.specs.Points.{is_refusal}
use Rattle.fs_log.specs.declared.refusal.LogRefusal.TheVariants.{Fs as FsRefused}
use Rattle.fs_log.specs.Causes.{HasCallCause, ReadsSegment}
use Rattle.fs_log.specs.Refusals.{is_of_none}
use Rattle.fs_log.proofs.Causes.{caused, lacking, passed_on, was_so}
use Rattle.fs_log.proofs.Questioning.{asks_none}
use Rattle.fs_log.proofs.Ways.{asks_nothing}
use Rattle.fs_log.proofs.Windows.{read_late, window_is}
use Rattle.fs_log.proofs.reading.read.Goals as goal

pub returns-in_err-cmd-clause-asks : goal.returns-in_err-cmd-clause-asks
returns-in_err-cmd-clause-asks g c = λ told.
    asks_none g.S.Blocks.state g.S.Blocks.tells (blocks_in c.args.fs.now) (c.calls_compose.ensures.rests told) (λ s trees img known left. c.a_crash_leaves_the_tree_of_a_point.ensures.now s trees img told known left)

pub question-reply-requires-clause-question : goal.question-reply-requires-clause-question
question-reply-requires-clause-question g c = inr (inr (segment_path c.args.first, c.args.offset, 65540, c.in_ok-cmd.ensures))

pub returns-clause-bytes : goal.returns-clause-bytes
returns-clause-bytes g c = λ told s h first.
    window_is g.S.Blocks.tells g.S.Blocks.state c.a_tree_that_stands_is_sound.ensures.sound c.a_segment_is_read.ensures s c.args.offset 65540 c.in_ok-cmd.cmd c.question-reply.result c.in_ok-bytes.bytes
    (blocks_in c.args.fs.now) (blocks_in c.question-reply.new.fs) (c.in_ok-cmd.ensures ∙ ap (λ n. Read (segment_path n) c.args.offset 65540) first) c.in_ok-bytes.ensures.bytes h (c.question-reply.ensures.asked told)

pub returns-in_err-cmd-clause-cause : goal.returns-in_err-cmd-clause-cause
returns-in_err-cmd-clause-cause g c = λ has.
    passed_on c.from_residual.result (FsRefused NoMemory) _ c.from_residual.ensures.1
    (lacking g.S.Blocks.tells g.S.Blocks.state is_of_none (ReadsSegment c.args.first) (blocks_in c.args.fs.now) (blocks_in c.args.fs.now) (λ told. asks_nothing g.S.Blocks.tells g.S.Blocks.state (ReadsSegment c.args.first) (blocks_in c.args.fs.now)))

pub returns-in_err-bytes-clause-cause : goal.returns-in_err-bytes-clause-cause
returns-in_err-bytes-clause-cause g c = λ has.
    let old = blocks_in c.args.fs.now in
    let new = blocks_in c.question-reply.new.fs in
    passed_on c.from_residual-in_err-bytes.result c.in_err-bytes.field-0.0 _ c.from_residual-in_err-bytes.ensures.1
    (subst (λ why. HasCallCause g.S.Blocks.tells g.S.Blocks.state is_of_none (ReadsSegment c.args.first) why old new) (sym c.in_err-bytes.ensures.is)
    (caused g.S.Blocks.tells g.S.Blocks.state is_of_none (ReadsSegment c.args.first) old new c.question-reply.result
    (was_so g.S.Blocks.tells g.S.Blocks.state (λ cmd. cmd ≡ c.in_ok-cmd.cmd) (ReadsSegment c.args.first) c.question-reply.result old new (λ cmd is. (c.args.offset, is ∙ c.in_ok-cmd.ensures)) c.question-reply.ensures.was)
    (λ told.
    let at = has told in
    read_late g.S.Blocks.tells g.S.Blocks.state c.a_tree_that_stands_is_sound.ensures.sound c.a_segment_is_read.ensures
    (c.a_command_is_answered_in_a_room_that_came_back.ensures.answers told) (c.a_command_is_answered_in_a_room_that_came_back.ensures.room told) c.a_tree_in_memory_refuses_for_no_disk.ensures.alone
    at.has.segment c.args.offset 65540 c.in_ok-cmd.cmd c.question-reply.result old new (c.in_ok-cmd.ensures ∙ ap (λ n. Read (segment_path n) c.args.offset 65540) at.has.begins)
    at.has.holds (c.question-reply.ensures.asked told) c.question-reply.ensures.applies c.in_err-bytes.ensures.not)))

pub returns-clause-was : goal.returns-clause-was
returns-clause-was g c =
    let old = blocks_in c.args.fs.now in
    let new = blocks_in c.question-reply.new.fs in (
      c.question-reply.result,
      ap is_refusal c.in_ok-bytes.ensures.bytes,
      was_so g.S.Blocks.tells g.S.Blocks.state (λ cmd. cmd ≡ c.in_ok-cmd.cmd) (ReadsSegment c.args.first) c.question-reply.result old new (λ cmd is. (c.args.offset, is ∙ c.in_ok-cmd.ensures)) c.question-reply.ensures.was,
    )
