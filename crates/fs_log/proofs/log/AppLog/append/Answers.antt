use Rattle.std.proofs.Common.{refl}
use Rattle.fs_commands.specs.Opened.{blocks_in}
use Rattle.fs_log.specs.Causes.{AsksToAppend}
use Rattle.fs_log.specs.Refusals.{is_of_append, is_of_none}
use Rattle.fs_log.proofs.Causes.{cause_later, no_own, passed_on}
use Rattle.fs_log.proofs.Writing.{no_time, resting}
use Rattle.fs_log.proofs.Ways.{asks_nothing}
use Rattle.fs_log.proofs.log.AppLog.append.Goals as goal

pub returns-then-bytes-gt-LONGEST_APPEND-clause-refused : goal.returns-then-bytes-gt-LONGEST_APPEND-clause-refused
returns-then-bytes-gt-LONGEST_APPEND-clause-refused g c = λ told.
    (resting g.S.Blocks.state (blocks_in c.args.self.now.fs) (c.calls_compose.ensures.rests told) (λ s trees img known left. c.a_crash_leaves_the_tree_of_a_point.ensures.now s trees img told known left)).takes

pub returns-then-self-clause-refused : goal.returns-then-self-clause-refused
returns-then-self-clause-refused g c = λ told.
    (resting g.S.Blocks.state (blocks_in c.args.self.now.fs) (c.calls_compose.ensures.rests told) (λ s trees img known left. c.a_crash_leaves_the_tree_of_a_point.ensures.now s trees img told known left)).takes

pub returns-in_err-put-clause-cause : goal.returns-in_err-put-clause-cause
returns-in_err-put-clause-cause g c =
    let old = blocks_in c.args.self.now.fs in
    passed_on c.from_residual.result c.in_err-put.field-0.0 _ c.from_residual.ensures.1
    (cause_later g.S.Blocks.tells g.S.Blocks.state c.calls_compose.ensures.advances (λ told s. no_time g.S.Blocks.state (c.calls_compose.ensures.rests told) s)
    is_of_none is_of_append (AsksToAppend c.args.self.now c.args.bytes.now) (AsksToAppend c.args.self.now c.args.bytes.now) c.in_err-put.field-0.0 old old (blocks_in c.put.new.self.fs)
    (no_own is_of_append) (λ cmd asked. asked) (λ told. no_time g.S.Blocks.state (c.calls_compose.ensures.rests told) old)
    (λ told. asks_nothing g.S.Blocks.tells g.S.Blocks.state (AsksToAppend c.args.self.now c.args.bytes.now) old) c.in_err-put.ensures.cause)

pub returns-then-bytes-gt-LONGEST_APPEND-clause-cause : goal.returns-then-bytes-gt-LONGEST_APPEND-clause-cause
returns-then-bytes-gt-LONGEST_APPEND-clause-cause g c = (refl, λ told. asks_nothing g.S.Blocks.tells g.S.Blocks.state (AsksToAppend c.args.self.now c.args.bytes.now) (blocks_in c.args.self.now.fs))

pub returns-then-self-clause-cause : goal.returns-then-self-clause-cause
returns-then-self-clause-cause g c = (refl, λ told. asks_nothing g.S.Blocks.tells g.S.Blocks.state (AsksToAppend c.args.self.now c.args.bytes.now) (blocks_in c.args.self.now.fs))
