use Rattle.std.proofs.Common.{◌≡◌, ap, inr, subst, sym}
use Rattle.lang_tree.specs.declared.command.Cmd.TheVariants.{Read}
use Rattle.fs_commands.specs.Opened.{blocks_in}
use Rattle.fs_log.specs.Finding.{AnswersQuestion}
use Rattle.fs_log.proofs.Causes.{passed_on}
use Rattle.fs_log.proofs.Questioning.{asks_none, session_sound}
use Rattle.fs_log.proofs.Telling.{bytes_are, read_refused, refused_not_bad}
use Rattle.lang_tree.specs.declared.command.Refusal.TheVariants.{NoMemory}
use Rattle.fs_log.specs.declared.refusal.OpenRefusal.TheVariants.{Fs as FsRefused}
use Rattle.fs_log.specs.Opening.{IsNotOpened}
use Rattle.fs_log.proofs.OpenCauses.{open_lacking, question_cause}
use Rattle.fs_log.proofs.Ways.{asks_nothing}
use Rattle.fs_log.proofs.finding.read_window.Goals as goal

pub returns-in_err-path-clause-asks : goal.returns-in_err-path-clause-asks
returns-in_err-path-clause-asks g c = λ told.
    asks_none g.S.Blocks.state g.S.Blocks.tells (blocks_in c.args.fs.now) (c.calls_compose.ensures.rests told) (λ s trees img known left. c.a_crash_leaves_the_tree_of_a_point.ensures.now s trees img told known left)

pub returns-in_err-bytes-clause-bad : goal.returns-in_err-bytes-clause-bad
returns-in_err-bytes-clause-bad g c = λ told.
    passed_on c.from_residual-in_err-bytes.result c.in_err-bytes.field-0.0 _ c.from_residual-in_err-bytes.ensures.1
    (λ bad f node bytes session file.
    let answers = subst (λ path. AnswersQuestion f (Read path c.args.offset 65540) c.question-reply.result) c.in_ok-path.ensures (c.question-reply.ensures.answers told f session) in
    let refused = read_refused c.what_is_in_a_log_is_told.ensures.read f (session_sound c.a_tree_that_stands_is_sound.ensures.sound (g.S.Blocks.state (blocks_in c.args.fs.now)) f session) c.args.first node bytes file c.args.offset 65540 c.question-reply.result answers c.in_err-bytes.ensures.fails.1 in
    refused_not_bad c.question-reply.result c.in_err-bytes.field-0.0 refused.0 c.in_err-bytes.ensures.fails.0 refused.2 bad)

pub returns-clause-bytes : goal.returns-clause-bytes
returns-clause-bytes g c = λ told f node bytes session file.
    let answers = subst (λ path. AnswersQuestion f (Read path c.args.offset 65540) c.question-reply.result) c.in_ok-path.ensures (c.question-reply.ensures.answers told f session) in
    bytes_are c.what_is_in_a_log_is_told.ensures.read f (session_sound c.a_tree_that_stands_is_sound.ensures.sound (g.S.Blocks.state (blocks_in c.args.fs.now)) f session) c.args.first node bytes file c.args.offset 65540 c.question-reply.result answers c.in_ok-bytes.bytes c.in_ok-bytes.ensures.bytes

pub returns-in_err-path-clause-cause : goal.returns-in_err-path-clause-cause
returns-in_err-path-clause-cause g c = λ has. passed_on c.from_residual.result (FsRefused NoMemory) _ c.from_residual.ensures.1 (open_lacking g.S.Blocks.tells g.S.Blocks.state (blocks_in c.args.fs.now) (blocks_in c.args.fs.now) (λ told. asks_nothing g.S.Blocks.tells g.S.Blocks.state (λ cmd. ⊥) (blocks_in c.args.fs.now)))

pub returns-in_err-bytes-clause-cause : goal.returns-in_err-bytes-clause-cause
returns-in_err-bytes-clause-cause g c = λ has.
    let old = blocks_in c.args.fs.now in
    let new = blocks_in c.question-reply.new.fs in
    passed_on c.from_residual-in_err-bytes.result c.in_err-bytes.field-0.0 _ c.from_residual-in_err-bytes.ensures.1
    (subst (λ why. IsNotOpened g.S.Blocks.tells g.S.Blocks.state why old new) (sym c.in_err-bytes.ensures.fails.0)
    (question_cause g.S.Blocks.tells g.S.Blocks.state (Read c.in_ok-path.path c.args.offset 65540) c.question-reply.result old new c.question-reply.ensures.was
    (inr (inr (inr (c.args.first, inr (c.args.offset, ap (λ path. Read path c.args.offset 65540) c.in_ok-path.ensures)))))
    (λ told.
    let h = has told in
    let f = h.0 in
    let session = h.3 in
    let answers = subst (λ path. AnswersQuestion f (Read path c.args.offset 65540) c.question-reply.result) c.in_ok-path.ensures (c.question-reply.ensures.answers told f session) in
    (read_refused c.what_is_in_a_log_is_told.ensures.read f (session_sound c.a_tree_that_stands_is_sound.ensures.sound (g.S.Blocks.state (blocks_in c.args.fs.now)) f session) c.args.first h.1 h.2 h.4 c.args.offset 65540 c.question-reply.result answers c.in_err-bytes.ensures.fails.1, c.question-reply.ensures.calm told))))
