use Rattle.std.proofs.Common.{◌≡◌, ◌∙◌, ap, inl, subst, sym}
use Rattle.lang_tree.specs.declared.command.Cmd.TheVariants.{Stat}
use Rattle.fs_commands.specs.Opened.{blocks_in}
use Rattle.fs_log.specs.Finding.{AnswersQuestion, stat_reply}
use Rattle.fs_log.proofs.Causes.{passed_on}
use Rattle.fs_log.proofs.Holding.{session_of}
use Rattle.fs_log.proofs.Questioning.{asks_none, session_sound}
use Rattle.fs_log.proofs.Telling.{log_refused, nothing_there, refused_not_bad, something_there}
use Rattle.lang_tree.specs.declared.command.Refusal.TheVariants.{NoMemory}
use Rattle.fs_log.specs.declared.refusal.OpenRefusal.TheVariants.{Fs as FsRefused}
use Rattle.fs_log.specs.Opening.{IsNotOpened}
use Rattle.fs_log.proofs.OpenCauses.{open_lacking, question_cause}
use Rattle.fs_log.proofs.Ways.{asks_nothing}
use Rattle.fs_log.proofs.opening.find_at_log.Goals as goal

pub returns-in_err-path-clause-asks : goal.returns-in_err-path-clause-asks
returns-in_err-path-clause-asks g c = λ told.
    asks_none g.S.Blocks.state g.S.Blocks.tells (blocks_in c.args.fs.now) (c.calls_compose.ensures.rests told) (λ s trees img known left. c.a_crash_leaves_the_tree_of_a_point.ensures.now s trees img told known left)

pub returns-in_err-found-clause-bad : goal.returns-in_err-found-clause-bad
returns-in_err-found-clause-bad g c = λ told.
    let s = session_of (g.S.Blocks.state (blocks_in c.args.fs.now)) (c.requires.follows.stands told) in
    let f = s.0 in
    let session = s.1 in
    let answers = subst (λ path. AnswersQuestion f (Stat path) c.question-reply.result) c.in_ok-path.ensures (c.question-reply.ensures.answers told f session) in
    let refused = log_refused c.the_directory_of_a_log_is_told.ensures.none c.the_directory_of_a_log_is_told.ensures.stat f (session_sound c.a_tree_that_stands_is_sound.ensures.sound (g.S.Blocks.state (blocks_in c.args.fs.now)) f session) c.question-reply.result answers c.in_err-found.ensures.fails.1 in
    passed_on c.from_residual-in_err-found.result c.in_err-found.field-0.0 _ c.from_residual-in_err-found.ensures.1
    (refused_not_bad c.question-reply.result c.in_err-found.field-0.0 refused.0 c.in_err-found.ensures.fails.0 refused.2)

pub returns-in-Some-clause-there : goal.returns-in-Some-clause-there
returns-in-Some-clause-there g c = λ told f session.
    let answers = subst (λ path. AnswersQuestion f (Stat path) c.question-reply.result) c.in_ok-path.ensures (c.question-reply.ensures.answers told f session) in
    something_there c.the_directory_of_a_log_is_told.ensures.none c.the_directory_of_a_log_is_told.ensures.stat f (session_sound c.a_tree_that_stands_is_sound.ensures.sound (g.S.Blocks.state (blocks_in c.args.fs.now)) f session) c.question-reply.result answers
    c.in-Some.stat (c.in_ok-found.ensures.told ∙ ap stat_reply c.in-Some.is)

pub returns-clause-there : goal.returns-clause-there
returns-clause-there g c = λ told f session.
    let answers = subst (λ path. AnswersQuestion f (Stat path) c.question-reply.result) c.in_ok-path.ensures (c.question-reply.ensures.answers told f session) in
    nothing_there c.the_directory_of_a_log_is_told.ensures.none c.the_directory_of_a_log_is_told.ensures.stat f (session_sound c.a_tree_that_stands_is_sound.ensures.sound (g.S.Blocks.state (blocks_in c.args.fs.now)) f session) c.question-reply.result answers
    (c.in_ok-found.ensures.told ∙ ap stat_reply c.in-None.is)

pub returns-in_err-path-clause-cause : goal.returns-in_err-path-clause-cause
returns-in_err-path-clause-cause g c = passed_on c.from_residual.result (FsRefused NoMemory) _ c.from_residual.ensures.1 (open_lacking g.S.Blocks.tells g.S.Blocks.state (blocks_in c.args.fs.now) (blocks_in c.args.fs.now) (λ told. asks_nothing g.S.Blocks.tells g.S.Blocks.state (λ cmd. ⊥) (blocks_in c.args.fs.now)))

pub returns-in_err-found-clause-cause : goal.returns-in_err-found-clause-cause
returns-in_err-found-clause-cause g c =
    let old = blocks_in c.args.fs.now in
    let new = blocks_in c.question-reply.new.fs in
    passed_on c.from_residual-in_err-found.result c.in_err-found.field-0.0 _ c.from_residual-in_err-found.ensures.1
    (subst (λ why. IsNotOpened g.S.Blocks.tells g.S.Blocks.state why old new) (sym c.in_err-found.ensures.fails.0)
    (question_cause g.S.Blocks.tells g.S.Blocks.state (Stat c.in_ok-path.path) c.question-reply.result old new c.question-reply.ensures.was (inl (ap Stat c.in_ok-path.ensures))
    (λ told.
    let s = session_of (g.S.Blocks.state old) (c.requires.follows.stands told) in
    let f = s.0 in
    let session = s.1 in
    let answers = subst (λ path. AnswersQuestion f (Stat path) c.question-reply.result) c.in_ok-path.ensures (c.question-reply.ensures.answers told f session) in
    (log_refused c.the_directory_of_a_log_is_told.ensures.none c.the_directory_of_a_log_is_told.ensures.stat f (session_sound c.a_tree_that_stands_is_sound.ensures.sound (g.S.Blocks.state (blocks_in c.args.fs.now)) f session) c.question-reply.result answers c.in_err-found.ensures.fails.1, c.question-reply.ensures.calm told))))
