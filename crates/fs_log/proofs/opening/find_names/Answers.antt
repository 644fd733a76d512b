use Rattle.std.proofs.Common.{◌≡◌, ap, inl, inr, subst, sym}
use Rattle.lang_tree.specs.declared.command.Cmd.TheVariants.{List as ListNames}
use Rattle.fs_commands.specs.Opened.{blocks_in}
use Rattle.fs_log.specs.Finding.{AnswersQuestion}
use Rattle.fs_log.proofs.Causes.{passed_on}
use Rattle.fs_log.proofs.Questioning.{asks_none, session_sound}
use Rattle.fs_log.proofs.Telling.{list_refused, names_are, refused_not_bad}
use Rattle.lang_tree.specs.declared.command.Refusal.TheVariants.{NoMemory}
use Rattle.fs_log.specs.declared.refusal.OpenRefusal.TheVariants.{Fs as FsRefused}
use Rattle.fs_log.specs.Opening.{IsNotOpened}
use Rattle.fs_log.proofs.OpenCauses.{open_lacking, question_cause}
use Rattle.fs_log.proofs.Ways.{asks_nothing}
use Rattle.fs_log.proofs.opening.find_names.Goals as goal

pub returns-in_err-path-clause-asks : goal.returns-in_err-path-clause-asks
returns-in_err-path-clause-asks g c = λ told.
    asks_none g.S.Blocks.state g.S.Blocks.tells (blocks_in c.args.fs.now) (c.calls_compose.ensures.rests told) (λ s trees img known left. c.a_crash_leaves_the_tree_of_a_point.ensures.now s trees img told known left)

pub returns-in_err-names-clause-bad : goal.returns-in_err-names-clause-bad
returns-in_err-names-clause-bad g c = λ told.
    passed_on c.from_residual-in_err-names.result c.in_err-names.field-0.0 _ c.from_residual-in_err-names.ensures.1
    (λ bad f session there.
    let answers = subst (λ path. AnswersQuestion f (ListNames path) c.question-reply.result) c.in_ok-path.ensures (c.question-reply.ensures.answers told f session) in
    let refused = list_refused c.the_directory_of_a_log_is_told.ensures.list f (session_sound c.a_tree_that_stands_is_sound.ensures.sound (g.S.Blocks.state (blocks_in c.args.fs.now)) f session) c.question-reply.result answers there c.in_err-names.ensures.fails.1 in
    refused_not_bad c.question-reply.result c.in_err-names.field-0.0 refused.0 c.in_err-names.ensures.fails.0 refused.2 bad)

pub returns-clause-names : goal.returns-clause-names
returns-clause-names g c = λ told f session there.
    let answers = subst (λ path. AnswersQuestion f (ListNames path) c.question-reply.result) c.in_ok-path.ensures (c.question-reply.ensures.answers told f session) in
    names_are c.the_directory_of_a_log_is_told.ensures.list f (session_sound c.a_tree_that_stands_is_sound.ensures.sound (g.S.Blocks.state (blocks_in c.args.fs.now)) f session) c.question-reply.result answers there c.in_ok-names.names c.in_ok-names.ensures.names

pub returns-in_err-path-clause-cause : goal.returns-in_err-path-clause-cause
returns-in_err-path-clause-cause g c = λ has. passed_on c.from_residual.result (FsRefused NoMemory) _ c.from_residual.ensures.1 (open_lacking g.S.Blocks.tells g.S.Blocks.state (blocks_in c.args.fs.now) (blocks_in c.args.fs.now) (λ told. asks_nothing g.S.Blocks.tells g.S.Blocks.state (λ cmd. ⊥) (blocks_in c.args.fs.now)))

pub returns-in_err-names-clause-cause : goal.returns-in_err-names-clause-cause
returns-in_err-names-clause-cause g c = λ has.
    let old = blocks_in c.args.fs.now in
    let new = blocks_in c.question-reply.new.fs in
    passed_on c.from_residual-in_err-names.result c.in_err-names.field-0.0 _ c.from_residual-in_err-names.ensures.1
    (subst (λ why. IsNotOpened g.S.Blocks.tells g.S.Blocks.state why old new) (sym c.in_err-names.ensures.fails.0)
    (question_cause g.S.Blocks.tells g.S.Blocks.state (ListNames c.in_ok-path.path) c.question-reply.result old new c.question-reply.ensures.was (inr (inr (inl (ap ListNames c.in_ok-path.ensures))))
    (λ told.
    let h = has told in
    let f = h.0 in
    let session = h.1 in
    let answers = subst (λ path. AnswersQuestion f (ListNames path) c.question-reply.result) c.in_ok-path.ensures (c.question-reply.ensures.answers told f session) in
    (list_refused c.the_directory_of_a_log_is_told.ensures.list f (session_sound c.a_tree_that_stands_is_sound.ensures.sound (g.S.Blocks.state (blocks_in c.args.fs.now)) f session) c.question-reply.result answers h.2 c.in_err-names.ensures.fails.1, c.question-reply.ensures.calm told))))
