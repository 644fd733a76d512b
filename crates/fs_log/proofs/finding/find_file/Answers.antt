use Rattle.std.proofs.Common.{◌≡◌, ◌∙◌, ap, inl, inr, subst, sym}
use Rattle.lang_tree.specs.declared.command.Cmd.TheVariants.{Stat}
use Rattle.fs_commands.specs.Opened.{blocks_in}
use Rattle.fs_log.specs.Finding.{AnswersQuestion, stat_reply}
use Rattle.fs_log.proofs.Causes.{passed_on}
use Rattle.fs_log.proofs.Questioning.{asks_none, session_sound}
use Rattle.fs_log.proofs.Small.{small_file}
use Rattle.fs_log.proofs.Telling.{a_file, no_file, refused_not_bad, stat_refused, told_some, told_thing}
use Rattle.lang_tree.specs.declared.command.Refusal.TheVariants.{NoMemory}
use Rattle.fs_log.specs.declared.refusal.OpenRefusal.TheVariants.{Fs as FsRefused}
use Rattle.fs_log.specs.Opening.{IsNotOpened}
use Rattle.fs_log.proofs.OpenCauses.{open_lacking, question_cause}
use Rattle.fs_log.proofs.Ways.{asks_nothing}
use Rattle.fs_log.proofs.finding.find_file.Goals as goal

pub returns-in_err-path-clause-asks : goal.returns-in_err-path-clause-asks
returns-in_err-path-clause-asks g c = λ told.
    asks_none g.S.Blocks.state g.S.Blocks.tells (blocks_in c.args.fs.now) (c.calls_compose.ensures.rests told) (λ s trees img known left. c.a_crash_leaves_the_tree_of_a_point.ensures.now s trees img told known left)

pub returns-in_err-found-clause-bad : goal.returns-in_err-found-clause-bad
returns-in_err-found-clause-bad g c = λ told.
    passed_on c.from_residual-in_err-found.result c.in_err-found.field-0.0 _ c.from_residual-in_err-found.ensures.1
    (λ bad f session leads.
    let answers = subst (λ path. AnswersQuestion f (Stat path) c.question-reply.result) c.in_ok-path.ensures (c.question-reply.ensures.answers told f session) in
    let refused = stat_refused c.what_is_in_a_log_is_told.ensures.stat f (session_sound c.a_tree_that_stands_is_sound.ensures.sound (g.S.Blocks.state (blocks_in c.args.fs.now)) f session) c.args.first leads.0 leads.1 c.question-reply.result answers c.in_err-found.ensures.fails.1 in
    absurd (refused_not_bad c.question-reply.result c.in_err-found.field-0.0 refused.0 c.in_err-found.ensures.fails.0 refused.2 bad))

pub returns-in-None-clause-bad : goal.returns-in-None-clause-bad
returns-in-None-clause-bad g c = λ told bad f session leads.
    let answers = subst (λ path. AnswersQuestion f (Stat path) c.question-reply.result) c.in_ok-path.ensures (c.question-reply.ensures.answers told f session) in
    absurd (told_some c.what_is_in_a_log_is_told.ensures.stat f (session_sound c.a_tree_that_stands_is_sound.ensures.sound (g.S.Blocks.state (blocks_in c.args.fs.now)) f session) c.args.first leads.0 leads.1 c.question-reply.result answers (c.in_ok-found.ensures.told ∙ ap stat_reply c.in-None.is))

pub returns-in_err-file-clause-bad : goal.returns-in_err-file-clause-bad
returns-in_err-file-clause-bad g c = λ told.
    passed_on c.from_residual-in_err-file.result c.in_err-file.field-0.0 _ c.from_residual-in_err-file.ensures.1
    (λ bad f session leads.
    let answers = subst (λ path. AnswersQuestion f (Stat path) c.question-reply.result) c.in_ok-path.ensures (c.question-reply.ensures.answers told f session) in
    let thing = told_thing c.what_is_in_a_log_is_told.ensures.stat f (session_sound c.a_tree_that_stands_is_sound.ensures.sound (g.S.Blocks.state (blocks_in c.args.fs.now)) f session) c.args.first leads.0 leads.1 c.question-reply.result answers c.in-Some.stat (c.in_ok-found.ensures.told ∙ ap stat_reply c.in-Some.is) in
    let s = g.S.Blocks.state (blocks_in c.args.fs.now) in
    no_file c.a_tree_has_no_log_where.ensures.directory f.tree c.args.first leads.0 c.in-Some.stat leads.1 thing.1
    (λ bytes is. small_file s.books.geom s.map f.tree leads.0 bytes session.tree is) c.in_err-file.ensures.none.1)

pub returns-clause-file : goal.returns-clause-file
returns-clause-file g c = λ told f session leads.
    let answers = subst (λ path. AnswersQuestion f (Stat path) c.question-reply.result) c.in_ok-path.ensures (c.question-reply.ensures.answers told f session) in
    let thing = told_thing c.what_is_in_a_log_is_told.ensures.stat f (session_sound c.a_tree_that_stands_is_sound.ensures.sound (g.S.Blocks.state (blocks_in c.args.fs.now)) f session) c.args.first leads.0 leads.1 c.question-reply.result answers c.in-Some.stat (c.in_ok-found.ensures.told ∙ ap stat_reply c.in-Some.is) in
    let file = c.in_ok-file.ensures.file in
    a_file f.tree c.args.first leads.0 c.in_ok-file.file.node c.in_ok-file.file.size c.in-Some.stat leads.1 thing.0 thing.1 file.0 file.1 file.2

pub returns-in_err-path-clause-cause : goal.returns-in_err-path-clause-cause
returns-in_err-path-clause-cause g c = λ has. passed_on c.from_residual.result (FsRefused NoMemory) _ c.from_residual.ensures.1 (open_lacking g.S.Blocks.tells g.S.Blocks.state (blocks_in c.args.fs.now) (blocks_in c.args.fs.now) (λ told. asks_nothing g.S.Blocks.tells g.S.Blocks.state (λ cmd. ⊥) (blocks_in c.args.fs.now)))

pub returns-in_err-found-clause-cause : goal.returns-in_err-found-clause-cause
returns-in_err-found-clause-cause g c = λ has.
    let old = blocks_in c.args.fs.now in
    let new = blocks_in c.question-reply.new.fs in
    passed_on c.from_residual-in_err-found.result c.in_err-found.field-0.0 _ c.from_residual-in_err-found.ensures.1
    (subst (λ why. IsNotOpened g.S.Blocks.tells g.S.Blocks.state why old new) (sym c.in_err-found.ensures.fails.0)
    (question_cause g.S.Blocks.tells g.S.Blocks.state (Stat c.in_ok-path.path) c.question-reply.result old new c.question-reply.ensures.was (inr (inr (inr (c.args.first, inl (ap Stat c.in_ok-path.ensures)))))
    (λ told.
    let h = has told in
    let f = h.0 in
    let session = h.1 in
    let answers = subst (λ path. AnswersQuestion f (Stat path) c.question-reply.result) c.in_ok-path.ensures (c.question-reply.ensures.answers told f session) in
    (stat_refused c.what_is_in_a_log_is_told.ensures.stat f (session_sound c.a_tree_that_stands_is_sound.ensures.sound (g.S.Blocks.state (blocks_in c.args.fs.now)) f session) c.args.first h.2.0 h.2.1 c.question-reply.result answers c.in_err-found.ensures.fails.1, c.question-reply.ensures.calm told))))

pub returns-in_err-file-clause-cause : goal.returns-in_err-file-clause-cause
returns-in_err-file-clause-cause g c = λ has.
    passed_on c.from_residual-in_err-file.result c.in_err-file.field-0.0 _ c.from_residual-in_err-file.ensures.1
    (subst (λ why. IsNotOpened g.S.Blocks.tells g.S.Blocks.state why (blocks_in c.args.fs.now) (blocks_in c.question-reply.new.fs)) (sym c.in_err-file.ensures.none.0) tt)
