use Rattle.std.proofs.Common.{◌≡◌, ◌+◌, ◌*◌, subst, arith}
use Rattle.lang_log.specs.Names.{segment_name}
use Rattle.lang_log.specs.Spelling.{HasPassed, Passes}
use Rattle.fs_log.proofs.Causes.{passed_on}
use Rattle.fs_log.proofs.Whole.{at_least, more_passed, none_begins, torn}
use Rattle.fs_log.proofs.finding.pass_window.Goals as goal

pub returns-in_err-window-clause-bad : goal.returns-in_err-window-clause-bad
returns-in_err-window-clause-bad g c = λ told.
    passed_on c.from_residual.result c.in_err-window.field-0.0 _ c.from_residual.ensures.1
    (λ bad f node bytes count session file passed some. absurd (c.in_err-window.ensures.bad told bad f node bytes session file))

pub returns-then-passed-eq0-clause-bad : goal.returns-then-passed-eq0-clause-bad
returns-then-passed-eq0-clause-bad g c = λ told bad f node bytes count session file passed some.
    let taken = c.pass-passed.result.bytes in
    let window = c.in_ok-window.window in
    let passes : Passes window 65540 c.pass-passed.result.appends taken = subst (λ q. Passes q 65540 c.pass-passed.result.appends taken) c.as_slice.ensures c.pass-passed.ensures in
    let none : c.pass-passed.result.appends ≡ 0 = omega (arith, c.if-passed-eq0.true) in
    c.a_tree_has_no_log_where.ensures.torn f.tree (segment_name c.args.first) node bytes file.at file.file
    (λ appends short is. torn c.appends_are_read_back.ensures bytes count c.args.offset 65540 window passed some (c.in_ok-window.ensures.bytes told f node bytes session file) (omega arith)
    (none_begins window 65540 taken (omega arith) (subst (λ n. Passes window 65540 n taken) none passes)) appends short is)

pub returns-clause-some : goal.returns-clause-some
returns-clause-some g c =
    let passed = c.pass-passed.ensures.so_far in
    (omega (arith, c.if-passed-eq0.false), omega (arith, passed.counts, passed.takes, at_least passed.passed))

pub returns-clause-passes : goal.returns-clause-passes
returns-clause-passes g c = λ told f node bytes count session file passed.
    let more = c.pass-passed.result.appends in
    let taken = c.pass-passed.result.bytes in
    more_passed bytes count c.args.offset 65540 c.in_ok-window.window more taken passed (c.in_ok-window.ensures.bytes told f node bytes session file)
    (subst (λ q. HasPassed q more taken) c.as_slice.ensures c.pass-passed.ensures.so_far)

pub returns-in_err-window-clause-cause : goal.returns-in_err-window-clause-cause
returns-in_err-window-clause-cause g c = λ has. passed_on c.from_residual.result c.in_err-window.field-0.0 _ c.from_residual.ensures.1 (c.in_err-window.ensures.cause has)
