use Rattle.std.proofs.Common.{subst, arith}
use Rattle.lang_log.specs.Spelling.{Passes}
use Rattle.fs_commands.specs.Opened.{blocks_in}
use Rattle.fs_log.proofs.Causes.{passed_on}
use Rattle.fs_log.proofs.Windows.{are_short, passed_at, some_pass}
use Rattle.fs_log.proofs.reading.pass_some.Goals as goal

pub returns-clause-at : goal.returns-clause-at
returns-clause-at g c = λ told s others h first at.
    passed_at c.appends_are_read_back.ensures s c.args.offset others at (are_short s (g.S.Blocks.state (blocks_in c.args.fs.now)) h) c.in_ok-window.window (c.in_ok-window.ensures.bytes told s h first)
    c.args.most c.pass-passed.result.appends c.pass-passed.result.bytes (subst (λ q. Passes q c.args.most c.pass-passed.result.appends c.pass-passed.result.bytes) c.as_slice.ensures c.pass-passed.ensures)

pub returns-in_err-window-clause-cause : goal.returns-in_err-window-clause-cause
returns-in_err-window-clause-cause g c = λ has asked. passed_on c.from_residual.result c.in_err-window.field-0.0 _ c.from_residual.ensures.1 (c.in_err-window.ensures.cause has)

pub returns-then-passed-eq0-clause-cause : goal.returns-then-passed-eq0-clause-cause
returns-then-passed-eq0-clause-cause g c = λ has asked. (
  λ told.
      let at = has told in
      let s = at.has.segment in
      some_pass c.appends_are_read_back.ensures s c.args.offset at.others at.at (are_short s (g.S.Blocks.state (blocks_in c.args.fs.now)) at.has.holds)
      c.in_ok-window.window (c.in_ok-window.ensures.bytes told s at.has.holds at.has.begins) at.has.some
      c.args.most c.pass-passed.result.appends c.pass-passed.result.bytes (subst (λ q. Passes q c.args.most c.pass-passed.result.appends c.pass-passed.result.bytes) c.as_slice.ensures c.pass-passed.ensures) asked (omega (arith, c.if-passed-eq0.true)),
  c.in_ok-window.ensures.was,
)
