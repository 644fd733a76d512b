use Rattle.std.proofs.Common.{◌≡◌, ◌+◌, ◌*◌, ◌-◌, refl, subst, sym, arith}
use Rattle.lang_log.specs.Spelling.{HasPassed}
use Rattle.fs_commands.specs.Opened.{blocks_in}
use Rattle.fs_log.proofs.Causes.{passed_on}
use Rattle.fs_log.proofs.Questioning.{asks_none, asks_twice}
use Rattle.fs_log.proofs.Whole.{all_passed, none_passed, passed_within}
use Rattle.fs_log.proofs.OpenCauses.{open_later}
use Rattle.fs_log.proofs.Writing.{no_time}
use Rattle.fs_log.proofs.finding.count_appends.Goals as goal

pub loop-offset-init : goal.loop-offset-init
loop-offset-init g c = (
  c.requires.follows,
  λ told. asks_none g.S.Blocks.state g.S.Blocks.tells (blocks_in c.args.fs.now) (c.calls_compose.ensures.rests told) (λ s trees img known left. c.a_crash_leaves_the_tree_of_a_point.ensures.now s trees img told known left),
  omega arith,
  λ told f node bytes session file. none_passed bytes,
)

pub loop-offset-preserved : goal.loop-offset-preserved
loop-offset-preserved g c =
    let before = c.loop-offset.invariant in
    let passed = c.in_ok-passed.passed in (
      c.pass_window.ensures.follows,
      λ told. asks_twice g.S.Blocks.state c.calls_compose.ensures.advances g.S.Blocks.tells (blocks_in c.args.fs.now) (blocks_in c.loop-offset.fs) (blocks_in c.pass_window.new.fs) (before.1 told) (c.pass_window.ensures.asks told),
      omega (arith, before.2, c.in_ok-passed.ensures.some, c.in-Some.ensures.found),
      λ told f node bytes session file.
          subst (λ n. HasPassed bytes (c.loop-offset.appends + passed.appends) n) (sym c.in-Some.ensures.found)
          (c.in_ok-passed.ensures.passes told f node bytes c.loop-offset.appends ((before.1 told).keeps.session f session) file (before.3 told f node bytes session file)),
    )

pub returns-in_err-passed-clause-asks : goal.returns-in_err-passed-clause-asks
returns-in_err-passed-clause-asks g c = λ told.
    asks_twice g.S.Blocks.state c.calls_compose.ensures.advances g.S.Blocks.tells (blocks_in c.args.fs.now) (blocks_in c.loop-offset.fs) (blocks_in c.pass_window.new.fs) (c.loop-offset.invariant.1 told) (c.pass_window.ensures.asks told)

pub returns-in_err-passed-clause-bad : goal.returns-in_err-passed-clause-bad
returns-in_err-passed-clause-bad g c = λ told.
    let before = c.loop-offset.invariant in
    passed_on c.from_residual.result c.in_err-passed.field-0.0 _ c.from_residual.ensures.1
    (λ bad f node bytes session file size.
    c.in_err-passed.ensures.bad told bad f node bytes c.loop-offset.appends ((before.1 told).keeps.session f session) file (before.3 told f node bytes session file)
    (omega (arith, c.loop-offset-test.true, size)))

pub returns-in-None-clause-asks : goal.returns-in-None-clause-asks
returns-in-None-clause-asks g c = λ told.
    asks_twice g.S.Blocks.state c.calls_compose.ensures.advances g.S.Blocks.tells (blocks_in c.args.fs.now) (blocks_in c.loop-offset.fs) (blocks_in c.pass_window.new.fs) (c.loop-offset.invariant.1 told) (c.pass_window.ensures.asks told)

pub returns-in-None-clause-bad : goal.returns-in-None-clause-bad
returns-in-None-clause-bad g c = λ told bad f node bytes session file size.
    let before = c.loop-offset.invariant in
    let passed = c.in_ok-passed.passed in
    let more = c.in_ok-passed.ensures.passes told f node bytes c.loop-offset.appends ((before.1 told).keeps.session f session) file (before.3 told f node bytes session file) in
    absurd (omega (arith, c.in-None.ensures.none refl, passed_within bytes (c.loop-offset.appends + passed.appends) (c.loop-offset.offset + passed.bytes) more, size))

pub returns-clause-count : goal.returns-clause-count
returns-clause-count g c = λ told f node bytes session file size.
    let before = c.loop-offset.invariant in
    all_passed bytes c.loop-offset.appends c.loop-offset.offset (before.3 told f node bytes session file) (omega (arith, c.loop-offset-test.false, size))

pub returns-in_err-passed-clause-cause : goal.returns-in_err-passed-clause-cause
returns-in_err-passed-clause-cause g c = λ has.
    let before = c.loop-offset.invariant in
    passed_on c.from_residual.result c.in_err-passed.field-0.0 _ c.from_residual.ensures.1
    (open_later g.S.Blocks.tells g.S.Blocks.state c.calls_compose.ensures.advances (λ told s. no_time g.S.Blocks.state (c.calls_compose.ensures.rests told) s) c.in_err-passed.field-0.0 (blocks_in c.args.fs.now) (blocks_in c.loop-offset.fs) (blocks_in c.pass_window.new.fs) before.1
    (c.in_err-passed.ensures.cause (λ told. let h = has told in (h.0, h.1, h.2, (before.1 told).keeps.session h.0 h.3, h.4))))
