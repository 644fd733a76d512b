use Rattle.std.proofs.Common.{◌≡◌, ◌+◌, ◌-◌, ap, drop, subst, sym, arith}
use Rattle.lang_log.specs.Spelling.{spellings}
use Rattle.fs_commands.specs.Opened.{blocks_in}
use Rattle.fs_log.specs.Causes.{HasCallCause, ReadsSegment}
use Rattle.fs_log.specs.Reading.{IsAt}
use Rattle.fs_log.specs.Refusals.{is_of_none}
use Rattle.fs_log.proofs.Causes.{cause_later, passed_on, was_later}
use Rattle.fs_log.proofs.Questioning.{asks_none, asks_twice}
use Rattle.fs_log.proofs.Small.{small_segment}
use Rattle.fs_log.proofs.Ways.{asks_only}
use Rattle.fs_log.proofs.Windows.{lies_within, segment_over}
use Rattle.fs_log.proofs.Writing.{no_time}
use Rattle.fs_log.proofs.reading.seek.Goals as goal

pub loop-left-init : goal.loop-left-init
loop-left-init g c = (
  c.requires.follows,
  λ told. asks_none g.S.Blocks.state g.S.Blocks.tells (blocks_in c.args.fs.now) (c.calls_compose.ensures.rests told) (λ s trees img known left. c.a_crash_leaves_the_tree_of_a_point.ensures.now s trees img told known left),
  omega arith,
  λ told s h first. let none : 0 ≡ c.args.others - c.args.others = omega arith in ap (λ n. spellings (drop n s.appends)) none,
)

pub returns-in_err-passed-clause-asks : goal.returns-in_err-passed-clause-asks
returns-in_err-passed-clause-asks g c = λ told.
    asks_twice g.S.Blocks.state c.calls_compose.ensures.advances g.S.Blocks.tells (blocks_in c.args.fs.now) (blocks_in c.loop-left.fs) (blocks_in c.pass_some.new.fs) (c.loop-left.invariant.1 told) (c.pass_some.ensures.asks told)

pub returns-in_err-offset-clause-asks : goal.returns-in_err-offset-clause-asks
returns-in_err-offset-clause-asks g c = λ told.
    asks_twice g.S.Blocks.state c.calls_compose.ensures.advances g.S.Blocks.tells (blocks_in c.args.fs.now) (blocks_in c.loop-left.fs) (blocks_in c.pass_some.new.fs) (c.loop-left.invariant.1 told) (c.pass_some.ensures.asks told)

pub loop-left-preserved : goal.loop-left-preserved
loop-left-preserved g c =
    let before = c.loop-left.invariant in
    let passed = c.in_ok-passed.passed in (
      c.pass_some.ensures.follows,
      λ told. asks_twice g.S.Blocks.state c.calls_compose.ensures.advances g.S.Blocks.tells (blocks_in c.args.fs.now) (blocks_in c.loop-left.fs) (blocks_in c.pass_some.new.fs) (before.1 told) (c.pass_some.ensures.asks told),
      omega (arith, before.2),
      λ told s h first.
          let count : (c.args.others - c.loop-left.left) + passed.appends ≡ c.args.others - (c.loop-left.left - passed.appends) = omega (arith, before.2, c.in_ok-passed.ensures.some) in
          subst (λ n. IsAt s n (c.args.others - (c.loop-left.left - passed.appends))) (sym c.in_ok-offset.ensures.sum)
          (subst (λ n. IsAt s (c.loop-left.offset + passed.bytes) n) count
          (c.in_ok-passed.ensures.at told s (c.args.others - c.loop-left.left) (segment_over s (g.S.Blocks.state (blocks_in c.args.fs.now)) (g.S.Blocks.state (blocks_in c.loop-left.fs)) (before.1 told).rests h) first (before.3 told s h first))),
    )

pub returns-clause-at : goal.returns-clause-at
returns-clause-at g c = λ told s h first.
    let all : c.args.others - c.loop-left.left ≡ c.args.others = omega (arith, c.loop-left-test.false) in
    subst (λ n. IsAt s c.loop-left.offset n) all (c.loop-left.invariant.3 told s h first)

pub returns-in_err-passed-clause-cause : goal.returns-in_err-passed-clause-cause
returns-in_err-passed-clause-cause g c = λ has.
    let old = blocks_in c.args.fs.now in
    let mid = blocks_in c.loop-left.fs in
    let new = blocks_in c.pass_some.new.fs in
    let before = c.loop-left.invariant in
    passed_on c.from_residual.result c.in_err-passed.field-0.0 _ c.from_residual.ensures.1
    (cause_later g.S.Blocks.tells g.S.Blocks.state c.calls_compose.ensures.advances (λ told s. no_time g.S.Blocks.state (c.calls_compose.ensures.rests told) s)
    is_of_none is_of_none (ReadsSegment c.args.first) (ReadsSegment c.args.first) c.in_err-passed.field-0.0 old mid new (λ why own. own) (λ cmd is. is) (λ told. (before.1 told).rests.time) (λ told. asks_only g.S.Blocks.tells g.S.Blocks.state (ReadsSegment c.args.first) old mid (before.1 told).way)
    (c.in_err-passed.ensures.cause (λ told. let a = has told in record {
      others = c.args.others - c.loop-left.left;
      has = record {
        segment = a.segment;
        holds = segment_over a.segment (g.S.Blocks.state old) (g.S.Blocks.state mid) (before.1 told).rests a.holds;
        begins = a.begins;
        some = omega (arith, a.some);
      };
      at = before.3 told a.segment a.holds a.begins;
    }) (omega (arith, c.loop-left-test.true))))

pub returns-in_err-offset-clause-cause : goal.returns-in_err-offset-clause-cause
returns-in_err-offset-clause-cause g c = λ has.
    let old = blocks_in c.args.fs.now in
    let mid = blocks_in c.loop-left.fs in
    let new = blocks_in c.pass_some.new.fs in
    let before = c.loop-left.invariant in
    let passed = c.in_ok-passed.passed in
    let was = c.in_ok-passed.ensures.was in
    passed_on c.from_residual-in_err-offset.result c.in_err-offset.field-0.0 _ c.from_residual-in_err-offset.ensures.1
    (subst (λ w. HasCallCause g.S.Blocks.tells g.S.Blocks.state is_of_none (ReadsSegment c.args.first) w old new) (sym c.in_err-offset.ensures.why) (
      λ told.
          let a = has told in
          let s = a.segment in
          let next = c.in_ok-passed.ensures.at told s (c.args.others - c.loop-left.left) (segment_over s (g.S.Blocks.state old) (g.S.Blocks.state mid) (before.1 told).rests a.holds) a.begins (before.3 told s a.holds a.begins) in
          let within = lies_within s (c.loop-left.offset + passed.bytes) ((c.args.others - c.loop-left.left) + passed.appends) next (omega (arith, a.some, before.2, c.in_ok-passed.ensures.some)) in
          omega (arith, c.in_err-offset.ensures.past, within, small_segment s (g.S.Blocks.state old) a.holds),
      (
        was.0,
        was.1,
        was_later g.S.Blocks.tells g.S.Blocks.state c.calls_compose.ensures.advances (λ told s. no_time g.S.Blocks.state (c.calls_compose.ensures.rests told) s)
            (ReadsSegment c.args.first) was.0 old mid new (λ told. (before.1 told).rests.time) (λ told. asks_only g.S.Blocks.tells g.S.Blocks.state (ReadsSegment c.args.first) old mid (before.1 told).way) was.2,
      ),
    ))
