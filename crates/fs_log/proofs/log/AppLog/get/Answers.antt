use Rattle.std.proofs.Common.{◌≡◌, refl, ◌-◌, ◌∙◌, subst, sym, arith}
use Rattle.fs_commands.specs.Opened.{blocks_in}
use Rattle.fs_log.specs.Keeping.{Keeps, TakesLog, as_before}
use Rattle.fs_log.specs.Open.{Open, state_in}
use Rattle.fs_log.specs.Reading.{IsLastUpto}
use Rattle.fs_log.specs.Causes.{AsksToGet, HasCallCause, ReadsSegment}
use Rattle.fs_log.specs.Refusals.{is_of_look, is_of_none}
use Rattle.fs_log.specs.Ways.{Way}
use Rattle.fs_log.proofs.Causes.{cause_later, no_own, passed_on}
use Rattle.fs_log.proofs.Getting.{got, has_append}
use Rattle.fs_log.proofs.Mirroring.{mirrors_over, same_next}
use Rattle.fs_log.proofs.Windows.{segment_over}
use Rattle.fs_log.proofs.Writing.{no_time, resting, rests_twice}
use Rattle.fs_log.proofs.Ways.{asks_later, asks_nothing, asks_only}
use Rattle.fs_log.proofs.log.AppLog.get.Goals as goal

pub returns-then-number-low-clause-goes : goal.returns-then-number-low-clause-goes
returns-then-number-low-clause-goes g c = λ told.
    (resting g.S.Blocks.state (blocks_in c.args.self.now.fs) (c.calls_compose.ensures.rests told) (λ s trees img known left. c.a_crash_leaves_the_tree_of_a_point.ensures.now s trees img told known left)).takes

pub returns-then-next-number-clause-goes : goal.returns-then-next-number-clause-goes
returns-then-next-number-clause-goes g c = λ told.
    (resting g.S.Blocks.state (blocks_in c.args.self.now.fs) (c.calls_compose.ensures.rests told) (λ s trees img known left. c.a_crash_leaves_the_tree_of_a_point.ensures.now s trees img told known left)).takes

pub invariant_of-self : goal.invariant_of-self
invariant_of-self g c = record {
  follows = c.seek.ensures.follows;
  least = c.self.invariant.least;
  most = c.self.invariant.most;
  kept = c.self.invariant.kept;
  mirrors = λ told. mirrors_over (g.S.Blocks.state (blocks_in c.self.inside.fs)) (g.S.Blocks.state (blocks_in c.seek.new.fs)) c.self.inside.firsts.items c.self.inside.size c.self.inside.next
      (λ segments l held. (c.seek.ensures.asks told).rests.holds segments l held) (c.self.invariant.mirrors told);
}

pub returns-in_err-offset-clause-goes : goal.returns-in_err-offset-clause-goes
returns-in_err-offset-clause-goes g c = λ told.
    subst (λ q. TakesLog as_before (state_in g.S.Blocks.state q) (g.S.Blocks.state (blocks_in c.seek.new.fs))) c.self.view_is
    (c.seek.ensures.asks told).rests.takes

pub invariant_of-self-in_err-bytes : goal.invariant_of-self-in_err-bytes
invariant_of-self-in_err-bytes g c = record {
  follows = c.append_at.ensures.follows;
  least = c.self.invariant.least;
  most = c.self.invariant.most;
  kept = c.self.invariant.kept;
  mirrors = λ told. mirrors_over (g.S.Blocks.state (blocks_in c.self.inside.fs)) (g.S.Blocks.state (blocks_in c.append_at.new.fs)) c.self.inside.firsts.items c.self.inside.size c.self.inside.next
      (λ segments l held. (c.append_at.ensures.asks told).rests.holds segments l ((c.seek.ensures.asks told).rests.holds segments l held)) (c.self.invariant.mirrors told);
}

pub returns-in_err-bytes-clause-goes : goal.returns-in_err-bytes-clause-goes
returns-in_err-bytes-clause-goes g c = λ told.
    subst (λ q. TakesLog as_before (state_in g.S.Blocks.state q) (g.S.Blocks.state (blocks_in c.append_at.new.fs))) c.self.view_is
    (rests_twice g.S.Blocks.state c.calls_compose.ensures.advances (blocks_in c.self.inside.fs) (blocks_in c.seek.new.fs) (blocks_in c.append_at.new.fs) (c.seek.ensures.asks told).rests (c.append_at.ensures.asks told).rests).takes

pub invariant_of-self-2 : goal.invariant_of-self-2
invariant_of-self-2 g c = record {
  follows = c.append_at.ensures.follows;
  least = c.self.invariant.least;
  most = c.self.invariant.most;
  kept = c.self.invariant.kept;
  mirrors = λ told. mirrors_over (g.S.Blocks.state (blocks_in c.self.inside.fs)) (g.S.Blocks.state (blocks_in c.append_at.new.fs)) c.self.inside.firsts.items c.self.inside.size c.self.inside.next
      (λ segments l held. (c.append_at.ensures.asks told).rests.holds segments l ((c.seek.ensures.asks told).rests.holds segments l held)) (c.self.invariant.mirrors told);
}

pub returns-clause-goes : goal.returns-clause-goes
returns-clause-goes g c = λ told.
    subst (λ q. TakesLog as_before (state_in g.S.Blocks.state q) (g.S.Blocks.state (blocks_in c.append_at.new.fs))) c.self.view_is
    (rests_twice g.S.Blocks.state c.calls_compose.ensures.advances (blocks_in c.self.inside.fs) (blocks_in c.seek.new.fs) (blocks_in c.append_at.new.fs) (c.seek.ensures.asks told).rests (c.append_at.ensures.asks told).rests).takes

pub returns-clause-bytes : goal.returns-clause-bytes
returns-clause-bytes g c = λ told h keeps.
    let l = c.self.inside in
    let state = g.S.Blocks.state (blocks_in l.fs) in
    got c.an_append_lies_in_its_segment.ensures.number c.an_append_lies_in_its_segment.ensures.next c.a_tree_has_one_log.ensures
    state l.firsts.items l.size l.next c.args.number c.first_for-first.result c.in_ok-bytes.bytes h (c.self.invariant.mirrors told)
    (omega (arith, c.if-next-number.false, c.range-low.ensures.shown.1, same_next c.self.view_is))
    (subst (λ q. IsLastUpto c.args.number q c.first_for-first.result) c.as_slice.ensures.value c.first_for-first.ensures)
    (λ s holds first. c.in_ok-bytes.ensures.bytes told s (c.args.number - c.first_for-first.result) (segment_over s state (g.S.Blocks.state (blocks_in c.seek.new.fs)) (c.seek.ensures.asks told).rests holds) first
    (c.in_ok-offset.ensures.at told s holds first))
    (subst (λ q. Keeps h (state_in g.S.Blocks.state q)) (sym c.self.view_is) keeps)

pub returns-in_err-offset-clause-cause : goal.returns-in_err-offset-clause-cause
returns-in_err-offset-clause-cause g c =
    let l = c.self.inside in
    let open_now : Open g.row.S.Denot = record { fs = l.fs; most = l.most; firsts = l.firsts.items; size = l.size; next = l.next; kept = l.kept } in
    let first = c.first_for-first.result in
    let last : IsLastUpto c.args.number l.firsts.items first = subst (λ q. IsLastUpto c.args.number q first) c.as_slice.ensures.value c.first_for-first.ensures in
    let old = blocks_in l.fs in
    passed_on c.from_residual.result c.in_err-offset.field-0.0 _ c.from_residual.ensures.1
    (subst (λ q. HasCallCause g.S.Blocks.tells g.S.Blocks.state is_of_look (AsksToGet q c.args.number) c.in_err-offset.field-0.0 (blocks_in q.fs) (blocks_in c.seek.new.fs)) c.self.view_is
    (cause_later g.S.Blocks.tells g.S.Blocks.state c.calls_compose.ensures.advances (λ told s. no_time g.S.Blocks.state (c.calls_compose.ensures.rests told) s)
    is_of_none is_of_look (ReadsSegment first) (AsksToGet open_now c.args.number) c.in_err-offset.field-0.0 old old (blocks_in c.seek.new.fs)
    (no_own is_of_look) (λ cmd asked. (first, last, asked)) (λ told. no_time g.S.Blocks.state (c.calls_compose.ensures.rests told) old) (λ told. asks_nothing g.S.Blocks.tells g.S.Blocks.state (AsksToGet open_now c.args.number) old)
    (c.in_err-offset.ensures.cause (λ told. has_append c.an_append_lies_in_its_segment.ensures.number c.an_append_lies_in_its_segment.ensures.next c.a_tree_has_one_log.ensures
    (g.S.Blocks.state old) l.firsts.items l.size l.next c.args.number first (c.self.invariant.mirrors told) (omega (arith, c.if-next-number.false, c.range-low.ensures.shown.1, same_next c.self.view_is)) last))))

pub returns-in_err-bytes-clause-cause : goal.returns-in_err-bytes-clause-cause
returns-in_err-bytes-clause-cause g c =
    let l = c.self.inside in
    let open_now : Open g.row.S.Denot = record { fs = l.fs; most = l.most; firsts = l.firsts.items; size = l.size; next = l.next; kept = l.kept } in
    let first = c.first_for-first.result in
    let last : IsLastUpto c.args.number l.firsts.items first = subst (λ q. IsLastUpto c.args.number q first) c.as_slice.ensures.value c.first_for-first.ensures in
    let old = blocks_in l.fs in
    let mid = blocks_in c.seek.new.fs in
    passed_on c.from_residual-in_err-bytes.result c.in_err-bytes.field-0.0 _ c.from_residual-in_err-bytes.ensures.1
    (subst (λ q. HasCallCause g.S.Blocks.tells g.S.Blocks.state is_of_look (AsksToGet q c.args.number) c.in_err-bytes.field-0.0 (blocks_in q.fs) (blocks_in c.append_at.new.fs)) c.self.view_is
    (cause_later g.S.Blocks.tells g.S.Blocks.state c.calls_compose.ensures.advances (λ told s. no_time g.S.Blocks.state (c.calls_compose.ensures.rests told) s)
    is_of_none is_of_look (ReadsSegment first) (AsksToGet open_now c.args.number) c.in_err-bytes.field-0.0 old mid (blocks_in c.append_at.new.fs)
    (no_own is_of_look) (λ cmd asked. (first, last, asked)) (λ told. (c.seek.ensures.asks told).rests.time) (λ told. asks_only g.S.Blocks.tells g.S.Blocks.state (AsksToGet open_now c.args.number) old mid (c.seek.ensures.asks told).way)
    (c.in_err-bytes.ensures.cause (λ told.
    let has = has_append c.an_append_lies_in_its_segment.ensures.number c.an_append_lies_in_its_segment.ensures.next c.a_tree_has_one_log.ensures
    (g.S.Blocks.state old) l.firsts.items l.size l.next c.args.number first (c.self.invariant.mirrors told) (omega (arith, c.if-next-number.false, c.range-low.ensures.shown.1, same_next c.self.view_is)) last in record {
      others = c.args.number - first;
      has = record {
        segment = has.segment;
        holds = segment_over has.segment (g.S.Blocks.state old) (g.S.Blocks.state mid) (c.seek.ensures.asks told).rests has.holds;
        begins = has.begins;
        some = has.some;
      };
      at = c.in_ok-offset.ensures.at told has.segment has.holds has.begins;
    }))))

pub returns-then-number-low-clause-cause : goal.returns-then-number-low-clause-cause
returns-then-number-low-clause-cause g c = (refl, λ told. asks_nothing g.S.Blocks.tells g.S.Blocks.state (AsksToGet c.args.self.now c.args.number) (blocks_in c.args.self.now.fs))

pub returns-then-next-number-clause-cause : goal.returns-then-next-number-clause-cause
returns-then-next-number-clause-cause g c = (refl, λ told. asks_nothing g.S.Blocks.tells g.S.Blocks.state (AsksToGet c.args.self.now c.args.number) (blocks_in c.args.self.now.fs))

pub returns-clause-asked : goal.returns-clause-asked
returns-clause-asked g c = λ told.
    subst (λ q. Way g.S.Blocks.tells g.S.Blocks.state (AsksToGet c.args.self.now c.args.number) (blocks_in q.fs) (blocks_in c.append_at.new.fs)) c.self.view_is
    (asks_later g.S.Blocks.tells g.S.Blocks.state (AsksToGet c.args.self.now c.args.number) (blocks_in c.self.inside.fs) (blocks_in c.seek.new.fs) (blocks_in c.append_at.new.fs)
    (asks_only g.S.Blocks.tells g.S.Blocks.state (AsksToGet c.args.self.now c.args.number) (blocks_in c.self.inside.fs) (blocks_in c.seek.new.fs) (c.seek.ensures.asks told).way)
    (asks_only g.S.Blocks.tells g.S.Blocks.state (AsksToGet c.args.self.now c.args.number) (blocks_in c.seek.new.fs) (blocks_in c.append_at.new.fs) (c.append_at.ensures.asks told).way))
