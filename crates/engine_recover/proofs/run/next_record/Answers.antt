use Rattle.std.proofs.Common.{sym, ◌∙◌, arith, true≢false}
use Rattle.layout_journal.specs.Run.{Record}
use Rattle.crash_record.specs.Found.{MayCome}
use Rattle.engine_recover.specs.Candidate.{IsCandidate}
use Rattle.engine_recover.proofs.Candidates.{narrow, narrow_not, narrow_none}
use Rattle.engine_recover.proofs.Readings.{still_gives}
use Rattle.engine_recover.proofs.run.next_record.Goals as goal

pub returns-then-left-eq0-clause-found : goal.returns-then-left-eq0-clause-found
returns-then-left-eq0-clause-found g c = λ img gives q num at x. absurd (omega (arith, x.within, c.if-left-eq0.true))

pub returns-in_default-clause-found : goal.returns-in_default-clause-found
returns-in_default-clause-found g c = λ img gives.
    let none = rw c.in_default.is at c.in_ok-found.ensures.found img gives in
    narrow_none (IsCandidate img c.args.header.now c.args.left) (MayCome img c.args.header.now c.args.left)
    (λ (r : Record) x. record { described = (c.whole_records_pass_their_tests.ensures img c.args.header.now r).described x.whole; let_in = x.let_in; within = x.within }) _ c.args.place none

pub returns-then-not-whole-clause-found : goal.returns-then-not-whole-clause-found
returns-then-not-whole-clause-found g c = λ img gives.
    let only = rw c.in-Some.is at c.in_ok-found.ensures.found img gives in
    let test = c.in_ok-whole.ensures.whole img (still_gives _ _ _ _ img c.candidate_at.ensures.reads gives) only.has.described in
    narrow_not (IsCandidate img c.args.header.now c.args.left) (MayCome img c.args.header.now c.args.left)
    (λ (r : Record) x. record { described = (c.whole_records_pass_their_tests.ensures img c.args.header.now r).described x.whole; let_in = x.let_in; within = x.within }) _ c.args.place c.in-Some.found only
    (λ x. true≢false (sym (test.1 x.whole) ∙ c.if-not-whole.true))

pub returns-clause-found : goal.returns-clause-found
returns-clause-found g c = λ img gives.
    let only = rw c.in-Some.is at c.in_ok-found.ensures.found img gives in
    let test = c.in_ok-whole.ensures.whole img (still_gives _ _ _ _ img c.candidate_at.ensures.reads gives) only.has.described in
    narrow (IsCandidate img c.args.header.now c.args.left) (MayCome img c.args.header.now c.args.left)
    (λ (r : Record) x. record { described = (c.whole_records_pass_their_tests.ensures img c.args.header.now r).described x.whole; let_in = x.let_in; within = x.within }) _ c.args.place c.in-Some.found only
    (record { whole = test.0 c.if-not-whole.false; let_in = only.has.let_in; within = only.has.within })
