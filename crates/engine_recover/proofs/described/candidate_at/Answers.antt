use Rattle.std.proofs.Common.{refl, sym, ◌∙◌, subst, arith, true≢false}
use Rattle.crash_record.specs.Found.{HasCommit, IsOnly}
use Rattle.engine_recover.specs.Candidate.{IsCandidate}
use Rattle.engine_recover.proofs.Candidates.{shut_out, comes, places_are}
use Rattle.engine_recover.proofs.Readings.{still_gives}
use Rattle.engine_recover.proofs.described.candidate_at.Goals as goal

pub returns-in_default-clause-found : goal.returns-in_default-clause-found
returns-in_default-clause-found g c = λ img gives q num at x.
    (c.records_are_described_by_their_blocks.ensures img c.args.header.now _ c.args.place).no_commit (c.in_ok-commit.ensures.missing img gives c.in_default.is) q num at x.described

pub returns-then-not-may_come-clause-found : goal.returns-then-not-may_come-clause-found
returns-then-not-may_come-clause-found g c = λ img gives.
    let found = rw c.in-Some.is at c.in_ok-commit.ensures.found img gives in
    shut_out img c.args.header.now c.args.left _ c.args.place (c.records_are_described_by_their_blocks.ensures img c.args.header.now _ c.args.place) c.in-Some.commit found
    (λ may. true≢false (sym (c.may_come.ensures.1 may) ∙ c.if-not-may_come.true))

pub returns-in_default-2-clause-found : goal.returns-in_default-2-clause-found
returns-in_default-2-clause-found g c = λ img gives.
    let found = rw c.in-Some.is at c.in_ok-commit.ensures.found img gives in
    let has : HasCommit img c.args.header.now c.in-Some.commit.number c.args.place c.in-Some.commit = record { stands = found.stands; epoch = found.epoch; is_number = refl } in
    let none = rw c.in_default-2.is at c.in_ok-entries.ensures.missing img (still_gives _ _ _ _ img c.commit_at.ensures.reads gives) has in
    λ q num at x. none refl q (num ∙ sym found.is_number) at x.described

pub new-requires : goal.new-requires
new-requires g c =
    let count = rw c.in-Some-2.is at c.in_ok-entries.ensures.count in
    omega (arith, count)

pub returns-clause-found : goal.returns-clause-found
returns-clause-found g c = λ img gives.
    let found = rw c.in-Some.is at c.in_ok-commit.ensures.found img gives in
    let has : HasCommit img c.args.header.now c.in-Some.commit.number c.args.place c.in-Some.commit = record { stands = found.stands; epoch = found.epoch; is_number = refl } in
    let parts = rw c.in-Some-2.is at c.in_ok-entries.ensures.found img (still_gives _ _ _ _ img c.commit_at.ensures.reads gives) has in
    let laws = c.records_are_described_by_their_blocks.ensures img c.args.header.now c.in-Some.commit.number c.args.place in
    subst (λ n. IsOnly (IsCandidate img c.args.header.now c.args.left) n c.args.place c.in_ok-found.found) found.is_number
    (comes img c.args.header.now c.args.left c.in-Some.commit.number c.args.place laws c.in-Some.commit c.in_ok-found.found has (c.may_come.ensures.0 c.if-not-may_come.false)
    (laws.one_record c.in-Some.commit c.in-Some-2.entries.items c.in_ok-found.found has parts c.in_ok-found.ensures))

pub returns-clause-within : goal.returns-clause-within
returns-clause-within g c =
    let count = rw c.in-Some-2.is at c.in_ok-entries.ensures.count in
    let ring = rw c.in-Some.is at c.in_ok-commit.ensures.within in
    let may = c.may_come.ensures.0 c.if-not-may_come.false in
    omega (arith, places_are c.in-Some.commit c.in-Some-2.entries.items c.in_ok-found.found c.in-Some.commit.number c.args.place count ring.descriptors c.in_ok-found.ensures, may.within)
