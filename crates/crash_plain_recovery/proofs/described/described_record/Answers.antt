use Rattle.std.proofs.Common.{refl, subst, arith}
use Rattle.base_types.specs.Seal.{blocks_of}
use Rattle.crash_record.specs.Found.{HasCommit, IsOnly, IsDescribed}
use Rattle.crash_plain_recovery.proofs.described.described_record.Goals as goal

pub returns-in_default : goal.returns-in_default
returns-in_default c = (c.records_are_described_by_their_blocks.ensures _ _ _ _).no_commit (c.commit_at.ensures.missing c.in_default.is)

pub new-requires : goal.new-requires
new-requires c =
    let found = c.in-Some.ensures.found in
    let has : HasCommit (blocks_of c.args.image.now) c.args.header.now c.in-Some.commit.number c.args.place c.in-Some.commit = record { stands = found.stands; epoch = found.epoch; is_number = refl } in
    let parts = rw c.in-Some-2.is at c.in_ok-entries.ensures.found in
    omega (arith, (c.records_are_described_by_their_blocks.ensures (blocks_of c.args.image.now) c.args.header.now c.in-Some.commit.number c.args.place).all_parts c.in-Some.commit c.in-Some-2.entries.items has parts)

pub returns : goal.returns
returns c =
    let found = c.in-Some.ensures.found in
    let has : HasCommit (blocks_of c.args.image.now) c.args.header.now c.in-Some.commit.number c.args.place c.in-Some.commit = record { stands = found.stands; epoch = found.epoch; is_number = refl } in
    let parts = rw c.in-Some-2.is at c.in_ok-entries.ensures.found in
    subst (λ n. IsOnly (IsDescribed (blocks_of c.args.image.now) c.args.header.now) n c.args.place c.in_ok-described.described) found.is_number
    ((c.records_are_described_by_their_blocks.ensures (blocks_of c.args.image.now) c.args.header.now c.in-Some.commit.number c.args.place).one_record c.in-Some.commit c.in-Some-2.entries.items c.in_ok-described.described has parts c.in_ok-described.ensures)
