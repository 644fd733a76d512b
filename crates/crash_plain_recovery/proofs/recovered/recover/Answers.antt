use Rattle.std.proofs.Common.{length, sym}
use Rattle.base_types.specs.Seal.{blocks_of}
use Rattle.crash_plain_recovery.proofs.Recoveries.{none_held, recovery_is}
use Rattle.crash_plain_recovery.proofs.recovered.recover.Goals as goal

pub returns-in_default-clause-missing : goal.returns-in_default-clause-missing
returns-in_default-clause-missing c = λ _. none_held (length c.args.image.now) (blocks_of c.args.image.now) (c.newest_header.ensures.missing c.in_default.is)

pub recoverable_run-requires : goal.recoverable_run-requires
recoverable_run-requires c = sym c.in-Some.ensures.size

pub replayed-requires : goal.replayed-requires
replayed-requires c = sym c.in-Some.ensures.size

pub returns-clause-found : goal.returns-clause-found
returns-clause-found c = recovery_is (length c.args.image.now) (blocks_of c.args.image.now) c.in-Some.slot c.in-Some.header c.in_ok-run.run' c.as_slice.result.now c.in_ok-blocks.blocks.items
    c.in-Some.ensures.found c.in-Some.ensures.size c.in_ok-run.ensures c.as_slice.ensures c.lawful.ensures.limits c.in_ok-blocks.ensures.count c.in_ok-blocks.ensures.each
