use Rattle.std.proofs.Common.{length}
use Rattle.base_types.specs.Seal.{blocks_of}
use Rattle.crash_plain_recovery.proofs.Headers.{sized}
use Rattle.crash_plain_recovery.proofs.newest.newest_header.Goals as goal

pub returns-clause-size : goal.returns-clause-size
returns-clause-size c = sized (length c.args.image.now) c.newer_header.result (c.newer_header.ensures.within (length c.args.image.now) c.header_in-first.ensures.within c.header_in-second.ensures.within)

pub returns-clause-missing : goal.returns-clause-missing
returns-clause-missing c = c.newer_header.ensures.missing (length c.args.image.now) (blocks_of c.args.image.now) c.header_in-first.ensures.value c.header_in-second.ensures.value
