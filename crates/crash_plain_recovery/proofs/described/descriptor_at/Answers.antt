use Rattle.base_types.specs.Seal.{blocks_of}
use Rattle.crash_plain_recovery.proofs.described.descriptor_at.Goals as goal

pub returns-clause-found : goal.returns-clause-found
returns-clause-found c = c.descriptor_in.ensures.found (blocks_of c.args.image.now) c.args.place c.ring_block.ensures

pub returns-clause-missing : goal.returns-clause-missing
returns-clause-missing c = c.descriptor_in.ensures.missing (blocks_of c.args.image.now) c.args.place c.ring_block.ensures
