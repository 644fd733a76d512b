use Rattle.std.proofs.Common.{◌+◌}
use Rattle.base_types.specs.Seal.{blocks_of}
use Rattle.crash_record.specs.Found.{HasParts}
use Rattle.crash_plain_recovery.proofs.described.described_entries.Given as goal

-- the list has what the descriptors before this one have
abbrev pub invariant-loop-index : goal.invariant-loop-index
invariant-loop-index l = HasParts (blocks_of l.image) l.header l.commit.number l.place (l.commit.payloads + l.commit.fresh) l.index l.list.items
