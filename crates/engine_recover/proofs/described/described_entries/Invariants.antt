use Rattle.std.proofs.Common.{false, ◌≡◌, ◌+◌, ◌*◌, min, length}
use Rattle.base_types.specs.Seal.{Blocks}
use Rattle.crash_record.specs.Found.{HasCommit, HasParts}
use Rattle.engine_recover.specs.Reading.{Gives, Searches}
use Rattle.engine_recover.proofs.described.described_entries.Given as goal

-- the list has what the descriptors before this one have, and nothing but reads was done
abbrev pub invariant-loop-index : goal.invariant-loop-index
invariant-loop-index g l = record {
  only : Searches g.D.Disk.tells false (g.D.Disk.state l.fn.disk) (g.D.Disk.state l.disk);
  count : length l.list.items ≡ min (24 * l.index) (l.commit.payloads + l.commit.fresh);
  parts : (img : Blocks) → Gives g.D.Disk.tells (g.D.Disk.state l.fn.disk) img → HasCommit img l.header l.commit.number l.place l.commit
      → HasParts img l.header l.commit.number l.place (l.commit.payloads + l.commit.fresh) l.index l.list.items;
}
