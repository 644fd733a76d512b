use Rattle.std.proofs.Common.{◌≡◌, take}
use Rattle.fs_session.specs.Snapshots.{alone_among}
use Rattle.fs_commands.proofs.known.KnownSnapshots.alone.Given as goal

abbrev pub invariant-loop-b : goal.invariant-loop-b
invariant-loop-b l = l.list.items ≡ alone_among l.self.counts l.files (take l.b-index l.kept)
