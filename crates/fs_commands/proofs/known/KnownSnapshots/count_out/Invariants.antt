use Rattle.std.proofs.Common.{◌≡◌, ◌≢◌, ◌<◌, take}
use Rattle.std.specs.List.{All, AllPairs}
use Rattle.fs_files.specs.Shared.{keepers}
use Rattle.fs_commands.specs.Known.{CountsOut}
use Rattle.fs_commands.proofs.known.KnownSnapshots.count_out.Given as goal

abbrev pub invariant-loop-b : goal.invariant-loop-b
invariant-loop-b l = record {
  counts : All (λ b. 0 < keepers l.fn.self.counts b) l.list → AllPairs (λ a b. a ≢ b) l.list → CountsOut (take l.b-index l.list) l.fn.self.counts l.self-inside.shared;
  numbers : l.self-inside.numbers.entries ≡ l.fn.self.numbers;
}
