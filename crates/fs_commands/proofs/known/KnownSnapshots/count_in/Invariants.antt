use Rattle.std.proofs.Common.{◌≡◌, ◌≢◌, ◌<◌, length, take}
use Rattle.std.specs.List.{All, AllPairs}
use Rattle.fs_files.specs.Shared.{keepers}
use Rattle.fs_commands.specs.Known.{CountsIn}
use Rattle.fs_commands.proofs.known.KnownSnapshots.count_in.Given as goal

abbrev pub invariant-loop-b : goal.invariant-loop-b
invariant-loop-b l = record {
  counts : All (λ b. b < length l.fn.self.counts) l.list → All (λ b. keepers l.fn.self.counts b < 65535) l.list → AllPairs (λ a b. a ≢ b) l.list
      → CountsIn (take l.b-index l.list) l.fn.self.counts l.self-inside.shared;
  numbers : l.self-inside.numbers.entries ≡ l.fn.self.numbers;
}
