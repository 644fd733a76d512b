use Rattle.std.proofs.Common.{◌≡◌, ◌++◌, map}
use Rattle.fs_commands.specs.Known.{names_in}
use Rattle.fs_commands.proofs.known.KnownSnapshots.names.Given as goal

abbrev pub invariant-loop-name : goal.invariant-loop-name
invariant-loop-name l = l.names.items ++ map (λ e. e.0) l.name-iterator ≡ names_in l.self
