use Rattle.std.specs.Prelude.{◌≡◌, ◌≤◌, ◌-◌, length, take}
use Rattle.std.specs.Io.KnownBytes.{Appends}
use Rattle.base_io.proofs.whole.push_all.Given as goal

-- the prefix of that length was taken, and no push failed
abbrev pub invariant-loop-done : goal.invariant-loop-done
invariant-loop-done g l =
    (l.done ≤ length l.bytes)
    × Appends (g.K.Sink.taken l.fn.out) (g.K.Sink.taken l.out) (take l.done l.bytes)
    × (g.K.Sink.faults l.out ≡ g.K.Sink.faults l.fn.out)

-- what is left of the piece
abbrev pub decreases-loop-done : goal.decreases-loop-done
decreases-loop-done g l = length l.bytes - l.done
