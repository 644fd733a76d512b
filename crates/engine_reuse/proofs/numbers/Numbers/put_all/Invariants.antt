use Rattle.std.proofs.Common.{◌≡◌, ◌||◌, take}
use Rattle.engine_reuse.specs.Numbers.{is_among, set_of}
use Rattle.engine_reuse.proofs.numbers.Numbers.put_all.Given as goal

-- so many numbers of the list are done
abbrev pub invariant-loop-b : goal.invariant-loop-b
invariant-loop-b l = l.self ≡ set_of l.initial.self.limit (λ b. is_among b (take l.b-index l.numbers) || is_among b l.initial.self.members)
