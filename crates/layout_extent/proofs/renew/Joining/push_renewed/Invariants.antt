use Rattle.std.proofs.Common.{◌≡◌, ◌≤◌, ◌+◌, ◌++◌, ℕ, List, length, drop}
use Rattle.layout_extent.specs.Renew.{IsJoined, makes_way, renew}
use Rattle.layout_extent.proofs.renew.Joining.push_renewed.Given as goal

-- what came so far, and what the rest gives, make the whole
abbrev pub invariant-loop-place : goal.invariant-loop-place
invariant-loop-place g l =
    ((xs : List ℕ) → IsJoined l.fn.self xs → (ys : List ℕ) × IsJoined l.self ys
    × (ys ++ renew (makes_way l.from l.past (g.S.BlockSet.has l.set) l.old) l.place (drop l.place l.old) (drop l.used l.list)
    ≡ xs ++ renew (makes_way l.from l.past (g.S.BlockSet.has l.set) l.old) l.from (drop l.from l.old) l.list))
    × (l.used ≤ length l.list) × (l.self.runs ≤ l.fn.self.runs + l.place)
