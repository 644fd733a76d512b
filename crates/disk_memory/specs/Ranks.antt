-- Numbers that join in order and are taken out in any order.
use Rattle.std.specs.Prelude.{ℕ, ◌+◌, Bool, not, ◌==◌, List, [], ◌∷◌, ◌++◌}
use Rattle.std.specs.List.{filter, list_any}

-- a set of numbers: its members in ascending order, how many numbers ever joined, and how many may
pub record RanksState : Type 0 where
  pub members : List ℕ
  pub joined : ℕ
  pub most : ℕ

-- the next number joins: one more than all that ever did
abbrev pub with_next : RanksState → RanksState
with_next s = record s { members = s.members ++ (s.joined + 1) ∷ []; joined = s.joined + 1 }

-- the number is no member any more
abbrev pub without : ℕ → RanksState → RanksState
without number s = record s { members = filter (λ member. not (member == number)) s.members }

-- whether the number is a member
abbrev pub is_member : ℕ → RanksState → Bool
is_member number s = list_any (λ member. member == number) s.members
