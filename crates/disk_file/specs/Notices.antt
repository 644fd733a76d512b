-- Which tickets of a disk are over: they had their notice, or never get one. The rules are described in docs/BAYS.md.
use Rattle.std.specs.Prelude.{ℕ, ◌==◌, ◌||◌, Bool, IsTrue, List, nat_le}
use Rattle.std.specs.List.{list_any}

-- the tickets that are over: those up to a number, and those of a list; none of the list is above the second number
pub record NoticesState : Type 0 where
  pub upto : ℕ
  pub waited : List ℕ
  pub most : ℕ

-- whether a ticket is over
abbrev pub is_over : ℕ → NoticesState → Bool
is_over t n = nat_le t n.upto || list_any (λ u. u == t) n.waited

-- a ticket that is over stays so
abbrev pub StaysOver : NoticesState → NoticesState → Type 0
StaysOver old new = (t : ℕ) → IsTrue (is_over t old) → IsTrue (is_over t new)
