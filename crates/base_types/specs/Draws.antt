-- A row of draws: numbers below 2^31 that a seed decides. It is described in docs/DRAWS.md.
use Rattle.std.specs.Prelude.{ℕ, zero, suc, ◌+◌, ◌*◌, ◌/◌, ◌%◌, ◌^◌, List, [], ◌∷◌}

-- the state after one step: the state times the first number, and the second one more, without what lies above 64 bits
abbrev pub next_state : ℕ → ℕ
next_state state = (state * 6364136223846793005 + 1442695040888963407) % 2 ^ 64

-- what is drawn of a state after its step: its upper 31 bits
abbrev pub drawn : ℕ → ℕ
drawn state = state / 2 ^ 33

-- the first n draws from a state: what is drawn of the next one, and then the draws from there
abbrev pub draws : ℕ → ℕ → List ℕ
draws zero state = []
draws (suc n) state = drawn (next_state state) ∷ draws n (next_state state)
