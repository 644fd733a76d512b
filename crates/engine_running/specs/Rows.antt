-- The blocks that a transaction has put, ascending by their numbers.
use Rattle.std.specs.Prelude.{◌≡◌, ◌≢◌, ℕ, ◌<◌, ◌==◌, nat_lt, if◌then◌else◌, List, [], ◌∷◌, slice_get, Option, Some, None}
use Rattle.engine_running.specs.declared.put.Put.{Put}

-- each block's number is above those before it
abbrev pub IsRising : List Put → Type 0
IsRising puts = (i k : ℕ) (p q : Put) → i < k → slice_get puts i ≡ Some p → slice_get puts k ≡ Some q → p.block < q.block

-- with this put, in place of an older one of its block
abbrev pub with_put : Put → List Put → List Put
with_put p [] = p ∷ []
with_put p (q ∷ qs) = if nat_lt q.block p.block then q ∷ with_put p qs else if q.block == p.block then p ∷ qs else p ∷ q ∷ qs

-- without the put of this block
abbrev pub without_put : ℕ → List Put → List Put
without_put b [] = []
without_put b (q ∷ qs) = if q.block == b then qs else q ∷ without_put b qs

-- the bytes that were put for a block
abbrev pub put_of : ℕ → List Put → Option (List ℕ)
put_of b [] = None
put_of b (q ∷ qs) = if q.block == b then Some q.bytes else put_of b qs

-- none of the puts is of this block
abbrev pub LacksBlock : ℕ → List Put → Type 0
LacksBlock b puts = (k : ℕ) (p : Put) → slice_get puts k ≡ Some p → p.block ≢ b
