-- The block that has a snapshot's name. It is described in docs/LAYOUT.md.
use Rattle.std.specs.Prelude.{ℕ, ◌-◌, List, ◌∷◌, ◌++◌, length, replicate}

-- how a snapshot's name is in its block: how many bytes it has, these bytes, and zeros
abbrev pub name_block : List ℕ → List ℕ
name_block name = length name ∷ (name ++ replicate (1023 - length name) 0)
