use Rattle.std.proofs.Common.{ℕ, Bool, inl, refl}
use Rattle.lang_tree.specs.Tree.{Tree, Bounds}
use Rattle.lang_tree.specs.Step.{Session}
use Rattle.lang_tree.proofs.laws.a_wait_raises_what_is_durable.Goals as goal

-- the session of this tree that made two points, of which so many are on the disk
abbrev known : Tree → Bounds → Bool → ℕ → Session
known t limit changed n = record { tree = t; limit = limit; points = 2; changed = changed; durable = n }

pub returns-clause-answers : goal.returns-clause-answers
returns-clause-answers c = λ t limit changed. (
  known t limit changed 1,
  inl refl,
  (
    known t limit changed 1,
    inl refl,
    (known t limit changed 2, inl refl, (known t limit changed 2, inl refl, (known t limit changed 2, inl refl, (known t limit changed 2, inl refl, refl)))),
  ),
)
