-- No bytes have no last one.
use Rattle.std.proofs.Common.{◌≡◌, ◌-◌, ◌==◌, ℕ, false, not, List, [], ◌∷◌, length, slice_index, eqb-true, refl, sym, ◌∙◌, arith}
use Rattle.layout_directory.proofs.directory.end_apart.Goals as goal

none : (xs ys : List ℕ) → length xs ≡ 0 → length xs ≡ length ys → false ≡ not (slice_index xs (length xs - 1) == slice_index ys (length xs - 1))
none [] [] e same = refl
none [] (y ∷ ys) e same = absurd (omega (arith, same))
none (x ∷ xs) ys e same = absurd (omega (arith, e))

pub returns-then-is_empty : goal.returns-then-is_empty
returns-then-is_empty c = none c.args.left.now c.args.right.now (eqb-true _ 0 (sym c.is_empty.ensures ∙ c.if-is_empty.true)) c.requires
