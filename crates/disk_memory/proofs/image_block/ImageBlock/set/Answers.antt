-- Bytes that are all zero are a block of zeros.
use Rattle.std.proofs.Common.{◌≡◌, ℕ, ◌==◌, true, List, [], ◌∷◌, length, replicate, eqb-true, refl, sym, ap, ap₂, ◌∙◌}
use Rattle.std.specs.List.{list_all}
use Rattle.std.proofs.lemmas.Bool.{and_parts}
use Rattle.disk_memory.proofs.image_block.ImageBlock.set.Goals as goal

all_zeros : (xs : List ℕ) → list_all (λ (b : ℕ). b == 0) xs ≡ true → xs ≡ replicate (length xs) 0
all_zeros [] e = refl
all_zeros (x ∷ xs) e =
    let both = and_parts (x == 0) (list_all (λ (b : ℕ). b == 0) xs) e in
    ap₂ ◌∷◌ (eqb-true x 0 both.0) (all_zeros xs both.1)

pub returns-then-are_zeros-clause-done : goal.returns-then-are_zeros-clause-done
returns-then-are_zeros-clause-done c =
    sym (all_zeros c.args.bytes.now (sym c.are_zeros.ensures ∙ c.if-are_zeros.true) ∙ ap (λ n. replicate n 0) c.told-bytes)
