-- A list of a `Vec` whose places were lent and came back.
use Rattle.std.proofs.Common.{◌≡◌, ℕ, List, ◌++◌, length, take, drop, ap, ◌∙◌, arith, take_all}
use Rattle.std.proofs.lemmas.List.{append-nil, drop_all}

-- as many came back as were lent
pub whole_list : {X : Type 0} (n : ℕ) (new items : List X) → n ≡ length items → length new ≡ n → take n (new ++ drop (length new) items) ≡ new
whole_list n new items is same =
    ap (λ xs. take n (new ++ xs)) (drop_all (length new) items (omega (arith, is, same)))
    ∙ ap (take n) (append-nil new)
    ∙ take_all n new (omega (arith, same))
