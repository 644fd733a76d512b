-- Search trees over names that are clones of each other, or have equal entries, make the same finite map.
use Rattle.std.proofs.Common.{◌≡◌, ℕ, Bool, true, false, ◌&&◌, List, length, IsTrue, ◌↔◌, nat_eq, bytes_eq, sym, ap, ap₂, ◌∙◌, eqb-true, eq-eqb, arith}
use Rattle.std.proofs.lemmas.Bool.{and_parts}
use Rattle.std.specs.Cmp.Lexicographic.{pointwise, pointwise_decides, bytes_decides}
use Rattle.std.specs.FinMap.{entries, from_entries}
use Rattle.std.proofs.lemmas.Bool.Decides.{nat_tests}
use Rattle.fs_memtree.specs.Kept.{DirNames, name_cmp, names_in}
use Rattle.fs_memtree.proofs.keys.InOrder.{Rise, tree_in_order}

abbrev same_pair : List ℕ × ℕ → List ℕ × ℕ → Bool
same_pair p q = bytes_eq p.0 q.0 && nat_eq p.1 q.1

pair_decides : (p q : List ℕ × ℕ) → (same_pair p q ≡ true → p ≡ q) × (p ≡ q → same_pair p q ≡ true)
pair_decides p q = (there, back)
  where
    there : same_pair p q ≡ true → p ≡ q
    there same i = let parts = and_parts (bytes_eq p.0 q.0) (nat_eq p.1 q.1) same in
        ((bytes_decides p.0 q.0).0 parts.0 i, eqb-true p.1 q.1 parts.1 i)

    back : p ≡ q → same_pair p q ≡ true
    back is = ap₂ (λ a b. a && b) ((bytes_decides p.0 q.0).1 (ap (λ e. e.0) is)) (eq-eqb p.1 q.1 (ap (λ e. e.1) is))

entries_same : (es us : List (List ℕ × ℕ)) → Rise name_cmp es → Rise name_cmp us → names_in es ≡ names_in us → es ≡ us
entries_same es us rise ascends same = sym (tree_in_order es rise) ∙ ap entries same ∙ tree_in_order us ascends

pub same_names : (es us : List (List ℕ × ℕ)) (m n : DirNames) (r : Bool) → names_in es ≡ m → names_in us ≡ n
    → Rise name_cmp es → Rise name_cmp us → r ≡ pointwise (λ p q. bytes_eq p.0 q.0 && nat_eq p.1 q.1) es us → IsTrue r ↔ (m ≡ n)
same_names es us m n r first second rise ascends is = (
  λ holds. sym first ∙ ap from_entries ((pointwise_decides pair_decides es us).0 (sym is ∙ holds)) ∙ second,
  λ same. is ∙ (pointwise_decides pair_decides es us).1 (entries_same es us rise ascends (first ∙ same ∙ sym second)),
)

pub other_length : (es us : List (List ℕ × ℕ)) (m n : DirNames) → names_in es ≡ m → names_in us ≡ n
    → Rise name_cmp es → Rise name_cmp us → (length es ≡ length us → ⊥) → IsTrue false ↔ (m ≡ n)
other_length es us m n first second rise ascends differ = grind (arith, nat_tests, entries_same)
