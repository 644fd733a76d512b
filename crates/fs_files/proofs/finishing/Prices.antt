-- The blocks that a draft changes are those of its entries, and there are some where there are entries.
use Rattle.std.proofs.Common.{◌≡◌, ◌≢◌, ◌↔◌, ◌≤◌, ℕ, ◌==◌, ◌||◌, not, Bool, true, false, cond, IsTrue, List, [], ◌∷◌, length, Some, suc, is_some, refl, sym, ap, ◌∙◌, arith}
use Rattle.std.proofs.lemmas.Bool.{false≢true, or_left, or_right, cond-false, eq-eqb, ne_eqb}
use Rattle.std.specs.List.{AllPairs}
use Rattle.std.specs.Map.{keys_of}
use Rattle.std.specs.Ordering.{nat_cmp}
use Rattle.std.specs.BTreeMap.{is_at}
use Rattle.engine_blocks.specs.Running.{has}
use Rattle.fs_files.specs.declared.changes.Changed.{Changed}
use Rattle.fs_files.specs.Drafts.{change_of}
use Rattle.fs_files.proofs.finishing.Books.{key_is, by_keys}
use Rattle.fs_files.proofs.finishing.Few.{few}

pub keys_have : (cs : List (ℕ × Changed)) (b : ℕ) → is_some (change_of cs b) ≡ true → has (keys_of cs) b ≡ true
keys_have [] b is = absurd (false≢true is)
keys_have (c ∷ cs) b is = by (b == c.0) refl (keys_have cs b)
  where
    by : (t : Bool) → (b == c.0) ≡ t → (is_some (change_of cs b) ≡ true → has (keys_of cs) b ≡ true) → ((b == c.0) || has (keys_of cs) b) ≡ true
    by true e rest = or_left (b == c.0) (has (keys_of cs) b) e
    by false e rest = or_right (b == c.0) (has (keys_of cs) b)
        (rest (ap is_some (sym (cond-false (is_at (nat_cmp b) c.0) (Some c.1) (change_of cs b) (key_is b c.0 ∙ e))) ∙ is))

-- some block is changed where there are changes
pub some_changed : (cs : List (ℕ × Changed)) (n : ℕ) → n ≡ length cs → IsTrue (not (n == 0)) ↔ ((b : ℕ) × (is_some (change_of cs b) ≡ true))
some_changed [] n e = (λ t. absurd (false≢true (sym (ap not (eq-eqb n 0 e)) ∙ t)), λ some. absurd (false≢true some.1))
some_changed (c ∷ cs) n e =
    (λ t. (c.0, ap (λ u. is_some (cond u (Some c.1) (change_of cs c.0))) (key_is c.0 c.0 ∙ eq-eqb c.0 c.0 refl)), λ some. ap not (ne_eqb n 0 (λ z. absurd (omega (arith, z, e)))))

pub as_many_keys : (cs : List (ℕ × Changed)) → length (keys_of cs) ≡ length cs
as_many_keys [] = refl
as_many_keys (c ∷ cs) = ap suc (as_many_keys cs)

-- a list with each changed block has as many numbers as there are changes, or more
pub fewest_changed : (cs : List (ℕ × Changed)) (bs : List ℕ) → AllPairs (λ (a b : ℕ × Changed). a.0 ≢ b.0) cs → ((b : ℕ) → is_some (change_of cs b) ≡ true → has bs b ≡ true) → length cs ≤ length bs
fewest_changed cs bs once among = few (λ (e : ℕ × Changed). e.0) cs bs once (by_keys (λ b. has bs b ≡ true) cs (λ b c is. among b (ap is_some is)))
