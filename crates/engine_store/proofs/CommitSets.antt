-- What commit blocks say, in a list, is a set, so that what is told of it needs no choice of a ledger.
use Rattle.std.proofs.Common.{◌≡◌, ℕ, List, Some, refl}
use Rattle.std.specs.Coded.{Coded, Coded-set, code_by, coded×, coded_list, coded_option, coded_ℕ}
use Rattle.std.proofs.Math.Logic.{∥∥₁_elim}
use Rattle.layout_journal.specs.declared.record.Commit.{Commit}

commit_code : Coded Commit
commit_code =
    code_by (ℕ × (ℕ × (ℕ × (ℕ × ℕ)))) (coded× coded_ℕ (coded× coded_ℕ (coded× coded_ℕ (coded× coded_ℕ coded_ℕ))))
    (λ c. (c.epoch, (c.number, (c.descriptors, (c.payloads, c.fresh))))) (λ p. record { epoch = p.0; number = p.1.0; descriptors = p.1.1.0; payloads = p.1.1.1.0; fresh = p.1.1.1.1 }) (λ c. refl)

-- lists of them are equal whichever ledger says so
pub same_by_some : {A : Type 0} (xs ys : List Commit) → ∥ A ∥₁ → (A → xs ≡ ys) → xs ≡ ys
same_by_some xs ys some is = ∥∥₁_elim some (Coded-set (coded_list commit_code) xs ys) is
