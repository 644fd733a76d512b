-- A transaction that changed nothing is in order.
use Rattle.std.proofs.Common.{◌≡◌, ℕ, List, [], sym, subst, arith}
use Rattle.std.proofs.lemmas.Bool.Decides.{nat_tests}
use Rattle.std.proofs.lemmas.Option.{none-some}
use Rattle.engine_running.specs.declared.put.Put.{Put}
use Rattle.engine_running.specs.Rows.{IsRising}
use Rattle.engine_running.specs.Running.{IsOrdered, IsRisingNumbers}

no_puts : (puts : List Put) → puts ≡ [] → IsRising puts
no_puts puts e = subst IsRising (sym e) (λ i k p q lt is at. absurd (none-some p is))

pub begins_ordered : (paid laid : List Put) → paid ≡ [] → laid ≡ [] → IsOrdered paid laid
begins_ordered paid laid p l = grind (arith, nat_tests, no_puts)

pub no_numbers : (ns : List ℕ) → ns ≡ [] → IsRisingNumbers ns
no_numbers ns e = subst (λ (l : List ℕ). IsRisingNumbers l) (sym e) (λ i k m n lt is at. absurd (none-some m is))
