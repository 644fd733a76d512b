-- What is noticed stays so as writes are added.
use Rattle.std.proofs.Common.{ℕ, List, [], ◌∷◌, ◌++◌, sym, subst, arith}
use Rattle.std.proofs.lemmas.Bool.Decides.{nat_tests}
use Rattle.std.proofs.lemmas.Bool.{false≢true}
use Rattle.disk_contract.specs.declared.event.Event.{Event}
use Rattle.disk_contract.specs.declared.event.Event.TheVariants.{Wrote, Lost, Noticed}
use Rattle.disk_contract.specs.Cell.{IsNoticed}
use Rattle.crash_argument.specs.Writes.{AddsWrites}

noticed_before : (t : ℕ) (log : List Event) (e : Event) → IsNoticed t log → IsNoticed t (log ++ e ∷ [])
noticed_before t [] e n = absurd (false≢true n)
noticed_before t (Wrote u b x ∷ log) e n = noticed_before t log e n
noticed_before t (Lost b x ∷ log) e n = noticed_before t log e n
noticed_before t (Noticed u ∷ log) e n = grind (arith, nat_tests, noticed_before t log e)

pub notices_stay : (ws : List (ℕ × List ℕ)) (ts : List ℕ) (old new : List Event) (t : ℕ) → AddsWrites ws ts old new → IsNoticed t old → IsNoticed t new
notices_stay [] [] old new t a n = subst (IsNoticed t) (sym a) n
notices_stay [] (u ∷ ts) old new t a n = absurd a
notices_stay (w ∷ ws) [] old new t a n = absurd a
notices_stay (w ∷ ws) (u ∷ ts) old new t a n = notices_stay ws ts (old ++ Wrote u w.0 w.1 ∷ []) new t a.2 (noticed_before t old (Wrote u w.0 w.1) n)
