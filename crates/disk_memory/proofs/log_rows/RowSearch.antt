-- What a search in a row in order says, and what it says in the row of tickets.
use Rattle.std.proofs.Common.{◌≡◌, ℕ, false, ◌+◌, ◌<◌, ◌≤◌, List, length, get_or, Option, Some, None, Result, Ok, Err, inl, inr, arith, ap, sym, ◌∙◌}
use Rattle.std.specs.Prelude.{IfSome, IfNone}
use Rattle.std.specs.Option.{is_some}
use Rattle.std.specs.Result.{result_ok}
use Rattle.std.specs.Ordering.{nat_cmp}
use Rattle.std.specs.List.{slice_get}
use Rattle.std.specs.List.Sorted.{IsNonDecreasing, IsBinarySearchResult}
use Rattle.std.proofs.lemmas.Bool.{cases_lt, false_from_ne_true}
use Rattle.std.proofs.lemmas.Option.{slice_get_within, get_or_from_slice_get, IfSome_then}
use Rattle.std.proofs.lemmas.List.Sorted.{searched}
use Rattle.disk_contract.specs.declared.event.Event.{Event}
use Rattle.disk_contract.specs.Cell.{is_accepted}
use Rattle.disk_memory.specs.Log.{tickets, write_count}
use Rattle.disk_memory.proofs.log_rows.RowTickets.{accepted_at, ticket_place}
use Rattle.disk_memory.proofs.log_rows.RowPlaces.{tickets_few}

-- between the smaller and the greater ones the number stands nowhere
apart : (row : List ℕ) (number i : ℕ) → ((k : ℕ) → k < i → get_or row k 0 < number) → ((k : ℕ) → i ≤ k → k < length row → number < get_or row k 0)
    → (p : ℕ) → slice_get row p ≡ Some number → ⊥
apart row number i low high p at =
    let within = slice_get_within row p number at in
    let is = get_or_from_slice_get row p number 0 at in
    elim (cases_lt p i) [
      | inl left ↦ omega (arith, low p left)
      | inr right ↦ omega (arith, high p right within)
    ]

-- a search that finds no place has none to find
pub absent : (row : List ℕ) (number : ℕ) (r : Result ℕ ℕ) → IsBinarySearchResult (λ y. nat_cmp y number) row r → IsNonDecreasing row → IfNone (result_ok r) ((p : ℕ) → slice_get row p ≡ Some number → ⊥)
absent row number (Ok i) is rises = tt
absent row number (Err i) is rises =
    let found = searched row number (Err i) is (λ i j le within. rises i j 0 le within) in
    apart row number i found.1 found.2

-- a place in the row of tickets fits where room for all writes does
pub place_short : (row : List ℕ) (log : List Event) (room t : ℕ) (r : Option ℕ) → row ≡ tickets log → write_count log ≤ room → room < 4294967296
    → IfSome r (λ p. slice_get row p ≡ Some t) → IfSome r (λ i. i + 1 < 4294967296)
place_short row log room t r is few short there =
    IfSome_then r there (λ p at. let within = slice_get_within row p t at in omega (arith, tickets_few log, ap length is))

-- where the row has no such ticket, no write has it
pub none_accepted : (row : List ℕ) (log : List Event) (t : ℕ) (r : Option ℕ) → row ≡ tickets log → IfNone r ((p : ℕ) → slice_get row p ≡ Some t → ⊥) → IfNone r (is_accepted t log ≡ false)
none_accepted row log t (Some p) is none = tt
none_accepted row log t None is none = false_from_ne_true (is_accepted t log) (λ a. let place = ticket_place log t a in none place.0 (ap (λ (l : List ℕ). slice_get l place.0) is ∙ place.1))

-- there is a place where a write has the ticket, and nowhere else
pub found_is_accepted : (log : List Event) (t : ℕ) (r : Option ℕ) → IfSome r (λ p. slice_get (tickets log) p ≡ Some t) → IfNone r (is_accepted t log ≡ false) → is_some r ≡ is_accepted t log
found_is_accepted log t (Some p) there none = sym (accepted_at log p t there)
found_is_accepted log t None there none = sym none
