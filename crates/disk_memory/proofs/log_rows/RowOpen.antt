-- The open tickets of a log, by the numbers of them that are kept.
use Rattle.std.proofs.Common.{◌≡◌, inl, inr, ℕ, ◌-◌, ◌<◌, ◌==◌, not, List, length, get_or, Some, None, sym, ◌∙◌, ap, arith}
use Rattle.std.proofs.Math.Bool.{not-not}
use Rattle.std.proofs.lemmas.Bool.{cases_lt}
use Rattle.std.proofs.lemmas.List.{get_or_read}
use Rattle.std.proofs.lemmas.Option.{slice_get-get_or, slice_get_past, none-some}
use Rattle.std.specs.List.{slice_get, list_any}
use Rattle.disk_contract.specs.declared.event.Event.{Event}
use Rattle.disk_contract.specs.Cell.{is_noticed}
use Rattle.disk_memory.specs.Log.{tickets, open_tickets, numbers_of}
use Rattle.disk_memory.proofs.log_rows.RowNumbers.{length-numbers_of, has_number, numbers_at}

-- there are as many numbers as open tickets
pub open_length : (log : List Event) (members : List ℕ) → members ≡ numbers_of (λ t. not (is_noticed t log)) 1 (tickets log) → length members ≡ length (open_tickets log)
open_length log members are = ap length are ∙ length-numbers_of (λ t. not (is_noticed t log)) 1 (tickets log)

-- where no number stands, no open ticket does
pub open_none : (log : List Event) (members : List ℕ) (place : ℕ) → members ≡ numbers_of (λ t. not (is_noticed t log)) 1 (tickets log) → slice_get members place ≡ None → slice_get (open_tickets log) place ≡ None
open_none log members place are none =
    let long = open_length log members are in
    elim (cases_lt place (length members)) [
      | inl within ↦ absurd (none-some (get_or members place 0) (sym none ∙ slice_get-get_or members place 0 within))
      | inr past ↦ slice_get_past (open_tickets log) place (omega arith)
    ]

-- a number that is kept is that of some ticket
pub open_number : (log : List Event) (members row : List ℕ) (place number : ℕ) → members ≡ numbers_of (λ t. not (is_noticed t log)) 1 (tickets log) → row ≡ tickets log → slice_get members place ≡ Some number
    → (0 < number) × (number - 1 < length row)
open_number log members row place number are is at =
    let found = numbers_at (λ t. not (is_noticed t log)) place number (tickets log) (sym (ap (λ (l : List ℕ). slice_get l place) are) ∙ at) in
    (found.0, omega (arith, found.1, ap length is))

-- and that ticket is open
pub open_some : (log : List Event) (members row : List ℕ) (place number t : ℕ) → members ≡ numbers_of (λ t. not (is_noticed t log)) 1 (tickets log) → row ≡ tickets log → slice_get members place ≡ Some number
    → t ≡ get_or row (number - 1) t → Some t ≡ slice_get (open_tickets log) place
open_some log members row place number t are is at read =
    let bounds = open_number log members row place number are is at in
    let found = numbers_at (λ t. not (is_noticed t log)) place number (tickets log) (sym (ap (λ (l : List ℕ). slice_get l place) are) ∙ at) in
    sym (found.2 ∙ ap (λ (l : List ℕ). Some (get_or l (number - 1) 0)) (sym is) ∙ ap (λ (n : ℕ). Some n) (sym (get_or_read row (number - 1) t bounds.1 read 0)))

-- a ticket is noticed where its number is not kept
pub noticed_by_number : (log : List Event) (members : List ℕ) (number t : ℕ) → members ≡ numbers_of (λ u. not (is_noticed u log)) 1 (tickets log) → 0 < number → slice_get (tickets log) (number - 1) ≡ Some t
    → not (list_any (λ member. member == number) members) ≡ is_noticed t log
noticed_by_number log members number t are above at =
    ap (λ (l : List ℕ). not (list_any (λ member. member == number) l)) are ∙ ap not (has_number (λ u. not (is_noticed u log)) number t (tickets log) above at) ∙ not-not (is_noticed t log)
