-- The tickets that polls answer are open.
use Rattle.std.proofs.Common.{◌≡◌, ℕ, ◌==◌, Bool, true, false, not, List, length, Some, None, subst, ◌/◌, ◌%◌, if◌then◌else◌}
use Rattle.std.specs.List.{All, slice_get}
use Rattle.std.proofs.lemmas.Bool.{both_ways, not-true}
use Rattle.std.proofs.lemmas.List.Elements.{All-filter, All-get_or, filter_passes}
use Rattle.std.proofs.lemmas.Option.{get_or_from_slice_get, slice_get-get_or, slice_get_within}
use Rattle.base_types.specs.Draws.{next_state, drawn}
use Rattle.disk_contract.specs.declared.event.Event.{Event}
use Rattle.disk_contract.specs.Cell.{is_accepted, is_noticed}
use Rattle.disk_contract.specs.Disk.{IsOpen}
use Rattle.disk_memory.specs.declared.rule.Notices.{Notices}
use Rattle.disk_memory.specs.declared.rule.Notices.TheVariants as notices
use Rattle.disk_memory.specs.Log.{tickets, open_tickets}
use Rattle.disk_memory.specs.MemDisk.{polled}
use Rattle.disk_memory.proofs.log_rows.RowTickets.{accepted_at}

-- what is so of each element is so of the one at a place
all_at : (P : ℕ → Type 0) (xs : List ℕ) (k t : ℕ) → All P xs → slice_get xs k ≡ Some t → P t
all_at P xs k t all at = subst P (get_or_from_slice_get xs k t t at) (All-get_or P xs k t (slice_get_within xs k t at) all)

-- a ticket at a place of the open ones is open
open_at : (log : List Event) (k t : ℕ) → slice_get (open_tickets log) k ≡ Some t → IsOpen t log
open_at log k t at = (
  all_at (λ u. is_accepted u log ≡ true) (open_tickets log) k t (All-filter test (λ u. is_accepted u log ≡ true) (tickets log) (λ n d low. accepted_at log n _ (slice_get-get_or (tickets log) n d low))) at,
  λ noticed. both_ways (is_noticed t log) (not-true _ (all_at (λ u. test u ≡ true) (open_tickets log) k t (filter_passes test (tickets log)) at)) noticed,
)
  where
    test : ℕ → Bool
    test u = not (is_noticed u log)

-- so is the one that a draw gives
drawn_open : (log : List Event) (v : ℕ) (none : Bool) (t : ℕ) → (if none then None else slice_get (open_tickets log) ((v / 4) % length (open_tickets log))) ≡ Some t → IsOpen t log
drawn_open log v true t is = cc
drawn_open log v false t is = open_at log ((v / 4) % length (open_tickets log)) t is

-- and the one that a poll finds by any rule
pub polled_open : (rule : Notices) (log : List Event) (t : ℕ) → polled rule (open_tickets log) ≡ Some t → IsOpen t log
polled_open notices.Silent log t is = cc
polled_open notices.Fifo log t is = open_at log 0 t is
polled_open (notices.Drawn state) log t is = drawn_open log (drawn (next_state state)) (drawn (next_state state) % 4 == 0) t is
