use Rattle.std.proofs.Common.{◌≡◌, ◌&&◌, ℕ, not, true, take}
use Rattle.std.specs.VecDeque.{deque_capacity}
use Rattle.engine_notes.specs.Notes.{is_expected, is_noticed, is_among, are_rising}
use Rattle.engine_notes.proofs.notes.take_all_out.Given as goal

abbrev pub invariant-loop-ticket : goal.invariant-loop-ticket
invariant-loop-ticket l = record {
  rising : are_rising l.notes.items ≡ true;
  expected : (u : ℕ) → is_expected u l.notes.items ≡ (not (is_among u (take l.ticket-index l.tickets)) && is_expected u l.fn.notes.items);
  noticed : (u : ℕ) → is_noticed u l.notes.items ≡ (not (is_among u (take l.ticket-index l.tickets)) && is_noticed u l.fn.notes.items);
  capacity : deque_capacity l.notes ≡ deque_capacity l.fn.notes;
}
