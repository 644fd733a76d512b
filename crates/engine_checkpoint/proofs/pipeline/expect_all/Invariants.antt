use Rattle.std.proofs.Common.{◌≡◌, ◌≤◌, ◌+◌, ◌||◌, ℕ, take}
use Rattle.crash_argument.specs.HomeTest.{is_one_of}
use Rattle.engine_notes.specs.Notes.{is_expected, is_noticed}
use Rattle.engine_checkpoint.proofs.pipeline.expect_all.Given as goal

abbrev pub invariant-loop-ticket : goal.invariant-loop-ticket
invariant-loop-ticket l = record {
  room : l.fn.notes.room ≤ l.notes.room + l.ticket-index;
  expected : (u : ℕ) → is_expected u l.notes.notes ≡ (is_one_of u (take l.ticket-index l.tickets) || is_expected u l.fn.notes.notes);
  noticed : (u : ℕ) → is_noticed u l.notes.notes ≡ is_noticed u l.fn.notes.notes;
}
