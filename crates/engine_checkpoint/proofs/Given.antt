-- The tickets that notes expect are of writes that the disk accepted.
use Rattle.std.proofs.Common.{◌≡◌, ℕ, not, true, List, sym, ◌∙◌, subst}
use Rattle.std.proofs.lemmas.Bool.{and_parts}
use Rattle.disk_contract.specs.declared.event.Event.{Event}
use Rattle.disk_contract.specs.Cell.{IsAccepted, notices}
use Rattle.engine_notes.specs.declared.notes.Note.{Note}
use Rattle.engine_notes.specs.Notes.{Expected, is_expected, is_noticed, is_open}
use Rattle.engine_checkpoint.specs.Agree.{NotesAreGiven}
use Rattle.engine_checkpoint.specs.Waits.{HearsMore, OnlyNotices}
use Rattle.engine_checkpoint.proofs.Apart.{accepted_more}
use Rattle.engine_checkpoint.proofs.Hears.{expected_same}

-- they are so still where notices came and were heard
pub given_heard : (log new : List Event) (old now : Expected) → NotesAreGiven log old.notes → HearsMore old now → OnlyNotices log new → NotesAreGiven new now.notes
given_heard log new old now given hears only u e = subst (IsAccepted u) (sym only.log) (accepted_more u log (notices only.tickets) (given u (sym (expected_same old.notes now.notes hears.tickets u) ∙ e)))

-- an open ticket is expected
pub open_expected : (u : ℕ) (ns : List Note) → is_open u ns ≡ true → is_expected u ns ≡ true
open_expected u ns is = (and_parts (is_expected u ns) (not (is_noticed u ns)) is).0
