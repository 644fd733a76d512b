-- A notice that a wait adds.
use Rattle.std.proofs.Common.{◌≡◌, ℕ, List, [], ◌∷◌, ◌++◌, ap, ◌∙◌}
use Rattle.disk_contract.specs.declared.event.Event.{Event}
use Rattle.disk_contract.specs.declared.event.Event.TheVariants.{Noticed}
use Rattle.disk_contract.specs.Cell.{is_noticed, IsNoticed}
use Rattle.disk_contract.specs.Disk.{IsOpen, AddsNotices}
use Rattle.disk_memory.proofs.log_rows.Events.{noticed_last}

-- after its notice a ticket is noticed
pub noticed_now : (t : ℕ) (old new : List Event) → new ≡ old ++ Noticed t ∷ [] → IsNoticed t new
noticed_now t old new is = ap (is_noticed t) is ∙ noticed_last t old

-- the notice of one open ticket
pub one_notice : (t : ℕ) (old new : List Event) → IsOpen t old → new ≡ old ++ Noticed t ∷ [] → AddsNotices old new
one_notice t old new is more = record { tickets = t ∷ []; open_before = (is, tt); log = more }
