-- The formatted disk, and the header with which a mount opens it.
use Rattle.std.specs.Prelude.{ℕ, List, [], ◌∷◌}
use Rattle.disk_contract.specs.declared.event.Event.{Event}
use Rattle.disk_contract.specs.declared.event.Event.TheVariants.{Wrote, Noticed}
use Rattle.layout_geometry.specs.Geometry.{Geometry}
use Rattle.layout_journal.specs.Spelling.{header_block}
use Rattle.layout_journal.specs.Formatted.{empty_header}

-- the events of its first mount: a header of the next epoch in the other slot, and its notice
abbrev pub mount_events : Geometry → ℕ → List Event
mount_events g ticket = Wrote ticket 1 (header_block (empty_header g 2 2)) ∷ Noticed ticket ∷ []
