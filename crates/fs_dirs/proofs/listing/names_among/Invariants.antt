use Rattle.std.proofs.Common.{◌≡◌, ◌≤◌, length, map, take}
use Rattle.layout_bytes.specs.declared.slot.Slot.{Slot}
use Rattle.fs_dirs.proofs.listing.names_among.Given as goal

abbrev pub invariant-loop-slot : goal.invariant-loop-slot
invariant-loop-slot l = (l.slot-index ≤ length l.slots) × (l.names.items ≡ map (λ (s : Slot). s.name) (take l.slot-index l.slots))
