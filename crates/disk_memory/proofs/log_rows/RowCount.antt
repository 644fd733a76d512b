-- The writes of a log are the events that a filter keeps where it leaves out the notices.
use Rattle.std.proofs.Common.{◌≡◌, Bool, true, false, List, [], ◌∷◌, length, refl, arith}
use Rattle.std.specs.List.{filter}
use Rattle.disk_contract.specs.declared.event.Event.{Event}
use Rattle.disk_contract.specs.declared.event.Event.TheVariants.{Wrote, Lost, Noticed}
use Rattle.disk_memory.specs.Log.{write_count}

-- whether an event is a write
abbrev pub is_write : Event → Bool
is_write (Wrote t b x) = true
is_write (Lost b x) = true
is_write (Noticed t) = false

-- the filter keeps as many as there are writes
pub length-writes : (es : List Event) → length (filter is_write es) ≡ write_count es
length-writes [] = refl
length-writes (Wrote t b x ∷ es) = let rest = length-writes es in omega arith
length-writes (Lost b x ∷ es) = let rest = length-writes es in omega arith
length-writes (Noticed t ∷ es) = length-writes es
