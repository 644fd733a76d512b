use Rattle.std.proofs.Common.{◌≡◌, ◌≤◌, ◌++◌, Some, length, option_map}
use Rattle.base_types.specs.Layouts.{directory_bytes}
use Rattle.layout_bytes.specs.Slot.{slots_in}
use Rattle.fs_check.proofs.slots.push_slots.Given as goal

abbrev pub invariant-loop-place : goal.invariant-loop-place
invariant-loop-place l = directory_bytes l.layout l.entries ≤ length l.bytes → option_map (λ slots. l.fn.into.items ++ slots) (slots_in l.layout l.place l.bytes) ≡ Some l.into.items
