use Rattle.std.proofs.Common.{◌≡◌, ◌<◌, length, ℕ, take, slice_get, Some}
use Rattle.layout_bytes.specs.declared.slot.Slot.{Slot}
use Rattle.fs_check.specs.Slots.{AreCounted, MayName}
use Rattle.fs_check.proofs.counts.count_slots.Given as goal

abbrev pub invariant-loop-place : goal.invariant-loop-place
invariant-loop-place l = record {
  same : length l.named ≡ length l.fn.named;
  counted : AreCounted (take l.place l.slots) l.fn.named l.named;
  names : (i : ℕ) (s : Slot) → i < l.place → slice_get l.slots i ≡ Some s → MayName l.nodes s.node;
}
