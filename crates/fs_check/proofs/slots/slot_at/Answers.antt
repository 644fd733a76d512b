use Rattle.std.proofs.Common.{◌≡◌, ◌+◌, ◌-◌, min, true, length, take, drop, sym, ap, ap₂, ◌∙◌, arith, length-take, length-drop}
use Rattle.base_types.specs.Layouts.{slot_place, slot_size}
use Rattle.base_types.specs.LayoutLaws.{slot_apart}
use Rattle.layout_bytes.specs.Bytes.{has_zeros, when}
use Rattle.layout_bytes.specs.Slot.{slot_of}
use Rattle.fs_check.proofs.Joined.{gap_within, rank_within}
use Rattle.fs_check.proofs.Parsed.{parsed, small_part}
use Rattle.fs_check.proofs.slots.slot_at.Goals as goal

pub returns-then-count-end : goal.returns-then-count-end
returns-then-count-end c = λ long. absurd (omega (arith, long, c.slot_place-at.ensures, c.slot_length.ensures, c.if-count-end.true))

pub overflow_add-end : goal.overflow_add-end
overflow_add-end c = omega (arith, c.slot_place-at.ensures, c.slot_length.ensures, rank_within c.args.layout c.args.place c.requires)

pub has_zeros-requires-clause-order : goal.has_zeros-requires-clause-order
has_zeros-requires-clause-order c =
    omega (arith, c.min-next.ensures, c.slot_place.ensures, c.slot_place-at.ensures, c.slot_length.ensures, c.if-count-end.false, slot_apart c.args.layout c.args.place (c.args.place + 1) (omega arith))

pub returns-then-not-has_zeros : goal.returns-then-not-has_zeros
returns-then-not-has_zeros c = λ long.
    let l = c.args.layout in
    let bytes = c.args.bytes.now in
    sym (ap (λ t. when t (slot_of l (take (slot_size l) (drop (slot_place l c.args.place) bytes))))
    (sym (gap_within l bytes (slot_place l c.args.place + slot_size l) (slot_place l (c.args.place + 1)))
    ∙ ap₂ (has_zeros bytes) (sym (ap₂ (λ m n. m + n) c.slot_place-at.ensures c.slot_length.ensures)) (sym (c.min-next.ensures ∙ ap (λ n. min (length bytes) n) c.slot_place.ensures))
    ∙ sym c.has_zeros.ensures ∙ c.if-not-has_zeros.true))

pub returns : goal.returns
returns c = λ long.
    let l = c.args.layout in
    let bytes = c.args.bytes.now in
    let at = c.slot_place-at.result in
    let size = c.slot_length.result in
    let part = take (at + size - at) (drop at bytes) in
    let size_is : at + size - at ≡ slot_size l = omega (arith, c.slot_length.ensures) in
    let gap : has_zeros bytes (slot_place l c.args.place + slot_size l) (slot_place l (c.args.place + 1)) ≡ true =
    sym (gap_within l bytes (slot_place l c.args.place + slot_size l) (slot_place l (c.args.place + 1)))
    ∙ ap₂ (has_zeros bytes) (sym (ap₂ (λ m n. m + n) c.slot_place-at.ensures c.slot_length.ensures)) (sym (c.min-next.ensures ∙ ap (λ n. min (length bytes) n) c.slot_place.ensures))
    ∙ sym c.has_zeros.ensures ∙ c.if-not-has_zeros.false in
    c.ok.ensures.value
    ∙ parsed l part c.read_slot.result (c.slots_read_back.ensures.reads l)
    (λ s e. c.slots_read_back.ensures.spelled l part s (omega (arith, size_is, length-take (at + size - at) (drop at bytes), length-drop at bytes, c.slot_place-at.ensures, long)) (small_part bytes (at + size - at) at (λ j. omega (arith, c.type_inv.bytes j))) e)
    c.read_slot.ensures.found c.read_slot.ensures.refused
    ∙ ap₂ (λ n m. slot_of l (take n (drop m bytes))) size_is c.slot_place-at.ensures
    ∙ sym (ap (λ t. when t (slot_of l (take (slot_size l) (drop (slot_place l c.args.place) bytes)))) gap)
