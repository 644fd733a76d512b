-- A slot that was read is spelled so, and a spelling would have been read.
use Rattle.std.proofs.Common.{◌≡◌, ◌<◌, ℕ, List, length, slice_index, Result, Ok, Err, IfOk, OnErr, Some, None, sym, ◌∙◌, ap, arith}
use Rattle.std.specs.Result.{result_ok}
use Rattle.base_types.specs.declared.layout.Layout.{Layout}
use Rattle.base_types.specs.Layouts.{slot_size}
use Rattle.layout_bytes.specs.Bytes.{ZerosAreTold}
use Rattle.layout_directory.specs.Slots.{Slot, IsSlot, slot_of}
use Rattle.layout_directory.proofs.Spelled.{reads, spelled, spelling_length}
use Rattle.layout_directory.proofs.slot.read_slot.Goals as goal

found : {E : Type 0} → ZerosAreTold → (l : Layout) (b : List ℕ) (r : Result Slot E) → length b ≡ slot_size l → ((i : ℕ) → slice_index b i < 256) → slot_of l b ≡ result_ok r
    → IfOk r (λ s. IsSlot l b s)
found told l b (Ok s) size below e = spelled told l b s size below e
found told l b (Err x) size below e = tt

refused : {E : Type 0} (l : Layout) (b : List ℕ) (r : Result Slot E) → slot_of l b ≡ result_ok r → OnErr r ((s : Slot) → IsSlot l b s → ⊥)
refused l b (Ok s) e = tt
refused l b (Err x) e = λ s is.
    let both : Some s ≡ None = sym (reads l s is.lawful) ∙ ap (slot_of l) (sym is.spelled) ∙ e in
    cc

pub returns-clause-found : goal.returns-clause-found
returns-clause-found c =
    found c.fields_tell_their_bytes.ensures.zeros c.args.layout c.args.bytes.now c.ok_or.result (c.if-bytes-size.false ∙ c.slot_length-size.ensures) (λ i. omega (arith, c.type_inv.bytes i)) (sym c.slot_of.ensures ∙ c.ok_or.ensures.ok_part)

pub returns-clause-refused : goal.returns-clause-refused
returns-clause-refused c = refused c.args.layout c.args.bytes.now c.ok_or.result (sym c.slot_of.ensures ∙ c.ok_or.ensures.ok_part)

-- other bytes than a slot has are no slot's
pub returns-then-bytes-size-clause-refused : goal.returns-then-bytes-size-clause-refused
returns-then-bytes-size-clause-refused c = λ s is.
    c.if-bytes-size.true (ap length is.spelled ∙ spelling_length c.args.layout s is.lawful.short ∙ sym c.slot_length-size.ensures)
