use Rattle.std.proofs.Common.{sym, subst, ap, ◌∙◌, append-nil}
use Rattle.std.proofs.lemmas.Option.{same_Some, slice_get_within}
use Rattle.std.specs.Prelude.{Some}
use Rattle.std.specs.List.{concat}
use Rattle.layout_bytes.specs.declared.slot.Slot.{Slot}
use Rattle.layout_directory.specs.Directory.{ReadAs}
use Rattle.fs_inodes.specs.Changes.{slot_of}
use Rattle.fs_dirs.proofs.block.find_in.Goals as goal

pub returns-clause-finds : goal.returns-clause-finds
returns-clause-finds c = λ slots many reads.
    let at = c.in_ok-place.ensures.each slots many (subst (λ b. ReadAs c.args.layout b slots) (sym (ap concat c.from_ref.ensures.value ∙ append-nil c.args.block.now)) reads) in
    let named = c.a_name_stands_at_its_place.ensures.found slots c.args.name.now c.in_ok-place.place (sym at) in
    let same = same_Some c.in_ok-slot.slot (slot_of named.0 c.args.name.now) (c.in_ok-slot.ensures.slot slots (slice_get_within slots c.in_ok-place.place (slot_of named.0 c.args.name.now) named.1) reads ∙ named.1) in
    record {
      place = at;
      node = ap (λ (s : Slot). Some s.node) same ∙ sym named.2;
    }
