use Rattle.std.proofs.Common.{ap, ◌∙◌, refl}
use Rattle.layout_journal.specs.Layout.{header_of}
use Rattle.cmd_mirror.proofs.CopyHeaders.{is_slot_0}
use Rattle.cmd_mirror.proofs.copying.is_newer_second.Goals as goal

pub returns-in-Some-clause-first : goal.returns-in-Some-clause-first
returns-in-Some-clause-first c = λ other img is_zero is_one slot h newest.
    let found = c.in-Some.ensures.found c.args.blocks img (c.ok-first.ensures.value ∙ c.read_header.ensures.value ∙ ap (header_of c.args.blocks) is_zero) (c.ok-second.ensures.value ∙ c.read_header-2.ensures.value ∙ ap (header_of c.args.blocks) is_one) in
    is_slot_0 slot c.in-Some.slot other c.in-Some.ensures.slot (c.an_image_holds_one_map.ensures.newest c.args.blocks img slot c.in-Some.slot h c.in-Some.field-0-1 newest found).0

pub returns-in-None-clause-first : goal.returns-in-None-clause-first
returns-in-None-clause-first c = λ other img is_zero is_one slot h newest.
    absurd (c.in-None.ensures.missing c.args.blocks img (c.ok-first.ensures.value ∙ c.read_header.ensures.value ∙ ap (header_of c.args.blocks) is_zero) (c.ok-second.ensures.value ∙ c.read_header-2.ensures.value ∙ ap (header_of c.args.blocks) is_one) refl slot h newest)
