-- The pieces stand one behind the other.
use Rattle.std.proofs.Common.{◌≡◌, ◌∙◌, ◌++◌, codes, replicate, ap, rules}
use Rattle.byteorder.specs.Endian.{little_bytes}
use Rattle.layout_journal.proofs.Fields.{behind}
use Rattle.layout_journal.proofs.write_record.commit_body.Goals as goal

pub returns-clause-body : goal.returns-clause-body
returns-clause-body c =
    let h = c.args.commit.now in
    let tag : c.put.new.text.items ≡ codes "OPTC0001" = search rules in
    let from_spare = replicate 956 0 in
    let from_fresh = little_bytes 4 h.fresh ++ from_spare in
    let from_payloads = little_bytes 4 h.payloads ++ from_fresh in
    let from_descriptors = little_bytes 4 h.descriptors ++ from_payloads in
    let from_number = little_bytes 8 h.number ++ from_descriptors in
    let from_epoch = little_bytes 8 h.epoch ++ from_number in
    c.put_zeros.ensures.bytes
    ∙ behind c.put_4-2.new.text.items c.put_4-3.new.text.items (little_bytes 4 h.fresh) from_spare c.put_4-3.ensures.bytes
    ∙ behind c.put_4.new.text.items c.put_4-2.new.text.items (little_bytes 4 h.payloads) from_fresh c.put_4-2.ensures.bytes
    ∙ behind c.put_8-2.new.text.items c.put_4.new.text.items (little_bytes 4 h.descriptors) from_payloads c.put_4.ensures.bytes
    ∙ behind c.put_8.new.text.items c.put_8-2.new.text.items (little_bytes 8 h.number) from_descriptors c.put_8-2.ensures.bytes
    ∙ behind c.put.new.text.items c.put_8.new.text.items (little_bytes 8 h.epoch) from_number c.put_8.ensures.bytes
    ∙ ap (λ t. t ++ from_epoch) tag
