-- The pieces stand one behind the other.
use Rattle.std.proofs.Common.{◌≡◌, ◌∙◌, ◌++◌, replicate, ap, rules}
use Rattle.byteorder.specs.Endian.{little_bytes}
use Rattle.layout_journal.specs.Layout.{header_tag}
use Rattle.layout_journal.specs.Spelling.{closed_number}
use Rattle.layout_journal.proofs.Fields.{behind}
use Rattle.layout_journal.proofs.write.header_body.Goals as goal

pub returns-clause-body : goal.returns-clause-body
returns-clause-body c =
    let h = c.args.header.now in
    let tag : c.put.new.text.items ≡ header_tag h.geom.layout = search rules in
    let closed : c.put_4-2.new.text.items ≡ c.put_4.new.text.items ++ little_bytes 4 (closed_number h.closed) = search rules in
    let n : c.put_4-3.new.text.items ≡ c.put_4-2.new.text.items ++ little_bytes 4 h.geom.n = search rules in
    let j : c.put_4-4.new.text.items ≡ c.put_4-3.new.text.items ++ little_bytes 4 h.geom.j = search rules in
    let i : c.put_4-5.new.text.items ≡ c.put_4-4.new.text.items ++ little_bytes 4 h.geom.i = search rules in
    let from_spare = replicate 932 0 in
    let from_i = little_bytes 4 h.geom.i ++ from_spare in
    let from_j = little_bytes 4 h.geom.j ++ from_i in
    let from_n = little_bytes 4 h.geom.n ++ from_j in
    let from_closed = little_bytes 4 (closed_number h.closed) ++ from_n in
    let from_at = little_bytes 4 h.at ++ from_closed in
    let from_sure = little_bytes 8 h.sure ++ from_at in
    let from_start = little_bytes 8 h.start ++ from_sure in
    let from_turn = little_bytes 8 h.turn ++ from_start in
    let from_epoch = little_bytes 8 h.epoch ++ from_turn in
    c.put_zeros.ensures.bytes
    ∙ behind c.put_4-4.new.text.items c.put_4-5.new.text.items (little_bytes 4 h.geom.i) from_spare i
    ∙ behind c.put_4-3.new.text.items c.put_4-4.new.text.items (little_bytes 4 h.geom.j) from_i j
    ∙ behind c.put_4-2.new.text.items c.put_4-3.new.text.items (little_bytes 4 h.geom.n) from_j n
    ∙ behind c.put_4.new.text.items c.put_4-2.new.text.items (little_bytes 4 (closed_number h.closed)) from_n closed
    ∙ behind c.put_8-4.new.text.items c.put_4.new.text.items (little_bytes 4 h.at) from_closed c.put_4.ensures.bytes
    ∙ behind c.put_8-3.new.text.items c.put_8-4.new.text.items (little_bytes 8 h.sure) from_at c.put_8-4.ensures.bytes
    ∙ behind c.put_8-2.new.text.items c.put_8-3.new.text.items (little_bytes 8 h.start) from_sure c.put_8-3.ensures.bytes
    ∙ behind c.put_8.new.text.items c.put_8-2.new.text.items (little_bytes 8 h.turn) from_start c.put_8-2.ensures.bytes
    ∙ behind c.put.new.text.items c.put_8.new.text.items (little_bytes 8 h.epoch) from_turn c.put_8.ensures.bytes
    ∙ ap (λ t. t ++ from_epoch) tag
