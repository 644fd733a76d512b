use Rattle.std.proofs.Common.{◌∙◌, ◌+◌, ◌*◌, min, ap}
use Rattle.fs_files.proofs.PlainReads.{plain_content, reads_part, reads_plain}
use Rattle.fs_files.proofs.given.read_bytes.Goals as goal

pub returns-clause-bytes : goal.returns-clause-bytes
returns-clause-bytes g c = λ tells whole once.
    let m = (g.S.Blocks.state c.args.blocks.now).map in
    c.from_vec.ensures
    ∙ reads_part m c.args.places.now c.args.size c.args.offset c.args.len c.min-held.result c.min-from.result c.min-end.result c.read_content.new.into.items whole
    (c.min-held.ensures ∙ ap (λ n. min c.args.size (1024 * n)) (c.from.ensures ∙ c.count.ensures.value)) c.min-from.ensures (c.min-end.ensures ∙ ap (λ n. min c.min-held.result (c.min-from.result + n)) c.from-2.ensures)
    (reads_plain m c.new-draft.result c.args.places.now c.places.inside.places c.new-bytes.result.items c.read_content.new.into.items c.min-from.result c.min-end.result
    c.new-draft.ensures c.places.view_is c.new-bytes.ensures.items (c.in_ok-read_content.ensures.bytes tells) (plain_content m c.args.places.now whole once))
