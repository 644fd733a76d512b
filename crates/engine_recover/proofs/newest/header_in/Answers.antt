use Rattle.std.proofs.Common.{◌≡◌, ◌≤◌, inl, sym, ◌∙◌, ap₂, arith, rules, tests}
use Rattle.layout_journal.specs.Layout.{header_of}
use Rattle.engine_recover.proofs.newest.header_in.Goals as goal

pub returns-then-blocks-slot-clause-value : goal.returns-then-blocks-slot-clause-value
returns-then-blocks-slot-clause-value g c = λ img gives.
    let few : (g.D.Disk.state c.args.disk.now).blocks ≤ c.args.slot = search (rules, tests) in
    sym (c.headers_need_a_size.ensures (g.D.Disk.state c.args.disk.now).blocks (img c.args.slot) (inl (omega (arith, few, c.requires))))

pub returns-clause-value : goal.returns-clause-value
returns-clause-value g c = λ img gives.
    let read = c.in_ok-read_block.ensures.gives img gives in
    let size : c.blocks-blocks.result ≡ (g.D.Disk.state c.args.disk.now).blocks = search (rules, tests) in
    c.ok.ensures.value ∙ c.read_header.ensures.value ∙ ap₂ header_of size read
