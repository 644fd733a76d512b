use Rattle.std.proofs.Common.{subst, ap, ◌∙◌, arith}
use Rattle.layout_geometry.specs.Geometry.{Geometry}
use Rattle.engine_blocks.specs.State.{Bookkeeping}
use Rattle.fs_files.specs.declared.look.FileFacts.{FileFacts}
use Rattle.fs_commands.specs.Looks.{LeadsToFound, stat_of_kind}
use Rattle.fs_commands.proofs.looking.Replies.{session_maps, stat_nowhere, stat_there}
use Rattle.fs_commands.proofs.look.stat_in.Goals as goal

pub returns-in-Ok-clause-answer : goal.returns-in-Ok-clause-answer
returns-in-Ok-clause-answer g c = λ told f h.
    let files = (g.N.Nodes.nodes (g.S.Blocks.state c.args.blocks.now) c.args.files.now).files in
    let map = session_maps _ _ f h in
    let led = subst (λ r. LeadsToFound (g.S.Blocks.state c.args.blocks.now).books.geom.layout files c.args.path.now r) c.in-Ok.is (c.in_ok-found.ensures.found told f.tree h.map) in
    c.stat_reply.ensures (omega (arith, ap (λ (q : FileFacts). q.size) led.1.2, c.laws.ensures.few told c.requires.read.may c.in-Ok.found.number led.1.0 led.1.1))
    ∙ ap (λ l. stat_of_kind l c.in-Ok.found.facts.kind c.in-Ok.found.number c.in-Ok.found.facts.links c.in-Ok.found.facts.size) (c.layout.ensures ∙ ap (λ (k : Geometry). k.layout) c.geom.ensures ∙ ap (λ (b : Bookkeeping). b.geom.layout) c.in_ok-found.ensures.looks.books)
    ∙ ap (λ (q : FileFacts). stat_of_kind (g.S.Blocks.state c.args.blocks.now).books.geom.layout q.kind c.in-Ok.found.number q.links q.size) led.1.2
    ∙ stat_there (g.S.Blocks.state c.args.blocks.now).books.geom.layout files f map c.the_map_gives_the_reply.ensures.reply c.args.path.now c.walks_are_the_same.ensures.ends c.in-Ok.found led
    (λ slots dir reads. c.slots_follow_the_bytes.ensures.count (g.S.Blocks.state c.args.blocks.now).books.geom.layout led.1.0 slots reads (c.laws.ensures.slots told c.requires.read.may c.in-Ok.found.number led.1.0 led.1.1 dir))

pub returns-in-Err-clause-answer : goal.returns-in-Err-clause-answer
returns-in-Err-clause-answer g c = λ told f h.
    let files = (g.N.Nodes.nodes (g.S.Blocks.state c.args.blocks.now) c.args.files.now).files in
    let map = session_maps _ _ f h in
    stat_nowhere (g.S.Blocks.state c.args.blocks.now).books.geom.layout files f map c.the_map_gives_the_reply.ensures.reply c.args.path.now c.in-Err.why (subst (λ r. LeadsToFound (g.S.Blocks.state c.args.blocks.now).books.geom.layout files c.args.path.now r) c.in-Err.is (c.in_ok-found.ensures.found told f.tree h.map))
