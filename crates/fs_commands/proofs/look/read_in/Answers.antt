use Rattle.std.proofs.Common.{◌≡◌, ℕ, List, false, Some, IfOk, take, drop, sym, subst, ap, ◌∙◌}
use Rattle.lang_tree.specs.declared.command.Reply.TheVariants.{Bytes}
use Rattle.crash_stands.specs.Files.{FileNode}
use Rattle.fs_files.specs.Calls.{facts_of}
use Rattle.fs_files.specs.Content.{fails_reading}
use Rattle.fs_files.specs.Effects.{LooksOnly}
use Rattle.fs_files.specs.NodeMaps.{NodeMap}
use Rattle.fs_dirs.specs.Directories.{IsNumber}
use Rattle.fs_commands.specs.Looks.{LeadsToFound}
use Rattle.fs_commands.proofs.looking.Found.{look_stays, looks_more}
use Rattle.fs_commands.proofs.looking.Replies.{session_maps, read_nowhere, read_there}
use Rattle.fs_commands.proofs.look.read_in.Goals as goal

pub returns-in-Err-clause-answer : goal.returns-in-Err-clause-answer
returns-in-Err-clause-answer g c = λ told f h.
    let files = (g.N.Nodes.nodes (g.S.Blocks.state c.args.blocks.now) c.args.files.now).files in
    let map = session_maps _ _ f h in
    read_nowhere (g.S.Blocks.state c.args.blocks.now).books.geom.layout files f map c.the_map_gives_the_reply.ensures.reply c.args.path.now c.args.offset c.args.len c.in-Err.why (subst (λ r. LeadsToFound (g.S.Blocks.state c.args.blocks.now).books.geom.layout files c.args.path.now r) c.in-Err.is (c.in_ok-found.ensures.found told f.tree h.map))

pub returns-then-is_dir-clause-answer : goal.returns-then-is_dir-clause-answer
returns-then-is_dir-clause-answer g c = λ told f h.
    let files = (g.N.Nodes.nodes (g.S.Blocks.state c.args.blocks.now) c.args.files.now).files in
    let map = session_maps _ _ f h in
    let led = subst (λ r. LeadsToFound (g.S.Blocks.state c.args.blocks.now).books.geom.layout files c.args.path.now r) c.in-Ok.is (c.in_ok-found.ensures.found told f.tree h.map) in
    (read_there (g.S.Blocks.state c.args.blocks.now).books.geom.layout files f map c.the_map_gives_the_reply.ensures.reply c.args.path.now c.walks_are_the_same.ensures.ends c.in-Ok.found led c.args.offset c.args.len).0 (sym c.is_dir.ensures ∙ c.if-is_dir.true)

pub read_at-requires-clause-look : goal.read_at-requires-clause-look
read_at-requires-clause-look g c =
    let number = subst (λ r. IfOk r (λ f. IsNumber (g.S.Blocks.state c.args.blocks.now).books.geom.i f.number)) c.in-Ok.is c.in_ok-found.ensures.number in
    let looks = c.in_ok-found.ensures.looks in
    look_stays g.S.Blocks.tells _ _ looks _ _ c.in-Ok.found.number (c.laws.ensures.stays false c.args.blocks.now c.find_in.new.blocks looks) c.requires.read number

pub read_at-requires-clause-used : goal.read_at-requires-clause-used
read_at-requires-clause-used g c = λ told.
    let files = (g.N.Nodes.nodes (g.S.Blocks.state c.args.blocks.now) c.args.files.now).files in
    let there = subst (λ r. IfOk r (λ f. (x : FileNode) × (files f.number ≡ Some x) × (f.facts ≡ facts_of x))) c.in-Ok.is (c.in_ok-found.ensures.there told) in
    let same = c.laws.ensures.same false c.args.blocks.now c.find_in.new.blocks c.in_ok-found.ensures.looks told in
    (there.0, ap (λ (n : NodeMap). n.files c.in-Ok.found.number) same ∙ there.1)

pub returns-in-Ok-read_at-clause-answer : goal.returns-in-Ok-read_at-clause-answer
returns-in-Ok-read_at-clause-answer g c = λ told f h.
    let files = (g.N.Nodes.nodes (g.S.Blocks.state c.args.blocks.now) c.args.files.now).files in
    let map = session_maps _ _ f h in
    let led = subst (λ r. LeadsToFound (g.S.Blocks.state c.args.blocks.now).books.geom.layout files c.args.path.now r) c.in-Ok.is (c.in_ok-found.ensures.found told f.tree h.map) in
    let same = c.laws.ensures.same false c.args.blocks.now c.find_in.new.blocks c.in_ok-found.ensures.looks told in
    let at = ap (λ (n : NodeMap). n.files c.in-Ok.found.number) same ∙ led.1.1 in
    let later = (g.N.Nodes.nodes (g.S.Blocks.state c.find_in.new.blocks) c.args.files.now).files in
    ap Bytes ((subst (λ r. IfOk r (λ (bytes : List ℕ). (x : FileNode) → later c.in-Ok.found.number ≡ Some x → bytes ≡ take c.args.len (drop c.from.result x.bytes))) c.in-Ok-read_at.is (c.read_at.ensures.bytes told)) led.1.0 at ∙ ap (λ n. take c.args.len (drop n led.1.0.bytes)) c.from.ensures)
    ∙ (read_there (g.S.Blocks.state c.args.blocks.now).books.geom.layout files f map c.the_map_gives_the_reply.ensures.reply c.args.path.now c.walks_are_the_same.ensures.ends c.in-Ok.found led c.args.offset c.args.len).1 (sym c.is_dir.ensures ∙ c.if-is_dir.false)

pub returns-in-Ok-read_at-clause-looks : goal.returns-in-Ok-read_at-clause-looks
returns-in-Ok-read_at-clause-looks g c =
    subst (λ r. LooksOnly g.S.Blocks.tells (fails_reading r) (g.S.Blocks.state c.args.blocks.now) (g.S.Blocks.state c.read_at.new.blocks)) c.in-Ok-read_at.is (looks_more g.S.Blocks.tells (fails_reading c.read_at.result) _ _ _ c.in_ok-found.ensures.looks c.read_at.ensures.looks)

pub returns-in-Err-read_at-clause-looks : goal.returns-in-Err-read_at-clause-looks
returns-in-Err-read_at-clause-looks g c =
    subst (λ r. LooksOnly g.S.Blocks.tells (fails_reading r) (g.S.Blocks.state c.args.blocks.now) (g.S.Blocks.state c.read_at.new.blocks)) c.in-Err-read_at.is (looks_more g.S.Blocks.tells (fails_reading c.read_at.result) _ _ _ c.in_ok-found.ensures.looks c.read_at.ensures.looks)
