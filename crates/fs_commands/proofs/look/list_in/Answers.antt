use Rattle.std.proofs.Common.{◌≡◌, ℕ, List, false, map, Some, IfOk, sym, subst, ap, ap₂, ◌∙◌}
use Rattle.std.specs.List.Sorted.{IsPermutation, IsSorted}
use Rattle.std.specs.Ordering.{nat_cmp}
use Rattle.std.specs.Cmp.Lexicographic.{slice_cmp}
use Rattle.layout_bytes.specs.declared.slot.Slot.{Slot}
use Rattle.lang_tree.specs.declared.command.Reply.TheVariants.{Names as NamesReply}
use Rattle.crash_stands.specs.Inodes.{ADir, inodes_of}
use Rattle.engine_blocks.specs.State.{Bookkeeping}
use Rattle.fs_files.specs.Content.{fails_reading}
use Rattle.fs_files.specs.Effects.{LooksOnly}
use Rattle.fs_files.specs.NodeMaps.{NodeMap}
use Rattle.fs_dirs.specs.Directories.{IsNumber}
use Rattle.fs_commands.specs.Looks.{LeadsToFound}
use Rattle.fs_commands.proofs.looking.Found.{look_stays, looks_more}
use Rattle.fs_commands.proofs.looking.Replies.{session_maps, list_nowhere, list_there}
use Rattle.fs_commands.proofs.look.list_in.Goals as goal

pub returns-in-Err-clause-answer : goal.returns-in-Err-clause-answer
returns-in-Err-clause-answer g c = λ told f h.
    let files = (g.N.Nodes.nodes (g.S.Blocks.state c.args.blocks.now) c.args.files.now).files in
    let tree_map = session_maps _ _ f h in
    list_nowhere (g.S.Blocks.state c.args.blocks.now).books.geom.layout files f tree_map c.the_map_gives_the_reply.ensures.reply c.args.path.now c.in-Err.why (subst (λ r. LeadsToFound (g.S.Blocks.state c.args.blocks.now).books.geom.layout files c.args.path.now r) c.in-Err.is (c.in_ok-found.ensures.found told f.tree h.map))

pub returns-then-not-is_dir-clause-answer : goal.returns-then-not-is_dir-clause-answer
returns-then-not-is_dir-clause-answer g c = λ told f h.
    let files = (g.N.Nodes.nodes (g.S.Blocks.state c.args.blocks.now) c.args.files.now).files in
    let tree_map = session_maps _ _ f h in
    let led = subst (λ r. LeadsToFound (g.S.Blocks.state c.args.blocks.now).books.geom.layout files c.args.path.now r) c.in-Ok.is (c.in_ok-found.ensures.found told f.tree h.map) in
    (list_there (g.S.Blocks.state c.args.blocks.now).books.geom.layout files f tree_map c.the_map_gives_the_reply.ensures.reply c.args.path.now c.walks_are_the_same.ensures.ends c.in-Ok.found led).0 (sym c.is_dir.ensures ∙ c.if-not-is_dir.true)

pub names-requires : goal.names-requires
names-requires g c =
    let number = subst (λ r. IfOk r (λ f. IsNumber (g.S.Blocks.state c.args.blocks.now).books.geom.i f.number)) c.in-Ok.is c.in_ok-found.ensures.number in
    let looks = c.in_ok-found.ensures.looks in
    look_stays g.S.Blocks.tells _ _ looks _ _ c.in-Ok.found.number (c.laws.ensures.stays false c.args.blocks.now c.find_in.new.blocks looks) c.requires.read number

pub returns-in-Ok-names-clause-answer : goal.returns-in-Ok-names-clause-answer
returns-in-Ok-names-clause-answer g c = λ told f h.
    let files = (g.N.Nodes.nodes (g.S.Blocks.state c.args.blocks.now) c.args.files.now).files in
    let tree_map = session_maps _ _ f h in
    let m = inodes_of (g.S.Blocks.state c.args.blocks.now).books.geom.layout files in
    let limit = (g.S.Blocks.state c.args.blocks.now).books.geom.i in
    let led = subst (λ r. LeadsToFound (g.S.Blocks.state c.args.blocks.now).books.geom.layout files c.args.path.now r) c.in-Ok.is (c.in_ok-found.ensures.found told f.tree h.map) in
    let leads = c.walks_are_the_same.ensures.ends m c.args.path.now c.in-Ok.found.number led.0 in
    let there = (list_there (g.S.Blocks.state c.args.blocks.now).books.geom.layout files f tree_map c.the_map_gives_the_reply.ensures.reply c.args.path.now c.walks_are_the_same.ensures.ends c.in-Ok.found led).1 (sym c.is_dir.ensures ∙ c.if-not-is_dir.false) in
    let same = c.laws.ensures.same false c.args.blocks.now c.find_in.new.blocks c.in_ok-found.ensures.looks told in
    let here = ap₂ (λ (b : Bookkeeping) (n : NodeMap). inodes_of b.geom.layout n.files c.in-Ok.found.number) c.in_ok-found.ensures.looks.books same ∙ there.1 in
    let later = inodes_of (g.S.Blocks.state c.find_in.new.blocks).books.geom.layout (g.N.Nodes.nodes (g.S.Blocks.state c.find_in.new.blocks) c.args.files.now).files in
    ap NamesReply (sym (c.the_map_gives_the_names.ensures.sorted limit m f.tree c.args.path.now c.in-Ok.found.number there.0 c.in-Ok-names.names h.map leads there.1 ((subst (λ r. IfOk r (λ (names : List (List ℕ)). (slots : List Slot) → later c.in-Ok.found.number ≡ Some (ADir slots) → IsPermutation (map (λ (s : Slot). s.name) slots) names)) c.in-Ok-names.is (c.names.ensures.all told)) there.0 here) (subst (λ r. IfOk r (IsSorted (slice_cmp nat_cmp))) c.in-Ok-names.is c.names.ensures.sorted))
    ∙ c.the_map_gives_the_names.ensures.names limit m f.tree c.args.path.now c.in-Ok.found.number there.0 h.map leads there.1)
    ∙ there.2

pub returns-in-Ok-names-clause-looks : goal.returns-in-Ok-names-clause-looks
returns-in-Ok-names-clause-looks g c =
    subst (λ r. LooksOnly g.S.Blocks.tells (fails_reading r) (g.S.Blocks.state c.args.blocks.now) (g.S.Blocks.state c.names.new.blocks)) c.in-Ok-names.is (looks_more g.S.Blocks.tells (fails_reading c.names.result) _ _ _ c.in_ok-found.ensures.looks c.names.ensures.looks)

pub returns-in-Err-names-clause-looks : goal.returns-in-Err-names-clause-looks
returns-in-Err-names-clause-looks g c =
    subst (λ r. LooksOnly g.S.Blocks.tells (fails_reading r) (g.S.Blocks.state c.args.blocks.now) (g.S.Blocks.state c.names.new.blocks)) c.in-Err-names.is (looks_more g.S.Blocks.tells (fails_reading c.names.result) _ _ _ c.in_ok-found.ensures.looks c.names.ensures.looks)
