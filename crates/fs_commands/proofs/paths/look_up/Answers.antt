use Rattle.std.proofs.Common.{rules, tests, option_copied, false, Ok, Err, None, Some, sym, subst, ap, ◌∙◌}
use Rattle.std.specs.Prelude.{Result, Option, IfOk, IfSome}
use Rattle.lang_tree.specs.declared.command.Refusal.{Refusal}
use Rattle.fs_files.specs.Calls.{files_in}
use Rattle.fs_files.specs.Content.{fails_reading}
use Rattle.fs_files.specs.Drafts.{nothing_drafted}
use Rattle.fs_files.specs.NodeMaps.{nodes_in}
use Rattle.fs_dirs.specs.declared.lookup.Directory.{Directory}
use Rattle.fs_dirs.specs.Reading.{IsOpened}
use Rattle.fs_commands.proofs.looking.Entries.{above_as, comes_inside, entry_stays}
use Rattle.fs_commands.proofs.looking.Found.{looks_more, draft_stays, draft_begun}
use Rattle.fs_commands.proofs.paths.look_up.Goals as goal

pub walk_to_parent-requires : goal.walk_to_parent-requires
walk_to_parent-requires g c = record {
  read = record {
    going = c.requires.begin.going;
    may = draft_begun g.S.Blocks.tells (g.S.Blocks.state c.args.blocks.now) c.beside-draft.result c.beside-draft.ensures c.requires.begin c.a_draft_may_begin.ensures;
  };
}

pub returns-in-Ok-None-clause-comes : goal.returns-in-Ok-None-clause-comes
returns-in-Ok-None-clause-comes g c = λ told t h.
    let s = g.S.Blocks.state c.args.blocks.now in
    above_as s c.beside-draft.result c.args.path.now c.in_ok-above.field-0 (Ok None) c.beside-draft.ensures (c.in-Ok-None.is ∙ ap Ok c.in-Ok-None.field-0-is) (c.in_ok-above.ensures.end told) t (c.blocks_have_the_map_of_their_tree.ensures.map s.books.geom s.map t h)

pub returns-in-Err-clause-comes : goal.returns-in-Err-clause-comes
returns-in-Err-clause-comes g c = λ told t h.
    let s = g.S.Blocks.state c.args.blocks.now in
    above_as s c.beside-draft.result c.args.path.now c.in_ok-above.field-0 (Err c.in-Err.why) c.beside-draft.ensures c.in-Err.is (c.in_ok-above.ensures.end told) t (c.blocks_have_the_map_of_their_tree.ensures.map s.books.geom s.map t h)

pub find_entry-requires-clause-draft : goal.find_entry-requires-clause-draft
find_entry-requires-clause-draft g c =
    draft_stays g.S.Blocks.tells false _ _ c.beside-draft.result c.in_ok-above.ensures.looks (draft_begun g.S.Blocks.tells _ _ c.beside-draft.ensures c.requires.begin c.a_draft_may_begin.ensures)

pub find_entry-requires-clause-opened : goal.find_entry-requires-clause-opened
find_entry-requires-clause-opened g c =
    subst (λ (r : Result (Option Directory) Refusal). IfOk r (λ up. IfSome up (IsOpened g.S.Blocks.tells (g.S.Blocks.state c.walk_to_parent.new.blocks) (nodes_in (g.S.Blocks.state c.walk_to_parent.new.blocks) c.beside-draft.result)))) (c.in-Ok-Some.is ∙ ap Ok c.in-Ok-Some.field-0-is) c.in_ok-above.ensures.opened

pub returns-in_err-entry-clause-looks : goal.returns-in_err-entry-clause-looks
returns-in_err-entry-clause-looks g c =
    looks_more g.S.Blocks.tells (fails_reading c.from_residual-in_err-entry.result) (g.S.Blocks.state c.args.blocks.now) (g.S.Blocks.state c.walk_to_parent.new.blocks) (g.S.Blocks.state c.find_entry.new.blocks) c.in_ok-above.ensures.looks (search (rules, tests))

pub returns-clause-looks : goal.returns-clause-looks
returns-clause-looks g c = looks_more g.S.Blocks.tells false _ _ _ c.in_ok-above.ensures.looks c.in_ok-entry.ensures.looks

pub returns-clause-comes : goal.returns-clause-comes
returns-clause-comes g c = λ told t h.
    let s = g.S.Blocks.state c.args.blocks.now in
    let mid = g.S.Blocks.state c.walk_to_parent.new.blocks in
    let d = c.beside-draft.result in
    let map = c.blocks_have_the_map_of_their_tree.ensures.map s.books.geom s.map t h in
    let ends = above_as s d c.args.path.now c.in_ok-above.field-0 (Ok (Some c.in-Ok-Some.above)) c.beside-draft.ensures (c.in-Ok-Some.is ∙ ap Ok c.in-Ok-Some.field-0-is) (c.in_ok-above.ensures.end told) t map in
    comes_inside s.books.geom.layout (files_in s nothing_drafted) c.args.path.now c.names.result.now c.in-Some.name.now c.in-Ok-Some.above c.in_ok-entry.entry c.names.ensures (ap option_copied (sym c.in-Some.is) ∙ c.last.ensures.value) ends
    (entry_stays g.S.Blocks.tells s mid d c.beside-draft.ensures told c.in_ok-above.ensures.looks c.in-Ok-Some.above.number c.in-Some.name.now c.in_ok-entry.entry t map (c.in_ok-entry.ensures.entry told))
