use Rattle.std.proofs.Common.{rules, tests, false, sym, subst, ap, ◌∙◌}
use Rattle.fs_dirs.specs.Directories.{Finds}
use Rattle.fs_files.specs.Calls.{files_in, facts_of}
use Rattle.fs_files.specs.Content.{fails_reading}
use Rattle.std.specs.Prelude.{option_map}
use Rattle.fs_commands.proofs.looking.Entries.{no_entry, an_entry, no_stray}
use Rattle.fs_commands.proofs.looking.Found.{looks_more, draft_stays, same_files}
use Rattle.fs_commands.proofs.paths.find_entry.Goals as goal

pub look-requires : goal.look-requires
look-requires g c = record {
  going = search rules;
  from = search rules;
  upto = search rules;
  may = draft_stays g.S.Blocks.tells false (g.S.Blocks.state c.args.blocks.now) (g.S.Blocks.state c.find_in_directory.new.blocks) c.args.draft.now c.in_ok-found.ensures.looks c.requires.draft;
}

pub returns-in_err-facts-clause-looks : goal.returns-in_err-facts-clause-looks
returns-in_err-facts-clause-looks g c = looks_more g.S.Blocks.tells (fails_reading c.from_residual-in_err-facts.result) (g.S.Blocks.state c.args.blocks.now) (g.S.Blocks.state c.find_in_directory.new.blocks) (g.S.Blocks.state c.look.new.blocks) c.in_ok-found.ensures.looks (search (rules, tests))

pub returns-in_default-2-clause-looks : goal.returns-in_default-2-clause-looks
returns-in_default-2-clause-looks g c = looks_more g.S.Blocks.tells false _ _ _ c.in_ok-found.ensures.looks c.in_ok-facts.ensures.looks

pub returns-clause-looks : goal.returns-clause-looks
returns-clause-looks g c = looks_more g.S.Blocks.tells false _ _ _ c.in_ok-found.ensures.looks c.in_ok-facts.ensures.looks

pub returns-in_default-clause-entry : goal.returns-in_default-clause-entry
returns-in_default-clause-entry g c = λ told t slots map at.
    no_entry (g.S.Blocks.state c.args.blocks.now).books.geom.layout (files_in (g.S.Blocks.state c.args.blocks.now) c.args.draft.now) c.args.dir.now.number slots c.args.name.now at c.in_ok-found.field-0 c.in_default.is (c.in_ok-found.ensures.found told t slots map at)

pub returns-in_default-2-clause-entry : goal.returns-in_default-2-clause-entry
returns-in_default-2-clause-entry g c = λ told t slots map at.
    let s = g.S.Blocks.state c.args.blocks.now in
    let files = files_in s c.args.draft.now in
    let same = same_files g.S.Blocks.tells false s (g.S.Blocks.state c.find_in_directory.new.blocks) c.args.draft.now c.in_ok-found.ensures.looks told in
    no_stray s.books.geom.layout files c.args.dir.now.number slots c.args.name.now at c.a_name_stands_at_its_place.ensures.found (c.slots_name_nodes_in_use.ensures.used s.books.geom.i _ t map) c.in-Some.found
    (subst (λ o. Finds slots c.args.name.now o) c.in-Some.is (c.in_ok-found.ensures.found told t slots map at))
    (sym c.in_default-2.is ∙ c.in_ok-facts.ensures.facts told ∙ ap (λ f. option_map facts_of (f c.in-Some.found.node)) same)

pub returns-clause-entry : goal.returns-clause-entry
returns-clause-entry g c = λ told t slots map at.
    let s = g.S.Blocks.state c.args.blocks.now in
    let files = files_in s c.args.draft.now in
    let same = same_files g.S.Blocks.tells false s (g.S.Blocks.state c.find_in_directory.new.blocks) c.args.draft.now c.in_ok-found.ensures.looks told in
    an_entry s.books.geom.layout files c.args.dir.now.number slots c.args.name.now at c.in-Some.found c.in-Some-2.facts
    (subst (λ o. Finds slots c.args.name.now o) c.in-Some.is (c.in_ok-found.ensures.found told t slots map at))
    (sym c.in-Some-2.is ∙ c.in_ok-facts.ensures.facts told ∙ ap (λ f. option_map facts_of (f c.in-Some.found.node)) same)
