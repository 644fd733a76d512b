use Rattle.std.proofs.Common.{◌≡◌, false, IfOk, IfSome, sym, subst, ap, ap₂, ◌∙◌}
use Rattle.crash_stands.specs.Files.{Files}
use Rattle.engine_blocks.specs.State.{Bookkeeping}
use Rattle.fs_files.specs.Calls.{files_in}
use Rattle.fs_files.specs.Content.{fails_reading}
use Rattle.fs_files.specs.Drafts.{nothing_drafted}
use Rattle.fs_session.specs.Sessions.{AreUsedBelow}
use Rattle.fs_commands.proofs.looking.Found.{draft_begun, draft_stays, looks_more, same_files}
use Rattle.fs_commands.proofs.naming.Least.{least_of, least_of_files, least_is, number_of_table, used_before}
use Rattle.fs_commands.proofs.planning.Behind.{below_still}
use Rattle.fs_commands.proofs.making.least_unused.Goals as goal

pub is_unused-requires-clause-draft : goal.is_unused-requires-clause-draft
is_unused-requires-clause-draft g c = draft_begun g.S.Blocks.tells (g.S.Blocks.state c.args.blocks.now) c.beside-draft.result c.beside-draft.ensures c.requires.may.begin c.a_draft_may_begin.ensures

-- the first number that may be unused is so

pub returns-then-unused-clause-least : goal.returns-then-unused-clause-least
returns-then-unused-clause-least g c = λ told.
    let s = g.S.Blocks.state c.args.blocks.now in
    let number = c.in_ok-unused.ensures.number c.if-unused.true in
    least_is s.books.geom.i (files_in s nothing_drafted) c.args.first_unused (record {
      from = number.from;
      upto = number.upto;
      unused = ap (λ d. files_in s d c.args.first_unused) (sym c.beside-draft.ensures) ∙ c.in_ok-unused.ensures.unused told c.if-unused.true;
      below = c.requires.below told;
    })

pub returns-then-unused-clause-used : goal.returns-then-unused-clause-used
returns-then-unused-clause-used g c = c.requires.below

-- or it is sought

pub new_node-requires-clause-going : goal.new_node-requires-clause-going
new_node-requires-clause-going g c = ap (λ (b : Bookkeeping). b.stopped) c.in_ok-unused.ensures.looks.books ∙ c.requires.may.begin.going

pub new_node-requires-clause-draft : goal.new_node-requires-clause-draft
new_node-requires-clause-draft g c =
    draft_stays g.S.Blocks.tells false (g.S.Blocks.state c.args.blocks.now) (g.S.Blocks.state c.is_unused.new.blocks) c.beside-draft.result c.in_ok-unused.ensures.looks
    (draft_begun g.S.Blocks.tells (g.S.Blocks.state c.args.blocks.now) c.beside-draft.result c.beside-draft.ensures c.requires.may.begin c.a_draft_may_begin.ensures)

pub new_node-requires-clause-below : goal.new_node-requires-clause-below
new_node-requires-clause-below g c = λ told.
    subst (λ d. AreUsedBelow (files_in (g.S.Blocks.state c.is_unused.new.blocks) d) c.args.first_unused) (sym c.beside-draft.ensures)
    (below_still g.S.Blocks.tells (g.S.Blocks.state c.args.blocks.now) (g.S.Blocks.state c.is_unused.new.blocks) c.in_ok-unused.ensures.looks told c.args.first_unused (c.requires.below told))

pub returns-clause-least : goal.returns-clause-least
returns-clause-least g c = λ told.
    let s = g.S.Blocks.state c.args.blocks.now in
    let mid = g.S.Blocks.state c.is_unused.new.blocks in
    let looks = c.in_ok-unused.ensures.looks in
    let same : files_in mid c.beside-draft.result ≡ files_in s nothing_drafted = ap (files_in mid) c.beside-draft.ensures ∙ same_files g.S.Blocks.tells false s mid nothing_drafted looks told in
    subst (λ l. IfOk c.new_node.result (λ found. found ≡ l)) (ap₂ (λ (b : Bookkeeping) (files : Files). least_of_files b.geom.i files) looks.books same)
    (least_of mid.books.geom.i (files_in mid c.beside-draft.result) _ _ c.new_node.result (c.new_node.ensures.node told) (c.new_node.ensures.none told))

pub returns-clause-used : goal.returns-clause-used
returns-clause-used g c = λ told.
    let s = g.S.Blocks.state c.args.blocks.now in
    let mid = g.S.Blocks.state c.is_unused.new.blocks in
    let same : files_in mid c.beside-draft.result ≡ files_in s nothing_drafted = ap (files_in mid) c.beside-draft.ensures ∙ same_files g.S.Blocks.tells false s mid nothing_drafted c.in_ok-unused.ensures.looks told in
    subst (λ (files : Files). IfOk c.new_node.result (λ found. IfSome found (AreUsedBelow files))) same
    (used_before mid.books.geom.i (files_in mid c.beside-draft.result) _ c.new_node.result (c.new_node.ensures.node told))

pub returns-clause-number : goal.returns-clause-number
returns-clause-number g c = number_of_table _ _ c.new_node.result (ap (λ (b : Bookkeeping). b.geom.i) c.in_ok-unused.ensures.looks.books) c.new_node.ensures.number

pub returns-clause-looks : goal.returns-clause-looks
returns-clause-looks g c =
    looks_more g.S.Blocks.tells (fails_reading c.new_node.result) (g.S.Blocks.state c.args.blocks.now) (g.S.Blocks.state c.is_unused.new.blocks) (g.S.Blocks.state c.new_node.new.blocks) c.in_ok-unused.ensures.looks c.new_node.ensures.looks
