use Rattle.std.proofs.Common.{[], None, refl, subst}
use Rattle.fs_files.specs.Calls.{files_in, places_in}
use Rattle.fs_files.specs.Drafts.{drafted}
use Rattle.fs_files.specs.Growing.{alone}
use Rattle.fs_files.specs.Shared.{is_kept}
use Rattle.fs_dirs.specs.Changing.{Alters}
use Rattle.fs_commands.proofs.Placing.{placed_by, placed_kept}
use Rattle.fs_commands.proofs.keeping.Begun.{file_leaves, links_leave}
use Rattle.fs_commands.proofs.keeping.Leaves.{none_is_none}
use Rattle.fs_commands.proofs.removed.Links.{on_one, on_both, keeps_links, link_kept, none_gone, all_gone}
use Rattle.fs_commands.proofs.removing.lose_link.Goals as goal

pub returns-then-links-eq1-clause-placed : goal.returns-then-links-eq1-clause-placed
returns-then-links-eq1-clause-placed g c = λ told.
    let old = places_in (g.S.Blocks.state c.args.blocks.now) c.args.draft.now in
    let new = places_in (g.S.Blocks.state c.drop_node.new.blocks) c.drop_node.new.self in
    on_one c.drop_node.result (c.drop_node.ensures.places told) (λ set. placed_by old new c.args.node.now.number [] [] set refl)

pub returns-then-links-eq1-clause-leaves : goal.returns-then-links-eq1-clause-leaves
returns-then-links-eq1-clause-leaves g c = λ told.
    let s = g.S.Blocks.state c.args.blocks.now in
    let t = g.S.Blocks.state c.drop_node.new.blocks in
    let d = c.args.draft.now in
    let e = c.drop_node.new.self in
    on_both c.drop_node.result (c.drop_node.ensures.file told) (c.drop_node.ensures.places told)
    (λ set placed plain. file_leaves s.books.geom.layout (files_in s d) (files_in t e) (places_in s d) (places_in t e) c.args.node.now.number [] placed None set plain none_is_none)

pub returns-then-links-eq1-clause-alters : goal.returns-then-links-eq1-clause-alters
returns-then-links-eq1-clause-alters g c = λ told.
    let s = g.S.Blocks.state c.args.blocks.now in
    let d = c.args.draft.now in
    let e = c.drop_node.new.self in
    let node = c.args.node.now in
    let places = places_in s d node.number in
    on_both c.drop_node.result (c.drop_node.ensures.among told) (c.drop_node.ensures.changes told) (λ sets some.
    subst (λ n. Alters 1 [] n d e) (all_gone (is_kept d.kept) node.facts places c.if-links-eq1.true) (c.alterations_add_up.ensures.node s.books.geom node.number (alone (is_kept d.kept) places) d e sets some))

pub returns-clause-placed : goal.returns-clause-placed
returns-clause-placed g c = λ told.
    let old = places_in (g.S.Blocks.state c.args.blocks.now) c.args.draft.now in
    let new = places_in (g.S.Blocks.state c.set_links.new.blocks) c.set_links.new.self in
    on_one c.set_links.result (c.set_links.ensures.places told) (λ set. placed_kept old new c.args.node.now.number [] set)

pub returns-clause-link : goal.returns-clause-link
returns-clause-link g c = λ told.
    let s = g.S.Blocks.state c.args.blocks.now in
    let d = c.args.draft.now in
    let node = c.args.node.now in
    let found = c.requires.found told in
    on_one c.set_links.result (c.set_links.ensures.file told) (λ set inode reads.
    link_kept s.books.geom.layout (files_in s d) (files_in (g.S.Blocks.state c.set_links.new.blocks) c.set_links.new.self) node found inode c.one_less.result reads c.if-links-eq1.false
    (keeps_links c.a_node_in_use_has_links.ensures s.books.geom (drafted d s.map) node found inode c.one_less.result reads c.if-links-eq1.false c.one_less.ensures.value) (set found.file found.is))

pub returns-clause-leaves : goal.returns-clause-leaves
returns-clause-leaves g c = λ told.
    let s = g.S.Blocks.state c.args.blocks.now in
    let t = g.S.Blocks.state c.set_links.new.blocks in
    let d = c.args.draft.now in
    let e = c.set_links.new.self in
    let number = c.args.node.now.number in
    let found = c.requires.found told in
    on_both c.set_links.result (c.set_links.ensures.file told) (c.set_links.ensures.places told)
    (λ set placed plain. links_leave s.books.geom.layout (files_in s d) (files_in t e) (places_in s d) (places_in t e) number (places_in s d number) placed found.file c.one_less.result found.is (set found.file found.is) plain)

pub returns-clause-alters : goal.returns-clause-alters
returns-clause-alters g c = λ told.
    let s = g.S.Blocks.state c.args.blocks.now in
    let d = c.args.draft.now in
    let e = c.set_links.new.self in
    let node = c.args.node.now in
    on_both c.set_links.result (c.set_links.ensures.among told) (c.set_links.ensures.changes told) (λ sets some.
    subst (λ n. Alters 1 [] n d e) (none_gone (is_kept d.kept) node.facts (places_in s d node.number) c.if-links-eq1.false) (c.alterations_add_up.ensures.node s.books.geom node.number [] d e sets some))
