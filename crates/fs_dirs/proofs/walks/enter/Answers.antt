use Rattle.std.proofs.Common.{false, subst, ap, ◌∙◌}
use Rattle.crash_stands.specs.Inodes.{inodes_of}
use Rattle.fs_dirs.specs.Directories.{Finds}
use Rattle.fs_dirs.proofs.reading.Looks.{of_found, of_none, read_stays, same_map, same_read}
use Rattle.fs_dirs.proofs.reading.Walks.{enters_file, enters_nothing, enters_found}
use Rattle.fs_dirs.proofs.walks.enter.Goals as goal

pub returns-in_default-clause-step : goal.returns-in_default-clause-step
returns-in_default-clause-step g c = λ told t x map is.
    let m = inodes_of (g.S.Blocks.state c.args.blocks.now).books.geom.layout (g.N.Nodes.nodes (g.S.Blocks.state c.args.blocks.now) c.args.files.now).files in
    enters_file m c.args.number c.args.name.now x is (of_none _ c.in_default.is (c.in_ok-directory.ensures.none told) x is)

pub find_in_directory-requires-clause-read : goal.find_in_directory-requires-clause-read
find_in_directory-requires-clause-read g c =
    let looks = c.in_ok-directory.ensures.looks in
    read_stays g.S.Blocks.tells false _ _ looks _ _ (c.laws.ensures.stays false c.args.blocks.now c.open_directory.new.blocks looks) (record { going = c.requires.going; may = c.requires.may })

pub find_in_directory-requires-clause-opened : goal.find_in_directory-requires-clause-opened
find_in_directory-requires-clause-opened g c = (of_found _ _ _ c.in-Some.is c.in_ok-directory.ensures.opened).1

pub returns-in-Some-2-clause-step : goal.returns-in-Some-2-clause-step
returns-in-Some-2-clause-step g c = λ told t x map is.
    let old = g.S.Blocks.state c.args.blocks.now in
    let mid = g.S.Blocks.state c.open_directory.new.blocks in
    let before = g.N.Nodes.nodes old c.args.files.now in
    let after = g.N.Nodes.nodes mid c.args.files.now in
    let looks = c.in_ok-directory.ensures.looks in
    let alike = same_read g.S.Blocks.tells false old mid looks before after (c.laws.ensures.same false c.args.blocks.now c.open_directory.new.blocks looks told) in
    let r = of_found _ _ _ c.in-Some.is c.in_ok-directory.ensures.opened in
    let same = ap (inodes_of mid.books.geom.layout after.files) r.0 ∙ ap (λ m. m c.args.number) alike in
    enters_found c.a_name_stands_at_its_place.ensures.found (inodes_of old.books.geom.layout before.files) c.args.number c.in-Some.directory.count c.args.name.now x c.in-Some-2.found (c.slots_name_nodes_in_use.ensures.used _ _ t map) is
    (r.1.count told x (same ∙ is))
    (λ slots at. subst (λ f. Finds slots c.args.name.now f) c.in-Some-2.is
    (c.in_ok-found.ensures.found told t slots (same_map g.S.Blocks.tells false old mid looks _ _ t alike map) (same ∙ at)))

pub returns-in-None-clause-step : goal.returns-in-None-clause-step
returns-in-None-clause-step g c = λ told t x map is.
    let old = g.S.Blocks.state c.args.blocks.now in
    let mid = g.S.Blocks.state c.open_directory.new.blocks in
    let before = g.N.Nodes.nodes old c.args.files.now in
    let after = g.N.Nodes.nodes mid c.args.files.now in
    let looks = c.in_ok-directory.ensures.looks in
    let alike = same_read g.S.Blocks.tells false old mid looks before after (c.laws.ensures.same false c.args.blocks.now c.open_directory.new.blocks looks told) in
    let r = of_found _ _ _ c.in-Some.is c.in_ok-directory.ensures.opened in
    let same = ap (inodes_of mid.books.geom.layout after.files) r.0 ∙ ap (λ m. m c.args.number) alike in
    enters_nothing (inodes_of old.books.geom.layout before.files) c.args.number c.in-Some.directory.count c.args.name.now x is
    (r.1.count told x (same ∙ is))
    (λ slots at. subst (λ f. Finds slots c.args.name.now f) c.in-None.is
    (c.in_ok-found.ensures.found told t slots (same_map g.S.Blocks.tells false old mid looks _ _ t alike map) (same ∙ at)))
