use Rattle.std.proofs.Common.{false, rules, sym, ap, ◌∙◌}
use Rattle.std.proofs.lemmas.Option.{none-some, same_Some}
use Rattle.crash_stands.specs.Inodes.{ADir, inodes_of}
use Rattle.fs_dirs.proofs.reading.Looks.{of_found, of_none, read_stays, same_read}
use Rattle.fs_dirs.proofs.listing.entries.Goals as goal

pub returns-in_default-clause-all : goal.returns-in_default-clause-all
returns-in_default-clause-all g c = λ told slots is.
    absurd (none-some _ (of_none _ c.in_default.is (c.in_ok-directory.ensures.none told) (ADir slots) is))

pub push_slots-requires-clause-read : goal.push_slots-requires-clause-read
push_slots-requires-clause-read g c =
    let looks = c.in_ok-directory.ensures.looks in
    record {
      read = read_stays g.S.Blocks.tells false _ _ looks _ _ (c.laws.ensures.stays false c.args.blocks.now c.open_directory.new.blocks looks) (record { going = c.requires.going; may = c.requires.may });
      inside = (of_found _ _ _ c.in-Some.is c.in_ok-directory.ensures.opened).1.inside;
    }

pub push_slots-requires-clause-few : goal.push_slots-requires-clause-few
push_slots-requires-clause-few g c = (of_found _ _ _ c.in-Some.is c.in_ok-directory.ensures.opened).1.few

pub returns-clause-all : goal.returns-clause-all
returns-clause-all g c = λ told slots is.
    let mid = g.S.Blocks.state c.open_directory.new.blocks in
    let r = of_found _ _ _ c.in-Some.is c.in_ok-directory.ensures.opened in
    let at = ap (inodes_of mid.books.geom.layout (g.N.Nodes.nodes mid c.args.files.now).files) r.0 ∙ ap (λ m. m c.args.dir) (same_read g.S.Blocks.tells false (g.S.Blocks.state c.args.blocks.now) mid c.in_ok-directory.ensures.looks _ _ (c.laws.ensures.same false c.args.blocks.now c.open_directory.new.blocks c.in_ok-directory.ensures.looks told)) ∙ is in
    let listed = c.in_ok-push_slots.ensures.slots told slots (record { dir = c.in-Some.directory.number; is = at; blocks = r.1.blocks told }) (sym (same_Some _ _ (r.1.count told (ADir slots) at))) in
    search rules
