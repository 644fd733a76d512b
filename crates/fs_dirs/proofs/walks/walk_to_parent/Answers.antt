use Rattle.std.proofs.Common.{◌≡◌, ◌-◌, ℕ, false, List, take, length, Some, IfOk, refl, sym, subst, ap, ◌∙◌, arith, rules}
use Rattle.crash_stands.specs.Inodes.{Inode, inodes_of}
use Rattle.lang_tree.specs.Paths.{parent}
use Rattle.fs_dirs.proofs.reading.Looks.{looks_more, of_found, of_none, same_read}
use Rattle.fs_dirs.proofs.reading.Walks.{parent_refused, parent_file, parent_found}
use Rattle.fs_dirs.proofs.walks.walk_to_parent.Goals as goal

-- the names above a path
up_is : (path names : List (List ℕ)) (count : ℕ) → names ≡ path → count ≡ length names → take (count - 1) names ≡ parent path
up_is path names count same e = ap (λ n. take (n - 1) names) e ∙ ap parent same

pub returns-in-Err-clause-end : goal.returns-in-Err-clause-end
returns-in-Err-clause-end g c = λ told t map.
    let m = inodes_of (g.S.Blocks.state c.args.blocks.now).books.geom.layout (g.N.Nodes.nodes (g.S.Blocks.state c.args.blocks.now) c.args.files.now).files in
    parent_refused m c.args.path.now _ c.in-Err.why (omega (arith, c.if-count-eq0.false, ap length c.names-names.ensures)) (up_is c.args.path.now c.names-names.result.now (length c.names-names.result.now) c.names-names.ensures refl)
    (sym c.in-Err.is ∙ c.in_ok-number.ensures.end told t map)

pub open_directory-requires : goal.open_directory-requires
open_directory-requires g c = record {
  going = search rules;
  from = search rules;
  upto = search rules;
  may = c.laws.ensures.stays false c.args.blocks.now c.walk_names.new.blocks c.in_ok-number.ensures.looks c.requires.read.may;
}

pub returns-in-Some-clause-opened : goal.returns-in-Some-clause-opened
returns-in-Some-clause-opened g c = (of_found _ _ _ c.in-Some.is c.in_ok-above.ensures.opened).1

pub returns-in-Some-clause-end : goal.returns-in-Some-clause-end
returns-in-Some-clause-end g c = λ told t map.
    let old = g.S.Blocks.state c.args.blocks.now in
    let now = g.S.Blocks.state c.open_directory.new.blocks in
    let m = inodes_of old.books.geom.layout (g.N.Nodes.nodes old c.args.files.now).files in
    let u = subst (λ r. IfOk r (λ k. (x : Inode) × (m k ≡ Some x))) c.in-Ok.is (c.in_ok-number.ensures.used told t map) in
    let walked = g.S.Blocks.state c.walk_names.new.blocks in
    let looks = looks_more g.S.Blocks.tells false old walked now c.in_ok-number.ensures.looks c.in_ok-above.ensures.looks in
    let same = same_read g.S.Blocks.tells false old now looks _ _ (c.laws.ensures.same false c.walk_names.new.blocks c.open_directory.new.blocks c.in_ok-above.ensures.looks told ∙ c.laws.ensures.same false c.args.blocks.now c.walk_names.new.blocks c.in_ok-number.ensures.looks told) in
    let r = of_found _ _ _ c.in-Some.is c.in_ok-above.ensures.opened in
    parent_found m c.args.path.now _ c.in-Some.above c.in-Ok.number u.0 (omega (arith, c.if-count-eq0.false, ap length c.names-names.ensures)) (up_is c.args.path.now c.names-names.result.now (length c.names-names.result.now) c.names-names.ensures refl)
    (sym c.in-Ok.is ∙ c.in_ok-number.ensures.end told t map) r.0 u.1 (r.1.count told u.0 (ap (inodes_of now.books.geom.layout (g.N.Nodes.nodes now c.args.files.now).files) r.0 ∙ ap (λ m. m c.in-Ok.number) same ∙ u.1))

pub returns-in-None-clause-end : goal.returns-in-None-clause-end
returns-in-None-clause-end g c = λ told t map.
    let old = g.S.Blocks.state c.args.blocks.now in
    let m = inodes_of old.books.geom.layout (g.N.Nodes.nodes old c.args.files.now).files in
    let u = subst (λ r. IfOk r (λ k. (x : Inode) × (m k ≡ Some x))) c.in-Ok.is (c.in_ok-number.ensures.used told t map) in
    let same = same_read g.S.Blocks.tells false old (g.S.Blocks.state c.walk_names.new.blocks) c.in_ok-number.ensures.looks _ _ (c.laws.ensures.same false c.args.blocks.now c.walk_names.new.blocks c.in_ok-number.ensures.looks told) in
    let none = of_none _ c.in-None.is (c.in_ok-above.ensures.none told) in
    parent_file m c.args.path.now _ c.in-Ok.number u.0 (omega (arith, c.if-count-eq0.false, ap length c.names-names.ensures)) (up_is c.args.path.now c.names-names.result.now (length c.names-names.result.now) c.names-names.ensures refl)
    (sym c.in-Ok.is ∙ c.in_ok-number.ensures.end told t map) u.1 (none u.0 (ap (λ m. m c.in-Ok.number) same ∙ u.1))
