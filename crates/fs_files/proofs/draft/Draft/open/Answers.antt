use Rattle.std.proofs.Common.{rules, option_map, sym, subst, ap, ◌∙◌}
use Rattle.layout_geometry.specs.Geometry.{IsGeometry}
use Rattle.fs_files.specs.Nodes.{node_of_open, IsOpen}
use Rattle.fs_files.proofs.calling.Nodes.{has_table}
use Rattle.fs_files.proofs.calling.Reads.{looked_up, none_up}
use Rattle.fs_files.proofs.draft.Draft.open.Goals as goal

pub returns-in_default-clause-facts : goal.returns-in_default-clause-facts
returns-in_default-clause-facts g c = λ tells.
    let s = g.S.Blocks.state c.args.blocks.now in
    let there = has_table s c.args.self.now c.args.number (subst IsGeometry c.geom.ensures c.lawful.ensures.limits) c.requires.from c.requires.upto (c.requires.may.sound tells) in
    none_up s c.args.self.now c.args.number (ap (option_map (node_of_open s.books.geom.layout)) (sym c.in_default.is) ∙ c.in_ok-node.ensures.node tells there)

pub returns-clause-facts : goal.returns-clause-facts
returns-clause-facts g c = λ tells.
    let s = g.S.Blocks.state c.args.blocks.now in
    let there = has_table s c.args.self.now c.args.number (subst IsGeometry c.geom.ensures c.lawful.ensures.limits) c.requires.from c.requires.upto (c.requires.may.sound tells) in
    let opened : IsOpen s.books.geom c.in-Some.node = search rules in
    looked_up s c.args.self.now c.args.number c.in-Some.node (c.requires.may.sound tells) opened.slots (ap (option_map (node_of_open s.books.geom.layout)) (sym c.in-Some.is) ∙ c.in_ok-node.ensures.node tells there)
