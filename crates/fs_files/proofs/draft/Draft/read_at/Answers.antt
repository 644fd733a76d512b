use Rattle.std.proofs.Common.{rules, sym, subst, ap, ◌∙◌, option_map}
use Rattle.layout_geometry.specs.Geometry.{IsGeometry}
use Rattle.fs_files.specs.Nodes.{node_of_open, IsOpen}
use Rattle.fs_files.proofs.calling.Nodes.{has_table}
use Rattle.fs_files.proofs.calling.Reads.{reads}
use Rattle.fs_files.proofs.draft.Draft.read_at.Goals as goal

pub returns-clause-bytes : goal.returns-clause-bytes
returns-clause-bytes g c = λ tells x at.
    let s = g.S.Blocks.state c.args.blocks.now in
    let geom = subst IsGeometry c.geom-geom.ensures c.lawful.ensures.limits in
    let there = has_table s c.args.self.now c.args.number geom c.requires.look.from c.requires.look.upto (c.requires.look.may.sound tells) in
    let opened : IsOpen s.books.geom c.in-Some.node = search rules in
    c.from_vec-2.ensures
    ∙ reads s.books s.map (g.S.Blocks.state c.load.new.blocks).map c.args.self.now c.args.number c.in-Some.node x c.args.offset c.args.len c.min-from.result c.min-end.result c.read_content.new.into.items
    (c.requires.look.may.sound tells) opened.«data» opened.count opened.slots (c.a_list_has_its_runs.ensures.places c.in-Some.node.places)
    (ap (option_map (node_of_open s.books.geom.layout)) (sym c.in-Some.is) ∙ c.in_ok-node.ensures.node tells there) at
    (c.load.ensures.looks.map tells) (search rules) (search rules) (search rules)
