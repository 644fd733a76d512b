use Rattle.std.proofs.Common.{ap, ◌∙◌, option_map}
use Rattle.fs_files.specs.Given.{node_of_file}
use Rattle.fs_check.proofs.keeping.Firm.{node_read}
use Rattle.fs_check.proofs.keeping.Finding.{dir_other, file_other, no_root, none_known, other_known}
use Rattle.fs_check.proofs.snapshots.check_node.Goals as goal

pub returns-in_default-clause-known : goal.returns-in_default-clause-known
returns-in_default-clause-known g c = λ tells.
    none_known c.what_is_known_of_snapshots_is_so.ensures.each c.args.geom.now (g.S.Blocks.state c.args.blocks.now).map c.args.maps.now c.args.number c.args.found.now c.args.bytes.now c.node_in.result c.requires.above_zero c.requires.in_table
    (c.requires.there tells) c.node_in.ensures.node c.in_default.is (c.requires.known tells)

pub returns-then-number-eq1-clause-damage : goal.returns-then-number-eq1-clause-damage
returns-then-number-eq1-clause-damage g c = λ tells.
    no_root c.args.geom.now (g.S.Blocks.state c.args.blocks.now).map c.args.bytes.now c.node_in.result c.in-Some.file c.args.number c.if-number-eq1.true c.requires.above_zero c.requires.in_table (c.requires.there tells) c.node_in.ensures.node c.in-Some.is c.in-Snapshot.is

pub returns-in-Dir-clause-known : goal.returns-in-Dir-clause-known
returns-in-Dir-clause-known g c = λ tells.
    other_known c.what_is_known_of_snapshots_is_so.ensures.each c.args.geom.now (g.S.Blocks.state c.args.blocks.now).map c.args.maps.now c.args.number c.args.found.now c.args.bytes.now c.node_in.result c.in-Some.file c.requires.above_zero c.requires.in_table
    (c.requires.there tells) c.node_in.ensures.node c.in-Some.is (dir_other c.in-Some.file.facts.kind c.in-Dir.is) (c.requires.known tells)

pub returns-in-File-clause-known : goal.returns-in-File-clause-known
returns-in-File-clause-known g c = λ tells.
    other_known c.what_is_known_of_snapshots_is_so.ensures.each c.args.geom.now (g.S.Blocks.state c.args.blocks.now).map c.args.maps.now c.args.number c.args.found.now c.args.bytes.now c.node_in.result c.in-Some.file c.requires.above_zero c.requires.in_table
    (c.requires.there tells) c.node_in.ensures.node c.in-Some.is (file_other c.in-Some.file.facts.kind c.in-File.is) (c.requires.known tells)

pub check_snapshot-requires-clause-node : goal.check_snapshot-requires-clause-node
check_snapshot-requires-clause-node g c = λ tells.
    node_read c.args.geom.now (g.S.Blocks.state c.args.blocks.now).map c.args.number c.args.bytes.now c.node_in.result c.requires.above_zero c.requires.in_table (c.requires.there tells) c.node_in.ensures.node ∙ ap (option_map (node_of_file c.args.geom.now.layout)) c.in-Some.is
