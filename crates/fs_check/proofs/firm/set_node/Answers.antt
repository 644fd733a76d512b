use Rattle.base_types.specs.Seal.{blocks_of}
use Rattle.fs_check.proofs.keeping.Firm.{dir_no_file, firm_file, firm_none, firm_read, snapshot_no_file}
use Rattle.fs_check.proofs.firm.set_node.Goals as goal

pub returns-in_default-clause-firm : goal.returns-in_default-clause-firm
returns-in_default-clause-firm c = λ m bytes below.
    firm_none c.args.geom.now m c.args.number c.args.bytes.now c.node_in.result (blocks_of c.args.firm.now) c.requires.above_zero c.requires.in_table bytes c.node_in.ensures.node c.in_default.is below

pub returns-in-File-clause-firm : goal.returns-in-File-clause-firm
returns-in-File-clause-firm c = λ m bytes below.
    firm_file c.args.geom.now m c.args.number c.args.bytes.now c.node_in.result c.in-Some.file (blocks_of c.args.firm.now) c.requires.above_zero c.requires.in_table bytes c.node_in.ensures.node c.in-Some.is
    c.in-File.is below

pub returns-in-Dir-clause-firm : goal.returns-in-Dir-clause-firm
returns-in-Dir-clause-firm c = λ m bytes below.
    firm_read c.args.geom.now m c.args.number c.args.bytes.now c.node_in.result c.in-Some.file (blocks_of c.args.firm.now) (blocks_of c.set_places.new.firm) c.requires.above_zero c.requires.in_table bytes c.node_in.ensures.node c.in-Some.is
    (dir_no_file c.in-Some.file.facts.kind c.in-Dir.is) c.set_places.ensures.bits below

pub returns-in-Snapshot-clause-firm : goal.returns-in-Snapshot-clause-firm
returns-in-Snapshot-clause-firm c = λ m bytes below.
    firm_read c.args.geom.now m c.args.number c.args.bytes.now c.node_in.result c.in-Some.file (blocks_of c.args.firm.now) (blocks_of c.set_places-in-Snapshot.new.firm) c.requires.above_zero c.requires.in_table bytes c.node_in.ensures.node c.in-Some.is
    (snapshot_no_file c.in-Some.file.facts.kind c.in-Snapshot.is) c.set_places-in-Snapshot.ensures.bits below
