use Rattle.std.proofs.Common.{sym, ◌∙◌}
use Rattle.fs_files.proofs.drafts.Opened.{file_used, opens_dir, opens_file, opens_snapshot, reads_it, small_dir, small_snapshot}
use Rattle.fs_files.proofs.nodes.open_node.Goals as goal

pub returns-in_default-clause-node : goal.returns-in_default-clause-node
returns-in_default-clause-node c = sym (c.nodes_in_use_are_read.ensures.none c.args.geom.now c.args.bytes.now c.requires c.byte_ranges.ensures c.in_default.ensures.refused)

pub returns-in-Free-clause-node : goal.returns-in-Free-clause-node
returns-in-Free-clause-node c = sym (c.nodes_in_use_are_read.ensures.free c.args.geom.now c.args.bytes.now c.in-Ok.node c.requires c.byte_ranges.ensures c.in-Ok.ensures.found c.in-Free.is)

pub returns-in-Dir-clause-open : goal.returns-in-Dir-clause-open
returns-in-Dir-clause-open c = opens_dir c.args.geom.now c.opened.result c.in-Ok.node c.args.bytes.now c.lawful.ensures.limits.most_blocks c.a_list_has_its_runs.ensures.places c.a_list_has_its_runs.ensures.count c.layout-layout.result c.layout-layout.ensures c.opened.ensures.node c.opened.ensures.size c.in-Dir.is c.in-Ok.ensures.found

pub returns-in-File-clause-open : goal.returns-in-File-clause-open
returns-in-File-clause-open c = opens_file c.args.geom.now c.opened-in-File.result c.in-Ok.node c.args.bytes.now c.lawful.ensures.limits.most_blocks c.a_list_has_its_runs.ensures.places c.a_list_has_its_runs.ensures.count c.layout-layout.result c.layout-layout.ensures c.opened-in-File.ensures.node c.opened-in-File.ensures.size c.in-File.is c.in-Ok.ensures.found

pub returns-in-Snapshot-clause-open : goal.returns-in-Snapshot-clause-open
returns-in-Snapshot-clause-open c = opens_snapshot c.args.geom.now c.opened-in-Snapshot.result c.in-Ok.node c.args.bytes.now c.lawful.ensures.limits.most_blocks c.a_list_has_its_runs.ensures.places c.a_list_has_its_runs.ensures.count c.layout-layout.result c.layout-layout.ensures c.opened-in-Snapshot.ensures.node c.opened-in-Snapshot.ensures.size c.in-Snapshot.is c.in-Ok.ensures.found

pub opened-requires-clause-few : goal.opened-requires-clause-few
opened-requires-clause-few c = small_dir c.args.geom.now c.in-Ok.node c.args.bytes.now c.lawful.ensures.limits.most_blocks c.in-Dir.is c.in-Ok.ensures.found

pub opened-requires-in-Snapshot-clause-few : goal.opened-requires-in-Snapshot-clause-few
opened-requires-in-Snapshot-clause-few c = small_snapshot c.args.geom.now c.in-Ok.node c.args.bytes.now c.lawful.ensures.limits.most_blocks c.in-Snapshot.is c.in-Ok.ensures.found

pub returns-in-File-clause-node : goal.returns-in-File-clause-node
returns-in-File-clause-node c =
    reads_it c.args.geom.now c.opened-in-File.result c.in-Ok.node c.args.bytes.now c.layout-layout.result c.layout-layout.ensures c.opened-in-File.ensures.node
    ((c.nodes_in_use_are_read.ensures.read c.args.geom.now c.args.bytes.now c.in-Ok.node c.requires c.byte_ranges.ensures).1 (c.in-Ok.ensures.found, λ free. file_used (sym free ∙ c.in-File.is)))
