use Rattle.std.proofs.Common.{sym, ap, ◌∙◌}
use Rattle.crash_stands.specs.Files.{Files, files_of}
use Rattle.crash_stands.specs.Inodes.{inodes_of}
use Rattle.crash_stands.specs.Kept.{kept_files}
use Rattle.crash_snapshots.specs.Kept.{without_snapshots}
use Rattle.crash_snapshots.proofs.Nodes.{NodeLaws}
use Rattle.crash_snapshots.proofs.Snapshots.{everywhere, reads_as_before}
use Rattle.crash_snapshots.proofs.Standing.{same_inodes, made_of}
use Rattle.crash_snapshots.proofs.laws.a_snapshot_reads_as_the_blocks_did.Goals as goal

laws : goal.After-files_have_one_map → NodeLaws
laws c = let nodes = c.a_node_in_use_has_data_blocks.ensures in record { number = nodes.number; kind = nodes.kind; within = nodes.within; count = nodes.count }

pub returns-clause-files : goal.returns-clause-files
returns-clause-files c = reads_as_before (laws c)

pub returns-clause-map : goal.returns-clause-map
returns-clause-map c = λ g old new places t tree has.
    c.a_map_is_of_one_tree.ensures.alike g.i tree.inodes (inodes_of g.layout (kept_files g new places)) t
    (λ k. c.files_have_one_map.ensures.one g.layout (files_of g old) tree.inodes tree.read k ∙ sym (same_inodes g.layout (files_of g old) k)
    ∙ ap (λ (f : Files). inodes_of g.layout f k) (sym (everywhere (kept_files g new places) (without_snapshots (files_of g old)) (reads_as_before (laws c) g old new places has))))
    tree.map

pub returns-clause-tree : goal.returns-clause-tree
returns-clause-tree c = made_of (laws c)
