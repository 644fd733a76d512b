use Rattle.std.proofs.Common.{◌++◌, codes}
use Rattle.fs_memtree.proofs.outputs.Pieces.{on_err}
use Rattle.fs_memtree.proofs.listing.write_snapshot.Goals as goal

pub returns-in_err-write_title-clause-front : goal.returns-in_err-write_title-clause-front
returns-in_err-write_title-clause-front g c =
    on_err _ _ (c.prefixes_join.ensures.first _ _ (codes "snap " ++ c.args.name.now ++ codes "\n") _ c.in_err-write_title.ensures.front)

pub returns-in_err-write_nodes-clause-front : goal.returns-in_err-write_nodes-clause-front
returns-in_err-write_nodes-clause-front g c =
    on_err _ _ (c.prefixes_join.ensures.second _ _ _ (codes "snap " ++ c.args.name.now ++ codes "\n") _ c.in_ok-write_title.ensures.all c.in_err-write_nodes.ensures.front)
