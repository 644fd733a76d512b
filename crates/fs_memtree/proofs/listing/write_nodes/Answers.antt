use Rattle.std.proofs.Common.{sym, subst}
use Rattle.std.specs.Io.KnownBytes.{Appends}
use Rattle.base_io.specs.Prefix.{TakesPrefix}
use Rattle.fs_memtree.specs.Kept.{tree_of}
use Rattle.fs_memtree.proofs.outputs.Pieces.{on_err}
use Rattle.fs_memtree.proofs.listing.write_nodes.Goals as goal

pub returns-clause-all : goal.returns-clause-all
returns-clause-all g c = subst (Appends _ _) (sym (c.a_listing_goes_down.ensures.root (tree_of c.args.nodes.now))) c.in_ok-write_below.ensures.all

pub returns-in_err-write_below-clause-front : goal.returns-in_err-write_below-clause-front
returns-in_err-write_below-clause-front g c =
    on_err _ _ (subst (TakesPrefix _ _) (sym (c.a_listing_goes_down.ensures.root (tree_of c.args.nodes.now))) c.in_err-write_below.ensures.front)
