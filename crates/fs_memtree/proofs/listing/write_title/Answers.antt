use Rattle.std.proofs.Common.{◌++◌, codes, subst}
use Rattle.std.proofs.KnownBytes.{Appends-trans}
use Rattle.base_io.specs.Prefix.{TakesPrefix}
use Rattle.std.specs.Io.KnownBytes.{Appends}
use Rattle.fs_memtree.proofs.outputs.Pieces.{on_err}
use Rattle.fs_memtree.proofs.listing.write_title.Goals as goal

pub returns-in_err-push_all-clause-front : goal.returns-in_err-push_all-clause-front
returns-in_err-push_all-clause-front g c =
    let join = c.prefixes_join.ensures in
    let named = codes "snap " ++ c.args.name.now in
    on_err _ _ (join.first _ _ named _ (join.first _ _ (codes "snap ") _ c.in_err-push_all.ensures.front))

pub returns-in_err-push_all-2-clause-front : goal.returns-in_err-push_all-2-clause-front
returns-in_err-push_all-2-clause-front g c =
    let join = c.prefixes_join.ensures in
    let named = codes "snap " ++ c.args.name.now in
    on_err _ _ (join.first _ _ named _
    (join.second _ _ _ (codes "snap ") _ c.in_ok-push_all.ensures.all (subst (TakesPrefix _ _) c.as_bytes.ensures.value c.in_err-push_all-2.ensures.front)))

pub returns-in_err-push_all-3-clause-front : goal.returns-in_err-push_all-3-clause-front
returns-in_err-push_all-3-clause-front g c =
    let named = codes "snap " ++ c.args.name.now in
    let taken = Appends-trans _ _ _ (codes "snap ") _ c.in_ok-push_all.ensures.all (subst (Appends _ _) c.as_bytes.ensures.value c.in_ok-push_all-2.ensures.all) in
    on_err _ _ (c.prefixes_join.ensures.second _ _ _ named _ taken c.in_err-push_all-3.ensures.front)
