use Rattle.std.proofs.Common.{◌++◌, codes, decimal, subst}
use Rattle.std.proofs.KnownBytes.{Appends-trans}
use Rattle.lang_tree.specs.Listing.{path_text}
use Rattle.base_io.specs.Prefix.{TakesPrefix}
use Rattle.fs_memtree.proofs.outputs.Pieces.{on_err}
use Rattle.fs_memtree.specs.Trails.{path_on}
use Rattle.fs_memtree.proofs.listing.write_head.Goals as goal

pub returns-in_err-push_all-clause-front : goal.returns-in_err-push_all-clause-front
returns-in_err-push_all-clause-front g c =
    let join = c.prefixes_join.ensures in
    let kind = c.args.kind.now in
    let path = kind ++ path_text (path_on c.args.path.now) in
    on_err _ _ (join.first _ _ (path ++ codes " ") _ (join.first _ _ path _ (join.first _ _ kind _ c.in_err-push_all.ensures.front)))

pub returns-in_err-write_path-clause-front : goal.returns-in_err-write_path-clause-front
returns-in_err-write_path-clause-front g c =
    let join = c.prefixes_join.ensures in
    let kind = c.args.kind.now in
    let path = kind ++ path_text (path_on c.args.path.now) in
    on_err _ _ (join.first _ _ (path ++ codes " ") _ (join.first _ _ path _ (join.second _ _ _ kind _ c.in_ok-push_all.ensures.all c.in_err-write_path.ensures.front)))

pub returns-in_err-push_all-2-clause-front : goal.returns-in_err-push_all-2-clause-front
returns-in_err-push_all-2-clause-front g c =
    let kind = c.args.kind.now in
    let path = kind ++ path_text (path_on c.args.path.now) in
    let taken = Appends-trans _ _ _ kind _ c.in_ok-push_all.ensures.all c.in_ok-write_path.ensures.all in
    on_err _ _ (c.prefixes_join.ensures.first _ _ (path ++ codes " ") _ (c.prefixes_join.ensures.second _ _ _ path _ taken c.in_err-push_all-2.ensures.front))

pub returns-in_err-write_number-clause-front : goal.returns-in_err-write_number-clause-front
returns-in_err-write_number-clause-front g c =
    let kind = c.args.kind.now in
    let path = kind ++ path_text (path_on c.args.path.now) in
    let taken = Appends-trans _ _ _ kind _ c.in_ok-push_all.ensures.all c.in_ok-write_path.ensures.all in
    let blank = Appends-trans _ _ _ path _ taken c.in_ok-push_all-2.ensures.all in
    on_err _ _ (c.prefixes_join.ensures.second _ _ _ (path ++ codes " ") _ blank (subst (λ n. TakesPrefix (g.K.Sink.taken c.push_all-2.new.out) (g.K.Sink.taken c.write_number.new.out) (decimal n)) c.from.ensures c.in_err-write_number.ensures.front))
