use Rattle.std.proofs.Common.{◌≡◌, ◌++◌, ◌∷◌, [], ◌∙◌, ap, sym, subst, rules}
use Rattle.base_io.specs.Prefix.{TakesPrefix}
use Rattle.lang_tree.specs.Listing.{slashed}
use Rattle.fs_memtree.specs.Trails.{path_on}
use Rattle.fs_memtree.proofs.outputs.Pieces.{on_err, slashed_last}
use Rattle.fs_memtree.proofs.listing.+write_names.Goals as goal

pub returns-in_err-write_names-in-Below-clause-front : goal.returns-in_err-write_names-in-Below-clause-front
returns-in_err-write_names-in-Below-clause-front g n c =
    let up = path_on c.in-Below.up.now in
    let whole : path_on c.args.path.now ≡ up ++ c.in-Below.name.now ∷ [] = search rules in
    on_err _ _ (subst (TakesPrefix _ _) (sym (ap slashed whole ∙ slashed_last up c.in-Below.name.now))
    (c.prefixes_join.ensures.first _ _ (slashed up) (47 ∷ c.in-Below.name.now) c.in_err-write_names-in-Below.ensures.front))

pub returns-in_err-write_name-in-Below-clause-front : goal.returns-in_err-write_name-in-Below-clause-front
returns-in_err-write_name-in-Below-clause-front g n c =
    let up = path_on c.in-Below.up.now in
    let whole : path_on c.args.path.now ≡ up ++ c.in-Below.name.now ∷ [] = search rules in
    on_err _ _ (subst (TakesPrefix _ _) (sym (ap slashed whole ∙ slashed_last up c.in-Below.name.now))
    (c.prefixes_join.ensures.second _ _ _ (slashed up) (47 ∷ c.in-Below.name.now) c.in_ok-write_names-in-Below.ensures.all c.in_err-write_name-in-Below.ensures.front))
