-- A front of the line comes of a front of one of its pieces, behind those before it.
use Rattle.std.proofs.Common.{◌≡◌, Result, Ok, Err, OnErr, rules, subst}
use Rattle.std.specs.Prelude.{codes}
use Rattle.std.specs.Io.KnownBytes.{Appends}
use Rattle.hex.specs.Hex.{encode_lower}
use Rattle.base_io.specs.Prefix.{TakesPrefix}
use Rattle.cmd_load.proofs.summary.write_digest_line.Goals as goal

-- what holds anyway holds on an error
on_err : {T E : Type 0} (r : Result T E) (P : Type 0) → P → OnErr r P
on_err (Ok x) P p = tt
on_err (Err e) P p = p

pub returns-in_err-push_all-clause-front : goal.returns-in_err-push_all-clause-front
returns-in_err-push_all-clause-front g c = on_err _ _ (c.prefixes_join.ensures.first _ _ (codes "tree ") _ c.in_err-push_all.ensures.front)

pub returns-in_err-push_all-2-clause-front : goal.returns-in_err-push_all-2-clause-front
returns-in_err-push_all-2-clause-front g c =
    let digits : c.as_slice.result.now ≡ encode_lower c.args.digest.now = search rules in
    on_err _ _ (c.prefixes_join.ensures.second _ _ _ (codes "tree ") _ c.in_ok-push_all.ensures.all
    (c.prefixes_join.ensures.first _ _ (encode_lower c.args.digest.now) _ (subst (TakesPrefix (g.K.Sink.taken c.push_all.new.out) (g.K.Sink.taken c.push_all-2.new.out)) digits c.in_err-push_all-2.ensures.front)))

pub returns-in_err-push_all-3-clause-front : goal.returns-in_err-push_all-3-clause-front
returns-in_err-push_all-3-clause-front g c =
    let digits : c.as_slice.result.now ≡ encode_lower c.args.digest.now = search rules in
    on_err _ _ (c.prefixes_join.ensures.second _ _ _ (codes "tree ") _ c.in_ok-push_all.ensures.all
    (c.prefixes_join.ensures.second _ _ _ (encode_lower c.args.digest.now) _ (subst (Appends (g.K.Sink.taken c.push_all.new.out) (g.K.Sink.taken c.push_all-2.new.out)) digits c.in_ok-push_all-2.ensures.all) c.in_err-push_all-3.ensures.front))
