use Rattle.std.proofs.Common.{◌++◌, codes, subst}
use Rattle.std.specs.Io.KnownBytes.{Appends}
use Rattle.base_io.specs.Prefix.{TakesPrefix}
use Rattle.fs_commands.proofs.listed.Texts.{on_err}
use Rattle.fs_commands.proofs.lines.write_snapshot.Goals as goal

pub returns-in_err-push_all-clause-front : goal.returns-in_err-push_all-clause-front
returns-in_err-push_all-clause-front g c =
    let join = c.prefixes_join.ensures in
    on_err _ _ (join.first _ _ (codes "snap ") (c.args.name.now ++ codes "\n") c.in_err-push_all.ensures.front)

pub returns-in_err-push_all-2-clause-front : goal.returns-in_err-push_all-2-clause-front
returns-in_err-push_all-2-clause-front g c =
    let join = c.prefixes_join.ensures in
    let name = subst (λ n. TakesPrefix (g.K.Sink.taken c.push_all.new.out) (g.K.Sink.taken c.push_all-2.new.out) n) c.as_bytes.ensures.value c.in_err-push_all-2.ensures.front in
    on_err _ _ (join.second _ _ _ (codes "snap ") (c.args.name.now ++ codes "\n") c.in_ok-push_all.ensures.all (join.first _ _ c.args.name.now (codes "\n") name))

pub returns-in_err-push_all-3-clause-front : goal.returns-in_err-push_all-3-clause-front
returns-in_err-push_all-3-clause-front g c =
    let join = c.prefixes_join.ensures in
    let name = subst (λ n. Appends (g.K.Sink.taken c.push_all.new.out) (g.K.Sink.taken c.push_all-2.new.out) n) c.as_bytes.ensures.value c.in_ok-push_all-2.ensures.all in
    on_err _ _ (join.second _ _ _ (codes "snap ") (c.args.name.now ++ codes "\n") c.in_ok-push_all.ensures.all (join.second _ _ _ c.args.name.now (codes "\n") name c.in_err-push_all-3.ensures.front))
