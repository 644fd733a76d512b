use Rattle.std.proofs.Common.{codes, subst}
use Rattle.base_io.specs.Prefix.{TakesPrefix}
use Rattle.fs_commands.proofs.listed.Texts.{on_err}
use Rattle.fs_commands.proofs.lines.write_name.Goals as goal

pub returns-in_err-push_all-clause-front : goal.returns-in_err-push_all-clause-front
returns-in_err-push_all-clause-front g c = on_err _ _ (c.prefixes_join.ensures.first _ _ (codes "/") _ c.in_err-push_all.ensures.front)

pub returns-in_err-push_all-2-clause-front : goal.returns-in_err-push_all-2-clause-front
returns-in_err-push_all-2-clause-front g c =
    on_err _ _ (c.prefixes_join.ensures.second _ _ _ (codes "/") _ c.in_ok-push_all.ensures.all (subst (TakesPrefix _ _) c.as_bytes.ensures.value c.in_err-push_all-2.ensures.front))
