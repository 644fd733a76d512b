use Rattle.std.proofs.Common.{codes}
use Rattle.fs_commands.proofs.listed.Texts.{head, on_err}
use Rattle.fs_commands.proofs.lines.write_dir.Goals as goal

pub returns-in_err-write_head-clause-front : goal.returns-in_err-write_head-clause-front
returns-in_err-write_head-clause-front g c = on_err _ _ (c.prefixes_join.ensures.first _ _ (head (codes "dir ") c.args.path.now c.args.number) _ c.in_err-write_head.ensures.front)

pub returns-in_err-push_all-clause-front : goal.returns-in_err-push_all-clause-front
returns-in_err-push_all-clause-front g c =
    on_err _ _ (c.prefixes_join.ensures.second _ _ _ (head (codes "dir ") c.args.path.now c.args.number) _ c.in_ok-write_head.ensures.all c.in_err-push_all.ensures.front)
