use Rattle.std.proofs.Common.{◌++◌, codes}
use Rattle.std.proofs.KnownBytes.{Appends-trans}
use Rattle.fs_commands.proofs.listed.Texts.{head, on_err}
use Rattle.fs_commands.proofs.lines.write_file_head.Goals as goal

pub returns-in_err-write_head-clause-front : goal.returns-in_err-write_head-clause-front
returns-in_err-write_head-clause-front g c =
    let join = c.prefixes_join.ensures in
    let number = head (codes "file ") c.args.path.now c.args.number in
    on_err _ _ (join.first _ _ (number ++ codes " ") _ (join.first _ _ number _ c.in_err-write_head.ensures.front))

pub returns-in_err-push_all-clause-front : goal.returns-in_err-push_all-clause-front
returns-in_err-push_all-clause-front g c =
    let join = c.prefixes_join.ensures in
    let number = head (codes "file ") c.args.path.now c.args.number in
    on_err _ _ (join.first _ _ (number ++ codes " ") _ (join.second _ _ _ number _ c.in_ok-write_head.ensures.all c.in_err-push_all.ensures.front))

pub returns-in_err-write_number-clause-front : goal.returns-in_err-write_number-clause-front
returns-in_err-write_number-clause-front g c =
    let number = head (codes "file ") c.args.path.now c.args.number in
    let blank = Appends-trans _ _ _ number _ c.in_ok-write_head.ensures.all c.in_ok-push_all.ensures.all in
    on_err _ _ (c.prefixes_join.ensures.second _ _ _ (number ++ codes " ") _ blank c.in_err-write_number.ensures.front)
