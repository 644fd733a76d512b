use Rattle.std.proofs.Common.{◌≡◌, refl, rules, ◌+◌, Some}
use Rattle.std.specs.List.{position}
use Rattle.cmd_trace.specs.ReadFields.{is_blank}
use Rattle.cmd_trace.proofs.Blanks.{drop_whole}
use Rattle.cmd_trace.proofs.read_fields.cut.Goals as goal

pub returns-in-Some : goal.returns-in-Some
returns-in-Some c =
    let there : position is_blank c.args.text.now ≡ Some c.in-Some.at = search (rules, c.in-Some.ensures.first) in
    rw there (rw (drop_whole c.args.text.now (c.in-Some.at + 1)) refl)
