use Rattle.std.proofs.Common.{◌≡◌, ◌⊎◌, true, rules}
use Rattle.std.proofs.lemmas.Result.{IfOk-weaker}
use Rattle.lang_tree.specs.declared.command.Cmd.{Cmd}
use Rattle.lang_tree.specs.declared.command.Cmd.TheVariants.{Bad}
use Rattle.lang_script.specs.Grammar.{command_of, is_in_grammar}
use Rattle.lang_script.proofs.Lawful.{line_lawful}
use Rattle.lang_script.proofs.parse.parse_line.Goals as goal

pub returns-clause-lawful : goal.returns-clause-lawful
returns-clause-lawful c =
    IfOk-weaker c.cmd_of_parts.result (λ cmd. cmd ≡ command_of c.args.line.now) (λ cmd. (cmd ≡ Bad) ⊎ (is_in_grammar cmd ≡ true))
    (λ (cmd : Cmd) (same : cmd ≡ command_of c.args.line.now). rw same (line_lawful c.args.line.now)) (search rules)
