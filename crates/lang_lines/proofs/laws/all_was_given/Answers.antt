-- What is behind the bytes that were pulled adds commands alone.
use Rattle.lang_tree.specs.declared.command.Cmd.TheVariants.{Bad}
use Rattle.lang_script.specs.Grammar.{command_of}
use Rattle.lang_lines.proofs.Few.{few_given}
use Rattle.lang_lines.proofs.Giving.{gives_first}
use Rattle.lang_lines.proofs.laws.all_was_given.Goals as goal

pub returns-clause-front : goal.returns-clause-front
returns-clause-front c = gives_first Bad command_of

-- no more than lines
pub returns-clause-few : goal.returns-clause-few
returns-clause-few c = few_given Bad command_of
