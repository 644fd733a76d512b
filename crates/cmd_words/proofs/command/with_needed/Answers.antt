use Rattle.std.proofs.Common.{◌∙◌, ap}
use Rattle.clap.specs.Words.{app_of, with_rule}
use Rattle.cmd_words.proofs.Program.{same_globals}
use Rattle.cmd_words.proofs.command.with_needed.Goals as goal

pub returns-clause-app : goal.returns-clause-app
returns-clause-app c = c.in_ok-more.ensures.shape c.needed_arg-arg.ensures.local ∙ ap (with_rule (app_of c.args.command)) c.needed_arg-arg.ensures.rule

pub returns-clause-local : goal.returns-clause-local
returns-clause-local c = same_globals _ _ _ c.in_ok-more.ensures.globals c.needed_arg-arg.ensures.local
