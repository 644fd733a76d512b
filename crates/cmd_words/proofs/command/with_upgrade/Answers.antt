use Rattle.std.proofs.Common.{◌∙◌, ap}
use Rattle.clap.specs.Words.{App, app_of, with_subcommand}
use Rattle.cmd_words.proofs.command.with_upgrade.Goals as goal

pub returns : goal.returns
returns c = c.in_ok-command.ensures.shape c.in_ok-upgrading.ensures.local ∙ ap (λ (a : App). with_subcommand (app_of c.args.line) a.top) c.in_ok-upgrading.ensures.app
