use Rattle.std.proofs.Common.{◌≡◌, ◌∙◌, ap, []}
use Rattle.clap.specs.Words.{App, app_of, with_subcommand}
use Rattle.cmd_words.specs.Program.{bare, copying, loading, logging, making, recording, replaying, running, showing, upgrading}
use Rattle.cmd_words.proofs.Program.{bare_of}
use Rattle.cmd_words.proofs.command.program.Goals as goal

pub returns : goal.returns
returns c =
    let bare_is : app_of c.subcommand_required-line.result ≡ record { top = bare; subs = [] } =
    bare_of _ _ _ _ _ c.new.ensures.app c.no_binary_name.ensures c.disable_help_flag.ensures c.disable_help_subcommand.ensures c.subcommand_required-line.ensures in
    c.in_ok-line-9.ensures ∙ ap (λ (a : App). with_subcommand a upgrading.top)
    (c.in_ok-line-8.ensures ∙ ap (λ (a : App). with_subcommand a logging.top)
    (c.in_ok-line-7.ensures ∙ ap (λ (a : App). with_subcommand a copying.top)
    (c.in_ok-line-6.ensures ∙ ap (λ (a : App). with_subcommand a loading.top)
    (c.in_ok-line-5.ensures ∙ ap (λ (a : App). with_subcommand a running.top)
    (c.in_ok-line-4.ensures ∙ ap (λ (a : App). with_subcommand a making.top)
    (c.in_ok-line-3.ensures ∙ ap (λ (a : App). with_subcommand a showing.top)
    (c.in_ok-line-2.ensures ∙ ap (λ (a : App). with_subcommand a replaying.top)
    (c.in_ok-line.ensures ∙ ap (λ (a : App). with_subcommand a recording.top) bare_is))))))))
