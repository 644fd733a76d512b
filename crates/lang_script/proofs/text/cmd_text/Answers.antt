use Rattle.std.proofs.Common.{◌∙◌, ap}
use Rattle.lang_script.specs.Grammar.{command_of}
use Rattle.lang_script.proofs.RoundTrip.{round_trip}
use Rattle.lang_script.proofs.text.cmd_text.Goals as goal

pub returns-clause-reads_back : goal.returns-clause-reads_back
returns-clause-reads_back c = λ lawful. ap command_of c.in_ok-text.ensures ∙ round_trip c.args.cmd.now lawful
