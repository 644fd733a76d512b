use Rattle.lang_script.proofs.Lawful.{line_command}
use Rattle.lang_script.proofs.RoundTrip.{round_trip}
use Rattle.lang_script.proofs.laws.lines_are_commands.Goals as goal

pub returns : goal.returns
returns c = record { lawful = line_command; read = round_trip }
