use Rattle.lang_load.proofs.Counts.{load_count}
use Rattle.lang_load.proofs.laws.a_load_has_its_commands.Goals as goal

pub returns : goal.returns
returns c = load_count
