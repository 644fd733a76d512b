use Rattle.layout_journal.proofs.Empty.{formatted_holds_itself}
use Rattle.layout_journal.proofs.laws.the_formatted_disk_holds_itself.Goals as goal

pub returns : goal.returns
returns c = formatted_holds_itself
