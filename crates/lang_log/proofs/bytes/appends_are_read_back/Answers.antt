use Rattle.lang_log.proofs.Spelled.{read_back}
use Rattle.lang_log.proofs.bytes.appends_are_read_back.Goals as goal

pub returns : goal.returns
returns c = read_back
