use Rattle.engine_reuse.proofs.Accounts.{add_up}
use Rattle.engine_reuse.proofs.laws.the_accounts_add_up.Goals as goal

pub returns : goal.returns
returns c = add_up
