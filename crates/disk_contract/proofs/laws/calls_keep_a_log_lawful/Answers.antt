use Rattle.disk_contract.proofs.Lawful.{lawful_write, lawful_poll, lawful_wait}
use Rattle.disk_contract.proofs.laws.calls_keep_a_log_lawful.Goals as goal

pub returns : goal.returns
returns c = record { write = λ b x r old new. lawful_write b x r old new; poll = λ r old new. lawful_poll r old new; wait = lawful_wait }
