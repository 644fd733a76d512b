use Rattle.std.proofs.Common.{arith}
use Rattle.lang_script.proofs.Lawful.{bytes_small}
use Rattle.lang_script.proofs.replies.push_found.Goals as goal

pub returns-in_ok-push_digits-in-len1-up-clause-lawful : goal.returns-in_ok-push_digits-in-len1-up-clause-lawful
returns-in_ok-push_digits-in-len1-up-clause-lawful c = bytes_small c.args.bytes.now (λ i. omega (arith, c.type_inv.bytes i))
