use Rattle.std.proofs.Common.{arith}
use Rattle.disk_contract.proofs.boxed.byte_ranges.Goals as goal

pub returns : goal.returns
returns c = λ i. omega (arith, c.type_inv.bytes i)
