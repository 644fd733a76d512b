-- Nothing is polled, as there is no disk.
use Rattle.std.proofs.Common.{refl, rules}
use Rattle.std.proofs.lemmas.Option.{none-some}
use Rattle.engine_blocks.proofs.plain.PlainBlocksBlocks.tick.Goals as goal

pub returns-clause-ticks : goal.returns-clause-ticks
returns-clause-ticks c = record { made = search rules; manner = refl; polled = λ tells p known. absurd (none-some p known) }

pub returns-clause-writes : goal.returns-clause-writes
returns-clause-writes c = λ tells p known. absurd (none-some p known)

pub returns-clause-serves : goal.returns-clause-serves
returns-clause-serves c = λ tells alone. record { serves = λ b p at waits. absurd (none-some p waits); others = λ b at none. refl; serving = λ b at may. refl; waiting = λ b at not_yet. refl }
